-- The call that a line asks for.
use Rattle.std.specs.Prelude.{ℕ, Bool, cond, ◌&&◌, List, length, Some, None, codes, Option, unwrap_or, ◌==◌, nat_le, bytes_eq}
use Rattle.std.specs.Borrow.{Bor}
use Rattle.account.specs.Commands.{word}
use Rattle.coverage.specs.Reading.{hash_read, bits_read, number_read}
use Rattle.script.specs.Sizes.{size_read}
use Rattle.script.specs.declared.line.HeaderLine.{HeaderLine}
use Rattle.script.specs.declared.line.Judges.{Judges}
use Rattle.script.specs.declared.line.Judges.TheVariants.{None as NoJudge, Headers, Calendars, Both}
use Rattle.script.specs.declared.line.Line.{Line}
use Rattle.script.specs.declared.line.Line.TheVariants.{Blank, New, Judge, Add, Settle, Reopen, Write, Row, Tally, Sheet, NoCall}

-- a file of headers: where it is, the height of its first header, the hash that it names, and the bits of the greatest target
pub record Chain : Type 0 where
  pub file : List ℕ
  pub base : ℕ
  pub previous : List ℕ
  pub ceiling : ℕ

-- who judges: nobody, a file of headers, a list of calendars, or both
pub data Judging : Type 0 where
  nobody : Judging
  headers : Chain → Judging
  calendars : List ℕ → Judging
  both : Chain → List ℕ → Judging

pub data Call : Type 0 where
  blank : Call
  new : Call
  judge : Judging → Call
  add : List ℕ → Call
  settle : Call
  reopen : Call
  write : List ℕ → Option ℕ → Call
  row : ℕ → Option ℕ → Call
  tally : Option ℕ → Call
  sheet : List ℕ → Option ℕ → Option ℕ → Call
  no_call : Call

abbrev pub chain : HeaderLine → Chain
chain h = record { file = h.file.now; base = h.chain.base; previous = h.chain.previous; ceiling = h.chain.ceiling }

abbrev pub judging : Judges → Judging
judging NoJudge = nobody
judging (Headers h) = headers (chain h)
judging (Calendars file) = calendars file.now
judging (Both h file) = both (chain h) file.now

abbrev pub call : Line → Call
call Blank = blank
call New = new
call (Judge j) = judge (judging j)
call (Add file) = add file.now
call Settle = settle
call Reopen = reopen
call (Write file room) = write file.now room
call (Row k work) = row k work
call (Tally work) = tally work
call (Sheet file room work) = sheet file.now room work
call NoCall = no_call

abbrev pub call_or_none : Option Line → Call
call_or_none line = call (unwrap_or line NoCall)

-- a line of so many words that begins with a verb
abbrev pub form : List (Bor (List ℕ)) → ℕ → List ℕ → Bool
form ws n verb = length ws == n && bytes_eq (word ws 0) verb

-- where a number can be read
abbrev pub given : Option ℕ → (ℕ → Call) → Call
given (Some n) f = f n
given None f = no_call

-- write FILE, write FILE ROOM, row K, row K WORK, tally, tally WORK, sheet FILE, sheet FILE ROOM, sheet FILE ROOM WORK
unfoldable pub report_of : List (Bor (List ℕ)) → Call
report_of ws =
    cond (form ws 2 (codes "write")) (write (word ws 1) None)
    (cond (form ws 3 (codes "write")) (given (size_read (word ws 2)) (λ room. write (word ws 1) (Some room)))
    (cond (form ws 2 (codes "row")) (given (size_read (word ws 1)) (λ k. row k None))
    (cond (form ws 3 (codes "row")) (given (size_read (word ws 1)) (λ k. given (size_read (word ws 2)) (λ work. row k (Some work))))
    (cond (form ws 1 (codes "tally")) (tally None)
    (cond (form ws 2 (codes "tally")) (given (size_read (word ws 1)) (λ work. tally (Some work)))
    (cond (form ws 2 (codes "sheet")) (sheet (word ws 1) None None)
    (cond (form ws 3 (codes "sheet")) (given (size_read (word ws 2)) (λ room. sheet (word ws 1) (Some room) None))
    (cond (form ws 4 (codes "sheet"))
    (given (size_read (word ws 2)) (λ room. given (size_read (word ws 3)) (λ work. sheet (word ws 1) (Some room) (Some work))))
    no_call))))))))

-- FILE BASE PREVIOUS CEILING, where the last three can be read
abbrev pub chain_from : List ℕ → Option ℕ → Option (List ℕ) → Option ℕ → Option Chain
chain_from file (Some n) (Some h) (Some c) = Some (record { file = file; base = n; previous = h; ceiling = c })
chain_from file (Some n) (Some h) None = None
chain_from file (Some n) None ceiling = None
chain_from file None previous ceiling = None

abbrev pub chain_of : List ℕ → List ℕ → List ℕ → List ℕ → Option Chain
chain_of file base previous ceiling = chain_from file (number_read base) (hash_read previous) (bits_read ceiling)

abbrev pub chained : Option HeaderLine → Option Chain
chained (Some h) = Some (chain h)
chained None = None

abbrev pub held : Option Chain → (Chain → Judging) → Call
held (Some h) f = judge (f h)
held None f = no_call

-- the chain of the third word to the sixth
abbrev pub chain_in : List (Bor (List ℕ)) → Option Chain
chain_in ws = chain_of (word ws 2) (word ws 3) (word ws 4) (word ws 5)

-- a line of so many words that begins with judge and a kind
abbrev pub judge_form : List (Bor (List ℕ)) → ℕ → List ℕ → Bool
judge_form ws n kind = length ws == n && (bytes_eq (word ws 0) (codes "judge") && bytes_eq (word ws 1) kind)

-- judge none, judge calendars FILE, judge headers FILE BASE PREVIOUS CEILING, and that with calendars FILE behind
abbrev pub judge_of : List (Bor (List ℕ)) → Call
judge_of ws =
    cond (judge_form ws 2 (codes "none")) (judge nobody)
    (cond (judge_form ws 3 (codes "calendars")) (judge (calendars (word ws 2)))
    (cond (judge_form ws 6 (codes "headers")) (held (chain_in ws) headers)
    (cond (judge_form ws 8 (codes "headers") && bytes_eq (word ws 6) (codes "calendars")) (held (chain_in ws) (λ h. both h (word ws 7)))
    no_call)))

abbrev pub judged : Option Judges → Call
judged (Some j) = judge (judging j)
judged None = no_call

abbrev pub call_of : List (Bor (List ℕ)) → Call
call_of ws =
    cond (length ws == 0) blank
    (cond (form ws 1 (codes "new")) new
    (cond (form ws 2 (codes "add")) (add (word ws 1))
    (cond (form ws 1 (codes "settle")) settle
    (cond (form ws 1 (codes "reopen")) reopen
    (cond (nat_le 1 (length ws) && bytes_eq (word ws 0) (codes "judge")) (judge_of ws)
    (report_of ws))))))
