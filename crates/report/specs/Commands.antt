-- What the words after the program's name ask for.
use Rattle.std.specs.Prelude.{ℕ, cond, ◌&&◌, List, drop, length, codes, ◌==◌, nat_le, bytes_eq}
use Rattle.std.specs.Borrow.{Bor}
use Rattle.account.specs.Commands.{Asked as PlainAsked, word, asked as plainly_asked, asked_by as plainly_asked_by}
use Rattle.report.specs.declared.commands.Command.{Command}
use Rattle.report.specs.declared.commands.Command.TheVariants.{Merge, Sheet, Run, Overwrite, Plain}

pub data Asked : Type 0 where
  merge : List (Bor (List ℕ)) → Asked
  sheet : List (Bor (List ℕ)) → Asked
  run : List ℕ → Asked
  overwrite : List ℕ → Asked
  plain : PlainAsked → Asked

abbrev pub asked : Command → Asked
asked (Merge words) = merge words.now
asked (Sheet words) = sheet words.now
asked (Run path) = run path.now
asked (Overwrite path) = overwrite path.now
asked (Plain command) = plain (plainly_asked command)

-- the commands that make calls on a dossier, and then those that make none
abbrev pub asked_by : List (Bor (List ℕ)) → Asked
asked_by words =
    cond (nat_le 1 (length words) && bytes_eq (word words 0) (codes "merge")) (merge (drop 1 words))
    (cond (nat_le 1 (length words) && bytes_eq (word words 0) (codes "sheet")) (sheet (drop 1 words))
    (cond (length words == 2 && bytes_eq (word words 0) (codes "run")) (run (word words 1))
    (cond (length words == 3 && (bytes_eq (word words 0) (codes "run") && bytes_eq (word words 1) (codes "--force"))) (overwrite (word words 2))
    (plain (plainly_asked_by words)))))
