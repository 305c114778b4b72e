-- A whole file by its head and its top node.
use Rattle.std.proofs.Common.{◌≡◌, ℕ, Bool, true, false, cond, eqb, leb, List, length, Ok, Err, Result, sym, refl, ap, ◌∙◌, subst, arith}
use Rattle.format.specs.Outcome.{Outcome, got, fault, then}
use Rattle.format.specs.Nodes.{Claim, node_at}
use Rattle.format.specs.Files.{Head, Said, said, file_limit, head_at, top_at, end_at, start_at, file_at}
use Rattle.claim_trees.specs.Gathered.{gathered}
use Rattle.claims.specs.declared.tree.Node.{Node}
use Rattle.gather.specs.declared.trouble.Trouble.{Trouble}
use Rattle.gather.specs.declared.trouble.Trouble.TheVariants.{File, Memory, Large}
use Rattle.gather.specs.Trees.{Says}
use Rattle.gather.specs.Readings.{Passes, Built, Grows}

-- ---- the top node

abbrev whole : List ℕ → Outcome Head → Outcome Said
whole file o = then (then o (λ h top. then (node_at 0 32 file top) (λ cs last. got (said h cs) last))) (end_at file)

by_limit : (file : List ℕ) (b : Bool) → cond b (whole file (head_at file)) (fault 1 file_limit) ≡ whole file (cond b (head_at file) (fault 1 file_limit))
by_limit file true = refl
by_limit file false = refl

file_law : (file : List ℕ) → file_at file ≡ whole file (start_at file)
unfolding file_at top_at
file_law file = by_limit file (leb (length file) file_limit)

pub start_fault : (file : List ℕ) (n k : ℕ) → fault n k ≡ start_at file → file_at file ≡ fault n k
start_fault file n k e = file_law file ∙ ap (whole file) (sym e)

ended : (file : List ℕ) (h : Head) (cs : List Claim) (last : ℕ) (s : Said) (b : Bool) (n : ℕ) → cond b (got (said h cs) last) (fault 12 last) ≡ got s n → (cs ≡ s.claims) × (last ≡ n)
ended file h cs last s true n e = (ap (λ (z : Said). z.claims) (let z : said h cs ≡ s = cc in z), cc)
ended file h cs last s false n e = absurd (let z : ◌≡◌ {A = ℕ} 0 1 = cc in omega arith)

node_of : (file : List ℕ) (h : Head) (s : Said) (o : Outcome (List Claim)) → then (then o (λ cs last. got (said h cs) last)) (end_at file) ≡ got s (length file)
    → o ≡ got s.claims (length file)
node_of file h s (got cs last) e = let p = ended file h cs last s (eqb last (length file)) (length file) e in λ i. got (p.0 i) (p.1 i)
node_of file h s (fault n k) e = absurd (let z : ◌≡◌ {A = ℕ} 0 1 = cc in omega arith)

pub top_node : (file : List ℕ) (s : Said) (h : Head) (top : ℕ) → Says file s → got h top ≡ start_at file → node_at 0 32 file top ≡ got s.claims (length file)
top_node file s h top e b = node_of file h s (node_at 0 32 file top) (ap (whole file) b ∙ (sym (file_law file) ∙ e))

head_ended : (h : Head) (cs : List Claim) (last : ℕ) (s : Said) (b : Bool) (n : ℕ) → cond b (got (said h cs) last) (fault 12 last) ≡ got s n → h ≡ s.head
head_ended h cs last s true n e = ap (λ (z : Said). z.head) (let z : said h cs ≡ s = cc in z)
head_ended h cs last s false n e = absurd (let z : ◌≡◌ {A = ℕ} 0 1 = cc in omega arith)

head_of : (file : List ℕ) (h : Head) (s : Said) (o : Outcome (List Claim)) → then (then o (λ cs last. got (said h cs) last)) (end_at file) ≡ got s (length file)
    → h ≡ s.head
head_of file h s (got cs last) e = head_ended h cs last s (eqb last (length file)) (length file) e
head_of file h s (fault n k) e = absurd (let z : ◌≡◌ {A = ℕ} 0 1 = cc in omega arith)

pub top_head : (file : List ℕ) (s : Said) (h : Head) (top : ℕ) → Says file s → got h top ≡ start_at file → h ≡ s.head
top_head file s h top e b = head_of file h s (node_at 0 32 file top) (ap (whole file) b ∙ (sym (file_law file) ∙ e))

-- ---- what is built of it

pub grown : (file : List ℕ) (s : Said) (o : Outcome (List Claim)) (r : Result Node Trouble) (next : ℕ) → Says file s
    → o ≡ got s.claims (length file) → Built o r next → Grows file r
grown file s o (Ok n) next e k b =
    let same : got b.claims next ≡ got s.claims (length file) = sym b.reads ∙ k in
    (s, (e, b.tree ∙ ap gathered (let z : b.claims ≡ s.claims = cc in z)))
grown file s o (Err (File f)) next e k b = absurd (let z : ◌≡◌ {A = ℕ} 0 1 = cc in omega arith)
grown file s o (Err Large) next e k b = (s, (e, subst Passes k b))
grown file s o (Err Memory) next e k b = (s, e)
