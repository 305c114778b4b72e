-- How branches make up a node, and how what stops the reading of a part stops the whole.
use Rattle.std.proofs.Common.{◌≡◌, ℕ, ◌+◌, ◌<◌, ◌≤◌, Bool, true, false, cond, List, [], ◌∷◌, ◌++◌, map, length, IsErrAnd, Err, Result, sym, refl, ap, ◌∙◌, subst, ⊎_elim, arith}
use Rattle.std.proofs.lemmas.Result.{err_from_is_err_and}
use Rattle.std.proofs.lemmas.Bool.{cases_lt}
use Rattle.std.proofs.lemmas.List.{append_assoc, length-append, length-map}
use Rattle.format.specs.declared.Kind.{Kind}
use Rattle.format.specs.Outcome.{Outcome, got, fault, then}
use Rattle.format.specs.Operations.{op_of, result_size}
use Rattle.format.specs.Attestations.{Att}
use Rattle.format.specs.Items.{operation, attestation, item_at}
use Rattle.format.specs.Nodes.{Claim, claim, under, more_at, below_by, branch_by, node_at}
use Rattle.format.proofs.Progress.{From}
use Rattle.format.proofs.NodeLaw.{item_past, more_from, branch_from, node_law, node_from_lem}
use Rattle.format.proofs.Progress.{from_weaker}
use Rattle.claim_trees.specs.Tree.{Held, held, end, more}
use Rattle.claim_trees.specs.Union.{union}
use Rattle.claim_trees.specs.Gathered.{gathered}
use Rattle.claim_trees.proofs.Gathering.{gathered_append}
use Rattle.claims.specs.declared.tree.Node.{Node}
use Rattle.gather.specs.declared.trouble.Trouble.{Trouble}
use Rattle.gather.specs.declared.trouble.Trouble.TheVariants.{File, Memory, Large}
use Rattle.gather.specs.Trees.{fitting}
use Rattle.gather.specs.Readings.{branch_at, Read, Passes, Stops, Built}
use Rattle.gather.proofs.Larger.{gathered_mark, gathered_under, passes_left, passes_right, passes_under}

-- the claims cs, then what is read
abbrev pub behind : List Claim → Outcome (List Claim) → Outcome (List Claim)
behind cs o = then o (λ ds last. got (cs ++ ds) last)

pub behind_none : (o : Outcome (List Claim)) → behind [] o ≡ o
behind_none (got cs n) = refl
behind_none (fault c o) = refl

behind_twice : (cs ds : List Claim) (o : Outcome (List Claim)) → behind cs (behind ds o) ≡ behind (cs ++ ds) o
behind_twice cs ds (got es n) = ap (λ z. got z n) (sym (append_assoc cs ds es))
behind_twice cs ds (fault c o) = refl

-- ---- offsets

got_from : {A : Type 0} (m n : ℕ) (x : A) (o : Outcome A) → got x n ≡ o → From m o → m ≤ n
got_from m n x o e h = subst (From m) (sym e) h

pub more_on : (file : List ℕ) (at : ℕ) (m : Bool) (next : ℕ) → got m next ≡ more_at file at → at ≤ next
more_on file at m next e = got_from at next m (more_at file at) e (more_from file at)

module _ (depth size : ℕ) (file : List ℕ) (at : ℕ) where
  past : length file ≤ at → branch_at depth size file at ≡ fault 2 (length file)
  unfolding branch_at
  past h = ap (λ z. then z (λ p last. below_by node_at p depth size file last)) (item_past depth size file at h)

  -- a branch begins within the file, and takes a byte at least
  pub branch_within : (cs : List Claim) (next : ℕ) → branch_at depth size file at ≡ got cs next → at < length file
  branch_within cs next e = ⊎_elim (λ h. h) (λ h. absurd (let p = past h in let z : ◌≡◌ {A = ℕ} 0 1 = cc in omega arith)) (cases_lt at (length file))

  pub branch_on : (cs : List Claim) (next : ℕ) → branch_at depth size file at ≡ got cs next → at + 1 ≤ next
  unfolding branch_at
  branch_on cs next e = got_from (at + 1) next cs (branch_by node_at depth size file at) (sym e)
      (branch_from node_at depth size file at (λ d s a. from_weaker (a + 1) a (node_at d s file a) (omega arith) (node_from_lem d s file a)))

  -- ---- a branch by its item

  pub branch_fault : (n o : ℕ) → fault n o ≡ item_at depth size file at → branch_at depth size file at ≡ fault n o
  unfolding branch_at
  branch_fault n o e = ap (λ z. then z (λ p last. below_by node_at p depth size file last)) (sym e)

  pub branch_mark : (a : Att) (payload : List ℕ) (offset first last : ℕ) → got (attestation a payload offset first) last ≡ item_at depth size file at
      → branch_at depth size file at ≡ got (claim [] a ∷ []) last
  unfolding branch_at
  branch_mark a payload offset first last e = ap (λ z. then z (λ p last. below_by node_at p depth size file last)) (sym e)

  pub branch_below : (kind : Kind) (argument : List ℕ) (offset first last : ℕ) → got (operation kind argument offset first) last ≡ item_at depth size file at
      → branch_at depth size file at
      ≡ then (node_at (depth + 1) (result_size kind size (length argument)) file last) (λ cs after. got (map (under (op_of kind argument)) cs) after)
  unfolding branch_at
  branch_below kind argument offset first last e = ap (λ z. then z (λ p last. below_by node_at p depth size file last)) (sym e)

  -- ---- a node by its first branch

  node_split : (m : Bool) (next : ℕ) → got m next ≡ more_at file at
      → node_at depth size file at
      ≡ then (branch_at depth size file next) (λ cs after. cond m (behind cs (node_at depth size file after)) (got cs after))
  unfolding branch_at
  node_split m next e = node_law depth size file at
      ∙ ap (λ z. then z (λ more next. then (branch_by node_at depth size file next) (λ cs after.
      cond more (behind cs (node_at depth size file after)) (got cs after)))) (sym e)

  module _ (ds : List Claim) (m : Bool) (next : ℕ) (e : got m next ≡ more_at file at) where
    split : behind ds (node_at depth size file at)
        ≡ behind ds (then (branch_at depth size file next) (λ cs after. cond m (behind cs (node_at depth size file after)) (got cs after)))
    split = ap (behind ds) (node_split m next e)

    pub step_fault : (n o : ℕ) → branch_at depth size file next ≡ fault n o → behind ds (node_at depth size file at) ≡ fault n o
    step_fault n o b = split ∙ ap (λ z. behind ds (then z (λ cs after. cond m (behind cs (node_at depth size file after)) (got cs after)))) b

    step_got : (cs : List Claim) (after : ℕ) → branch_at depth size file next ≡ got cs after
        → behind ds (node_at depth size file at) ≡ behind ds (cond m (behind cs (node_at depth size file after)) (got cs after))
    step_got cs after b = split ∙ ap (λ z. behind ds (then z (λ cs after. cond m (behind cs (node_at depth size file after)) (got cs after)))) b

    pub step_last : (cs : List Claim) (after : ℕ) → branch_at depth size file next ≡ got cs after → m ≡ false
        → behind ds (node_at depth size file at) ≡ got (ds ++ cs) after
    step_last cs after b k = step_got cs after b ∙ ap (λ z. behind ds (cond z (behind cs (node_at depth size file after)) (got cs after))) k

    pub step_more : (cs : List Claim) (after : ℕ) → branch_at depth size file next ≡ got cs after → m ≡ true
        → behind ds (node_at depth size file at) ≡ behind (ds ++ cs) (node_at depth size file after)
    step_more cs after b k = step_got cs after b ∙ (ap (λ z. behind ds (cond z (behind cs (node_at depth size file after)) (got cs after))) k
        ∙ behind_twice ds cs (node_at depth size file after))

    rest_passes : (b : Bool) (cs : List Claim) (after : ℕ) (o : Outcome (List Claim)) → fitting (gathered cs) ≡ false
        → Passes (behind ds (cond b (behind cs o) (got cs after)))
    rest_passes false cs after o h = passes_right ds cs h
    rest_passes true cs after (got es n) h = passes_right ds (cs ++ es) (passes_left cs es h)
    rest_passes true cs after (fault c k) h = tt

    by_branch : (o : Outcome (List Claim)) → Passes o
        → Passes (behind ds (then o (λ cs after. cond m (behind cs (node_at depth size file after)) (got cs after))))
    by_branch (got cs after) h = rest_passes m cs after (node_at depth size file after) h
    by_branch (fault c k) h = tt

    pub step_passes : Passes (branch_at depth size file next) → Passes (behind ds (node_at depth size file at))
    step_passes h = subst Passes (sym split) (by_branch (branch_at depth size file next) h)

pub behind_passes : (ds : List Claim) (o : Outcome (List Claim)) → fitting (gathered ds) ≡ false → Passes (behind ds o)
behind_passes ds (got cs n) h = passes_left ds cs h
behind_passes ds (fault c k) h = tt

pub under_passes : (kind : Kind) (argument : List ℕ) (o : Outcome (List Claim)) → Passes o
    → Passes (then o (λ cs last. got (map (under (op_of kind argument)) cs) last))
under_passes kind argument (got cs n) h = passes_under (op_of kind argument) cs h
under_passes kind argument (fault c k) h = tt

-- ---- what stops a part

pub stops_by : (o p : Outcome (List Claim)) (y : Trouble) → ((n k : ℕ) → o ≡ fault n k → p ≡ fault n k) → (Passes o → Passes p) → Stops o y → Stops p y
stops_by o p (File f) h k s = h _ _ s
stops_by o p Large h k s = k s
stops_by o p Memory h k s = tt

pub built_err : (o : Outcome (List Claim)) (r : Result Node Trouble) (next : ℕ) (y : Trouble) → IsErrAnd r (λ z. z ≡ y) → Stops o y → Built o r next
built_err o r next y h s =
    let p = err_from_is_err_and r h in
    subst (λ z. Built o z next) (sym (p.1 ∙ ap Err p.2)) s

-- ---- what is built

pub read_mark : (o : Outcome (List Claim)) (x : Held) (a : Att) (next : ℕ) → o ≡ got (claim [] a ∷ []) next → x ≡ held (a ∷ []) end → Read o x next
read_mark o x a next e h = record { claims = claim [] a ∷ []; reads = e; some = (let g : 0 < length (claim [] a ∷ []) = omega arith in g); tree = h ∙ gathered_mark a }

pub read_under : (kind : Kind) (argument : List ℕ) (o p : Outcome (List Claim)) (x y : Held) (next : ℕ)
    → p ≡ then o (λ cs last. got (map (under (op_of kind argument)) cs) last) → Read o y next
    → x ≡ held [] (more (op_of kind argument) y.marks y.branches end) → Read p x next
read_under kind argument o p x y next e r h =
    let l = length-map r.claims (under (op_of kind argument)) in record {
      claims = map (under (op_of kind argument)) r.claims;
      reads = e ∙ ap (λ z. then z (λ cs last. got (map (under (op_of kind argument)) cs) last)) r.reads;
      some = omega (arith, r.some);
      tree = h ∙ (ap (λ z. held [] (more (op_of kind argument) z.marks z.branches end)) r.tree ∙ gathered_under (op_of kind argument) r.claims r.some);
    }

pub joins : (x y z : Held) (cs ds : List Claim) → z ≡ union x y → x ≡ gathered cs → y ≡ gathered ds → z ≡ gathered (cs ++ ds)
joins x y z cs ds e p q = e ∙ ((λ i. union (p i) (q i)) ∙ gathered_append cs ds)

pub some_behind : (cs ds : List Claim) → 0 < length ds → 0 < length (cs ++ ds)
some_behind cs ds h = let l = length-append cs ds in omega arith
