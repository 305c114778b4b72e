-- The union of two sorted trees.
use Rattle.std.specs.Prelude.{◌⊎◌, List, [], ◌∷◌}
use Rattle.std.specs.declared.cmp.Ordering.TheVariants.{Less, Equal, Greater}
use Rattle.std.specs.declared.cmp.Ordering.{Ordering}
use Rattle.format.specs.Operations.{Op}
use Rattle.format.specs.Attestations.{Att}
use Rattle.format.specs.Nodes.{Claim}
use Rattle.format.specs.FirstFault.{Iff}
use Rattle.claim_trees.specs.Tree.{Tree, end, more, Held, held, claims, In}
use Rattle.claim_trees.specs.Order.{op_order, att_order}

abbrev pub choose : {A : Type 0} → Ordering → A → A → A → A
choose Less x y z = x
choose Equal x y z = y
choose Greater x y z = z

-- x and the xs behind it, put among others: f puts the xs among those that follow
abbrev pub place : Att → List Att → (List Att → List Att) → List Att → List Att
place x xs f [] = x ∷ xs
place x xs f (y ∷ ys) = choose (att_order x y) (x ∷ f (y ∷ ys)) (x ∷ f ys) (y ∷ place x xs f ys)

abbrev pub unite : List Att → List Att → List Att
unite [] ys = ys
unite (x ∷ xs) ys = place x xs (unite xs) ys

-- a branch and the branches behind it, put among others: f joins what is below the same operation, g puts those behind it
abbrev pub graft : Op → List Att → Tree → Tree → (Tree → Tree) → (Tree → Tree) → Tree → Tree
graft o marks below rest f g end = more o marks below rest
graft o marks below rest f g (more p others low far) =
    choose (op_order o p)
    (more o marks below (g (more p others low far)))
    (more o (unite marks others) (f low) (g far))
    (more p others low (graft o marks below rest f g far))

abbrev pub unify : Tree → Tree → Tree
unify end t = t
unify (more o marks below rest) t = graft o marks below rest (unify below) (unify rest) t

abbrev pub union : Held → Held → Held
union x y = held (unite x.marks y.marks) (unify x.branches y.branches)

-- a claim is in the union exactly where it is in one of the two
abbrev pub UnionIsExact : Type 0
UnionIsExact = (c : Claim) (x y : Held)
    → Iff (In c (claims (union x y).marks (union x y).branches)) (In c (claims x.marks x.branches) ⊎ In c (claims y.marks y.branches))
