-- A file put behind what stands there.
use Rattle.std.proofs.Common.{◌≡◌, ℕ, List, [], ◌∷◌, ◌++◌, ◌∙◌, append_assoc}
use Rattle.format.specs.Attestations.{Att}
use Rattle.format.specs.Files.{mark}
use Rattle.claim_trees.specs.Tree.{Tree}
use Rattle.claim_trees.specs.Bytes.{file_bytes}
use Rattle.claim_trees.specs.Onto.{file_onto}
use Rattle.claim_trees.proofs.Lengths.{node_onto_lem}

pub file_behind : (acc digest : List ℕ) (m : List Att) (t : Tree) → file_onto acc digest m t ≡ acc ++ file_bytes digest m t
file_behind acc digest m t = node_onto_lem ((((acc ++ mark) ++ (1 ∷ [])) ++ (8 ∷ [])) ++ digest) m t ∙ simp append_assoc
