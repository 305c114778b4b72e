use Rattle.std.proofs.Common.{◌≡◌, ◌+◌, ◌-◌, ◌≤◌, ◌∷◌, ◌++◌, length, replicate, refl, ap, ◌∙◌, arith}
use Rattle.sha256.specs.Sha256.{padding, zeros}
use Rattle.sha256.specs.Working.{overwritten}
use Rattle.sha256.proofs.Blocks.{length_padding}
use Rattle.sha256.proofs.Tails.{tail_is}
use Rattle.sha256.proofs.padding.last_blocks.Goals as goal

pub returns : goal.returns
unfolding padding
returns g c =
    let rest = c.args.rest.now in
    let len = c.args.len in
    let n = length rest in
    let bits = c.bit_length-bits.result in
    let low : n + 9 ≤ g.row.N = omega (arith, length_padding len) in
    let least : g.row.N - 9 - n ≡ zeros len = omega (arith, length_padding len) in
    c.overwrite-2.ensures
    ∙ ap (λ t. overwritten t (g.row.N - 8) bits) c.overwrite.ensures
    ∙ tail_is rest bits n g.row.N refl low (ap length c.bit_length-bits.ensures)
    ∙ ap (λ k. rest ++ 0x80 ∷ (replicate k 0 ++ bits)) least
    ∙ ap (λ t. rest ++ 0x80 ∷ (replicate (zeros len) 0 ++ t)) c.bit_length-bits.ensures
