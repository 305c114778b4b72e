use Rattle.std.proofs.Common.{◌≡◌, length, drop, arith, length-append, length-drop}
use Rattle.std.proofs.lemmas.Slice.{drop-append-drop}
use Rattle.listing.proofs.sheet_length.Goals as goal

pub returns-clause-kept : goal.returns-clause-kept
returns-clause-kept g c =
    let work = c.args.work.now in let area = c.length_in.new.area in
    let long : length area ≡ 4096 = omega (arith, length-append area (drop 4096 work), length-drop 4096 work) in
    drop-append-drop 4096 work area 4096 (omega arith) long
