-- Each call is the round after those before it.
use Rattle.sha256.proofs.Rounds.{rounds_none, rounds_more}
use Rattle.sha256.proofs.compression.sixteen_rounds.Goals as goal

pub returns : goal.returns
returns c =
    let v = c.args.v in
    let k = c.args.k.now in
    let w = c.args.w.now in
    let e1 = rounds_more v k w 0 (rounds_none v k w) c.round_at-v1.ensures in
    let e2 = rounds_more v k w 1 e1 c.round_at-v2.ensures in
    let e3 = rounds_more v k w 2 e2 c.round_at-v3.ensures in
    let e4 = rounds_more v k w 3 e3 c.round_at-v4.ensures in
    let e5 = rounds_more v k w 4 e4 c.round_at-v5.ensures in
    let e6 = rounds_more v k w 5 e5 c.round_at-v6.ensures in
    let e7 = rounds_more v k w 6 e6 c.round_at-v7.ensures in
    let e8 = rounds_more v k w 7 e7 c.round_at-v8.ensures in
    let e9 = rounds_more v k w 8 e8 c.round_at-v9.ensures in
    let e10 = rounds_more v k w 9 e9 c.round_at-v10.ensures in
    let e11 = rounds_more v k w 10 e10 c.round_at-v11.ensures in
    let e12 = rounds_more v k w 11 e11 c.round_at-v12.ensures in
    let e13 = rounds_more v k w 12 e12 c.round_at-v13.ensures in
    let e14 = rounds_more v k w 13 e13 c.round_at-v14.ensures in
    let e15 = rounds_more v k w 14 e14 c.round_at-v15.ensures in
    rounds_more v k w 15 e15 c.round_at.ensures
