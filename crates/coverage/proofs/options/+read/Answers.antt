use Rattle.std.proofs.Common.{◌∙◌, sym, rules}
use Rattle.coverage.proofs.Pairs.{parsed_none, parsed_one, parsed_goes, parsed_stops}
use Rattle.coverage.proofs.options.+read.Goals as goal

pub returns-in-empty : goal.returns-in-empty
returns-in-empty t c = sym (parsed_none c.args.words.now c.args.chain c.in-empty.len_below)

pub returns-in-len1 : goal.returns-in-len1
returns-in-len1 t c = sym (parsed_one c.args.words.now c.args.chain c.in-len1.len_at_least c.in-len1.len_below)

pub returns-in_ok-with-in-len2-up : goal.returns-in_ok-with-in-len2-up
returns-in_ok-with-in-len2-up t c =
    c.read.ensures
    ∙ sym (parsed_goes c.args.words.now _ c.args.chain c.in_ok-with-in-len2-up.field-0 c.in-len2-up.len_at_least
    (sym c.with.ensures ∙ c.in_ok-with-in-len2-up.was))

pub returns-in_err-with-in-len2-up : goal.returns-in_err-with-in-len2-up
returns-in_err-with-in-len2-up t c =
    let s = parsed_stops c.args.words.now _ c.args.chain _ c.in-len2-up.len_at_least
    (sym c.with.ensures ∙ c.in_err-with-in-len2-up.was) in
    search rules
