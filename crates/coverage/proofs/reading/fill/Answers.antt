use Rattle.std.proofs.Common.{◌≡◌, ◌+◌, ◌*◌, ◌&&◌, length, get_or, drop, sym, ap, ◌∙◌, arith}
use Rattle.coverage.specs.Reading.{hex_digit, hex_value, hex_digits}
use Rattle.coverage.proofs.Hexes.{digits_all, pair_more, read_some, read_none, fill_more, fill_all}
use Rattle.coverage.proofs.reading.fill.Goals as goal

pub loop-k-preserved : goal.loop-k-preserved
loop-k-preserved c =
    let text = c.args.text.now in
    let k = c.loop-k.k in
    let long : length text ≡ 2 * length c.loop-k.out = omega arith in
    let high = read_some (get_or text (2 * k) 0) c.in_ok-value.field-0 (sym c.value.ensures ∙ c.in_ok-value.was) in
    let low = read_some (get_or text (2 * k + 1) 0) c.in_ok-byte.field-0 (sym c.value-in-loop-k.ensures ∙ c.in_ok-byte.was) in
    let more = pair_more text k (omega arith) in
    record {
      digits = sym (sym c.loop-k.invariant.digits ∙ more
          ∙ ap (λ b. b && (hex_digit (get_or text (2 * k + 1) 0) && hex_digits (drop (2 * (k + 1)) text))) high.0
          ∙ ap (λ b. b && hex_digits (drop (2 * (k + 1)) text)) low.0);
      bytes = fill_more c.loop-k.out text k _ long (omega arith)
          (ap (λ x. 16 * x + c.in_ok-byte.field-0) high.1 ∙ ap (λ x. 16 * hex_value (get_or text (2 * k) 0) + x) low.1) c.loop-k.invariant.bytes;
    }

pub returns-in_err-value : goal.returns-in_err-value
returns-in_err-value c =
    let text = c.args.text.now in
    let k = c.loop-k.k in
    let high = read_none (get_or text (2 * k) 0) (sym c.value.ensures ∙ c.in_err-value.was) in
    let more = pair_more text k (omega arith) in
    rw c.from_residual.ensures (
    sym c.loop-k.invariant.digits ∙ more
    ∙ ap (λ b. b && (hex_digit (get_or text (2 * k + 1) 0) && hex_digits (drop (2 * (k + 1)) text))) high
    )

pub returns-in_err-byte : goal.returns-in_err-byte
returns-in_err-byte c =
    let text = c.args.text.now in
    let k = c.loop-k.k in
    let high = read_some (get_or text (2 * k) 0) c.in_ok-value.field-0 (sym c.value.ensures ∙ c.in_ok-value.was) in
    let low = read_none (get_or text (2 * k + 1) 0) (sym c.value-in-loop-k.ensures ∙ c.in_err-byte.was) in
    let more = pair_more text k (omega arith) in
    rw c.from_residual-in_err-byte.ensures (
    sym c.loop-k.invariant.digits ∙ more
    ∙ ap (λ b. b && (hex_digit (get_or text (2 * k + 1) 0) && hex_digits (drop (2 * (k + 1)) text))) high.0
    ∙ ap (λ b. b && hex_digits (drop (2 * (k + 1)) text)) low
    )

pub returns : goal.returns
returns c =
    let text = c.args.text.now in
    let k = c.loop-k.k in
    let long : length text ≡ 2 * length c.loop-k.out = omega arith in (
      sym c.loop-k.invariant.digits ∙ digits_all text (2 * k) (omega arith),
      fill_all c.loop-k.out text k long (omega arith) c.loop-k.invariant.bytes,
    )
