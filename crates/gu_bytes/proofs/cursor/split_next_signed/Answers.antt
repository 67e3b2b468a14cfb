use Rattle.std.proofs.Common.{arith, ap, ◌∙◌, Some, pos, ◌+ℤ◌, ◌*ℤ◌}
use Rattle.std.proofs.lemmas.Int.{ints}
use Rattle.gu_bytes.proofs.Powers.{seven_signed, below_63}
use Rattle.gu_bytes.proofs.cursor.split_next_signed.Goals as goal

pub overflow_mul-result : goal.overflow_mul-result
overflow_mul-result c =
    let wide = seven_signed c.args.bits (omega arith) in
    let bound = below_63 c.args.bits c.requires.high in
    let high = c.in_ok-high.ensures.fits.0 in
    omega (arith, ints, wide, bound, high.0, high.1)

pub returns-clause-fits : goal.returns-clause-fits
returns-clause-fits c =
    let wide = seven_signed c.args.bits (omega arith) in
    let bound = below_63 c.args.bits c.requires.high in
    let high = c.in_ok-high.ensures.fits.0 in
    ((omega (arith, ints, wide, bound, high.0, high.1, c.from-2.ensures), omega (arith, ints, wide, bound, high.0, high.1, c.from-2.ensures)), grind (arith, c.in_ok-high.ensures.fits.1))

pub returns-clause-value : goal.returns-clause-value
returns-clause-value c =
    let wide = seven_signed c.args.bits (omega arith) in
    let bound = below_63 c.args.bits c.requires.high in
    let high = c.in_ok-high.ensures.fits.0 in
    let plain = pos 128 *ℤ c.in_ok-high.high +ℤ c.from-2.result in
    ap (λ z. Some (z, c.in_ok-high.rest.now)) {y = plain} (omega (arith, ints, wide, bound, high.0, high.1, c.from-2.ensures)) ∙ grind (arith, c.in_ok-high.ensures.value)
