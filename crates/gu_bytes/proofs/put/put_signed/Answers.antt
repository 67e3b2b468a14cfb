use Rattle.std.proofs.Common.{arith, ap, ◌+◌, ◌∙◌, sym, ◌∷◌, ◌++◌, inl, inr, to_z, w64, []}
use Rattle.std.proofs.Math.Facts.{sfits_to_z}
use Rattle.std.proofs.lemmas.Int.{ints, to_z-of_z}
use Rattle.gu_bytes.specs.Numbers.{least_signed}
use Rattle.gu_bytes.proofs.Bytewise.{low_bits, signed_last, signed_more, shifted, last_byte, earlier_byte}
use Rattle.gu_bytes.proofs.Writing.{written_byte, written_last}
use Rattle.gu_bytes.proofs.put.put_signed.Goals.{then-rest-ltminus64, else-rest-ltminus64+then-rest-ge64}
use Rattle.gu_bytes.proofs.put.put_signed.Goals as goal

pub bytes-preserved : goal.bytes-preserved
bytes-preserved c =
    let rest = to_z w64 c.bytes.rest-bits in
    let fits = sfits_to_z c.bytes.auto.rest-fits in
    let step = signed_more rest (elim c.if-rest-ltminus64.branch [ then-rest-ltminus64 w ↦ inl (omega (arith, ints, w.if-rest-ltminus64)) | else-rest-ltminus64+then-rest-ge64 w ↦ inr (omega (arith, ints, w.if-rest-ge64)) ]) fits in
    let pushed = earlier_byte rest c.rem_euclid.result c.rem_euclid.ensures.value in
    written_byte _ _ _ _ _ _ _ c.bytes.invariant (step ∙ ap (λ bs. (low_bits rest + 128) ∷ bs) (ap least_signed (sym (shifted rest fits)))) (c.in_ok-push.ensures.items ∙ ap (λ b. c.bytes.out.items ++ b ∷ []) pushed)

pub returns-clause-written : goal.returns-clause-written
returns-clause-written c =
    let rest = to_z w64 c.bytes.rest-bits in
    let last = signed_last rest (omega (arith, ints, c.if-rest-ltminus64.false)) (omega (arith, ints, c.if-rest-ge64.false)) in
    let pushed = last_byte rest c.rem_euclid-2.result c.rem_euclid-2.ensures.value in
    written_last _ _ _ _ _ _ c.bytes.invariant last (c.in_ok-push-2.ensures.items ∙ ap (λ b. c.bytes.out.items ++ b ∷ []) pushed) ∙ ap (λ z. c.args.out.now.items ++ least_signed z) (to_z-of_z w64 c.args.v c.ranges.v)
