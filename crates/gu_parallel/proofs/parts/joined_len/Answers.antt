use Rattle.std.proofs.Common.{◌≡◌, ◌∙◌, sym, ap, subst, ◌++◌, ◌∷◌, [], take, length}
use native.Mathlib.Omega.{arith}
use Rattle.std.proofs.lemmas.List.{take_more}
use Rattle.gu_parallel.specs.Parts.{Chained}
use Rattle.gu_parallel.proofs.Chains.{ChainedTo, chained, chained_more}
use Rattle.gu_parallel.proofs.parts.joined_len.Goals as goal

pub returns-then-part-place : goal.returns-then-part-place
returns-then-part-place g c = chained 0 c.parts.place (take c.parts.index c.args.parts.now) c.parts.invariant

pub parts-preserved : goal.parts-preserved
parts-preserved g c =
    let all = c.args.parts.now in
    let part = c.index-parts-index.result in
    let longer = take_more all c.parts.index part c.parts-test.true ∙ ap (λ p. take c.parts.index all ++ p ∷ []) (sym c.index-parts-index.is) in
    subst (λ l. ChainedTo 0 part.end l) (sym longer) (chained_more 0 c.parts.place (take c.parts.index all) part c.parts.invariant c.if-part-place.false)

pub returns : goal.returns
returns g c =
    let all = c.args.parts.now in
    let whole : c.parts.index ≡ length all = omega (arith, c.parts-test.false, c.parts.auto.index-end) in
    subst (λ n. Chained 0 (take n all)) whole (chained 0 c.parts.place (take c.parts.index all) c.parts.invariant)
