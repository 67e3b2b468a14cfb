use Rattle.std.proofs.Common.{◌≡◌, ℕ, suc, ◌-◌, ◌<◌, List, Some, length, slice_get, refl, ap, sym, ◌∙◌, arith, true≢false}
use Rattle.std.proofs.lemmas.Option.{slice_get-get_or}
use Rattle.gu_rec.specs.declared.distinct.Distinct.{Distinct}
use Rattle.gu_rec.specs.Keys.{key, key_at}
use Rattle.gu_rec.proofs.Chained.{search_next, hash_same}
use Rattle.gu_rec.proofs.distinct.Table.find.Goals as goal
use Rattle.gu_rec.proofs.distinct.Table.find.Goals.{else-earlier-hash-via-then-earlier-hash+else-has_key, else-earlier-hash-via-else-earlier-hash}

pub loop-up_to-preserved : goal.loop-up_to-preserved
loop-up_to-preserved c =
    let distinct : List Distinct = c.args.self.now.distinct.items in
    let entry : Distinct = c.index-earlier.result.now in
    let m : ℕ = c.loop-up_to.up_to - 1 in
    let t = c.loop-up_to-test.true in
    let w = c.loop-up_to.invariant.within in
    let l : m < length distinct = omega arith in
    let s : slice_get distinct m ≡ Some entry = slice_get-get_or distinct m entry l ∙ ap (λ e. Some e) (sym c.index-earlier.ensures) in
    let differs : key_at c.args.groups.now c.args.numbers.now entry ≡ key c.args.numbers.now c.args.types.now → ⊥ = λ k. elim c.else-earlier-hash.branch as (λ _. ⊥) [
      | else-earlier-hash-via-then-earlier-hash+else-has_key b ↦ true≢false (sym (b.has_key.ensures.1 k) ∙ b.if-has_key.false)
      | else-earlier-hash-via-else-earlier-hash b ↦ b.if-earlier-hash.false (hash_same c.requires.chains m entry (key c.args.numbers.now c.args.types.now) c.args.hash c.requires.hashed s k)
    ] in
    let u : c.loop-up_to.up_to ≡ suc m = omega arith in
    search_next c.requires.chains c.loop-up_to.invariant m entry u s differs c.args.hash c.requires.hashed refl
