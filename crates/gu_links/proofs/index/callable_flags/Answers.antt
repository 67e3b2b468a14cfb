use Rattle.std.proofs.Common.{◌<◌, ℕ, length, rules, subst, sym, refl, ap, ◌∙◌}
use Rattle.std.proofs.lemmas.Bool.{eq-eqb}
use Rattle.gu_links.specs.Over.{names}
use Rattle.gu_links.proofs.Below.{any_at}
use Rattle.gu_links.proofs.index.callable_flags.Goals as goal

pub index_mut-requires : goal.index_mut-requires
index_mut-requires c =
    let e = ap (names c.in-Callable.function) (sym c.link-item.is ∙ c.in-Callable.is) ∙ eq-eqb c.in-Callable.function c.in-Callable.function refl in
    let lt = c.requires c.in-Callable.function (any_at (names c.in-Callable.function) c.args.links.now c.links.link-index c.link-item.result c.links-test.true e) in
    let h : c.in-Callable.function < length c.links.callable.items = subst (λ (n : ℕ). c.in-Callable.function < n) (sym c.links.invariant.long) lt in
    search (rules, h)
