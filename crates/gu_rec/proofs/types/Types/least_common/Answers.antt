use Rattle.std.proofs.Common.{◌≡◌, true, false, refl, sym, ◌∙◌, subst}
use Rattle.gu_rec.specs.Sub.{itself}
use Rattle.gu_rec.specs.Table.{IsTable}
use Rattle.gu_rec.proofs.Climbing.{bottom_none, named_least}
use Rattle.gu_rec.proofs.types.Types.least_common.Goals as goal

pub returns-then-is_sub : goal.returns-then-is_sub
returns-then-is_sub c = named_least c.args.self.now c.args.a c.args.b c.args.b c.named.result (c.if-is_sub.ensures.means.0 refl) (itself c.args.b) (λ x p q. q) c.named.ensures

pub returns-else-is_sub : goal.returns-else-is_sub
returns-else-is_sub c =
    let t : IsTable c.args.self.now c.self.inside.least.items c.self.inside.entries.items = subst (λ l. IsTable l c.self.inside.least.items c.self.inside.entries.items) c.self.view_is c.self.invariant.table in
    bottom_none c.args.self.now t.hold c.args.a c.args.b c.in-Some.field-0 (sym c.top_of.ensures ∙ c.in-Some.is) (λ s. let f : false ≡ true = c.if-is_sub.ensures.means.1 s in cc)
