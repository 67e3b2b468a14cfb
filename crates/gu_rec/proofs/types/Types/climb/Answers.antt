use Rattle.std.proofs.Common.{◌≡◌, true, false, refl, sym, ◌∙◌, subst}
use Rattle.gu_rec.specs.Sub.{itself, onward}
use Rattle.gu_rec.specs.Table.{IsTable}
use Rattle.gu_rec.proofs.Climbing.{Up, up, up_sub, up_least, last_none, named_least}
use Rattle.gu_rec.proofs.types.Types.climb.Goals as goal

pub line-init : goal.line-init
line-init c = record {
  in_range = c.requires.first;
  no_bottom = c.requires.no_bottom;
  below = itself c.args.from;
  least = λ x p q. p;
}

pub returns-then-is_sub : goal.returns-then-is_sub
returns-then-is_sub c = named_least c.args.self.now c.args.from c.args.b c.line.at c.named.result c.line.invariant.below (c.if-is_sub.ensures.means.0 refl) c.line.invariant.least c.named.ensures

pub returns-in_default : goal.returns-in_default
returns-in_default c =
    let t : IsTable c.args.self.now c.self.inside.least.items c.self.inside.entries.items = subst (λ l. IsTable l c.self.inside.least.items c.self.inside.entries.items) c.self.view_is c.self.invariant.table in
    λ x p q. last_none c.args.self.now t.hold c.line.at c.args.b x c.line.invariant.no_bottom (sym c.above.ensures ∙ c.in_default.is) (λ s. let f : false ≡ true = c.if-is_sub.ensures.means.1 s in cc) (c.line.invariant.least x p q) q

pub line-smaller : goal.line-smaller
line-smaller c =
    let u = up c.args.self.now c.line.at c.in-Some.next c.line.invariant.in_range (sym c.above.ensures ∙ c.in-Some.is) in
    u.lower

pub line-preserved : goal.line-preserved
line-preserved c =
    let t : IsTable c.args.self.now c.self.inside.least.items c.self.inside.entries.items = subst (λ l. IsTable l c.self.inside.least.items c.self.inside.entries.items) c.self.view_is c.self.invariant.table in
    let u : Up c.args.self.now c.line.at c.in-Some.next = up c.args.self.now c.line.at c.in-Some.next c.line.invariant.in_range (sym c.above.ensures ∙ c.in-Some.is) in
    record {
      in_range = u.in_range;
      no_bottom = u.no_bottom;
      below = onward c.args.from c.line.at c.in-Some.next c.line.invariant.below (up_sub c.args.self.now t.hold c.line.at c.in-Some.next c.line.invariant.no_bottom u);
      least = λ x p q. up_least c.args.self.now t.hold c.line.at c.in-Some.next c.args.b x c.line.invariant.no_bottom u (λ s. let f : false ≡ true = c.if-is_sub.ensures.means.1 s in cc) (c.line.invariant.least x p q) q;
    }
