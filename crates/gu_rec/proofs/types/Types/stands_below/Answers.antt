use Rattle.std.proofs.Common.{◌||◌, is_some, sym, ◌∙◌, ap}
use Rattle.gu_types.specs.declared.types.HeapType.TheVariants as H
use Rattle.gu_rec.specs.Sub.{line, same_heap}
use Rattle.gu_rec.specs.Table.{place}
use Rattle.gu_rec.proofs.Queries.{below_is, bottom_is}
use Rattle.gu_rec.proofs.types.Types.stands_below.Goals as goal

pub returns-in-None : goal.returns-in-None
returns-in-None c = c.is_some.ensures ∙ (ap is_some c.edges.ensures ∙ sym (below_is c.args.self.now c.args.a c.args.b (sym c.top_of.ensures ∙ c.in-None.is)))

pub returns-then-same_heap : goal.returns-then-same_heap
returns-then-same_heap c =
    c.if-same_heap.true
    ∙ sym (bottom_is c.args.self.now c.args.a c.args.b c.in-Some.top (sym c.top_of.ensures ∙ c.in-Some.is)
    ∙ ap (λ s. s || is_some (place (same_heap c.args.self.now (H.Abs c.in-Some.top)) (line c.args.self.now c.args.b))) (sym c.if-same_heap.ensures))

pub returns-else-same_heap : goal.returns-else-same_heap
returns-else-same_heap c =
    c.is_some-else-same_heap.ensures ∙ (ap is_some c.edges-else-same_heap.ensures
    ∙ sym (bottom_is c.args.self.now c.args.a c.args.b c.in-Some.top (sym c.top_of.ensures ∙ c.in-Some.is)
    ∙ ap (λ s. s || is_some (place (same_heap c.args.self.now (H.Abs c.in-Some.top)) (line c.args.self.now c.args.b))) (sym c.if-same_heap.ensures)))
