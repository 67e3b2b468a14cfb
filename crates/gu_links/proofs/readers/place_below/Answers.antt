use Rattle.std.proofs.Common.{ℕ, Some, sym, ap, ◌∙◌}
use Rattle.gu_contents.proofs.Heights.{least_is}
use Rattle.gu_links.specs.declared.readers.Place.TheVariants as P
use Rattle.gu_links.specs.Listed.{below_place}
use Rattle.gu_links.proofs.readers.place_below.Goals as goal

pub returns-in-CallBy : goal.returns-in-CallBy
returns-in-CallBy c =
    ap (λ (k : ℕ). Some (P.Type k)) (least_is c.args.f.now.types c.in-CallBy.ty c.canon.result c.canon.ensures.same c.canon.ensures.least)
    ∙ sym (ap (below_place c.args.f.now) c.in-CallBy.is)
