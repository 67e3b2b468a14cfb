use Rattle.std.proofs.Common.{subst, All}
use Rattle.std.specs.List.{Contains}
use Rattle.gu_parallel.proofs.parts.both_in_order.Goals as goal

pub returns : goal.returns
returns g c =
    let taken = subst (λ l. All (Contains l) c.in_order.result.items) c.in_ok-append.ensures.items c.in_order.ensures.taken in
    (c.in_ok-all.all, c.in_ok-more.more, c.in_ok-all.was, c.in_ok-more.was, c.in_order.ensures.chained, taken)
