use Rattle.std.proofs.Common.{refl, ◌∙◌}
use Rattle.gu_types.proofs.list.List.as_mut_slice.Goals as goal

pub returns : goal.returns
returns g c = (
  (refl, λ written. rw (c.self.inside.items.ok.0, c.self.view_is) refl),
  record { writes_back = tt; value = c.as_mut_slice.ensures.value ∙ c.self.view_is },
)
