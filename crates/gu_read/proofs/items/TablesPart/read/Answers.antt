use Rattle.std.proofs.Common.{ap, ◌∙◌, ◌∷◌}
use Rattle.gu_read.proofs.items.TablesPart.read.Goals as goal

pub returns-in-Some-eq64-default-clause-value : goal.returns-in-Some-eq64-default-clause-value
returns-in-Some-eq64-default-clause-value c =
    let split = c.in-Some-eq64-default.ensures.cases.0 ∙ ap (λ b. b ∷ c.in-Some-eq64-default.rest.now) c.in-Some-eq64-default.field-0-0-test in
    rw split c.read_after_zero.ensures.value
