use Rattle.std.proofs.Common.{arith, ap, ◌∙◌, ◌∷◌}
use Rattle.gu_syntax.specs.Reading.{customs_at}
use Rattle.gu_read.proofs.Passed.{customs_begin, customs_on}
use Rattle.gu_read.proofs.sections.pass_customs.Goals as goal

pub customs-init : goal.customs-init
customs-init c = record { customs = customs_begin c.args.bytes.now; inside = omega arith }

pub customs-preserved : goal.customs-preserved
customs-preserved c =
    let split = c.in-Some-eq0-default.ensures.cases.0 ∙ ap (λ b. b ∷ c.in-Some-eq0-default.behind.now) c.in-Some-eq0-default.field-0-0-test in
    record {
      customs = customs_on (customs_at c.args.bytes.now) c.customs.rest.now c.in-Some-eq0-default.behind.now c.in_ok-rest.rest.now split c.in_ok-rest.ensures.inside c.in_ok-rest.ensures.value c.customs.invariant.customs;
      inside = grind (arith, c.in_ok-rest.ensures.inside, c.in-Some-eq0-default.ensures.cases.0, c.customs.invariant.inside);
    }
