use Rattle.std.proofs.Common.{arith, refl}
use Rattle.std.proofs.lemmas.List.{drop_more}
use Rattle.std.proofs.lemmas.Result.{err_from_is_err_and}
use Rattle.gu_syntax.specs.Module.{header}
use Rattle.gu_syntax.specs.Reading.{HeaderByte, fixed_at}
use Rattle.gu_read.proofs.Passed.{passes_on, passes_fail}
use Rattle.gu_read.proofs.sections.pass_header.Goals as goal

pub returns-in_err-rest-clause-value : goal.returns-in_err-rest-clause-value
returns-in_err-rest-clause-value c =
    let p = err_from_is_err_and c.from_residual.result c.from_residual.ensures.1 in
    rw (p.1, p.2) (passes_fail HeaderByte c.in_err-rest.field-0.0 (fixed_at HeaderByte header c.args.bytes.now) _ _ _ c.header.rest.now (drop_more header c.header.byte-index 0 c.header-test.true) c.in_err-rest.ensures.value c.header.invariant.passes)

pub header-preserved : goal.header-preserved
header-preserved c = record {
  items = refl;
  passes = passes_on HeaderByte (fixed_at HeaderByte header c.args.bytes.now) _ _ _ c.header.rest.now c.in_ok-rest.rest.now (drop_more header c.header.byte-index _ c.header-test.true) c.in_ok-rest.ensures.value c.header.invariant.passes;
  inside = omega (arith, c.in_ok-rest.ensures.inside);
}
