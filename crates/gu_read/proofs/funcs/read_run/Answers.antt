use Rattle.std.proofs.Common.{arith}
use Rattle.std.proofs.lemmas.List.{drop_more}
use Rattle.std.proofs.lemmas.Result.{err_from_is_err_and}
use Rattle.gu_syntax.specs.Reading.{entries_at}
use Rattle.gu_read.proofs.Runs.{runs_begin, runs_on, runs_fail}
use Rattle.gu_read.proofs.funcs.read_run.Goals as goal

pub entries-init : goal.entries-init
entries-init c = record { runs = rw c.in_ok-funcs.ensures (runs_begin c.args.tys.now c.args.bytes.now); inside = omega arith }

pub returns-in_err-func-clause-value : goal.returns-in_err-func-clause-value
returns-in_err-func-clause-value c =
    let p = err_from_is_err_and c.from_residual-in_err-func.result c.from_residual-in_err-func.ensures.1 in
    rw (p.1, p.2) (runs_fail c.in_err-func.field-0.0 (entries_at 1000 c.args.tys.now c.args.bytes.now) _ _ _ _ c.entries.rest.now (drop_more c.args.tys.now c.entries.ty-index 0 c.entries-test.true) c.in_err-func.ensures.value c.entries.invariant.runs)

pub returns-in_err-func-clause-inside : goal.returns-in_err-func-clause-inside
returns-in_err-func-clause-inside c =
    let p = err_from_is_err_and c.from_residual-in_err-func.result c.from_residual-in_err-func.ensures.1 in
    rw (p.1, p.2) (omega (arith, c.in_err-func.ensures.inside, c.entries.invariant.inside))

pub entries-preserved : goal.entries-preserved
entries-preserved c = record {
  runs = rw c.in_ok-push.ensures (runs_on (entries_at 1000 c.args.tys.now c.args.bytes.now) _ c.in_ok-func.func _ _ _ c.entries.rest.now c.in_ok-func.behind.now (drop_more c.args.tys.now c.entries.ty-index 0 c.entries-test.true) c.in_ok-func.ensures.value c.entries.invariant.runs);
  inside = omega (arith, c.in_ok-func.ensures.inside);
}
