use Rattle.std.proofs.Common.{arith, ap}
use Rattle.std.proofs.lemmas.Result.{err_from_is_err_and}
use Rattle.gu_syntax.specs.Reading.{vector_at, run_at}
use Rattle.gu_read_code.specs.Entries.{total}
use Rattle.gu_read_code.proofs.Merging.{total-merged}
use Rattle.gu_read_code.proofs.Running.{runs_go_on, runs_fail}
use Rattle.gu_read_code.proofs.locals.read_locals.Goals as goal

pub returns-in_err-run-clause-value : goal.returns-in_err-run-clause-value
returns-in_err-run-clause-value c =
    let p = err_from_is_err_and c.from_residual-in_err-run.result c.from_residual-in_err-run.ensures.1 in
    rw (p.1, p.2) (runs_fail c.in_err-run.field-0.0 c.in_ok-count.count c.args.bytes.now c.runs.rest.now c.runs.merged c.runs.counted c.runs.counter c.runs-test.true c.in_err-run.ensures.value c.runs.invariant.reads)

pub add-requires : goal.add-requires
add-requires c = λ few.
    let reads = c.runs.invariant.reads in
    omega (arith, c.from-counted.ensures, reads.counts, ap total (reads.merges (omega (arith, few, reads.counts))), total-merged reads.runs)

pub runs-preserved : goal.runs-preserved
runs-preserved c = record {
  reads = rw c.from-counted.ensures (runs_go_on c.in_ok-count.count (vector_at run_at c.args.bytes.now) c.runs.merged c.add.new.merged c.runs.counted c.runs.counter c.runs.rest.now c.in_ok-run.behind.now c.in_ok-run.run' c.runs-test.true c.in_ok-run.ensures.fits c.in_ok-run.ensures.value (λ few. c.in_ok-add.ensures (omega (arith, few, c.from-counted.ensures))) c.runs.invariant.reads);
  inside = omega (arith, c.in_ok-run.ensures.inside);
}
