use Rattle.std.proofs.Common.{◌≡◌, ℕ, List, IfSome, sym, subst}
use Rattle.wasm_gufa.proofs.Causes.{is_early, blames_told}
use Rattle.wasm_gufa.proofs.top.taken.Goals as goal

pub returns-clause-err : goal.returns-clause-err
returns-clause-err g c =
    blames_told (g.R.Source.left c.args.input.now) c.as_slice.result.now c.accepted.result
    (subst (λ (items : List ℕ). IfSome (g.R.Source.left c.args.input.now) (λ xs. items ≡ xs)) (sym c.as_slice.ensures.value) c.in_ok-bytes.ensures.whole)
    c.accepted.ensures.err

pub returns-clause-early : goal.returns-clause-early
returns-clause-early g c = is_early _ c.accepted.result c.accepted.ensures.err
