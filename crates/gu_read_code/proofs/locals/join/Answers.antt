use Rattle.std.proofs.Common.{◌≡◌, ◌∙◌, ◌++◌, ◌∷◌, [], List, ℕ, ap, sym, subst, arith, OnOk}
use Rattle.gu_types.specs.declared.types.ValType.{ValType}
use Rattle.gu_read_code.specs.Entries.{total}
use Rattle.gu_read_code.specs.Runs.{behind_runs}
use Rattle.gu_read_code.proofs.Merging.{total-push, behind_same, behind_other}
use Rattle.gu_read_code.proofs.locals.join.Goals as goal

pub overflow_add-last : goal.overflow_add-last
overflow_add-last c = omega (arith, c.requires, ap total c.in-Some.ensures, total-push c.pop.new.self c.in-Some.last)

pub returns-then-is_same : goal.returns-then-is_same
returns-then-is_same c =
    let P : List (ℕ × ValType) → Type 0 = λ runs. OnOk c.push-then-is_same.result (c.push-then-is_same.new.self ≡ runs) in
    subst P (sym (ap (λ runs. behind_runs runs c.args.run) c.in-Some.ensures ∙ behind_same c.pop.new.self c.in-Some.last c.args.run (sym c.is_same.ensures ∙ c.if-is_same.true))) c.push-then-is_same.ensures.ok

pub returns : goal.returns
returns c =
    let P : List (ℕ × ValType) → Type 0 = λ runs. OnOk c.push-3.result (c.push-3.new.self ≡ runs) in
    subst P (ap (λ runs. runs ++ c.args.run ∷ []) c.in_ok-push.ensures.ok ∙ sym (ap (λ runs. behind_runs runs c.args.run) c.in-Some.ensures ∙ behind_other c.pop.new.self c.in-Some.last c.args.run (sym c.is_same.ensures ∙ c.if-is_same.false))) c.push-3.ensures.ok
