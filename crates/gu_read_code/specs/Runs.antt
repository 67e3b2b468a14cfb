-- Runs of locals that are merged one by one (core specification 3.0, 5.5.13 Code Section).
use Rattle.std.specs.Prelude.{ℕ, ◌+◌, List, [], ◌∷◌, nat_eq, if◌then◌else◌}
use Rattle.gu_types.specs.declared.types.ValType.{ValType}
use Rattle.gu_syntax.specs.Expressions.{same_val}

-- a run that is not empty behind others: it joins the last of one type with it
abbrev pub behind_runs : List (ℕ × ValType) → ℕ × ValType → List (ℕ × ValType)
behind_runs [] run = run ∷ []
behind_runs (last ∷ []) run = if same_val last.1 run.1 then (last.0 + run.0, last.1) ∷ [] else last ∷ run ∷ []
behind_runs (first ∷ next ∷ runs) run = first ∷ behind_runs (next ∷ runs) run

-- the same where the run may be empty
abbrev pub added : List (ℕ × ValType) → ℕ × ValType → List (ℕ × ValType)
added runs run = if nat_eq run.0 0 then runs else behind_runs runs run
