-- Facts on the table of operators that are computed row by row.
use Rattle.std.proofs.Common.{ℕ, zero, suc, ◌+◌, ◌-◌, ◌<◌, ◌≤◌, ◌≡◌, ◌≢◌, Bool, true, false, ◌&&◌, ◌==◌, List, Option, None, Some, option_map, refl, sym, ◌∙◌, ap, subst, inl, inr, arith, length, map, slice_index_or, IfSome, IfNone, rules}
use Rattle.std.proofs.lemmas.Option.{none-some}
use Rattle.std.proofs.lemmas.List.{get_or-map, length-map}
use Rattle.std.specs.List.{position}
use Rattle.std.proofs.lemmas.Bool.{eqb-true, cases_lt}
use Rattle.std.proofs.lemmas.Bool.Decides.{eqb_tells}
use Rattle.std.proofs.lemmas.Grind.{common_steps}
use Rattle.std.proofs.lemmas.List.Quantifiers.{position-Some}
use Rattle.gu_optab.specs.declared.op.NumOp.{NumOp}
use Rattle.gu_optab.specs.declared.op.NumType.TheVariants.{I32}
use Rattle.gu_optab.specs.Laws.{CodesAreDistinct, CodesAreOfRows}
use Rattle.gu_optab.specs.Operators.{Operator, operators, row, row_at, operator_with}

-- the row that has a code
abbrev pub row_with : ℕ → Option ℕ
row_with code = position (λ o. o.code == code) operators

-- whether this is the row n
abbrev is_row : Option ℕ → ℕ → Bool
is_row None n = false
is_row (Some m) n = m == n

is_row-true : (o : Option ℕ) (n : ℕ) → is_row o n ≡ true → o ≡ Some n
is_row-true None n e = cc
is_row-true (Some m) n e = let same : m ≡ n = grind (arith, common_steps) in ap (λ k. Some k) same

-- whether a test holds of each number below n
abbrev every : (ℕ → Bool) → ℕ → Bool
every p zero = true
every p (suc n) = p n && every p n

both : (a b : Bool) → (a && b) ≡ true → (a ≡ true) × (b ≡ true)
both true b e = (refl, e)
both false b e = cc

every_at : (p : ℕ → Bool) (n : ℕ) → every p n ≡ true → (k : ℕ) → k < n → p k ≡ true
every_at p zero e k below = absurd (omega arith)
every_at p (suc n) e k below =
    elim (eqb_tells k n) [
      | inl same ↦ subst (λ i. p i ≡ true) (sym same.1) (both (p n) (every p n) e).0
      | inr other ↦ let apart : k ≢ n = other.1 in every_at p n (both (p n) (every p n) e).1 k (omega arith)
    ]

row_with-code : (n : ℕ) → n < 66 → row_with (row_at n).code ≡ Some n
row_with-code n below = is_row-true _ n (every_at (λ k. is_row (row_with (row_at k).code) k) 66 refl n below)

-- codes that follow one another stand in rows that do
row_with-run : (base first count : ℕ) → every (λ k. is_row (row_with (base + k)) (k + first)) count ≡ true → (code : ℕ) → base ≤ code → code < base + count → row_with code ≡ Some (code - base + first)
row_with-run base first count run code low high =
    let found : row_with (base + (code - base)) ≡ Some (code - base + first) = is_row-true _ _ (every_at (λ k. is_row (row_with (base + k)) (k + first)) count run (code - base) (omega arith)) in
    let same : base + (code - base) ≡ code = omega arith in
    subst (λ c. row_with c ≡ Some (code - base + first)) same found

abbrev is_missing : Option ℕ → Bool
is_missing None = true
is_missing (Some n) = false

is_missing-true : (o : Option ℕ) → is_missing o ≡ true → o ≡ None
is_missing-true None e = refl
is_missing-true (Some n) e = cc

-- codes that follow one another and stand in no row
row_with-gap : (base count : ℕ) → every (λ k. is_missing (row_with (base + k))) count ≡ true → (code : ℕ) → base ≤ code → code < base + count → row_with code ≡ None
row_with-gap base count run code low high =
    let found : row_with (base + (code - base)) ≡ None = is_missing-true _ (every_at (λ k. is_missing (row_with (base + k))) count run (code - base) (omega arith)) in
    let same : base + (code - base) ≡ code = omega arith in
    subst (λ c. row_with c ≡ None) same found

-- the five runs of codes
pub tests : (code : ℕ) → 69 ≤ code → code ≤ 90 → row_with code ≡ Some (code - 69)
tests code low high =
    let found : row_with code ≡ Some (code - 69 + 0) = row_with-run 69 0 22 refl code low (omega arith) in
    let same : code - 69 + 0 ≡ code - 69 = omega arith in
    subst (λ n. row_with code ≡ Some n) same found

pub arithmetic : (code : ℕ) → 103 ≤ code → code ≤ 138 → row_with code ≡ Some (code - 103 + 22)
arithmetic code low high = row_with-run 103 22 36 refl code low (omega arith)

pub widenings : (code : ℕ) → 172 ≤ code → code ≤ 173 → row_with code ≡ Some (code - 172 + 59)
widenings code low high = row_with-run 172 59 2 refl code low (omega arith)

pub extensions : (code : ℕ) → 192 ≤ code → code ≤ 196 → row_with code ≡ Some (code - 192 + 61)
extensions code low high = row_with-run 192 61 5 refl code low (omega arith)

-- the gaps between them
pub before_tests : (code : ℕ) → code < 69 → row_with code ≡ None
before_tests code high = row_with-gap 0 69 refl code (omega arith) (omega arith)

pub before_arithmetic : (code : ℕ) → 90 < code → code < 103 → row_with code ≡ None
before_arithmetic code low high = row_with-gap 91 12 refl code (omega arith) (omega arith)

pub before_widenings : (code : ℕ) → 138 < code → code < 172 → code ≢ 167 → row_with code ≡ None
before_widenings code low high apart = elim (cases_lt code 167) [
  | inl less ↦ row_with-gap 139 28 refl code (omega arith) (omega arith)
  | inr more ↦ row_with-gap 168 4 refl code (omega arith) (omega arith)
]

pub before_extensions : (code : ℕ) → 173 < code → code < 192 → row_with code ≡ None
before_extensions code low high = row_with-gap 174 18 refl code (omega arith) (omega arith)

pub behind_extensions : (code : ℕ) → 196 < code → code < 256 → row_with code ≡ None
behind_extensions code low high = row_with-gap 197 59 refl code (omega arith) (omega arith)

operator_with-row : (code n : ℕ) → row_with code ≡ Some n → operator_with code ≡ Some record { row = n }
operator_with-row code n e = ap (option_map (λ n. let op : NumOp = record { row = n } in op)) e

-- what a code names has that code
pub of_rows : CodesAreOfRows
of_rows code op e =
    elim (row_with code) as (λ o. row_with code ≡ o → option_map (λ n. let op : NumOp = record { row = n } in op) o ≡ Some op → (op.row < 66) × ((row_at op.row).code ≡ code)) [
      | None ↦ λ _ absent. cc
      | Some n ↦ λ found named.
          let there = position-Some (λ o. o.code == code) operators n (row 0 0 I32 I32) found in
          let same : n ≡ op.row = cc in
          let code_of_n : (row_at n).code ≡ code = eqb-true _ _ there.1 in
          subst (λ m. (m < 66) × ((row_at m).code ≡ code)) same (there.0, code_of_n)
    ] refl e

pub distinct : CodesAreDistinct
distinct op below = operator_with-row _ op.row (row_with-code op.row below)

-- rows as the program holds them
pub row_at-rows : {R : Type 0} (read : R → Operator) (rows : List R) (i j : ℕ) (d : R) → map read rows ≡ operators → j ≡ i → i < 66 → read (slice_index_or rows j d) ≡ row_at i
row_at-rows read rows i j d same at below =
    let long : length rows ≡ 66 = sym (length-map rows read) ∙ ap length same in
    let there : j < length rows = omega arith in
    sym (get_or-map read rows j d (row 0 0 I32 I32) there) ∙ ap (λ xs. slice_index_or xs j (row 0 0 I32 I32)) same ∙ ap row_at at

-- what the answer for a code says
pub found : (code : ℕ) (o : Option NumOp) → o ≡ operator_with code → IfSome o (λ op. (op.row < 66) × ((row_at op.row).code ≡ code))
found code None e = search rules
found code (Some op) e = of_rows code op (sym e)

pub missing : (code : ℕ) (o : Option NumOp) → o ≡ operator_with code → IfNone o ((n : ℕ) → n < 66 → (row_at n).code ≢ code)
missing code None e = λ n below same. let there : operator_with code ≡ Some record { row = n } = subst (λ c. operator_with c ≡ Some record { row = n }) same (distinct record { row = n } below) in none-some _ (e ∙ there)
missing code (Some op) e = search rules
