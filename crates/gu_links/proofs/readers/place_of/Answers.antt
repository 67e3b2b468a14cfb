use Rattle.std.proofs.Common.{◌≡◌, ◌-◌, ℕ, List, Some, cond, get_or, sym, ap, ◌∙◌, subst, arith}
use Rattle.std.specs.Prelude.{nat_eq, slice_index}
use Rattle.gu_types.specs.Depth.{types_of, depth}
use Rattle.gu_contents.specs.Contents.{least_of}
use Rattle.gu_links.specs.declared.readers.Place.TheVariants as P
use Rattle.gu_links.specs.Listed.{IsPlace}
use Rattle.gu_links.specs.declared.readers.Place.{Place}
use Rattle.gu_links.proofs.Listed.{fixed_within, reads_low, slot_itself, result_high, result_owned, result_itself, result_far, steps_deep, steps_other}
use Rattle.gu_links.proofs.readers.place_of.Goals as goal
use Rattle.gu_links.proofs.readers.place_of.Goals.{then-depth-eq-DEEPEST, else-depth-eq-DEEPEST}

pub returns-then-up-eq0-clause-slots : goal.returns-then-up-eq0-clause-slots
returns-then-up-eq0-clause-slots c ty slot has r =
    ap (λ (p : Place). Some p) c.fixed_place.ensures ∙ slot_itself c.args.f.now c.args.cells.now c.requires.cells ty slot c.args.cell c.args.up r c.if-up-eq0.true

pub returns-then-up-eq0-clause-results : goal.returns-then-up-eq0-clause-results
returns-then-up-eq0-clause-results c links ty r =
    ap (λ (p : Place). Some p) c.fixed_place.ensures ∙ result_itself c.args.f.now c.args.cells.now c.requires.cells links ty c.args.cell c.args.up r c.if-up-eq0.true

pub returns-then-up-eq0-clause-in_range : goal.returns-then-up-eq0-clause-in_range
returns-then-up-eq0-clause-in_range c count room lt =
    subst (IsPlace c.args.f.now count) (sym c.fixed_place.ensures) (fixed_within c.args.f.now c.args.cells.now c.requires.cells count c.args.cell lt)

pub returns-then-cell-cells-clause-results : goal.returns-then-cell-cells-clause-results
returns-then-cell-cells-clause-results c links ty r = absurd (result_high c.args.f.now c.args.cells.now c.requires.cells links ty c.args.cell c.args.up r c.if-cell-cells.true)

pub returns-in_err-function-clause-slots : goal.returns-in_err-function-clause-slots
returns-in_err-function-clause-slots c ty slot has r =
    let low = reads_low c.args.f.now c.args.cells.now c.requires.cells ty slot c.args.cell c.args.up r in
    let past = c.if-cell-cells.false in absurd (omega arith)

pub returns-in_err-function-clause-results : goal.returns-in_err-function-clause-results
returns-in_err-function-clause-results c links ty r =
    let own = result_owned c.args.f.now c.args.cells.now c.requires.cells links ty c.args.cell c.args.up r in
    let none = sym c.in_err-function.was ∙ c.result_owner.ensures.value ∙ own in
    absurd cc

pub returns-in_err-supertype-clause-slots : goal.returns-in_err-supertype-clause-slots
returns-in_err-supertype-clause-slots c ty slot has r =
    let low = reads_low c.args.f.now c.args.cells.now c.requires.cells ty slot c.args.cell c.args.up r in
    let past = c.if-cell-cells.false in absurd (omega arith)

pub returns-in_err-supertype-clause-results : goal.returns-in_err-supertype-clause-results
returns-in_err-supertype-clause-results c links ty r =
    let f = c.args.f.now in
    let own : ℕ = get_or c.as_slice.result.now c.in_ok-function.function 0 in
    let owned = sym c.in_ok-function.was ∙ c.result_owner.ensures.value ∙ result_owned f c.args.cells.now c.requires.cells links ty c.args.cell c.args.up r in
    let same : c.in_ok-function.function ≡ r.of = cc in
    let is : own ≡ slice_index f.funcs r.of = ap (λ (xs : List ℕ). get_or xs c.in_ok-function.function 0) c.as_slice.ensures ∙ ap (λ (g : ℕ). slice_index f.funcs g) same in
    let steps : c.if-depth-eq-DEEPEST.steps ≡ cond (nat_eq (depth (types_of f.types) own) 63) c.args.up (c.args.up - 1) =
    elim c.if-depth-eq-DEEPEST.branch [
      | then-depth-eq-DEEPEST w ↦ steps_deep (depth (types_of f.types) own) c.args.up c.if-depth-eq-DEEPEST.steps (sym c.depth.ensures.value ∙ w.if-depth-eq-DEEPEST.true) w.steps-is
      | else-depth-eq-DEEPEST w ↦ steps_other (depth (types_of f.types) own) c.args.up c.if-depth-eq-DEEPEST.steps (λ e. w.if-depth-eq-DEEPEST.false (c.depth.ensures.value ∙ e)) w.steps-is
    ] in
    let found = c.supertype.ensures.value ty (result_far f c.args.cells.now c.requires.cells links ty c.args.cell c.args.up r own c.if-depth-eq-DEEPEST.steps is steps) in
    let none = sym c.in_err-supertype.was ∙ found in absurd cc

pub returns-clause-slots : goal.returns-clause-slots
returns-clause-slots c ty slot has r =
    let low = reads_low c.args.f.now c.args.cells.now c.requires.cells ty slot c.args.cell c.args.up r in
    let past = c.if-cell-cells.false in absurd (omega arith)

pub returns-clause-results : goal.returns-clause-results
returns-clause-results c links ty r =
    let f = c.args.f.now in
    let own : ℕ = get_or c.as_slice.result.now c.in_ok-function.function 0 in
    let owned = sym c.in_ok-function.was ∙ c.result_owner.ensures.value ∙ result_owned f c.args.cells.now c.requires.cells links ty c.args.cell c.args.up r in
    let same : c.in_ok-function.function ≡ r.of = cc in
    let is : own ≡ slice_index f.funcs r.of = ap (λ (xs : List ℕ). get_or xs c.in_ok-function.function 0) c.as_slice.ensures ∙ ap (λ (g : ℕ). slice_index f.funcs g) same in
    let steps : c.if-depth-eq-DEEPEST.steps ≡ cond (nat_eq (depth (types_of f.types) own) 63) c.args.up (c.args.up - 1) =
    elim c.if-depth-eq-DEEPEST.branch [
      | then-depth-eq-DEEPEST w ↦ steps_deep (depth (types_of f.types) own) c.args.up c.if-depth-eq-DEEPEST.steps (sym c.depth.ensures.value ∙ w.if-depth-eq-DEEPEST.true) w.steps-is
      | else-depth-eq-DEEPEST w ↦ steps_other (depth (types_of f.types) own) c.args.up c.if-depth-eq-DEEPEST.steps (λ e. w.if-depth-eq-DEEPEST.false (c.depth.ensures.value ∙ e)) w.steps-is
    ] in
    let found = c.supertype.ensures.value ty (result_far f c.args.cells.now c.requires.cells links ty c.args.cell c.args.up r own c.if-depth-eq-DEEPEST.steps is steps) in
    let up : c.in_ok-supertype.field-0 ≡ least_of f.types ty = let some = sym c.in_ok-supertype.was ∙ found in cc in
    ap (λ (k : ℕ). Some (P.Type k)) up
