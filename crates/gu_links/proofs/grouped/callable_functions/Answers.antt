use Rattle.std.proofs.Common.{◌≡◌, ◌++◌, ◌∷◌, [], ℕ, List, false, get_or, map, rules, ap, sym, ◌∙◌}
use Rattle.std.specs.List.{filter}
use Rattle.gu_rec.specs.Keys.{run}
use Rattle.std.specs.Prelude.{slice_index_or}
use Rattle.gu_links.specs.declared.grouped.Typed.{Typed}
use Rattle.gu_links.specs.Listing.{of_type}
use Rattle.gu_links.proofs.Walks.{kept_run, unkept_run}
use Rattle.gu_links.proofs.grouped.callable_functions.Goals as goal
use Rattle.gu_links.proofs.grouped.callable_functions.Goals.{then-callable-place+in_ok-push, else-callable-place}

pub functions-preserved : goal.functions-preserved
functions-preserved c = elim c.if-callable-place.branch [
  | then-callable-place+in_ok-push w ↦
      w.items-is ∙ w.in_ok-push.ensures.ok
      ∙ ap (λ (xs : List Typed). xs ++ (let t : Typed = record { item = c.in-Ok.item; ty = get_or c.args.funcs.now c.functions.place 0 } in t) ∷ []) c.functions.invariant
      ∙ ap (λ (n : ℕ). map (of_type c.args.funcs.now) (filter (λ (g : ℕ). slice_index_or c.args.callable.now g false) (run 0 c.functions.place)) ++ (let t : Typed = record { item = n; ty = get_or c.args.funcs.now c.functions.place 0 } in t) ∷ []) (let e : c.in-Ok.item ≡ c.functions.place = search rules in e)
      ∙ sym (kept_run (of_type c.args.funcs.now) (λ (g : ℕ). slice_index_or c.args.callable.now g false) c.functions.place w.if-callable-place.true)
  | else-callable-place w ↦
      w.items-is ∙ c.functions.invariant
      ∙ sym (unkept_run (of_type c.args.funcs.now) (λ (g : ℕ). slice_index_or c.args.callable.now g false) c.functions.place w.if-callable-place.false)
]
