use Rattle.std.proofs.Common.{◌≡◌, ◌<◌, ℕ, List, Some, false, length, subst, sym, ap, ap₂, ◌∙◌}
use Rattle.std.specs.Prelude.{All, slice_index_or}
use Rattle.std.specs.List.{list_any}
use Rattle.gu_types.specs.Depth.{types_of}
use Rattle.gu_links.specs.Over.{names}
use Rattle.gu_links.specs.declared.grouped.Typed.{Typed}
use Rattle.gu_links.specs.Listing.{listed, callable_functions}
use Rattle.gu_links.proofs.Below.{types_listed, types_fit, functions_listed, functions_fit}
use Rattle.gu_links.proofs.index.Below.new.Goals as goal

pub callable_flags-requires : goal.callable_flags-requires
callable_flags-requires c g e = subst (λ (xs : List ℕ). g < length xs) (sym c.as_slice-funcs.ensures) (c.requires.named g e).is_func

pub listed_below-requires-clause-items : goal.listed_below-requires-clause-items
listed_below-requires-clause-items c =
    subst (λ (xs : List Typed). All (λ (entry : Typed). entry.ty < length (types_of c.args.f.now.types)) xs) (sym (c.as_slice-2.ensures ∙ c.in_ok-least.ensures)) (types_fit c.args.f.now)

pub listed_below-requires-2-clause-items : goal.listed_below-requires-2-clause-items
listed_below-requires-2-clause-items c =
    let f = c.args.f.now in
    let marked : (g : ℕ) → g < length f.funcs → slice_index_or c.in_ok-callable.callable.items g false ≡ list_any (names g) c.args.links.now =
    λ g lt. c.in_ok-callable.ensures.named g (subst (λ (xs : List ℕ). g < length xs) (sym c.as_slice-funcs.ensures) lt) in
    subst (λ (xs : List Typed). All (λ (entry : Typed). entry.ty < length (types_of c.args.f.now.types)) xs)
    (sym (c.as_slice-3.ensures ∙ c.in_ok-functions.ensures ∙ ap₂ callable_functions c.as_slice-funcs.ensures c.as_slice.ensures.value))
    (functions_fit f c.args.links.now c.in_ok-callable.callable.items marked c.requires.named)

pub returns : goal.returns
returns c =
    let f = c.args.f.now in
    let marked : (g : ℕ) → g < length f.funcs → slice_index_or c.in_ok-callable.callable.items g false ≡ list_any (names g) c.args.links.now =
    λ g lt. c.in_ok-callable.ensures.named g (subst (λ (xs : List ℕ). g < length xs) (sym c.as_slice-funcs.ensures) lt) in
    record {
      types_are = λ h lt least. c.in_ok-listed_below.ensures h lt least ∙ ap Some (ap (listed f h) (c.as_slice-2.ensures ∙ c.in_ok-least.ensures) ∙ types_listed f h);
      functions_are = λ h lt least.
          c.in_ok-listed_below-2.ensures h lt least
          ∙ ap Some (ap (listed f h) (c.as_slice-3.ensures ∙ c.in_ok-functions.ensures ∙ ap₂ callable_functions c.as_slice-funcs.ensures c.as_slice.ensures.value) ∙ functions_listed f c.args.links.now c.in_ok-callable.callable.items marked h);
      callable_long = c.in_ok-callable.ensures.long ∙ ap length c.as_slice-funcs.ensures;
      callable_are = marked;
    }
