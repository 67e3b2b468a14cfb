use Rattle.std.proofs.Common.{◌∙◌, ◌≡◌, ◌+◌, ◌++◌, ◌∷◌, [], ℕ, List, length, get_or, map, ap, ap₂, sym, arith, rules}
use Rattle.std.specs.Prelude.{replicate, slice_get}
use Rattle.std.proofs.lemmas.List.{length-append, length-replicate}
use Rattle.gu_types.specs.Depth.{types_of}
use Rattle.gu_rec.specs.Keys.{run}
use Rattle.gu_links.specs.Cells.{before_func, params_of, results_of, count_of, comp_params, comp_results, own_slots, slots_before}
use Rattle.gu_links.specs.Index.{owned, own_places}
use Rattle.gu_links.proofs.Owning.{mapped_next, owned_long, functions_long, places_next, cells_are}
use Rattle.gu_links.proofs.index.Cells.new.Goals as goal

pub functions-preserved : goal.functions-preserved
functions-preserved c =
    let f = c.args.f.now in
    let g : ℕ = c.functions.place in
    let named : c.in-Ok.function ≡ g = search rules in
    let funcs = c.as_slice-funcs.ensures in
    let params : c.params_of.result ≡ params_of f g = c.params_of.ensures ∙ ap (λ (xs : List ℕ). count_of comp_params (slice_get (types_of f.types) (get_or xs g 0))) funcs in
    let results : c.results_of.result ≡ results_of f g = c.results_of.ensures ∙ ap (λ (xs : List ℕ). count_of comp_results (slice_get (types_of f.types) (get_or xs g 0))) funcs in
    let before : List ℕ = owned (own_slots f.types) (length (types_of f.types)) in
    let first : length c.functions.owners.items ≡ before_func f g = ap length c.functions.invariant.owners ∙ functions_long f g in
    let passed : c.own.new.owners.items ≡ (before ++ owned (own_places f) g) ++ replicate (params_of f g) g =
    c.in_ok-own.ensures
    ∙ ap₂ (λ (xs : List ℕ) (n : ℕ). xs ++ replicate n c.in-Ok.function) c.functions.invariant.owners params
    ∙ ap (λ (k : ℕ). (before ++ owned (own_places f) g) ++ replicate (params_of f g) k) named in
    let second : length c.own.new.owners.items ≡ before_func f g + params_of f g =
    ap length passed ∙ length-append (before ++ owned (own_places f) g) (replicate (params_of f g) g)
    ∙ ap₂ (λ (m n : ℕ). m + n) (functions_long f g) (length-replicate (params_of f g) g) in
    let first_long : c.len.result ≡ length c.functions.owners.items = search rules in
    let second_long : c.len-in-functions.result ≡ length c.own.new.owners.items = search rules in
    record {
      params =
          c.in_ok-push.ensures.items
          ∙ ap₂ (λ (xs : List ℕ) (n : ℕ). xs ++ n ∷ []) c.functions.invariant.params (first_long ∙ first)
          ∙ sym (mapped_next (before_func f) g);
      results =
          c.in_ok-push-2.ensures.items
          ∙ ap₂ (λ (xs : List ℕ) (n : ℕ). xs ++ n ∷ []) c.functions.invariant.results (second_long ∙ second)
          ∙ sym (mapped_next (λ k. before_func f k + params_of f k) g);
      owners =
          c.in_ok-own-2.ensures
          ∙ ap₂ (λ (xs : List ℕ) (n : ℕ). xs ++ replicate n c.in-Ok.function) passed results
          ∙ ap (λ (k : ℕ). ((before ++ owned (own_places f) g) ++ replicate (params_of f g) g) ++ replicate (results_of f g) k) named
          ∙ places_next f before g;
    }

pub returns : goal.returns
returns c =
    let f = c.args.f.now in
    let all : c.functions.place ≡ length f.funcs = omega (arith, ap length c.as_slice-funcs.ensures) in
    let long : c.len-slot_cells.result ≡ length c.in_ok-slots.slots.owners.items = search rules in
    cells_are f _
    (c.in_ok-slots.ensures.starts ∙ ap (λ (n : ℕ). map (slots_before f) (run 0 n)) c.requires)
    (c.functions.invariant.params ∙ ap (λ (n : ℕ). map (before_func f) (run 0 n)) all)
    (c.functions.invariant.results ∙ ap (λ (n : ℕ). map (λ g. before_func f g + params_of f g) (run 0 n)) all)
    (c.functions.invariant.owners ∙ ap (λ (n : ℕ). owned (own_slots f.types) (length (types_of f.types)) ++ owned (own_places f) n) all)
    (long ∙ ap length c.in_ok-slots.ensures.owners ∙ owned_long (own_slots f.types) c.args.types ∙ ap (slots_before f) c.requires)
