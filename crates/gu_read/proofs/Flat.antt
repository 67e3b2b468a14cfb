-- The types of the first groups of a list.
use Rattle.std.proofs.Common.{ℕ, ◌+◌, ◌<◌, ◌≡◌, refl, ap, ◌∙◌, sym, List, [], ◌∷◌, ◌++◌, append_assoc, length, take, get_or}
use Rattle.std.proofs.lemmas.List.{take_more, append-nil}
use Rattle.gu_types.specs.declared.types.RecGroup.{RecGroup}
use Rattle.gu_types.specs.Depth.{types_in}

types_append : (gs hs : List RecGroup) → types_in (gs ++ hs) ≡ types_in gs ++ types_in hs
types_append [] hs = refl
types_append (g ∷ gs) hs = ap (λ l. g.types ++ l) (types_append gs hs) ∙ sym (append_assoc g.types (types_in gs) (types_in hs))

pub types_next : (gs : List RecGroup) (i : ℕ) (g : RecGroup) → i < length gs → g ≡ get_or gs i g → types_in (take (i + 1) gs) ≡ types_in (take i gs) ++ g.types
types_next gs i g h e = ap types_in (take_more gs i g h ∙ ap (λ x. take i gs ++ x ∷ []) (sym e)) ∙ (types_append (take i gs) (g ∷ []) ∙ ap (λ l. types_in (take i gs) ++ l) (append-nil g.types))
