-- Indices of the same type have as many slots.
use Rattle.std.proofs.Common.{◌≡◌, ◌∙◌, ℕ, zero, suc, List, [], ◌∷◌, ◌++◌, map, length, get_or, Option, Some, None, refl, sym, ap, ap₂}
use Rattle.std.specs.Prelude.{slice_get}
use Rattle.std.proofs.lemmas.List.{length-map, map-append, append-nil}
use Rattle.std.proofs.Common.{append_assoc}
use Rattle.gu_types.specs.declared.types.SubType.{SubType}
use Rattle.gu_types.specs.declared.types.RecGroup.{RecGroup}
use Rattle.gu_types.specs.declared.types.TypeList.{TypeList}
use Rattle.gu_types.specs.declared.types.Comp.{Comp}
use Rattle.gu_types.specs.declared.types.Comp.TheVariants as C
use Rattle.gu_types.specs.Depth.{types_in, types_of}
use Rattle.gu_rec.specs.Names.{rename_comp, rename_field, blank, names}
use Rattle.gu_rec.specs.Closed.{ClosedGroup, done, entry, References, Closed, close_names, close_group, close_types, close_on, positions, closed_types, closed_type, SameType}
use Rattle.gu_contents.specs.Contents.{least_of}
use Rattle.gu_contents.proofs.Heights.{least_same}
use Rattle.gu_links.specs.Cells.{comp_slots, count_of, slots_of}

-- how many slots the values of a closed type have
abbrev slots_in : ClosedGroup → ℕ → ℕ
slots_in done k = 0
slots_in (entry ty refs group) zero = comp_slots ty.comp
slots_in (entry ty refs group) (suc k) = slots_in group k

abbrev closed_slots : Closed → ℕ
closed_slots c = slots_in c.group c.position

abbrev type_slots : SubType → ℕ
type_slots ty = comp_slots ty.comp

abbrev found_slots : Option Closed → ℕ
found_slots None = 0
found_slots (Some c) = closed_slots c

comp_renamed : (f : ℕ → ℕ) (comp : Comp) → comp_slots (rename_comp f comp) ≡ comp_slots comp
comp_renamed f (C.Func params results) = refl
comp_renamed f (C.Struct fields) = length-map fields (rename_field f)
comp_renamed f (C.Array field) = refl

-- the types of a group behind its first are those of the rest
behind : (ty : SubType) (refs : References) (group : ClosedGroup) (first count : ℕ) → map closed_slots (positions (entry ty refs group) (suc first) count) ≡ map closed_slots (positions group first count)
behind ty refs group first zero = refl
behind ty refs group first (suc count) = ap (λ (ns : List ℕ). slots_in group first ∷ ns) (behind ty refs group (suc first) count)

group_slots : (E : List Closed) (types : List SubType) → map closed_slots (close_types E types) ≡ map type_slots types
group_slots E [] = refl
group_slots E (ty ∷ types) =
    ap₂ (λ (n : ℕ) (ns : List ℕ). n ∷ ns) (comp_renamed (λ _. zero) ty.comp)
    (behind (blank ty) (close_names E (names ty)) (close_group E types) zero (length types) ∙ group_slots E types)

on_slots : (E : List Closed) (T : List SubType) (groups : List RecGroup) → map closed_slots E ≡ map type_slots T → map closed_slots (close_on E groups) ≡ map type_slots (T ++ types_in groups)
on_slots E T [] e = e ∙ ap (map type_slots) (sym (append-nil T))
on_slots E T (group ∷ groups) e =
    on_slots (E ++ close_types E group.types) (T ++ group.types) groups
    (map-append closed_slots E (close_types E group.types) ∙ ap₂ (λ (xs ys : List ℕ). xs ++ ys) e (group_slots E group.types) ∙ sym (map-append type_slots T group.types))
    ∙ ap (map type_slots) (append_assoc T group.types (types_in groups))

found_at : (E : List Closed) (k : ℕ) → found_slots (slice_get E k) ≡ get_or (map closed_slots E) k 0
found_at [] k = refl
found_at (c ∷ E) zero = refl
found_at (c ∷ E) (suc k) = found_at E k

type_at : (T : List SubType) (k : ℕ) → count_of comp_slots (slice_get T k) ≡ get_or (map type_slots T) k 0
type_at [] k = refl
type_at (ty ∷ T) zero = refl
type_at (ty ∷ T) (suc k) = type_at T k

slots_are : (list : TypeList) (i : ℕ) → found_slots (closed_type list i) ≡ slots_of list i
unfolding closed_type closed_types
slots_are list i = found_at (close_on [] list.groups) i ∙ ap (λ (ns : List ℕ). get_or ns i 0) (on_slots [] [] list.groups refl) ∙ sym (type_at (types_of list) i)

same_slots : (list : TypeList) (i j : ℕ) → SameType list i list j → slots_of list i ≡ slots_of list j
unfolding SameType
same_slots list i j s = sym (slots_are list i) ∙ ap found_slots s ∙ slots_are list j

pub least_slots : (list : TypeList) (i : ℕ) → slots_of list (least_of list i) ≡ slots_of list i
least_slots list i = sym (same_slots list i (least_of list i) (least_same list i))
