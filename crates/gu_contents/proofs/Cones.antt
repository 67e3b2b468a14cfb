-- Cones of the facts of a module.
use Rattle.std.proofs.Common.{◌≡◌, ℕ, ◌≤◌, get_or, Option, Some, None, unwrap_or, refl, ap, sym, ◌∙◌, subst, arith}
use Rattle.gu_types.specs.declared.types.HeapType.{HeapType}
use Rattle.gu_types.specs.declared.types.HeapType.TheVariants as H
use Rattle.gu_rec.specs.Sub.{distance, height, IsNoBottom}
use Rattle.gu_contents.specs.declared.content.Core.{Core}
use Rattle.gu_contents.specs.declared.content.Core.TheVariants.{Bottom, Func, Global, Cone}
use Rattle.gu_contents.specs.declared.facts.Facts.{Facts}
use Rattle.gu_contents.specs.Contents.{bound, type_of_func, cone_of, least_index}
use Rattle.gu_contents.specs.Join.{edges}
use Rattle.gu_contents.specs.Order.{reaches, cone_at_most}
use Rattle.gu_contents.specs.Whole.{whole_under, whole}
use Rattle.gu_contents.specs.Belongs.{IsCone, IsFunc, IsBounded, CoreBelongs}
use Rattle.gu_contents.proofs.Heaps.{above_named}
use Rattle.gu_contents.proofs.Heights.{IsHead, distance_few, height_few, least_heap, least_in_range, least_name}

pub is_head : (f : Facts) (head : HeapType) (depth : ℕ) → IsCone f head depth → IsHead f.types head
is_head f head depth c = record { is_heap = c.is_heap; no_bottom = c.no_bottom }

pub cone_few : (f : Facts) (head : HeapType) (depth : ℕ) → IsCone f head depth → depth ≤ 66
cone_few f head depth c = let h = height_few f.types f.hold f.shallow head in let l = c.capped in omega arith

pub edges_few : (f : Facts) (above below : HeapType) (k : ℕ) → distance f.types above below ≡ Some k → k ≤ 66
edges_few f above below k e = distance_few f.types f.hold f.shallow above below k e

pub edges_small : (f : Facts) (above below : HeapType) → edges f.types above below ≤ 66
edges_small f above below = by_distance (distance f.types above below) refl
  where
    by_distance : (o : Option ℕ) → distance f.types above below ≡ o → unwrap_or o 0 ≤ 66
    by_distance None e = omega arith
    by_distance (Some k) e = edges_few f above below k e

-- the cone of a function's type alone
pub func_cone : (f : Facts) (g : ℕ) → IsFunc f g → IsCone f (type_of_func f g) 0
unfolding type_of_func
func_cone f g h = record {
  is_heap = least_in_range f.types (H.Idx (get_or f.funcs g 0)) h.type_is;
  no_bottom = refl;
  least = least_heap f.types (H.Idx (get_or f.funcs g 0));
  capped = omega arith;
}

pub bound_belongs : (f : Facts) (g : ℕ) → IsBounded f g → CoreBelongs f (bound f g)
bound_belongs f g h = subst (CoreBelongs f) (sym h.bound_is) h.is_cone

pub cone_belongs : (f : Facts) (core : Core) → CoreBelongs f core → CoreBelongs f (cone_of f core)
cone_belongs f Bottom h = h
cone_belongs f (Func g) h = func_cone f g h
cone_belongs f (Global g) h = bound_belongs f g h
cone_belongs f (Cone head depth) h = h

-- whether a cone lies in the whole cone of a heap type goes by the distance to its head
pub within_is : (f : Facts) (head to : HeapType) (depth : ℕ) → IsNoBottom to → cone_at_most f (Cone head depth) (whole f to) ≡ reaches (distance f.types to head) depth (height f.types to)
within_is f head to depth e =
    ap (λ o. cone_at_most f (Cone head depth) (whole_under f to o)) e
    ∙ ap (λ o. reaches o depth (height f.types to)) (above_named f.types f.hold (least_index f.types to) to head (least_name f.types to))
