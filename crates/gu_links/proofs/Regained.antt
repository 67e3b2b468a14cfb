-- A `System` keeps that it is one as a mere fact, since what belongs to a system is told by cases. All that the fact tells
-- is determined, so here it is had again as it was given to `System::new`.
use Rattle.std.proofs.Common.{◌≡◌, ◌∙◌, ℕ, Bool, true, false, Option, Some, None, List, get_or, refl, sym, subst}
use Rattle.std.specs.Prelude.{Contains}
use Rattle.std.specs.List.{list_any}
use Rattle.std.specs.Coded.{le_prop, Unit-prop, Π_prop}
use mathlib.Core.Logic.{∥∥₁_elim, ∥∥₁_map}
use mathlib.Core.Bool.{Bool-set}
use Rattle.gu_types.specs.declared.types.HeapType.{HeapType}
use Rattle.gu_types.specs.declared.types.HeapType.TheVariants as H
use Rattle.gu_types.specs.declared.types.TypeList.{TypeList}
use Rattle.gu_rec.specs.Sub.{IsHeapOf, IsLeastIndex, top_over}
use Rattle.gu_contents.specs.declared.content.Core.{Core}
use Rattle.gu_contents.specs.declared.content.Core.TheVariants.{Bottom, Func, Global, Cone}
use Rattle.gu_contents.specs.declared.content.Content.{Content}
use Rattle.gu_contents.specs.declared.content.Content.TheVariants.{I64, NumGlobal, Ref}
use Rattle.gu_contents.specs.declared.facts.Facts.{Facts}
use Rattle.gu_contents.specs.Contents.{bound}
use Rattle.gu_contents.specs.Belongs.{IsCone, IsFunc, IsBounded, CoreBelongs, Occurs, Belongs, IsListed}
use Rattle.gu_links.specs.declared.link.Link.{Link}
use Rattle.gu_links.specs.declared.link.Link.TheVariants as L
use Rattle.gu_links.specs.declared.system.System.{System}
use Rattle.gu_links.specs.Over.{names}
use Rattle.gu_links.specs.Kept.{has}
use Rattle.gu_links.specs.Solutions.{IsOf, Fits, IsSystem}
use Rattle.gu_links.proofs.Distinct.{has_from, from_has}
use Rattle.gu_links.proofs.Ways.{named_fits}

heap_prop : (list : TypeList) (heap : HeapType) → IsProp (IsHeapOf list heap)
heap_prop list (H.Abs kind) = Unit-prop
heap_prop list (H.Idx i) = le_prop

least_prop : (list : TypeList) (heap : HeapType) → IsProp (IsLeastIndex list heap)
least_prop list (H.Abs kind) = Unit-prop
least_prop list (H.Idx i) = Π_prop (λ j. Π_prop (λ s. le_prop))

occurs_prop : (null : Bool) (core : Core) → IsProp (Occurs null core)
occurs_prop false Bottom = λ x y. absurd x
occurs_prop _ _ = Unit-prop

func_prop : (f : Facts) (g : ℕ) → IsProp (IsFunc f g)
func_prop f g = hlevel le_prop

none_had : {A : Type 0} (o : Option A) → ∥ o ≡ None ∥₁ → o ≡ None
none_had None h = refl
none_had (Some x) h = absurd (∥∥₁_elim h (λ a b. absurd a) (λ e. cc))

cone_had : (f : Facts) (head : HeapType) (depth : ℕ) → ∥ IsCone f head depth ∥₁ → IsCone f head depth
cone_had f head depth h = record {
  is_heap = ∥∥₁_elim h (heap_prop f.types head) (λ cone. cone.is_heap);
  no_bottom = none_had (top_over head) (∥∥₁_map h (λ cone. cone.no_bottom));
  least = ∥∥₁_elim h (least_prop f.types head) (λ cone. cone.least);
  capped = ∥∥₁_elim h le_prop (λ cone. cone.capped);
}

-- the bound of a global is a cone in one way
bounded_by : (f : Facts) (g : ℕ) (core : Core) → bound f g ≡ core → ∥ IsBounded f g ∥₁ → IsBounded f g
bounded_by f g (Cone head depth) e h = record {
  is_global = ∥∥₁_elim h le_prop (λ b. b.is_global);
  head = head;
  depth = depth;
  bound_is = e;
  is_cone = cone_had f head depth (∥∥₁_map h (λ b. subst (CoreBelongs f) (sym b.bound_is ∙ e) b.is_cone));
}
bounded_by f g Bottom e h = absurd (∥∥₁_elim h (λ a b. absurd a) (λ b. let bad : Bottom ≡ Cone b.head b.depth = sym e ∙ b.bound_is in cc))
bounded_by f g (Func other) e h = absurd (∥∥₁_elim h (λ a b. absurd a) (λ b. let bad : Func other ≡ Cone b.head b.depth = sym e ∙ b.bound_is in cc))
bounded_by f g (Global other) e h = absurd (∥∥₁_elim h (λ a b. absurd a) (λ b. let bad : Global other ≡ Cone b.head b.depth = sym e ∙ b.bound_is in cc))

core_had : (f : Facts) (core : Core) → ∥ CoreBelongs f core ∥₁ → CoreBelongs f core
core_had f Bottom h = tt
core_had f (Func g) h = ∥∥₁_elim h (func_prop f g) (λ func. func)
core_had f (Global g) h = bounded_by f g (bound f g) refl h
core_had f (Cone head depth) h = cone_had f head depth h

belongs_had : (f : Facts) (a : Content) → ∥ Belongs f a ∥₁ → Belongs f a
belongs_had f (NumGlobal g) h = ∥∥₁_elim h le_prop (λ lt. lt)
belongs_had f (Ref null core) h = (∥∥₁_elim h (occurs_prop null core) (λ p. p.0), core_had f core (∥∥₁_map h (λ p. p.1)))
belongs_had f _ h = tt

contained_had : (xs : List ℕ) (x : ℕ) → ∥ Contains xs x ∥₁ → Contains xs x
contained_had xs x h = from_has xs x (∥∥₁_elim h (Bool-set (has xs x) true) (has_from xs x))

listed_had : (longs : List ℕ) (a : Content) → ∥ IsListed longs a ∥₁ → IsListed longs a
listed_had longs (I64 v) h = contained_had longs v h
listed_had longs _ h = tt

content_had : (f : Facts) (longs : List ℕ) (a : Content) → ∥ IsOf f longs a ∥₁ → IsOf f longs a
content_had f longs a h = record {
  belongs = belongs_had f a (∥∥₁_map h (λ of. of.belongs));
  listed = listed_had longs a (∥∥₁_map h (λ of. of.listed));
}

fits_had : (f : Facts) (longs : List ℕ) (count : ℕ) (link : Link) → ∥ Fits f longs count link ∥₁ → Fits f longs count link
fits_had f longs count (L.Root give to) h = (content_had f longs give (∥∥₁_map h (λ p. p.0)), ∥∥₁_elim h le_prop (λ p. p.1))
fits_had f longs count (L.SlotFill object ty slot give) h = (∥∥₁_elim h le_prop (λ p. p.0), content_had f longs give (∥∥₁_map h (λ p. p.1)), ∥∥₁_elim h le_prop (λ p. p.2))
fits_had f longs count (L.Filter from by to) h = ∥∥₁_elim h (hlevel (le_prop, heap_prop)) (λ p. p)
fits_had f longs count (L.Minus from by to) h = ∥∥₁_elim h (hlevel (le_prop, heap_prop)) (λ p. p)
fits_had f longs count (L.Test from by to) h = ∥∥₁_elim h (hlevel (le_prop, heap_prop)) (λ p. p)
fits_had f longs count (L.Callable function) h = ∥∥₁_elim h (func_prop f function) (λ p. p)
fits_had f longs count _ h = ∥∥₁_elim h (hlevel le_prop) (λ p. p)

-- links that merely are a system are one
pub system_had : (f : Facts) (longs : List ℕ) (count : ℕ) (links : List Link) → ∥ IsSystem f longs count links ∥₁ → IsSystem f longs count links
system_had f longs count links h = record {
  room = ∥∥₁_elim h le_prop (λ system. system.room);
  fit = λ k d lt. fits_had f longs count (get_or links k d) (∥∥₁_map h (λ system. system.fit k d lt));
}

pub is_system : (s : System) → IsSystem s.facts.now s.longs s.cells s.links
is_system s = system_had s.facts.now s.longs s.cells s.links s.system

-- the functions that the links of a system name are functions of its facts
pub is_named : (s : System) (g : ℕ) → list_any (names g) s.links ≡ true → IsFunc s.facts.now g
is_named s = named_fits s.facts.now s.longs s.cells s.links (is_system s)
