-- Subtyping between heap types (core specification 3.0, 3.3 Matching), and how far two types stand apart.
use Rattle.std.specs.Prelude.{ℕ, zero, suc, ◌+◌, ◌<◌, ◌≤◌, ◌≡◌, Bool, true, false, not, ◌&&◌, ◌||◌, List, [], ◌∷◌, ◌++◌, Option, Some, None, map, fold, max, length, slice_get, take, position, unwrap_or}
use Rattle.std.specs.List.{list_any}
use Rattle.gu_types.specs.declared.types.Abs.{Abs}
use Rattle.gu_types.specs.declared.types.Abs.TheVariants as A
use Rattle.gu_types.specs.declared.types.HeapType.{HeapType}
use Rattle.gu_types.specs.declared.types.HeapType.TheVariants as H
use Rattle.gu_types.specs.declared.types.RefType.{RefType}
use Rattle.gu_types.specs.declared.types.ValType.{ValType}
use Rattle.gu_types.specs.declared.types.ValType.TheVariants as V
use Rattle.gu_types.specs.declared.types.Comp.{Comp}
use Rattle.gu_types.specs.declared.types.Comp.TheVariants as C
use Rattle.gu_types.specs.declared.types.SubType.{SubType}
use Rattle.gu_types.specs.declared.types.RecGroup.{RecGroup}
use Rattle.gu_types.specs.declared.types.TypeList.{TypeList}
use Rattle.gu_types.specs.Depth.{types_in, types_of, parent}
use Rattle.gu_rec.specs.Closed.{SameType}
use Rattle.gu_rec.specs.Tests.{eq_abs, same_type}

-- the abstract heap type above the concrete types of a kind
abbrev pub kind_of : Comp → Abs
kind_of (C.Func params results) = A.AnyFunc
kind_of (C.Struct fields) = A.AnyStruct
kind_of (C.Array field) = A.AnyArray

-- a type declares another as its supertype
pub record Declares (list : TypeList) (i j : ℕ) : Type 0 where
  pub type : SubType
  pub found : slice_get (types_of list) i ≡ Some type
  pub among : (k : ℕ) × (slice_get type.supers k ≡ Some j)

-- a type without declared supertype, of a kind
pub record IsRootOf (list : TypeList) (i : ℕ) (kind : Abs) : Type 0 where
  pub type : SubType
  pub found : slice_get (types_of list) i ≡ Some type
  pub alone : type.supers ≡ []
  pub kind_is : kind_of type.comp ≡ kind

-- One abstract heap type stands directly above another. There are four trees: `any` over `eq` over `i31`, `struct` and
-- `array`; `func`; `extern`; `exn`
pub data StandsAbove : Abs → Abs → Type 0 where
  eq_any : StandsAbove A.Any A.Eq
  i31_eq : StandsAbove A.Eq A.I31
  struct_eq : StandsAbove A.Eq A.AnyStruct
  array_eq : StandsAbove A.Eq A.AnyArray

-- the bottom of a tree, and the tree's top
pub data IsBottomUnder : Abs → Abs → Type 0 where
  none_any : IsBottomUnder A.Any A.Bot
  nofunc_func : IsBottomUnder A.AnyFunc A.NoFunc
  noextern_extern : IsBottomUnder A.Extern A.NoExtern
  noexn_exn : IsBottomUnder A.Exn A.NoExn

-- The first heap type is a subtype of the second, in the types of a module: the least relation that has every type
-- below itself, the same type and its declared supertypes, a concrete type without supertype below the abstract type of
-- its kind, the abstract types below one another as they stand in their trees, the bottom of a tree below all that is
-- below the tree's top, and that goes on from one to the next
pub data IsSub (list : TypeList) : HeapType → HeapType → Type 0 where
  itself : (a : HeapType) → IsSub list a a
  onward : (a b c : HeapType) → IsSub list a b → IsSub list b c → IsSub list a c
  same : (i j : ℕ) → SameType list i list j → IsSub list (H.Idx i) (H.Idx j)
  declared : (i j : ℕ) → Declares list i j → IsSub list (H.Idx i) (H.Idx j)
  root : (i : ℕ) (kind : Abs) → IsRootOf list i kind → IsSub list (H.Idx i) (H.Abs kind)
  tree : (above below : Abs) → StandsAbove above below → IsSub list (H.Abs below) (H.Abs above)
  bottom : (top under : Abs) (a : HeapType) → IsBottomUnder top under → IsSub list a (H.Abs top) → IsSub list (H.Abs under) a

-- two heap types are the same: the same abstract type, or indices of one type
abbrev pub SameHeap : TypeList → HeapType → HeapType → Type 0
SameHeap list (H.Abs a) (H.Abs b) = a ≡ b
SameHeap list (H.Idx i) (H.Idx j) = SameType list i list j
SameHeap list _ _ = ⊥

-- whether two heap types are the same
abbrev pub same_heap : TypeList → HeapType → HeapType → Bool
same_heap list (H.Abs a) (H.Abs b) = eq_abs a b
same_heap list (H.Idx i) (H.Idx j) = same_type list i list j
same_heap list _ _ = false

-- An abstract heap type and those that stand above it, one after another. A bottom stands alone here
abbrev pub abs_line : Abs → List Abs
abs_line A.Eq = A.Eq ∷ A.Any ∷ []
abs_line A.I31 = A.I31 ∷ A.Eq ∷ A.Any ∷ []
abs_line A.AnyStruct = A.AnyStruct ∷ A.Eq ∷ A.Any ∷ []
abs_line A.AnyArray = A.AnyArray ∷ A.Eq ∷ A.Any ∷ []
abs_line kind = kind ∷ []

-- what stands above a type without declared supertype
abbrev pub root_line : Option SubType → List HeapType
root_line None = []
root_line (Some ty) = map H.Abs (abs_line (kind_of ty.comp))

abbrev pub next_line : (ℕ → List HeapType) → List HeapType → Option ℕ → List HeapType
next_line line roots None = roots
next_line line roots (Some super) = line super

-- A type and the heap types above it, one after another: its declared supertypes, of which at most so many are taken,
-- then what stands above the last one's kind
abbrev pub line_within : ℕ → List SubType → ℕ → List HeapType
line_within zero types i = H.Idx i ∷ root_line (slice_get types i)
line_within (suc most) types i = H.Idx i ∷ next_line (line_within most types) (root_line (slice_get types i)) (parent types i)

-- A heap type and those above it, one after another. As many declared supertypes are taken as a type's index says, since
-- each has a smaller index (a supertype that has not, which no valid type declares, ends the line as none does)
unfoldable pub line : TypeList → HeapType → List HeapType
line list (H.Abs kind) = map H.Abs (abs_line kind)
line list (H.Idx i) = line_within i (types_of list) i

-- the top of the tree that has an abstract heap type as its bottom, if any has
abbrev pub top_over : HeapType → Option Abs
top_over (H.Abs A.Bot) = Some A.Any
top_over (H.Abs A.NoFunc) = Some A.AnyFunc
top_over (H.Abs A.NoExtern) = Some A.Extern
top_over (H.Abs A.NoExn) = Some A.Exn
top_over _ = None

abbrev pub is_sub_under : TypeList → Option Abs → HeapType → HeapType → Bool
is_sub_under list None a b = list_any (same_heap list b) (line list a)
is_sub_under list (Some top) a b = same_heap list b a || list_any (same_heap list (H.Abs top)) (line list b)

-- Whether the first heap type is a subtype of the second: it is a bottom, and the other is the same or stands below the
-- tree's top, or the other stands on its line. It is true exactly where `IsSub` holds (`decisions_are_exact`)
unfoldable pub is_sub : TypeList → HeapType → HeapType → Bool
is_sub list a b = is_sub_under list (top_over a) a b

-- whether the first reference type is a subtype of the second (3.3, reference types)
abbrev pub is_sub_ref : TypeList → RefType → RefType → Bool
is_sub_ref list a b = (not a.null || b.null) && is_sub list a.heap b.heap

-- whether the first value type is a subtype of the second (3.3, value types)
abbrev pub is_sub_val : TypeList → ValType → ValType → Bool
is_sub_val list V.I32 V.I32 = true
is_sub_val list V.I64 V.I64 = true
is_sub_val list (V.Ref a) (V.Ref b) = is_sub_ref list a b
is_sub_val list _ _ = false

-- a heap type that is the bottom of no tree
abbrev pub IsNoBottom : HeapType → Type 0
IsNoBottom a = top_over a ≡ None

-- How many edges lead from the first heap type down to the second, bottoms left out: the place of the first on the
-- second's line. None where it does not stand there
unfoldable pub distance : TypeList → HeapType → HeapType → Option ℕ
distance list above below = position (same_heap list above) (line list below)

abbrev pub indices : ℕ → ℕ → List HeapType
indices first zero = []
indices first (suc count) = H.Idx first ∷ indices (suc first) count

-- the heap types that are no bottoms: the abstract ones and the types of a module
abbrev pub heaps : TypeList → List HeapType
heaps list = map H.Abs (A.Any ∷ A.Eq ∷ A.I31 ∷ A.AnyStruct ∷ A.AnyArray ∷ A.AnyFunc ∷ A.Extern ∷ A.Exn ∷ []) ++ indices 0 (length (types_of list))

-- the greatest distance from a heap type down to one of these that stands below it
unfoldable pub height : TypeList → HeapType → ℕ
height list above = fold max 0 (map (λ below. unwrap_or (distance list above below) 0) (heaps list))

-- an index that is the least of its type
abbrev pub IsLeastIndex : TypeList → HeapType → Type 0
IsLeastIndex list (H.Abs kind) = Unit {0}
IsLeastIndex list (H.Idx i) = (j : ℕ) → SameType list i list j → i ≤ j

-- the least common supertype of two heap types, by the least index of its type
pub record IsLeastCommon (list : TypeList) (a b common : HeapType) : Type 0 where
  pub above_first : IsSub list a common
  pub above_second : IsSub list b common
  pub least : (other : HeapType) → IsSub list a other → IsSub list b other → IsSub list common other
  pub least_index : IsLeastIndex list common

-- two heap types have no common supertype
abbrev pub HaveNoCommon : TypeList → HeapType → HeapType → Type 0
HaveNoCommon list a b = (other : HeapType) → IsSub list a other → IsSub list b other → ⊥

-- a heap type of a module: abstract, or the index of one of its types
abbrev pub IsHeapOf : TypeList → HeapType → Type 0
IsHeapOf list (H.Abs kind) = Unit {0}
IsHeapOf list (H.Idx i) = i < length (types_of list)

-- a value type of a module: its heap type, if any, is one
abbrev pub IsValOf : TypeList → ValType → Type 0
IsValOf list V.I32 = Unit {0}
IsValOf list V.I64 = Unit {0}
IsValOf list (V.Ref ref) = IsHeapOf list ref.heap

-- a type stands at a position of a group
pub record StandsAt (list : TypeList) (i group position : ℕ) : Type 0 where
  pub its_group : RecGroup
  pub type : SubType
  pub group_is : slice_get list.groups group ≡ Some its_group
  pub found : slice_get its_group.types position ≡ Some type
  pub is : slice_get (types_of list) i ≡ Some type
  pub counted : i ≡ length (types_in (take group list.groups)) + position
