-- Which contents belong to the facts of a module, and to a list of 64-bit literals.
use Rattle.std.specs.Prelude.{ℕ, ◌<◌, ◌≤◌, ◌≡◌, Bool, false, List, length, Contains, slice_index}
use Rattle.gu_types.specs.declared.types.HeapType.{HeapType}
use Rattle.gu_types.specs.Depth.{types_of}
use Rattle.gu_rec.specs.Sub.{IsHeapOf, IsNoBottom, IsLeastIndex, height}
use Rattle.gu_contents.specs.declared.content.Core.{Core}
use Rattle.gu_contents.specs.declared.content.Core.TheVariants.{Bottom, Func, Global, Cone}
use Rattle.gu_contents.specs.declared.content.Content.{Content}
use Rattle.gu_contents.specs.declared.content.Content.TheVariants.{I64, NumGlobal, Ref}
use Rattle.gu_contents.specs.declared.facts.Facts.{Facts}
use Rattle.gu_contents.specs.Contents.{bound}

-- a cone of the module's types: its head is no bottom, stands at its least index, and has as many edges below it as the
-- cone is deep
pub record IsCone (f : Facts) (head : HeapType) (depth : ℕ) : Type 0 where
  pub is_heap : IsHeapOf f.types head
  pub no_bottom : IsNoBottom head
  pub least : IsLeastIndex f.types head
  pub capped : depth ≤ height f.types head

-- a function of the module, whose type is one of the module's
pub record IsFunc (f : Facts) (g : ℕ) : Type 0 where
  pub is_func : g < length f.funcs
  pub type_is : slice_index f.funcs g < length (types_of f.types)

-- a global of the module, whose bound is a cone of the module's types
pub record IsBounded (f : Facts) (g : ℕ) : Type 0 where
  pub is_global : g < length f.globals
  pub head : HeapType
  pub depth : ℕ
  pub bound_is : bound f g ≡ Cone head depth
  pub is_cone : IsCone f head depth

-- a core is one of the facts
abbrev pub CoreBelongs : Facts → Core → Type 0
CoreBelongs f Bottom = Unit {0}
CoreBelongs f (Func g) = IsFunc f g
CoreBelongs f (Global g) = IsBounded f g
CoreBelongs f (Cone head depth) = IsCone f head depth

-- references that are none do not occur
abbrev pub Occurs : Bool → Core → Type 0
Occurs false Bottom = ⊥
Occurs null core = Unit {0}

-- a content belongs to the facts
abbrev pub Belongs : Facts → Content → Type 0
Belongs f (NumGlobal g) = g < length f.globals
Belongs f (Ref n c) = Occurs n c × CoreBelongs f c
Belongs f a = Unit {0}

-- a 64-bit literal is in the list
abbrev pub IsListed : List ℕ → Content → Type 0
IsListed longs (I64 v) = Contains longs v
IsListed longs a = Unit {0}

-- a cone is no deeper than a height of types can be
abbrev pub IsShallowCore : Core → Type 0
IsShallowCore (Cone head depth) = depth ≤ 66
IsShallowCore core = Unit {0}

abbrev pub IsShallow : Content → Type 0
IsShallow (Ref n c) = IsShallowCore c
IsShallow a = Unit {0}
