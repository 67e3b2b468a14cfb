-- What a content says in the facts of a module, and whether two are the same.
use Rattle.std.specs.Prelude.{ℕ, suc, Bool, true, false, ◌&&◌, unwrap_or, find, nat_eq, slice_index_or, slice_index}
use Rattle.std.specs.Bool.{beq}
use Rattle.gu_types.specs.declared.types.HeapType.{HeapType}
use Rattle.gu_types.specs.declared.types.HeapType.TheVariants as H
use Rattle.gu_types.specs.declared.types.TypeList.{TypeList}
use Rattle.gu_types.specs.declared.types.ValType.TheVariants as V
use Rattle.gu_rec.specs.Keys.{run}
use Rattle.gu_rec.specs.Tests.{same_type, eq_heap}
use Rattle.gu_contents.specs.declared.content.Core.{Core}
use Rattle.gu_contents.specs.declared.content.Core.TheVariants.{Bottom, Func, Global, Cone}
use Rattle.gu_contents.specs.declared.content.Content.{Content}
use Rattle.gu_contents.specs.declared.content.Content.TheVariants.{Empty, I32, I64, NumGlobal, Many, Ref, Top}
use Rattle.gu_contents.specs.declared.facts.GlobalFact.{GlobalFact}
use Rattle.gu_contents.specs.declared.facts.Facts.{Facts}

-- the least index of the type with an index: the first, from 0 up to it, that denotes the same type
unfoldable pub least_of : TypeList → ℕ → ℕ
least_of list i = unwrap_or (find (same_type list i list) (run 0 (suc i))) i

-- a heap type by the least index of its type
abbrev pub least_index : TypeList → HeapType → HeapType
least_index list (H.Abs kind) = H.Abs kind
least_index list (H.Idx i) = H.Idx (least_of list i)

-- what facts say of a global that they do not have
abbrev pub no_global : GlobalFact
no_global = record { ty = V.I32; bound = Bottom; value = Empty }

-- what the facts say of the global with an index
abbrev pub global_at : Facts → ℕ → GlobalFact
global_at f g = slice_index_or f.globals g no_global

-- a core that holds every reference that a global can have
unfoldable pub bound : Facts → ℕ → Core
bound f g = (global_at f g).bound

-- what a global holds
unfoldable pub value : Facts → ℕ → Content
value f g = (global_at f g).value

-- the type of the function with an index
unfoldable pub type_of_func : Facts → ℕ → HeapType
type_of_func f g = least_index f.types (H.Idx (slice_index f.funcs g))

-- The cone that stands for a core where it meets another: a function's is that of its type alone, and a global's is its
-- bound
abbrev pub cone_of : Facts → Core → Core
cone_of f (Func g) = Cone (type_of_func f g) 0
cone_of f (Global g) = bound f g
cone_of f core = core

-- references, null among them or not. Where there are none, there is nothing
abbrev pub refs : Bool → Core → Content
refs false Bottom = Empty
refs null core = Ref null core

-- whether two cores are the same. Types are compared by their indices
abbrev pub eq_core : Core → Core → Bool
eq_core Bottom Bottom = true
eq_core (Func f) (Func g) = nat_eq f g
eq_core (Global g) (Global h) = nat_eq g h
eq_core (Cone a d) (Cone b e) = eq_heap a b && nat_eq d e
eq_core _ _ = false

-- whether two contents are the same
abbrev pub eq_content : Content → Content → Bool
eq_content Empty Empty = true
eq_content (I32 v) (I32 w) = nat_eq v w
eq_content (I64 v) (I64 w) = nat_eq v w
eq_content (NumGlobal g) (NumGlobal h) = nat_eq g h
eq_content Many Many = true
eq_content (Ref n c) (Ref m d) = beq n m && eq_core c d
eq_content Top Top = true
eq_content _ _ = false
