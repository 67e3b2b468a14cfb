-- What the never-wrong law asks of the types of a module.
use Rattle.std.proofs.Common.{ℕ, true, List, [], ◌∷◌, Some, None, ◌≡◌, slice_get}
use Rattle.gu_types.specs.declared.types.Abs.{Abs}
use Rattle.gu_types.specs.declared.types.FieldType.{FieldType}
use Rattle.gu_types.specs.declared.types.HeapType.{HeapType}
use Rattle.gu_types.specs.declared.types.HeapType.TheVariants as H
use Rattle.gu_types.specs.declared.types.SubType.{SubType}
use Rattle.gu_types.specs.declared.types.TypeList.{TypeList}
use Rattle.gu_types.specs.Depth.{types_of}
use Rattle.gu_rec.specs.Sub.{is_sub, kind_of, top_over}
use Rattle.gu_rec.specs.Tests.{same_type}
use Rattle.gu_rec.specs.Validity.{is_sub_storage}
use Rattle.gu_model.specs.Index.{FuncType, func_type, struct_type, array_type}
use Rattle.gu_model.specs.TypingContext.{matches}

-- a field below another: what is stored in it may be read as the other, and where that may be written, written as it
pub record FieldUnder (list : TypeList) (g f : FieldType) : Type 0 where
  pub reads : is_sub_storage list g.storage f.storage ≡ true
  pub writes : f.mutable ≡ true → is_sub_storage list f.storage g.storage ≡ true

-- the fields of a structure below those of another
abbrev pub FieldsUnder : TypeList → List FieldType → List FieldType → Type 0
FieldsUnder list gs [] = Unit {0}
FieldsUnder list [] (f ∷ fs) = ⊥
FieldsUnder list (g ∷ gs) (f ∷ fs) = FieldUnder list g f × FieldsUnder list gs fs

pub record StructUnder (list : TypeList) (y : ℕ) (fs : List FieldType) : Type 0 where
  pub fields : List FieldType
  pub found : struct_type list y ≡ Some fields
  pub under : FieldsUnder list fields fs

pub record ArrayUnder (list : TypeList) (y : ℕ) (f : FieldType) : Type 0 where
  pub field : FieldType
  pub found : array_type list y ≡ Some field
  pub under : FieldUnder list field f

pub record FuncUnder (list : TypeList) (y : ℕ) (f : FuncType) : Type 0 where
  pub type : FuncType
  pub found : func_type list y ≡ Some type
  pub params : matches list f.params type.params ≡ true
  pub results : matches list type.results f.results ≡ true

-- subtyping is an order that keeps to the kinds of types, and what is below a type has its parts
pub record GoodTypes (list : TypeList) : Type 0 where
  pub itself : (a : HeapType) → is_sub list a a ≡ true
  pub through : (a b c : HeapType) → is_sub list a b ≡ true → is_sub list b c ≡ true → is_sub list a c ≡ true
  pub same : (i j : ℕ) → same_type list i list j ≡ true → is_sub list (H.Idx i) (H.Idx j) ≡ true
  pub structs : (y x : ℕ) (fs : List FieldType) → is_sub list (H.Idx y) (H.Idx x) ≡ true → struct_type list x ≡ Some fs → StructUnder list y fs
  pub arrays : (y x : ℕ) (f : FieldType) → is_sub list (H.Idx y) (H.Idx x) ≡ true → array_type list x ≡ Some f → ArrayUnder list y f
  pub funcs : (y x : ℕ) (f : FuncType) → is_sub list (H.Idx y) (H.Idx x) ≡ true → func_type list x ≡ Some f → FuncUnder list y f
  -- a type of the module is below an abstract one just where its kind is
  pub roots : (y : ℕ) (ty : SubType) (k : Abs) → slice_get (types_of list) y ≡ Some ty → is_sub list (H.Idx y) (H.Abs k) ≡ true → is_sub list (H.Abs (kind_of ty.comp)) (H.Abs k) ≡ true
  -- no abstract type but a bottom is below a type of the module
  pub abstract : (k : Abs) (x : ℕ) → top_over (H.Abs k) ≡ None → is_sub list (H.Abs k) (H.Idx x) ≡ true → ⊥
