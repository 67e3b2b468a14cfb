-- How types are spelled (core specification 3.0, 5.3 Types).
use Rattle.std.specs.Prelude.{ℕ, ◌≡◌, ◌⊎◌, List, [], ◌∷◌, Bool, true, false, Option, Some, None}
use Rattle.gu_types.specs.declared.types.Abs.{Abs}
use Rattle.gu_types.specs.declared.types.Abs.TheVariants as A
use Rattle.gu_types.specs.declared.types.HeapType.{HeapType}
use Rattle.gu_types.specs.declared.types.HeapType.TheVariants as H
use Rattle.gu_types.specs.declared.types.RefType.{RefType}
use Rattle.gu_types.specs.declared.types.ValType.{ValType}
use Rattle.gu_types.specs.declared.types.ValType.TheVariants as V
use Rattle.gu_types.specs.declared.types.Storage.{Storage}
use Rattle.gu_types.specs.declared.types.Storage.TheVariants as S
use Rattle.gu_types.specs.declared.types.FieldType.{FieldType}
use Rattle.gu_types.specs.declared.types.Comp.{Comp}
use Rattle.gu_types.specs.declared.types.Comp.TheVariants as C
use Rattle.gu_types.specs.declared.types.SubType.{SubType}
use Rattle.gu_types.specs.declared.types.RecGroup.{RecGroup}
use Rattle.gu_syntax.specs.declared.module.Limits.{Limits}
use Rattle.gu_syntax.specs.Parts.{Parts, Begins, SpellsU32, SpellsVector, SpellsS33}

-- the byte of an abstract heap type (heap types)
abbrev pub abs_byte : Abs → ℕ
abs_byte A.NoExn = 0x74
abs_byte A.NoFunc = 0x73
abs_byte A.NoExtern = 0x72
abs_byte A.Bot = 0x71
abs_byte A.AnyFunc = 0x70
abs_byte A.Extern = 0x6F
abs_byte A.Any = 0x6E
abs_byte A.Eq = 0x6D
abs_byte A.I31 = 0x6C
abs_byte A.AnyStruct = 0x6B
abs_byte A.AnyArray = 0x6A
abs_byte A.Exn = 0x69

-- a heap type: an abstract one, or a type index
abbrev pub SpellsHeap : HeapType → List ℕ → Type 0
SpellsHeap (H.Abs kind) text = text ≡ abs_byte kind ∷ []
SpellsHeap (H.Idx index) text = SpellsS33 index text

-- the byte of a reference type before its heap type, by whether null is in it (reference types)
abbrev pub null_byte : Bool → ℕ
null_byte true = 0x63
null_byte false = 0x64

-- a reference type in short: the byte of an abstract heap type alone, which is nullable
abbrev pub SpellsShort : Bool → HeapType → List ℕ → Type 0
SpellsShort true (H.Abs kind) text = text ≡ abs_byte kind ∷ []
SpellsShort _ _ text = ⊥

-- a reference type
abbrev pub SpellsRef : RefType → List ℕ → Type 0
SpellsRef ref text = Begins (null_byte ref.null) (SpellsHeap ref.heap) text ⊎ SpellsShort ref.null ref.heap text

-- a value type
abbrev pub SpellsVal : ValType → List ℕ → Type 0
SpellsVal V.I32 text = text ≡ 0x7F ∷ []
SpellsVal V.I64 text = text ≡ 0x7E ∷ []
SpellsVal (V.Ref ref) text = SpellsRef ref text

-- whether what is declared may be written (5.3, field types and global types)
abbrev pub mutability : Bool → ℕ
mutability false = 0x00
mutability true = 0x01

abbrev pub SpellsMutable : Bool → List ℕ → Type 0
SpellsMutable mutable text = text ≡ mutability mutable ∷ []

-- a storage type (composite types)
abbrev pub SpellsStorage : Storage → List ℕ → Type 0
SpellsStorage (S.Val ty) text = SpellsVal ty text
SpellsStorage S.I8 text = text ≡ 0x78 ∷ []
SpellsStorage S.I16 text = text ≡ 0x77 ∷ []

-- a field type
abbrev pub SpellsField : FieldType → List ℕ → Type 0
SpellsField field text = Parts (SpellsStorage field.storage) (SpellsMutable field.mutable) text

-- a composite type
abbrev pub SpellsComp : Comp → List ℕ → Type 0
SpellsComp (C.Func params results) text = Begins 0x60 (Parts (SpellsVector SpellsVal params) (SpellsVector SpellsVal results)) text
SpellsComp (C.Struct fields) text = Begins 0x5F (SpellsVector SpellsField fields) text
SpellsComp (C.Array field) text = Begins 0x5E (SpellsField field) text

-- the byte of a subtype before its supertypes, by whether it is final (recursive types)
abbrev pub final_byte : Bool → ℕ
final_byte true = 0x4F
final_byte false = 0x50

-- a subtype in short: a bare composite type is final and has no supertype
pub record SpellsBare (ty : SubType) (text : List ℕ) : Type 0 where
  pub is_final : ty.is_final ≡ true
  pub supers : ty.supers ≡ []
  pub comp : SpellsComp ty.comp text

-- a subtype
abbrev pub SpellsSub : SubType → List ℕ → Type 0
SpellsSub ty text = Begins (final_byte ty.is_final) (Parts (SpellsVector SpellsU32 ty.supers) (SpellsComp ty.comp)) text ⊎ SpellsBare ty text

-- a recursion group in short: a bare subtype is a group of one
abbrev pub SpellsOne : List SubType → List ℕ → Type 0
SpellsOne (ty ∷ []) text = SpellsSub ty text
SpellsOne _ text = ⊥

-- a recursion group, which may be empty
abbrev pub SpellsGroup : RecGroup → List ℕ → Type 0
SpellsGroup group text = Begins 0x4E (SpellsVector SpellsSub group.types) text ⊎ SpellsOne group.types text

-- limits, by whether a greatest size is said (limits)
abbrev pub SpellsRange : ℕ → Option ℕ → List ℕ → Type 0
SpellsRange least None text = Begins 0x00 (SpellsU32 least) text
SpellsRange least (Some most) text = Begins 0x01 (Parts (SpellsU32 least) (SpellsU32 most)) text

abbrev pub SpellsLimits : Limits → List ℕ → Type 0
SpellsLimits limits text = SpellsRange limits.least limits.most text
