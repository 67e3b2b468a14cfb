-- Values, stores and the types of values (core specification 3.0, 4.2 Runtime Structure and 4.5 Values).
use Rattle.std.specs.Prelude.{ℕ, ◌^◌, Bool, true, false, cond, List, [], ◌∷◌, ◌++◌, length, replicate, Option, Some, None, option_map, slice_get, nat_lt, nat_eq}
use Rattle.gu_types.specs.declared.types.Abs.TheVariants as A
use Rattle.gu_types.specs.declared.types.HeapType.{HeapType}
use Rattle.gu_types.specs.declared.types.HeapType.TheVariants as H
use Rattle.gu_types.specs.declared.types.RefType.{RefType}
use Rattle.gu_types.specs.declared.types.ValType.{ValType}
use Rattle.gu_types.specs.declared.types.ValType.TheVariants as V
use Rattle.gu_rec.specs.Sub.{is_sub}
use Rattle.gu_model.specs.Outline.{Outline}

-- a value (4.2, Values). An address is the number of allocations of its kind that were made before
pub data Value : Type 0 where
  -- numbers below 2^32, 2^64 and 2^31
  i32 : ℕ → Value
  i64 : ℕ → Value
  null : Value
  i31 : ℕ → Value
  struct : (address : ℕ) → Value
  array : (address : ℕ) → Value
  exception : (address : ℕ) → Value
  function : (index : ℕ) → Value
  -- what the embedder made, as an internal value and as an external one
  host : (number : ℕ) → Value
  host_external : (number : ℕ) → Value
  -- the external form of an internal value
  external : Value → Value

-- a structure with its fields, or an array with its elements, in order, and the index of its type (4.2, Structure
-- Instances, Array Instances). Packed values are i32 of the low bits
pub record Object : Type 0 where
  pub type : ℕ
  pub values : List Value

-- which tag a tag is, wherever it is named: one that the module defines, by its number among the defined ones, or one
-- of the embedder's (4.2, Tag Instances)
pub data Identity : Type 0 where
  own : (number : ℕ) → Identity
  foreign : (number : ℕ) → Identity

-- an exception, with its arguments in order (4.2, Exception Instances)
pub record Exception : Type 0 where
  pub tag : Identity
  pub arguments : List Value

-- what all functions share (4.2, Store). The value of a global stands at its index in one of two lists: that of an
-- immutable one in `constants`, which nothing writes once the module is instantiated, and that of a mutable one in
-- `variables`. The other list has None there
pub record Store : Type 0 where
  pub constants : List (Option Value)
  pub variables : List (Option Value)
  pub tables : List (List Value)
  -- by bytes
  pub memories : List (List ℕ)
  pub tags : List Identity
  pub elems : List (List Value)
  pub datas : List (List ℕ)
  -- by address
  pub structs : List Object
  pub arrays : List Object
  pub exceptions : List Exception

-- what was allocated, by address: the types of the structures and of the arrays, and how many exceptions
pub record Allocated : Type 0 where
  pub structs : List ℕ
  pub arrays : List ℕ
  pub exceptions : ℕ

-- the types of objects, in order
abbrev pub kinds : List Object → List ℕ
kinds [] = []
kinds (x ∷ xs) = x.type ∷ kinds xs

abbrev pub allocated : Store → Allocated
allocated st = record { structs = kinds st.structs; arrays = kinds st.arrays; exceptions = length st.exceptions }

module _ (o : Outline) where
  -- whether a heap type that there may be is below another
  abbrev pub is_under : HeapType → Option HeapType → Bool
  is_under h None = false
  is_under h (Some g) = is_sub o.types g h

  -- what a reference leads to, where it leads to anything that is there (4.5, reference typing). An external form is
  -- one of an internal value
  abbrev pub heap_type : Allocated → Value → Option HeapType
  heap_type al (i31 n) = cond (nat_lt n (2 ^ 31)) (Some (H.Abs A.I31)) None
  heap_type al (struct a) = option_map H.Idx (slice_get al.structs a)
  heap_type al (array a) = option_map H.Idx (slice_get al.arrays a)
  heap_type al (exception a) = cond (nat_lt a al.exceptions) (Some (H.Abs A.Exn)) None
  heap_type al (function f) = option_map H.Idx (slice_get o.funcs f)
  heap_type al (host n) = Some (H.Abs A.Any)
  heap_type al (host_external n) = Some (H.Abs A.Extern)
  heap_type al (external v) = cond (is_under (H.Abs A.Any) (heap_type al v)) (Some (H.Abs A.Extern)) None
  heap_type al _ = None

  -- whether a value has a reference type (4.5, reference typing)
  abbrev pub fits_ref : Allocated → RefType → Value → Bool
  fits_ref al r null = r.null
  fits_ref al r v = is_under r.heap (heap_type al v)

  -- whether a value has a type (4.5, value typing)
  abbrev pub fits : Allocated → ValType → Value → Bool
  fits al V.I32 (i32 n) = nat_lt n (2 ^ 32)
  fits al V.I64 (i64 n) = nat_lt n (2 ^ 64)
  fits al (V.Ref r) v = fits_ref al r v
  fits al _ _ = false

-- what a place of a type holds before it is set, where the type has a default (4.2, default values)
abbrev pub default : ValType → Option Value
default V.I32 = Some (i32 0)
default V.I64 = Some (i64 0)
default (V.Ref r) = cond r.null (Some null) None

-- what declared locals hold at first
abbrev pub defaults : List (ℕ × ValType) → List (Option Value)
defaults [] = []
defaults (run ∷ runs) = replicate run.0 (default run.1) ++ defaults runs

-- whether two references are the same (4.6 Instructions, ref.eq)
abbrev pub is_same : Value → Value → Bool
is_same null null = true
is_same (i31 a) (i31 b) = nat_eq a b
is_same (struct a) (struct b) = nat_eq a b
is_same (array a) (array b) = nat_eq a b
is_same (exception a) (exception b) = nat_eq a b
is_same (function a) (function b) = nat_eq a b
is_same (host a) (host b) = nat_eq a b
is_same _ _ = false

-- whether two tags are the same
abbrev pub is_same_tag : Identity → Identity → Bool
is_same_tag (own a) (own b) = nat_eq a b
is_same_tag (foreign a) (foreign b) = nat_eq a b
is_same_tag _ _ = false
