-- References, structures, arrays, unboxed numbers, casts and external forms: each instruction by its rule (core
-- specification 3.0, 4.6 Instructions, Reference Instructions and Aggregate Instructions). Operands stand with the last
-- first.
use Rattle.std.specs.Prelude.{ℕ, zero, suc, ◌+◌, ◌*◌, ◌%◌, ◌^◌, Bool, true, false, cond, ◌&&◌, List, [], ◌∷◌, ◌++◌, map, length, take, drop, reverse, replicate, Option, Some, None, option_and_then, slice_get, slice_set, nat_lt}
use Rattle.std.specs.Int.{w8, w16, w32}
use Rattle.gu_types.specs.declared.types.Abs.{Abs}
use Rattle.gu_types.specs.declared.types.Abs.TheVariants as A
use Rattle.gu_types.specs.declared.types.FieldType.{FieldType}
use Rattle.gu_types.specs.declared.types.HeapType.TheVariants as H
use Rattle.gu_types.specs.declared.types.RefType.{RefType}
use Rattle.gu_types.specs.declared.types.Storage.{Storage}
use Rattle.gu_types.specs.declared.types.Storage.TheVariants as S
use Rattle.gu_types.specs.declared.types.ValType.TheVariants as V
use Rattle.gu_rec.specs.Sub.{is_sub}
use Rattle.gu_num.specs.Numeric.{extend_s, flag}
use Rattle.gu_model.specs.Index.{struct_type, array_type}
use Rattle.gu_model.specs.Outline.{Outline}
use Rattle.gu_model.specs.TypingContext.{top_of}
use Rattle.gu_model.specs.Value.{Value, i32, i64, null, i31, struct, array, function, host, host_external, external, Object, Store, allocated, fits_ref, default, is_same}
use Rattle.gu_model.specs.Did.{Did, goes, traps, fails, Rule, need, within, part, put, with_struct, with_array}
use Rattle.gu_model.specs.Numbers.{from_bytes}

-- references

-- whether a value is a reference, null or not
abbrev pub is_reference : Value → Bool
is_reference (i32 n) = false
is_reference (i64 n) = false
is_reference _ = true

-- ref.null ht
abbrev pub ref_null : Rule
ref_null ls st [] = goes (null ∷ []) ls st
ref_null ls st _ = fails

-- ref.func x
abbrev pub ref_func : Outline → (func : ℕ) → Rule
ref_func o f ls st [] = need (slice_get o.funcs f) (λ t. goes (function f ∷ []) ls st)
ref_func o f ls st _ = fails

-- ref.is_null
abbrev pub is_null : Value → Bool
is_null null = true
is_null _ = false

abbrev pub ref_is_null : Rule
ref_is_null ls st (v ∷ []) = cond (is_reference v) (goes (i32 (flag (is_null v)) ∷ []) ls st) fails
ref_is_null ls st _ = fails

-- ref.as_non_null
abbrev pub ref_as_non_null : Rule
ref_as_non_null ls st (null ∷ []) = traps
ref_as_non_null ls st (v ∷ []) = cond (is_reference v) (goes (v ∷ []) ls st) fails
ref_as_non_null ls st _ = fails

-- any reference to a value that can be compared, null too
abbrev pub eq_ref : RefType
eq_ref = record { null = true; heap = H.Abs A.Eq }

-- ref.eq
abbrev pub ref_eq : Outline → Rule
ref_eq o ls st (w ∷ v ∷ []) = cond (fits_ref o (allocated st) eq_ref v && fits_ref o (allocated st) eq_ref w) (goes (i32 (flag (is_same v w)) ∷ []) ls st) fails
ref_eq o ls st _ = fails

-- whether a reference is of the tree of a type, or null
abbrev pub fits_top : Outline → Option Abs → Store → Value → Bool
fits_top o None st v = false
fits_top o (Some top) st v = fits_ref o (allocated st) (record { null = true; heap = H.Abs top }) v

abbrev pub is_in_tree : Outline → RefType → Store → Value → Bool
is_in_tree o r st v = fits_top o (top_of o.types r.heap) st v

-- ref.test rt
abbrev pub ref_test : Outline → RefType → Rule
ref_test o r ls st (v ∷ []) = cond (is_in_tree o r st v) (goes (i32 (flag (fits_ref o (allocated st) r v)) ∷ []) ls st) fails
ref_test o r ls st _ = fails

-- ref.cast rt
abbrev pub ref_cast : Outline → RefType → Rule
ref_cast o r ls st (v ∷ []) = cond (is_in_tree o r st v) (cond (fits_ref o (allocated st) r v) (goes (v ∷ []) ls st) traps) fails
ref_cast o r ls st _ = fails

-- unboxed numbers

-- ref.i31
abbrev pub ref_i31 : Rule
ref_i31 ls st (i32 n ∷ []) = goes (i31 (n % 2 ^ 31) ∷ []) ls st
ref_i31 ls st _ = fails

-- a number of 31 bits as a signed one, modulo 2^32
abbrev pub signed_31 : ℕ → ℕ
signed_31 n = cond (nat_lt n (2 ^ 30)) n (n + 2 ^ 31)

-- i31.get_s and i31.get_u
abbrev pub i31_get : (read : ℕ → ℕ) → Rule
i31_get read ls st (null ∷ []) = traps
i31_get read ls st (i31 n ∷ []) = goes (i32 (read n) ∷ []) ls st
i31_get read ls st _ = fails

-- external forms

-- the internal form of an external reference, and the external form of an internal one
abbrev pub internal_form : Value → Option Value
internal_form null = Some null
internal_form (host_external n) = Some (host n)
internal_form (external v) = Some v
internal_form _ = None

abbrev pub external_form : Value → Option Value
external_form null = Some null
external_form (host n) = Some (host_external n)
external_form (i31 n) = Some (external (i31 n))
external_form (struct a) = Some (external (struct a))
external_form (array a) = Some (external (array a))
external_form _ = None

-- any.convert_extern and extern.convert_any
abbrev pub any_convert_extern : Rule
any_convert_extern ls st (v ∷ []) = need (internal_form v) (λ w. goes (w ∷ []) ls st)
any_convert_extern ls st _ = fails

abbrev pub extern_convert_any : Rule
extern_convert_any ls st (v ∷ []) = need (external_form v) (λ w. goes (w ∷ []) ls st)
extern_convert_any ls st _ = fails

-- fields and elements

-- a value as it is stored (packfield): of a packed one the low bits stay
abbrev pub packed : Storage → Value → Option Value
packed (S.Val t) v = Some v
packed S.I8 (i32 n) = Some (i32 (n % 2 ^ 8))
packed S.I16 (i32 n) = Some (i32 (n % 2 ^ 16))
packed _ _ = None

-- how what is stored is read: a value as it is, or packed bits as a signed or an unsigned number
pub data Reading : Type 0 where
  whole : Reading
  signed : Reading
  unsigned : Reading

-- what is read of a stored value (unpackfield)
abbrev pub unpacked : Reading → Storage → Value → Option Value
unpacked whole (S.Val t) v = Some v
unpacked signed S.I8 (i32 n) = Some (i32 (extend_s w8 w32 n))
unpacked signed S.I16 (i32 n) = Some (i32 (extend_s w16 w32 n))
unpacked unsigned S.I8 (i32 n) = Some (i32 n)
unpacked unsigned S.I16 (i32 n) = Some (i32 n)
unpacked _ _ _ = None

-- what a field or an element holds at first, where it has a default
abbrev pub default_of : Storage → Option Value
default_of (S.Val t) = default t
default_of _ = Some (i32 0)

-- all of a list, where each is there
abbrev pub joined : {X : Type 0} → Option X → Option (List X) → Option (List X)
joined (Some x) (Some xs) = Some (x ∷ xs)
joined _ _ = None

abbrev pub all_there : {X : Type 0} → List (Option X) → Option (List X)
all_there [] = Some []
all_there (x ∷ xs) = joined x (all_there xs)

-- values as they are stored in fields, and the defaults of fields
abbrev pub packed_all : List FieldType → List Value → Option (List Value)
packed_all [] [] = Some []
packed_all (f ∷ fs) (v ∷ vs) = joined (packed f.storage v) (packed_all fs vs)
packed_all _ _ = None

abbrev pub defaults_of : List FieldType → Option (List Value)
defaults_of [] = Some []
defaults_of (f ∷ fs) = joined (default_of f.storage) (defaults_of fs)

-- structures

-- a new structure, behind those that there are
abbrev pub new_struct : (type : ℕ) → List Value → List (Option Value) → Store → Did
new_struct x vs ls st = goes (struct (length st.structs) ∷ []) ls (record st { structs = st.structs ++ record { type = x; values = vs } ∷ [] })

-- an object whose type is below another
abbrev pub object_below : Outline → (type : ℕ) → Option Object → Option Object
object_below o x None = None
object_below o x (Some u) = cond (is_sub o.types (H.Idx u.type) (H.Idx x)) (Some u) None

-- a field of the structure type with an index
abbrev pub field_at : Outline → (type field : ℕ) → Option FieldType
field_at o x i = option_and_then (λ fs. slice_get fs i) (struct_type o.types x)

-- struct.new x
abbrev pub struct_new : Outline → (type : ℕ) → Rule
struct_new o x ls st vs = need (struct_type o.types x) (λ fs. need (packed_all fs (reverse vs)) (λ ws. new_struct x ws ls st))

-- struct.new_default x
abbrev pub struct_new_default : Outline → (type : ℕ) → Rule
struct_new_default o x ls st [] = need (struct_type o.types x) (λ fs. need (defaults_of fs) (λ ws. new_struct x ws ls st))
struct_new_default o x ls st _ = fails

-- struct.get x i, struct.get_s x i and struct.get_u x i
abbrev pub struct_get : Outline → (type field : ℕ) → Reading → Rule
struct_get o x i r ls st (null ∷ []) = traps
struct_get o x i r ls st (struct a ∷ []) = need (object_below o x (slice_get st.structs a)) (λ u. need (slice_get u.values i) (λ v. need (field_at o x i) (λ f. need (unpacked r f.storage v) (λ w. goes (w ∷ []) ls st))))
struct_get o x i r ls st _ = fails

-- struct.set x i
abbrev pub struct_set : Outline → (type field : ℕ) → Rule
struct_set o x i ls st (v ∷ null ∷ []) = traps
struct_set o x i ls st (v ∷ struct a ∷ []) = need (object_below o x (slice_get st.structs a)) (λ u. need (field_at o x i) (λ f. need (packed f.storage v) (λ w. goes [] ls (with_struct st a u.type (slice_set u.values i w)))))
struct_set o x i ls st _ = fails

-- arrays

-- a new array, behind those that there are
abbrev pub new_array : (type : ℕ) → List Value → List (Option Value) → Store → Did
new_array x vs ls st = goes (array (length st.arrays) ∷ []) ls (record st { arrays = st.arrays ++ record { type = x; values = vs } ∷ [] })

-- array.new x
abbrev pub array_new : Outline → (type : ℕ) → Rule
array_new o x ls st (i32 n ∷ v ∷ []) = need (array_type o.types x) (λ f. need (packed f.storage v) (λ w. new_array x (replicate n w) ls st))
array_new o x ls st _ = fails

-- array.new_default x
abbrev pub array_new_default : Outline → (type : ℕ) → Rule
array_new_default o x ls st (i32 n ∷ []) = need (array_type o.types x) (λ f. need (default_of f.storage) (λ w. new_array x (replicate n w) ls st))
array_new_default o x ls st _ = fails

-- array.new_fixed x n
abbrev pub array_new_fixed : Outline → (type : ℕ) → Rule
array_new_fixed o x ls st vs = need (array_type o.types x) (λ f. need (all_there (map (packed f.storage) (reverse vs))) (λ ws. new_array x ws ls st))

-- how many bytes an element of a data segment takes, and what it is, where it is a number or packed
abbrev pub width_of : Storage → Option ℕ
width_of S.I8 = Some 1
width_of S.I16 = Some 2
width_of (S.Val V.I32) = Some 4
width_of (S.Val V.I64) = Some 8
width_of (S.Val (V.Ref r)) = None

abbrev pub from_data : Storage → List ℕ → Value
from_data (S.Val V.I64) bs = i64 (from_bytes bs)
from_data _ bs = i32 (from_bytes bs)

-- so many elements from the front of bytes
abbrev pub all_from_data : Storage → (width count : ℕ) → List ℕ → List Value
all_from_data s w zero bs = []
all_from_data s w (suc n) bs = from_data s (take w bs) ∷ all_from_data s w n (drop w bs)

-- array.new_data x y
abbrev pub array_new_data : Outline → (type segment : ℕ) → Rule
array_new_data o x y ls st (i32 n ∷ i32 s ∷ []) = need (array_type o.types x) (λ f. need (width_of f.storage) (λ w. need (slice_get st.datas y) (λ bytes. within (part s (n * w) bytes) (λ bs. new_array x (all_from_data f.storage w n bs) ls st))))
array_new_data o x y ls st _ = fails

-- array.new_elem x y
abbrev pub array_new_elem : Outline → (type segment : ℕ) → Rule
array_new_elem o x y ls st (i32 n ∷ i32 s ∷ []) = need (array_type o.types x) (λ f. need (slice_get st.elems y) (λ items. within (part s n items) (λ vs. new_array x vs ls st)))
array_new_elem o x y ls st _ = fails

-- array.get x, array.get_s x and array.get_u x
abbrev pub array_get : Outline → (type : ℕ) → Reading → Rule
array_get o x r ls st (i32 i ∷ null ∷ []) = traps
array_get o x r ls st (i32 i ∷ array a ∷ []) = need (object_below o x (slice_get st.arrays a)) (λ u. need (array_type o.types x) (λ f. within (slice_get u.values i) (λ v. need (unpacked r f.storage v) (λ w. goes (w ∷ []) ls st))))
array_get o x r ls st _ = fails

-- array.set x
abbrev pub array_set : Outline → (type : ℕ) → Rule
array_set o x ls st (v ∷ i32 i ∷ null ∷ []) = traps
array_set o x ls st (v ∷ i32 i ∷ array a ∷ []) = need (object_below o x (slice_get st.arrays a)) (λ u. need (array_type o.types x) (λ f. need (packed f.storage v) (λ w. within (put i (w ∷ []) u.values) (λ new. goes [] ls (with_array st a u.type new)))))
array_set o x ls st _ = fails

-- array.len
abbrev pub array_len : Rule
array_len ls st (null ∷ []) = traps
array_len ls st (array a ∷ []) = need (slice_get st.arrays a) (λ u. goes (i32 (length u.values) ∷ []) ls st)
array_len ls st _ = fails

-- array.fill x
abbrev pub array_fill : Outline → (type : ℕ) → Rule
array_fill o x ls st (i32 n ∷ v ∷ i32 i ∷ null ∷ []) = traps
array_fill o x ls st (i32 n ∷ v ∷ i32 i ∷ array a ∷ []) = need (object_below o x (slice_get st.arrays a)) (λ u. need (array_type o.types x) (λ f. need (packed f.storage v) (λ w. within (put i (replicate n w) u.values) (λ new. goes [] ls (with_array st a u.type new)))))
array_fill o x ls st _ = fails

-- array.copy x y: to the first from the second
abbrev pub array_copy : Outline → (to from : ℕ) → Rule
array_copy o x y ls st (i32 n ∷ i32 j ∷ null ∷ i32 i ∷ to ∷ []) = traps
array_copy o x y ls st (i32 n ∷ i32 j ∷ array b ∷ i32 i ∷ null ∷ []) = traps
array_copy o x y ls st (i32 n ∷ i32 j ∷ array b ∷ i32 i ∷ array a ∷ []) = need (object_below o x (slice_get st.arrays a)) (λ u. need (object_below o y (slice_get st.arrays b)) (λ t. within (part j n t.values) (λ vs. within (put i vs u.values) (λ new. goes [] ls (with_array st a u.type new)))))
array_copy o x y ls st _ = fails

-- array.init_data x y
abbrev pub array_init_data : Outline → (type segment : ℕ) → Rule
array_init_data o x y ls st (i32 n ∷ i32 j ∷ i32 i ∷ null ∷ []) = traps
array_init_data o x y ls st (i32 n ∷ i32 j ∷ i32 i ∷ array a ∷ []) = need (object_below o x (slice_get st.arrays a)) (λ u. need (array_type o.types x) (λ f. need (width_of f.storage) (λ w. need (slice_get st.datas y) (λ bytes. within (part j (n * w) bytes) (λ bs. within (put i (all_from_data f.storage w n bs) u.values) (λ new. goes [] ls (with_array st a u.type new)))))))
array_init_data o x y ls st _ = fails

-- array.init_elem x y
abbrev pub array_init_elem : Outline → (type segment : ℕ) → Rule
array_init_elem o x y ls st (i32 n ∷ i32 j ∷ i32 i ∷ null ∷ []) = traps
array_init_elem o x y ls st (i32 n ∷ i32 j ∷ i32 i ∷ array a ∷ []) = need (object_below o x (slice_get st.arrays a)) (λ u. need (slice_get st.elems y) (λ items. within (part j n items) (λ vs. within (put i vs u.values) (λ new. goes [] ls (with_array st a u.type new)))))
array_init_elem o x y ls st _ = fails
