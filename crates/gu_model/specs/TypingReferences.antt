-- The rows of references, structures and arrays (core specification 3.0, 3.4 Instructions, reference and aggregate
-- instructions).
use Rattle.std.specs.Prelude.{ℕ, Bool, true, false, not, ◌&&◌, List, [], ◌∷◌, Option, Some, None, map, slice_get, replicate, nat_lt}
use Rattle.std.specs.List.{list_all}
use Rattle.gu_types.specs.declared.types.Abs.TheVariants as A
use Rattle.gu_types.specs.declared.types.FieldType.{FieldType}
use Rattle.gu_types.specs.declared.types.RefType.{RefType}
use Rattle.gu_types.specs.declared.types.Storage.{Storage}
use Rattle.gu_types.specs.declared.types.Storage.TheVariants as S
use Rattle.gu_types.specs.declared.types.TypeList.{TypeList}
use Rattle.gu_types.specs.declared.types.ValType.{ValType}
use Rattle.gu_types.specs.declared.types.ValType.TheVariants.{I32, I64, Ref}
use Rattle.gu_rec.specs.Sub.{is_sub_ref}
use Rattle.gu_rec.specs.Validity.{is_sub_storage}
use Rattle.gu_syntax.specs.declared.instr.Instr.{Instr}
use Rattle.gu_syntax.specs.declared.instr.Instr.TheVariants as I
use Rattle.gu_model.specs.Index.{struct_type, array_type}
use Rattle.gu_model.specs.TypingContext.{Context, ◌>>=◌, given, top_of, is_valid_heap, has_default, abs, abs_or_null, idx, idx_or_null}
use Rattle.gu_model.specs.TypingRows.{Row, goes}

-- storage

-- the type of what is stored, once it is on the stack (2.3 Types, unpacking)
abbrev pub unpacked : Storage → ValType
unpacked (S.Val t) = t
unpacked S.I8 = I32
unpacked S.I16 = I32

abbrev pub is_packed : Storage → Bool
is_packed (S.Val t) = false
is_packed S.I8 = true
is_packed S.I16 = true

abbrev pub is_number : ValType → Bool
is_number I32 = true
is_number I64 = true
is_number (Ref r) = false

-- whether the bytes of a data segment can be stored so
abbrev pub is_numeric : Storage → Bool
is_numeric (S.Val t) = is_number t
is_numeric S.I8 = true
is_numeric S.I16 = true

-- the type of the references that are stored so, if any are
abbrev pub ref_of_val : ValType → Option RefType
ref_of_val (Ref r) = Some r
ref_of_val _ = None

abbrev pub ref_of : Storage → Option RefType
ref_of (S.Val t) = ref_of_val t
ref_of S.I8 = None
ref_of S.I16 = None

abbrev pub field_value : FieldType → ValType
field_value f = unpacked f.storage

abbrev pub field_default : FieldType → Bool
field_default f = has_default (field_value f)

-- references

-- a reference to a function of a type, where it is declared
abbrev pub func_ref : (type : ℕ) → (is_declared : Bool) → Option Row
func_ref x is_declared = given is_declared (Some (goes [] (idx x ∷ [])))

abbrev pub func_row : Context → (func : ℕ) → Option Row
func_row C f = slice_get C.funcs f >>= λ x. slice_get C.declared f >>= func_ref x

-- takes a reference of any type of the tree that a reference type belongs to
abbrev pub of_tree : Context → RefType → (result : ValType) → Option Row
of_tree C r t = top_of C.types r.heap >>= λ top. Some (goes (abs_or_null top ∷ []) (t ∷ []))

-- structures

abbrev pub on_struct : Context → (type : ℕ) → (List FieldType → Option Row) → Option Row
on_struct C x row = struct_type C.types x >>= row

abbrev pub field_of : Context → (type field : ℕ) → Option FieldType
field_of C x i = struct_type C.types x >>= λ fs. slice_get fs i

-- a read of a field that is packed, or of one that is not
abbrev pub reads_packed : (type : ℕ) → FieldType → Option Row
reads_packed x f = given (is_packed f.storage) (Some (goes (idx_or_null x ∷ []) (I32 ∷ [])))

abbrev pub reads_whole : (type : ℕ) → FieldType → Option Row
reads_whole x f = given (not (is_packed f.storage)) (Some (goes (idx_or_null x ∷ []) (field_value f ∷ [])))

abbrev pub writes : (type : ℕ) → FieldType → Option Row
writes x f = given f.mutable (Some (goes (idx_or_null x ∷ field_value f ∷ []) []))

-- arrays, by the type of their elements

abbrev pub on_array : Context → (type : ℕ) → (FieldType → Option Row) → Option Row
on_array C x row = array_type C.types x >>= row

abbrev pub gets_packed : (type : ℕ) → FieldType → Option Row
gets_packed x f = given (is_packed f.storage) (Some (goes (idx_or_null x ∷ I32 ∷ []) (I32 ∷ [])))

abbrev pub gets_whole : (type : ℕ) → FieldType → Option Row
gets_whole x f = given (not (is_packed f.storage)) (Some (goes (idx_or_null x ∷ I32 ∷ []) (field_value f ∷ [])))

-- whether there is a data segment that may fill such elements: they are numbers, or packed
abbrev pub fits_data : Context → (data' : ℕ) → FieldType → Bool
fits_data C d f = is_numeric f.storage && nat_lt d C.segs

-- whether there is an element segment that may fill such elements: they are references, which its items are below
abbrev pub fits_refs : TypeList → Option RefType → Option RefType → Bool
fits_refs list (Some from) (Some to) = is_sub_ref list from to
fits_refs list _ _ = false

abbrev pub fits_elem : Context → (elem : ℕ) → FieldType → Bool
fits_elem C e f = fits_refs C.types (slice_get C.elems e) (ref_of f.storage)

-- a new array from a part of a segment, and a part of an array from a part of a segment
abbrev pub makes : (type : ℕ) → (fits : Bool) → Option Row
makes x fits = given fits (Some (goes (I32 ∷ I32 ∷ []) (idx x ∷ [])))

abbrev pub fills : (type : ℕ) → FieldType → (fits : Bool) → Option Row
fills x f fits = given (f.mutable && fits) (Some (goes (idx_or_null x ∷ I32 ∷ I32 ∷ I32 ∷ []) []))

-- copies to an array from another
abbrev pub array_copies : Context → (to from : ℕ) → FieldType → FieldType → Option Row
array_copies C x y f g = given (f.mutable && is_sub_storage C.types g.storage f.storage) (Some (goes (idx_or_null x ∷ I32 ∷ idx_or_null y ∷ I32 ∷ I32 ∷ []) []))

-- parts of arrays
abbrev pub range_row : Context → Instr → Option Row
range_row C (I.ArrayNewData x d) = on_array C x (λ f. makes x (fits_data C d f))
range_row C (I.ArrayNewElem x e) = on_array C x (λ f. makes x (fits_elem C e f))
range_row C (I.ArrayFill x) = on_array C x (λ f. given f.mutable (Some (goes (idx_or_null x ∷ I32 ∷ field_value f ∷ I32 ∷ []) [])))
range_row C (I.ArrayCopy x y) = on_array C x (λ f. on_array C y (array_copies C x y f))
range_row C (I.ArrayInitData x d) = on_array C x (λ f. fills x f (fits_data C d f))
range_row C (I.ArrayInitElem x e) = on_array C x (λ f. fills x f (fits_elem C e f))
range_row C _ = None

abbrev pub array_row : Context → Instr → Option Row
array_row C (I.ArrayNew x) = on_array C x (λ f. Some (goes (field_value f ∷ I32 ∷ []) (idx x ∷ [])))
array_row C (I.ArrayNewDefault x) = on_array C x (λ f. given (field_default f) (Some (goes (I32 ∷ []) (idx x ∷ []))))
array_row C (I.ArrayNewFixed x n) = on_array C x (λ f. Some (goes (replicate n (field_value f)) (idx x ∷ [])))
array_row C (I.ArrayGet x) = on_array C x (gets_whole x)
array_row C (I.ArrayGetS x) = on_array C x (gets_packed x)
array_row C (I.ArrayGetU x) = on_array C x (gets_packed x)
array_row C (I.ArraySet x) = on_array C x (λ f. given f.mutable (Some (goes (idx_or_null x ∷ I32 ∷ field_value f ∷ []) [])))
array_row C I.ArrayLen = Some (goes (abs_or_null A.AnyArray ∷ []) (I32 ∷ []))
array_row C i = range_row C i

abbrev pub struct_row : Context → Instr → Option Row
struct_row C (I.StructNew x) = on_struct C x (λ fs. Some (goes (map field_value fs) (idx x ∷ [])))
struct_row C (I.StructNewDefault x) = on_struct C x (λ fs. given (list_all field_default fs) (Some (goes [] (idx x ∷ []))))
struct_row C (I.StructGet x i) = field_of C x i >>= reads_whole x
struct_row C (I.StructGetS x i) = field_of C x i >>= reads_packed x
struct_row C (I.StructGetU x i) = field_of C x i >>= reads_packed x
struct_row C (I.StructSet x i) = field_of C x i >>= writes x
struct_row C i = array_row C i

abbrev pub reference_row : Context → Instr → Option Row
reference_row C (I.RefNull heap) = given (is_valid_heap C.types heap) (Some (goes [] (Ref (record { null = true; heap = heap }) ∷ [])))
reference_row C (I.RefFunc f) = func_row C f
reference_row C I.RefEq = Some (goes (abs_or_null A.Eq ∷ abs_or_null A.Eq ∷ []) (I32 ∷ []))
reference_row C (I.RefTest r) = of_tree C r I32
reference_row C (I.RefCast r) = of_tree C r (Ref r)
reference_row C I.RefI31 = Some (goes (I32 ∷ []) (abs A.I31 ∷ []))
reference_row C I.I31GetS = Some (goes (abs_or_null A.I31 ∷ []) (I32 ∷ []))
reference_row C I.I31GetU = Some (goes (abs_or_null A.I31 ∷ []) (I32 ∷ []))
reference_row C i = struct_row C i
