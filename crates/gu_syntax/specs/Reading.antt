-- What stands at the front of a text, and what is behind it; or what is asked where reading stops (core specification
-- 3.0, chapter 5 Binary Format). The laws tie these functions to what spells a module.
use Rattle.std.specs.Prelude.{ℕ, zero, suc, ◌+◌, ◌-◌, List, [], ◌∷◌, length, take, drop, nat_eq, nat_lt, if◌then◌else◌, Option, Some, None, Bool, true, false, ℤ, pos, negsuc}
use Rattle.std.specs.Str.{is_utf8}
use Rattle.gu_bytes.specs.Reading.{unsigned_at, signed_at}
use Rattle.gu_types.specs.declared.types.Abs.{Abs}
use Rattle.gu_types.specs.declared.types.Abs.TheVariants as A
use Rattle.gu_types.specs.declared.types.HeapType.{HeapType}
use Rattle.gu_types.specs.declared.types.HeapType.TheVariants as H
use Rattle.gu_types.specs.declared.types.RefType.{RefType}
use Rattle.gu_types.specs.declared.types.ValType.{ValType}
use Rattle.gu_types.specs.declared.types.ValType.TheVariants as V
use Rattle.gu_types.specs.declared.types.Storage.{Storage}
use Rattle.gu_types.specs.declared.types.Storage.TheVariants as S
use Rattle.gu_types.specs.declared.types.FieldType.{FieldType}
use Rattle.gu_types.specs.declared.types.Comp.{Comp}
use Rattle.gu_types.specs.declared.types.Comp.TheVariants as C
use Rattle.gu_types.specs.declared.types.SubType.{SubType}
use Rattle.gu_types.specs.declared.types.RecGroup.{RecGroup}
use Rattle.gu_syntax.specs.Code.{Ins, Code, leaf, block, loop, choice, try_table, done, next, list_of}
use Rattle.gu_syntax.specs.Module.{header, Custom}
use Rattle.gu_syntax.specs.declared.instr.BlockType.{BlockType}
use Rattle.gu_syntax.specs.declared.instr.BlockType.TheVariants as B
use Rattle.gu_syntax.specs.declared.instr.Body.{Body}
use Rattle.gu_syntax.specs.declared.instr.Catch.{Catch}
use Rattle.gu_syntax.specs.declared.instr.Catch.TheVariants as T
use Rattle.gu_syntax.specs.declared.instr.MemArg.{MemArg}
use Rattle.gu_syntax.specs.declared.instr.Instr.{Instr}
use Rattle.gu_syntax.specs.declared.module.Desc.{Desc}
use Rattle.gu_syntax.specs.declared.module.Desc.TheVariants as D
use Rattle.gu_syntax.specs.declared.module.Elem.{Elem}
use Rattle.gu_syntax.specs.declared.module.ElemMode.TheVariants as M
use Rattle.gu_syntax.specs.declared.module.Export.{Export}
use Rattle.gu_syntax.specs.declared.module.Func.{Func}
use Rattle.gu_syntax.specs.declared.module.Global.{Global}
use Rattle.gu_syntax.specs.declared.module.Import.{Import}
use Rattle.gu_syntax.specs.declared.module.Items.TheVariants as L
use Rattle.gu_syntax.specs.declared.module.Kind.{Kind}
use Rattle.gu_syntax.specs.declared.module.Kind.TheVariants as K
use Rattle.gu_syntax.specs.declared.module.Limits.{Limits}
use Rattle.gu_syntax.specs.declared.module.Module.{Module}
use Rattle.gu_syntax.specs.declared.module.Seg.{Seg}
use Rattle.gu_syntax.specs.declared.module.SegMode.TheVariants as G
use Rattle.gu_syntax.specs.declared.module.Table.{Table}
use Rattle.gu_syntax.specs.declared.instr.CastBranch.{CastBranch}
use Rattle.gu_syntax.specs.Instructions.{Form, Alone, Index, Pair, Labels, Const32, Const64, Access, Heap, Types, Cast, Unknown, labels_of, ref_to, row_or, form_of, aggregate_rows, bulk_rows}
use Rattle.gu_syntax.specs.Expressions.{merged, Entry}
use Rattle.gu_syntax.specs.Sections.{funcref}

-- what the grammar asks at a place
pub data Item : Type 0 where
  -- a byte of the magic number or the version
  HeaderByte : Item
  -- the id of a section, or the end of the text
  SectionId : Item
  -- a size, whose content lies within what encloses it
  Size : Item
  -- a count or another number
  Number : Item
  -- bytes with their count
  Bytes : Item
  -- a flag, a kind, a mutability or a fixed byte
  Fixed : Item
  -- the flag of limits
  LimitsFlag : Item
  -- the first byte of a type, or a type index in its place
  TypeStart : Item
  -- the code of an instruction, with the number behind FB or FC
  Opcode : Item
  -- the code of an instruction that opens no block, where as many are open as may be
  FlatOpcode : Item
  -- the end of a section or a code entry
  End : Item

-- where reading stops: what is asked there, and how many bytes are left
pub record Fault : Type 0 where
  pub item : Item
  pub left : ℕ

-- what was read, and the text behind it; or where reading stopped
pub data Read (X : Type 0) : Type 0 where
  got : X → List ℕ → Read X
  stops : Fault → Read X

abbrev pub refused : {X : Type 0} → Item → ℕ → Read X
refused item left = stops (record { item = item; left = left })

-- goes on behind what was read
infixl 10 ◌>>=◌
abbrev pub ◌>>=◌ : {X Y : Type 0} → Read X → (X → List ℕ → Read Y) → Read Y
(got x rest) >>= f = f x rest
(stops fault) >>= f = stops fault

-- what is made of what is read
abbrev pub made_at : {X Y : Type 0} → (X → Y) → (List ℕ → Read X) → List ℕ → Read Y
made_at make at text = at text >>= λ x rest. got (make x) rest

-- one thing, and another behind it
abbrev pub both_at : {X Y : Type 0} → (List ℕ → Read X) → (List ℕ → Read Y) → List ℕ → Read (X × Y)
both_at first second text = first text >>= λ x rest. second rest >>= λ y behind. got (x, y) behind

-- one thing, and another behind it that is read by it
abbrev pub then_at : {X Y : Type 0} → (List ℕ → Read X) → (X → List ℕ → Read Y) → List ℕ → Read (X × Y)
then_at first second text = first text >>= λ x rest. second x rest >>= λ y behind. got (x, y) behind

-- numbers (5.2.2 Integers), which are refused at their own place

abbrev pub number : {X : Type 0} → Item → (left : ℕ) → Option (X × List ℕ) → Read X
number item left None = refused item left
number item left (Some x) = got x.0 x.1

abbrev pub u32_as : Item → List ℕ → Read ℕ
u32_as item text = number item (length text) (unsigned_at 32 text)

abbrev pub u32_at : List ℕ → Read ℕ
u32_at text = u32_as Number text

abbrev pub s32_at : List ℕ → Read ℤ
s32_at text = number Number (length text) (signed_at 32 text)

abbrev pub s64_at : List ℕ → Read ℤ
s64_at text = number Number (length text) (signed_at 64 text)

-- an integer that is not negative, before what stands behind it
abbrev pub natural : ℤ → List ℕ → Option (ℕ × List ℕ)
natural (pos n) rest = Some (n, rest)
natural (negsuc n) rest = None

abbrev pub not_negative : Option (ℤ × List ℕ) → Option (ℕ × List ℕ)
not_negative None = None
not_negative (Some x) = natural x.0 x.1

-- a type index in place of a type, by its first byte
abbrev pub s33_head : (left byte : ℕ) → List ℕ → Read ℕ
s33_head left byte rest = number TypeStart left (not_negative (signed_at 33 (byte ∷ rest)))

-- a first byte, by which the rest is read: how many bytes are left at it, the byte, and the text behind it
abbrev pub headed_at : {X : Type 0} → Item → (ℕ → ℕ → List ℕ → Read X) → List ℕ → Read X
headed_at item behind [] = refused item 0
headed_at item behind (b ∷ rest) = behind (suc (length rest)) b rest

-- a number, by which the rest is read
abbrev pub numbered_at : {X : Type 0} → Item → (ℕ → ℕ → List ℕ → Read X) → List ℕ → Read X
numbered_at item behind text = u32_as item text >>= λ n rest. behind (length text) n rest

-- what the first row with this code reads; another code is refused at its own place
abbrev pub rows_at : {X : Type 0} → Item → List (ℕ × (List ℕ → Read X)) → ℕ → ℕ → List ℕ → Read X
rows_at item rows left code rest = row_or (λ other. refused item left) rows code rest

-- a value, and nothing read
abbrev pub none_at : {X : Type 0} → X → List ℕ → Read X
none_at x text = got x text

-- one fixed byte, and then what follows it
abbrev pub after : {X : Type 0} → Item → ℕ → (List ℕ → Read X) → List ℕ → Read X
after item byte behind [] = refused item 0
after item byte behind (b ∷ rest) = if nat_eq b byte then behind rest else refused item (length (b ∷ rest))

-- fixed bytes, each refused at its own place
abbrev pub fixed_at : Item → List ℕ → List ℕ → Read (Unit {0})
fixed_at item [] text = got tt text
fixed_at item (b ∷ bytes) text = after item b (fixed_at item bytes) text

-- so many items (5.1.3 Lists)
abbrev pub items_at : {X : Type 0} → (List ℕ → Read X) → ℕ → List ℕ → Read (List X)
items_at item zero text = got [] text
items_at item (suc more) text = item text >>= λ x rest. items_at item more rest >>= λ xs behind. got (x ∷ xs) behind

abbrev pub vector_at : {X : Type 0} → (List ℕ → Read X) → List ℕ → Read (List X)
vector_at item text = u32_at text >>= λ count rest. items_at item count rest

-- a fault inside a content, before what is behind the content
abbrev pub before : List ℕ → Fault → Fault
before behind fault = record { item = fault.item; left = fault.left + length behind }

-- what was read of a content that is read whole: what is left over is refused where it begins
abbrev pub whole : {X : Type 0} → List ℕ → Read X → Read X
whole behind (got x []) = got x behind
whole behind (got x (b ∷ rest)) = refused End (length (b ∷ rest) + length behind)
whole behind (stops fault) = stops (before behind fault)

-- how many bytes follow, and a content of so many bytes. A size that is not there is refused at its own place
abbrev pub content_at : {X : Type 0} → (List ℕ → Read X) → ℕ → (size : ℕ) → List ℕ → Read X
content_at inside left size rest = if nat_lt (length rest) size then refused Size left else whole (drop size rest) (inside (take size rest))

abbrev pub sized_at : {X : Type 0} → (List ℕ → Read X) → List ℕ → Read X
sized_at inside text = u32_as Size text >>= λ size rest. content_at inside (length text) size rest

-- so many bytes, which are refused where their count stands
abbrev pub bytes_of : (left size : ℕ) → List ℕ → Read (List ℕ)
bytes_of left size rest = if nat_lt (length rest) size then refused Bytes left else got (take size rest) (drop size rest)

abbrev pub bytes_at : List ℕ → Read (List ℕ)
bytes_at text = u32_as Bytes text >>= λ size rest. bytes_of (length text) size rest

-- bytes in UTF-8 (5.2.4 Names)
abbrev pub utf8_of : (left : ℕ) → List ℕ → List ℕ → Read (List ℕ)
utf8_of left name rest = if is_utf8 name then got name rest else refused Bytes left

abbrev pub name_at : List ℕ → Read (List ℕ)
name_at text = bytes_at text >>= λ name rest. utf8_of (length text) name rest

-- types (5.3 Types)

-- the abstract heap types by their bytes
abbrev pub abs_rows : List (ℕ × Option Abs)
abs_rows = (0x74, Some A.NoExn) ∷ (0x73, Some A.NoFunc) ∷ (0x72, Some A.NoExtern) ∷ (0x71, Some A.Bot) ∷ (0x70, Some A.AnyFunc) ∷ (0x6F, Some A.Extern) ∷ (0x6E, Some A.Any) ∷ (0x6D, Some A.Eq) ∷ (0x6C, Some A.I31) ∷ (0x6B, Some A.AnyStruct) ∷ (0x6A, Some A.AnyArray) ∷ (0x69, Some A.Exn) ∷ []

abbrev pub abs_with : ℕ → Option Abs
abs_with byte = row_or None abs_rows byte

abbrev pub heap_or : Option Abs → (left byte : ℕ) → List ℕ → Read HeapType
heap_or None left byte rest = made_at H.Idx (s33_head left byte) rest
heap_or (Some kind) left byte rest = got (H.Abs kind) rest

abbrev pub heap_head : ℕ → ℕ → List ℕ → Read HeapType
heap_head left byte rest = heap_or (abs_with byte) left byte rest

abbrev pub heap_at : List ℕ → Read HeapType
heap_at text = headed_at TypeStart heap_head text

abbrev pub short_or : Option Abs → ℕ → List ℕ → Read RefType
short_or None left rest = refused TypeStart left
short_or (Some kind) left rest = got (ref_to true (H.Abs kind)) rest

abbrev pub ref_head : ℕ → ℕ → List ℕ → Read RefType
ref_head left byte rest = row_or (λ other. short_or (abs_with byte) left other) ((0x63, made_at (ref_to true) heap_at) ∷ (0x64, made_at (ref_to false) heap_at) ∷ []) byte rest

abbrev pub ref_at : List ℕ → Read RefType
ref_at text = headed_at TypeStart ref_head text

abbrev pub val_head : ℕ → ℕ → List ℕ → Read ValType
val_head left byte rest = row_or (λ other. made_at V.Ref (ref_head left byte) other) ((0x7F, none_at V.I32) ∷ (0x7E, none_at V.I64) ∷ []) byte rest

abbrev pub val_at : List ℕ → Read ValType
val_at text = headed_at TypeStart val_head text

abbrev pub mutable_at : List ℕ → Read Bool
mutable_at text = headed_at Fixed (rows_at Fixed ((0x00, none_at false) ∷ (0x01, none_at true) ∷ [])) text

abbrev pub storage_head : ℕ → ℕ → List ℕ → Read Storage
storage_head left byte rest = row_or (λ other. made_at S.Val (val_head left byte) other) ((0x78, none_at S.I8) ∷ (0x77, none_at S.I16) ∷ []) byte rest

abbrev pub storage_at : List ℕ → Read Storage
storage_at text = headed_at TypeStart storage_head text

abbrev pub field_of : Storage × Bool → FieldType
field_of x = record { storage = x.0; mutable = x.1 }

abbrev pub field_at : List ℕ → Read FieldType
field_at text = made_at field_of (both_at storage_at mutable_at) text

abbrev pub func_of : List ValType × List ValType → Comp
func_of x = C.Func x.0 x.1

abbrev pub comp_rows : List (ℕ × (List ℕ → Read Comp))
comp_rows = (0x60, made_at func_of (both_at (vector_at val_at) (vector_at val_at))) ∷ (0x5F, made_at C.Struct (vector_at field_at)) ∷ (0x5E, made_at C.Array field_at) ∷ []

abbrev pub comp_head : ℕ → ℕ → List ℕ → Read Comp
comp_head left byte rest = rows_at TypeStart comp_rows left byte rest

abbrev pub comp_at : List ℕ → Read Comp
comp_at text = headed_at TypeStart comp_head text

abbrev pub sub_of : Bool → List ℕ × Comp → SubType
sub_of is_final x = record { is_final = is_final; supers = x.0; comp = x.1 }

abbrev pub declared_at : Bool → List ℕ → Read SubType
declared_at is_final text = made_at (sub_of is_final) (both_at (vector_at u32_at) comp_at) text

abbrev pub bare_of : Comp → SubType
bare_of comp = sub_of true ([], comp)

abbrev pub sub_head : ℕ → ℕ → List ℕ → Read SubType
sub_head left byte rest = row_or (λ other. made_at bare_of (comp_head left byte) other) ((0x50, declared_at false) ∷ (0x4F, declared_at true) ∷ []) byte rest

abbrev pub sub_at : List ℕ → Read SubType
sub_at text = headed_at TypeStart sub_head text

abbrev pub group_of : List SubType → RecGroup
group_of types = record { types = types }

abbrev pub one_of : SubType → RecGroup
one_of ty = record { types = ty ∷ [] }

abbrev pub group_head : ℕ → ℕ → List ℕ → Read RecGroup
group_head left byte rest = row_or (λ other. made_at one_of (sub_head left byte) other) ((0x4E, made_at group_of (vector_at sub_at)) ∷ []) byte rest

abbrev pub group_at : List ℕ → Read RecGroup
group_at text = headed_at TypeStart group_head text

abbrev pub from_least : ℕ → Limits
from_least least = record { least = least; most = None }

abbrev pub between : ℕ × ℕ → Limits
between x = record { least = x.0; most = Some x.1 }

abbrev pub limits_at : List ℕ → Read Limits
limits_at text = headed_at LimitsFlag (rows_at LimitsFlag ((0x00, made_at from_least u32_at) ∷ (0x01, made_at between (both_at u32_at u32_at)) ∷ [])) text

-- instructions that hold no code (5.4 Instructions)

-- the block type where a heap type may stand for it
abbrev pub block_of : HeapType → BlockType
block_of (H.Abs kind) = B.Val (V.Ref (ref_to true (H.Abs kind)))
block_of (H.Idx index) = B.Idx index

abbrev pub block_val : ValType → BlockType
block_val ty = B.Val ty

abbrev pub block_ref : Bool → HeapType → BlockType
block_ref null heap = B.Val (V.Ref (ref_to null heap))

abbrev pub block_head : ℕ → ℕ → List ℕ → Read BlockType
block_head left byte rest = row_or (λ other. made_at block_of (heap_head left byte) other) ((0x40, none_at B.Empty) ∷ (0x7F, none_at (B.Val V.I32)) ∷ (0x7E, none_at (B.Val V.I64)) ∷ (0x63, made_at (block_ref true) heap_at) ∷ (0x64, made_at (block_ref false) heap_at) ∷ []) byte rest

abbrev pub block_type_at : List ℕ → Read BlockType
block_type_at text = headed_at TypeStart block_head text

abbrev pub catch_rows : List (ℕ × (List ℕ → Read Catch))
catch_rows = (0x00, made_at (λ x. T.One x.0 x.1) (both_at u32_at u32_at)) ∷ (0x01, made_at (λ x. T.OneRef x.0 x.1) (both_at u32_at u32_at)) ∷ (0x02, made_at T.All u32_at) ∷ (0x03, made_at T.AllRef u32_at) ∷ []

abbrev pub catch_at : List ℕ → Read Catch
catch_at text = headed_at Fixed (rows_at Fixed catch_rows) text

abbrev pub first_memory : (exponent offset : ℕ) → MemArg
first_memory exponent offset = record { exponent = exponent; memory = 0; offset = offset }

abbrev pub any_memory : (exponent : ℕ) → ℕ × ℕ → MemArg
any_memory exponent x = record { exponent = exponent; memory = x.0; offset = x.1 }

abbrev pub mem_arg_of : (left a : ℕ) → List ℕ → Read MemArg
mem_arg_of left a rest = if nat_lt a 64 then made_at (first_memory a) u32_at rest else (if nat_lt a 128 then made_at (any_memory (a - 64)) (both_at u32_at u32_at) rest else refused Number left)

abbrev pub mem_arg_at : List ℕ → Read MemArg
mem_arg_at text = numbered_at Number mem_arg_of text

abbrev pub cast_of : (of to : Bool) → ℕ × (HeapType × HeapType) → CastBranch
cast_of of to x = record { label = x.0; of = ref_to of x.1.0; to = ref_to to x.1.1 }

abbrev pub cast_behind : (of to : Bool) → List ℕ → Read CastBranch
cast_behind of to text = made_at (cast_of of to) (both_at u32_at (both_at heap_at heap_at)) text

abbrev pub cast_at : List ℕ → Read CastBranch
cast_at text = headed_at Fixed (rows_at Fixed ((0x00, cast_behind false false) ∷ (0x01, cast_behind true false) ∷ (0x02, cast_behind false true) ∷ (0x03, cast_behind true true) ∷ [])) text

-- what stands behind a code
abbrev pub form_at : (left : ℕ) → Form → List ℕ → Read Instr
form_at left (Alone instr) text = got instr text
form_at left (Index make) text = made_at make u32_at text
form_at left (Pair make) text = made_at (λ x. make x.0 x.1) (both_at u32_at u32_at) text
form_at left (Labels make) text = made_at (λ x. make (labels_of x)) (both_at (vector_at u32_at) u32_at) text
form_at left (Const32 make) text = made_at make s32_at text
form_at left (Const64 make) text = made_at make s64_at text
form_at left (Access make) text = made_at make mem_arg_at text
form_at left (Heap make) text = made_at make heap_at text
form_at left (Types make) text = made_at make (vector_at val_at) text
form_at left (Cast make) text = made_at make cast_at text
form_at left Unknown text = refused Opcode left

-- a number behind a prefix is refused where the prefix stands
abbrev pub prefixed_at : List (ℕ × Form) → (left : ℕ) → List ℕ → Read Instr
prefixed_at rows left text = number Opcode left (unsigned_at 32 text) >>= λ code rest. form_at left (row_or Unknown rows code) rest

-- the instruction with this code, where the text behind the code is given
abbrev pub leaf_at : (left op : ℕ) → List ℕ → Read Instr
leaf_at left op text = row_or (λ rest. form_at left (form_of op) rest) ((0xFB, prefixed_at aggregate_rows left) ∷ (0xFC, prefixed_at bulk_rows left) ∷ []) op text

-- expressions (5.4 Instructions, expressions)

-- where a block is opened: how many more may be open inside
abbrev pub opened : {X : Type 0} → (room : ℕ) → (ℕ → List ℕ → Read X) → (left : ℕ) → List ℕ → Read X
opened zero inside left text = refused FlatOpcode left
opened (suc lower) inside left text = inside lower text

-- instructions up to `end`, or up to `else` where it may stand; and whether `else` ended them
abbrev pub Nested : Type 0
Nested = (room : ℕ) → (may_split : Bool) → List ℕ → Read (Code × Bool)

abbrev pub block_at : (BlockType → Code → Ins) → (List ℕ → Read (Code × Bool)) → List ℕ → Read Ins
block_at make inside text = block_type_at text >>= λ ty rest. inside rest >>= λ code behind. got (make ty code.0) behind

abbrev pub second_at : BlockType → (List ℕ → Read (Code × Bool)) → Code × Bool → List ℕ → Read Ins
second_at ty inside yes' rest = if yes'.1 then (inside rest >>= λ no' behind. got (choice ty yes'.0 no'.0) behind) else got (choice ty yes'.0 done) rest

abbrev pub if_at : (first second : List ℕ → Read (Code × Bool)) → List ℕ → Read Ins
if_at first second text = block_type_at text >>= λ ty rest. first rest >>= λ yes' middle. second_at ty second yes' middle

abbrev pub try_at : (List ℕ → Read (Code × Bool)) → List ℕ → Read Ins
try_at inside text = block_type_at text >>= λ ty rest. vector_at catch_at rest >>= λ catches middle. inside middle >>= λ code behind. got (try_table ty catches code.0) behind

-- the instruction with this code
abbrev pub ins_at : Nested → (room left op : ℕ) → List ℕ → Read Ins
ins_at nested room left op text = row_or (made_at leaf (leaf_at left op)) (
    (0x02, opened room (λ lower rest. block_at block (nested lower false) rest) left) ∷
    (0x03, opened room (λ lower rest. block_at loop (nested lower false) rest) left) ∷
    (0x04, opened room (λ lower rest. if_at (nested lower true) (nested lower false) rest) left) ∷
    (0x1F, opened room (λ lower rest. try_at (nested lower false) rest) left) ∷ []) op text

-- the bytes that end instructions
abbrev pub ends : (may_split : Bool) → List (ℕ × (List ℕ → Read (Code × Bool)))
ends false = (0x0B, none_at (done, false)) ∷ []
ends true = (0x0B, none_at (done, false)) ∷ (0x05, none_at (done, true)) ∷ []

-- an instruction before others
abbrev pub next_of : Ins → Code × Bool → Code × Bool
next_of ins code = (next ins code.0, code.1)

abbrev pub next_at : Nested → (room : ℕ) → (may_split : Bool) → (left op : ℕ) → List ℕ → Read (Code × Bool)
next_at nested room may_split left op text = ins_at nested room left op text >>= λ ins rest. made_at (next_of ins) (nested room may_split) rest

abbrev pub until_head : Nested → (room : ℕ) → (may_split : Bool) → (left op : ℕ) → List ℕ → Read (Code × Bool)
until_head nested room may_split left op text = row_or (next_at nested room may_split left op) (ends may_split) op text

-- where the fuel is more than the number of bytes, and so many blocks may be open inside
abbrev pub until_at : (fuel : ℕ) → Nested
until_at zero room may_split text = refused Opcode (length text)
until_at (suc fuel) room may_split text = headed_at Opcode (until_head (λ lower split rest. until_at fuel lower split rest) room may_split) text

-- an expression
abbrev pub body_of : Code × Bool → Body
body_of code = record { code = list_of code.0 }

abbrev pub body_at : (room : ℕ) → List ℕ → Read Body
body_at room text = made_at body_of (until_at (suc (length text)) room false) text

-- items of sections (5.5 Modules)

abbrev pub desc_rows : List (ℕ × (List ℕ → Read Desc))
desc_rows =
    (0x00, made_at D.Func u32_at) ∷
    (0x01, made_at (λ x. D.Table x.0 x.1) (both_at ref_at limits_at)) ∷
    (0x02, made_at D.Memory limits_at) ∷
    (0x03, made_at (λ x. D.Global x.0 x.1) (both_at val_at mutable_at)) ∷
    (0x04, made_at D.Tag (after Fixed 0x00 u32_at)) ∷ []

abbrev pub desc_at : List ℕ → Read Desc
desc_at text = headed_at Fixed (rows_at Fixed desc_rows) text

abbrev pub import_of : List ℕ × (List ℕ × Desc) → Import
import_of x = record { «module» = x.0; name = x.1.0; desc = x.1.1 }

abbrev pub import_at : List ℕ → Read Import
import_at text = made_at import_of (both_at name_at (both_at name_at desc_at)) text

abbrev pub table_of : RefType × Limits → Table
table_of x = record { elem = x.0; limits = x.1; init = None }

abbrev pub filled_of : RefType × (Limits × Body) → Table
filled_of x = record { elem = x.0; limits = x.1.0; init = Some x.1.1 }

abbrev pub table_head : (room : ℕ) → ℕ → ℕ → List ℕ → Read Table
table_head room left byte rest = row_or (λ other. made_at table_of (both_at (ref_head left byte) limits_at) other) ((0x40, after Fixed 0x00 (made_at filled_of (both_at ref_at (both_at limits_at (body_at room))))) ∷ []) byte rest

abbrev pub table_at : (room : ℕ) → List ℕ → Read Table
table_at room text = headed_at TypeStart (table_head room) text

abbrev pub tag_at : List ℕ → Read ℕ
tag_at text = after Fixed 0x00 u32_at text

abbrev pub global_of : ValType × (Bool × Body) → Global
global_of x = record { ty = x.0; mutable = x.1.0; init = x.1.1 }

abbrev pub global_at : (room : ℕ) → List ℕ → Read Global
global_at room text = made_at global_of (both_at val_at (both_at mutable_at (body_at room))) text

abbrev pub kind_index : Kind → ℕ → Kind × ℕ
kind_index kind index = (kind, index)

abbrev pub kind_rows : List (ℕ × (List ℕ → Read (Kind × ℕ)))
kind_rows = (0x00, made_at (kind_index K.Func) u32_at) ∷ (0x01, made_at (kind_index K.Table) u32_at) ∷ (0x02, made_at (kind_index K.Memory) u32_at) ∷ (0x03, made_at (kind_index K.Global) u32_at) ∷ (0x04, made_at (kind_index K.Tag) u32_at) ∷ []

abbrev pub export_of : List ℕ × (Kind × ℕ) → Export
export_of x = record { name = x.0; kind = x.1.0; index = x.1.1 }

abbrev pub export_at : List ℕ → Read Export
export_at text = made_at export_of (both_at name_at (headed_at Fixed (rows_at Fixed kind_rows))) text

-- element segments: function lists, and expressions

abbrev pub funcs_at : List ℕ → Read (List ℕ)
funcs_at text = vector_at u32_at text

abbrev pub kind_funcs_at : List ℕ → Read (List ℕ)
kind_funcs_at text = after Fixed 0x00 funcs_at text

abbrev pub exprs_at : (room : ℕ) → List ℕ → Read (List Body)
exprs_at room text = vector_at (body_at room) text

abbrev pub elem_rows : (room : ℕ) → List (ℕ × (List ℕ → Read Elem))
elem_rows room =
    (0, made_at (λ x. record { mode = M.Active 0 x.0; items = L.Funcs x.1 }) (both_at (body_at room) funcs_at)) ∷
    (1, made_at (λ x. record { mode = M.Passive; items = L.Funcs x }) kind_funcs_at) ∷
    (2, made_at (λ x. record { mode = M.Active x.0 x.1.0; items = L.Funcs x.1.1 }) (both_at u32_at (both_at (body_at room) kind_funcs_at))) ∷
    (3, made_at (λ x. record { mode = M.Declared; items = L.Funcs x }) kind_funcs_at) ∷
    (4, made_at (λ x. record { mode = M.Active 0 x.0; items = L.Exprs funcref x.1 }) (both_at (body_at room) (exprs_at room))) ∷
    (5, made_at (λ x. record { mode = M.Passive; items = L.Exprs x.0 x.1 }) (both_at ref_at (exprs_at room))) ∷
    (6, made_at (λ x. record { mode = M.Active x.0 x.1.0; items = L.Exprs x.1.1.0 x.1.1.1 }) (both_at u32_at (both_at (body_at room) (both_at ref_at (exprs_at room))))) ∷
    (7, made_at (λ x. record { mode = M.Declared; items = L.Exprs x.0 x.1 }) (both_at ref_at (exprs_at room))) ∷ []

abbrev pub elem_at : (room : ℕ) → List ℕ → Read Elem
elem_at room text = numbered_at Fixed (rows_at Fixed (elem_rows room)) text

-- data segments

abbrev pub seg_rows : (room : ℕ) → List (ℕ × (List ℕ → Read Seg))
seg_rows room =
    (0, made_at (λ x. record { mode = G.Active 0 x.0; bytes = x.1 }) (both_at (body_at room) bytes_at)) ∷
    (1, made_at (λ x. record { mode = G.Passive; bytes = x }) bytes_at) ∷
    (2, made_at (λ x. record { mode = G.Active x.0 x.1.0; bytes = x.1.1 }) (both_at u32_at (both_at (body_at room) bytes_at))) ∷ []

abbrev pub seg_at : (room : ℕ) → List ℕ → Read Seg
seg_at room text = numbered_at Fixed (rows_at Fixed (seg_rows room)) text

-- code entries (5.5.13 Code Section)

abbrev pub run_at : List ℕ → Read (ℕ × ValType)
run_at text = both_at u32_at val_at text

abbrev pub locals_at : List ℕ → Read (List (ℕ × ValType))
locals_at text = made_at merged (vector_at run_at) text

abbrev pub entry_at : (room : ℕ) → List ℕ → Read Entry
entry_at room text = sized_at (both_at locals_at (body_at room)) text

-- the function of this type that an entry makes
abbrev pub entry_of : (ty : ℕ) → Entry → Func
entry_of ty entry = record { ty = ty; locals = entry.0; body = entry.1 }

abbrev pub func_at : (room ty : ℕ) → List ℕ → Read Func
func_at room ty text = made_at (entry_of ty) (entry_at room) text

-- a code entry for each of these types
abbrev pub entries_at : (room : ℕ) → List ℕ → List ℕ → Read (List Func)
entries_at room [] text = got [] text
entries_at room (ty ∷ tys) text = func_at room ty text >>= λ func rest. entries_at room tys rest >>= λ funcs behind. got (func ∷ funcs) behind

-- sections (5.5.2 Sections)

-- the content of a code section for functions of these types: another count is refused at its own place
abbrev pub bodies_at : (room : ℕ) → List ℕ → List ℕ → Read (List Func)
bodies_at room tys text = u32_at text >>= λ count rest. if nat_eq count (length tys) then entries_at room tys rest else refused Number (length text)

-- whether a count is the one that was said before, if one was
abbrev pub agrees : Option ℕ → ℕ → Bool
agrees None n = true
agrees (Some count) n = nat_eq n count

-- the content of a data section, where its count may have been said before: another is refused at its own place
abbrev pub segs_at : (room : ℕ) → Option ℕ → List ℕ → Read (List Seg)
segs_at room said text = u32_at text >>= λ count rest. if agrees said count then items_at (seg_at room) count rest else refused Number (length text)

-- a custom section (5.5.3 Custom Section)
abbrev pub custom_of : List ℕ × List ℕ → Custom
custom_of x = record { name = x.0; bytes = x.1 }

abbrev pub rest_at : List ℕ → Read (List ℕ)
rest_at text = got text []

-- custom sections while there are any, where the fuel is at least the number of bytes
abbrev pub customs_of : (fuel : ℕ) → List ℕ → Read (List Custom)
customs_of fuel [] = got [] []
customs_of zero (b ∷ text) = got [] (b ∷ text)
customs_of (suc fuel) (b ∷ text) = if nat_eq b 0 then (sized_at (made_at custom_of (both_at name_at rest_at)) text >>= λ custom rest. customs_of fuel rest >>= λ customs behind. got (custom ∷ customs) behind) else got [] (b ∷ text)

abbrev pub customs_at : List ℕ → Read (List Custom)
customs_at text = customs_of (length text) text

-- the section with this id and the custom sections behind it, or what it says where it is absent
abbrev pub section_at : {X : Type 0} → (id : ℕ) → (nothing : X) → (content : List ℕ → Read X) → List ℕ → Read X
section_at id nothing content [] = got nothing []
section_at id nothing content (b ∷ text) = if nat_eq b id then made_at (λ x. x.0) (both_at (sized_at content) customs_at) text else got nothing (b ∷ text)

abbrev pub list_at : {X : Type 0} → (id : ℕ) → (item : List ℕ → Read X) → List ℕ → Read (List X)
list_at id item text = section_at id [] (vector_at item) text

abbrev pub some : ℕ → Option ℕ
some n = Some n

-- the sections from the number of data segments on: that number, functions and data segments
abbrev pub Late : Type 0
Late = Option ℕ × (List Func × List Seg)

abbrev pub late_at : (room : ℕ) → (tys : List ℕ) → List ℕ → Read Late
late_at room tys text = then_at (section_at 12 None (made_at some u32_at)) (λ said. both_at (section_at 10 [] (bodies_at room tys)) (section_at 11 [] (segs_at room said))) text

-- those from the tables on: tables, memories, tags, globals, exports, the start function and elements before them
abbrev pub Middle : Type 0
Middle = List Table × (List Limits × (List ℕ × (List Global × (List Export × (Option ℕ × (List Elem × Late))))))

abbrev pub middle_at : (room : ℕ) → (tys : List ℕ) → List ℕ → Read Middle
middle_at room tys text = both_at (list_at 4 (table_at room)) (both_at (list_at 5 limits_at) (both_at (list_at 13 tag_at) (both_at (list_at 6 (global_at room)) (both_at (list_at 7 export_at) (both_at (section_at 8 None (made_at some u32_at)) (both_at (list_at 9 (elem_at room)) (late_at room tys))))))) text

-- all of them: types, imports and the types of functions before those
abbrev pub All : Type 0
All = List RecGroup × (List Import × (List ℕ × Middle))

abbrev pub all_at : (room : ℕ) → List ℕ → Read All
all_at room text = both_at (list_at 1 group_at) (both_at (list_at 2 import_at) (then_at (list_at 3 u32_at) (middle_at room))) text

abbrev pub is_said : Option ℕ → Bool
is_said None = false
is_said (Some n) = true

-- the module with these types, imports and other sections
abbrev pub with_middle : List RecGroup → List Import → Middle → Module
with_middle groups imports x = record {
  types = record { groups = groups };
  imports = imports;
  funcs = x.1.1.1.1.1.1.1.1.0;
  tables = x.0;
  memories = x.1.0;
  tags = x.1.1.0;
  globals = x.1.1.1.0;
  exports = x.1.1.1.1.0;
  start = x.1.1.1.1.1.0;
  elems = x.1.1.1.1.1.1.0;
  has_count = is_said x.1.1.1.1.1.1.1.0;
  segs = x.1.1.1.1.1.1.1.1.1;
}

abbrev pub module_of : All → Module
module_of x = with_middle x.0 x.1.0 x.1.1.1

-- whether code entries or data segments are missing at the end
abbrev pub is_missing : (tys : List ℕ) → Late → Bool
is_missing tys x = if nat_lt (length x.1.0) (length tys) then true else (if agrees x.0 (length x.1.1) then false else true)

abbrev pub is_due : All → Bool
is_due x = is_missing x.1.1.0 x.1.1.1.1.1.1.1.1.1.1

-- the end of the text, which is refused where something is missing. What stands there is refused where it begins
abbrev pub end_at : {X : Type 0} → (due : Bool) → X → List ℕ → Read X
end_at due x [] = if due then refused SectionId 0 else got x []
end_at due x (b ∷ rest) = refused SectionId (length (b ∷ rest))

abbrev pub sections_at : (room : ℕ) → List ℕ → Read Module
sections_at room text = all_at room text >>= λ all rest. end_at (is_due all) (module_of all) rest

-- the module that the whole text spells, where so many blocks may be open in an expression
abbrev pub module_at : (room : ℕ) → List ℕ → Read Module
module_at room text = fixed_at HeaderByte header text >>= λ start rest. customs_at rest >>= λ customs behind. sections_at room behind
