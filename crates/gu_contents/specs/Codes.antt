-- Contents as numbers of 64 bits: a tag in the low four bits, and above it what the tag needs.
use Rattle.std.specs.Prelude.{ℕ, ◌+◌, ◌-◌, ◌*◌, ◌/◌, ◌%◌, ◌^◌, ◌<◌, true, false, List, [], ◌∷◌, ◌++◌, nat_eq, nat_lt, position, unwrap_or, slice_index, slice_index_or, if◌then◌else◌}
use Rattle.std.specs.List.{list_any}
use Rattle.gu_types.specs.declared.types.Abs.{Abs}
use Rattle.gu_types.specs.declared.types.Abs.TheVariants as A
use Rattle.gu_types.specs.declared.types.HeapType.{HeapType}
use Rattle.gu_types.specs.declared.types.HeapType.TheVariants as H
use Rattle.gu_rec.specs.Tests.{abs_number}
use Rattle.gu_contents.specs.declared.content.Core.{Core}
use Rattle.gu_contents.specs.declared.content.Core.TheVariants.{Bottom, Func, Global, Cone}
use Rattle.gu_contents.specs.declared.content.Content.{Content}
use Rattle.gu_contents.specs.declared.content.Content.TheVariants.{Empty, I32, I64, NumGlobal, Many, Ref, Top}

-- the list with a literal put last, where it is not in the list
abbrev pub with_literal : List ℕ → ℕ → List ℕ
with_literal longs v = if list_any (nat_eq v) longs then longs else longs ++ v ∷ []

-- a tag with what stands above it
abbrev pub tagged : ℕ → ℕ → ℕ
tagged tag rest = tag + 16 * rest

-- a number for each heap type: the abstract ones come first
abbrev pub heap_number : HeapType → ℕ
heap_number (H.Abs kind) = abs_number kind
heap_number (H.Idx i) = 12 + i

-- the place of a literal in a list that has it
abbrev pub place_in : List ℕ → ℕ → ℕ
place_in longs v = unwrap_or (position (nat_eq v) longs) 0

-- references have an even tag without null, and one more with it
abbrev pub core_code : ℕ → Core → ℕ
core_code null Bottom = tagged (6 + null) 0
core_code null (Func f) = tagged (8 + null) f
core_code null (Global g) = tagged (10 + null) g
core_code null (Cone head depth) = tagged (12 + null) (depth + 128 * heap_number head)

-- the code of a content, over a list of 64-bit literals
unfoldable pub code : List ℕ → Content → ℕ
code longs Empty = 0
code longs Many = 1
code longs Top = 2
code longs (I32 v) = tagged 3 v
code longs (I64 v) = tagged 4 (place_in longs v)
code longs (NumGlobal g) = tagged 5 g
code longs (Ref n c) = core_code (if n then 1 else 0) c

-- a number of 32 bits
abbrev pub word : ℕ → ℕ
word rest = rest % 2 ^ 32

-- the abstract heap types in the order of their numbers
abbrev pub kinds : List Abs
kinds = A.Any ∷ A.Eq ∷ A.I31 ∷ A.AnyStruct ∷ A.AnyArray ∷ A.Bot ∷ A.AnyFunc ∷ A.NoFunc ∷ A.Extern ∷ A.NoExtern ∷ A.Exn ∷ A.NoExn ∷ []

-- the heap type with a number
abbrev pub heap_at : ℕ → HeapType
heap_at number = if nat_lt number 12 then H.Abs (slice_index_or kinds number A.Any) else H.Idx (word (number - 12))

-- the cone above a tag
abbrev pub cone_at : ℕ → Core
cone_at rest = Cone (heap_at (rest / 128)) (rest % 128)

-- what a tag and what stands above it code, over a list of 64-bit literals
abbrev pub content_at : List ℕ → ℕ → ℕ → Content
content_at longs tag rest =
    slice_index_or
    (Empty ∷ Many ∷ Top ∷ I32 (word rest) ∷ I64 (slice_index longs rest) ∷ NumGlobal (word rest)
    ∷ Ref false Bottom ∷ Ref true Bottom
    ∷ Ref false (Func (word rest)) ∷ Ref true (Func (word rest))
    ∷ Ref false (Global (word rest)) ∷ Ref true (Global (word rest))
    ∷ Ref false (cone_at rest) ∷ Ref true (cone_at rest) ∷ [])
    tag
    Empty

-- the content that a number codes. What a number gives that codes none means nothing
unfoldable pub content : List ℕ → ℕ → Content
content longs number = content_at longs (number % 16) (number / 16)

-- the index in a heap type is of 32 bits, as it is in every heap type of a program
abbrev pub HeapHasWords : HeapType → Type 0
HeapHasWords (H.Abs kind) = Unit {0}
HeapHasWords (H.Idx i) = i < 2 ^ 32

abbrev pub CoreHasWords : Core → Type 0
CoreHasWords Bottom = Unit {0}
CoreHasWords (Func f) = f < 2 ^ 32
CoreHasWords (Global g) = g < 2 ^ 32
CoreHasWords (Cone head depth) = HeapHasWords head

-- the indices and the 32-bit literal in a content are of 32 bits, as they are in every content of a program
abbrev pub HasWords : Content → Type 0
HasWords (I32 v) = v < 2 ^ 32
HasWords (NumGlobal g) = g < 2 ^ 32
HasWords (Ref n c) = CoreHasWords c
HasWords a = Unit {0}
