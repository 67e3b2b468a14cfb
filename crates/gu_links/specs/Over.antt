-- Which types and which functions a content can lead to.
use Rattle.std.specs.Prelude.{ℕ, Bool, true, false, ◌&&◌, List, length, filter, nat_eq, nat_lt, slice_index}
use Rattle.std.specs.List.{list_any}
use Rattle.gu_types.specs.declared.types.HeapType.TheVariants as H
use Rattle.gu_types.specs.declared.types.RefType.{RefType}
use Rattle.gu_types.specs.Depth.{types_of}
use Rattle.gu_rec.specs.Keys.{run}
use Rattle.gu_rec.specs.Sub.{is_sub}
use Rattle.gu_contents.specs.declared.content.Core.TheVariants.{Func, Cone}
use Rattle.gu_contents.specs.declared.content.Content.{Content}
use Rattle.gu_contents.specs.declared.content.Content.TheVariants.{Ref, Top}
use Rattle.gu_contents.specs.declared.facts.Facts.{Facts}
use Rattle.gu_contents.specs.Contents.{least_of, cone_of}
use Rattle.gu_contents.specs.Order.{cone_at_most}
use Rattle.gu_contents.specs.Meets as meets
use Rattle.gu_links.specs.declared.link.Link.{Link}
use Rattle.gu_links.specs.declared.link.Link.TheVariants.{Callable}
use Rattle.gu_links.specs.Cells.{is_least, slots_of}

-- the references to the type with an index, without null
abbrev pub ref_to : ℕ → RefType
ref_to ty = record { null = false; heap = H.Idx ty }

-- Whether a content covers the type with an index. A cone covers the types that stand below its head by as many edges as
-- it is deep, or fewer; a function covers its own type alone, and a global what its bound covers. What is no reference,
-- or null alone, covers none, and all values cover every type
abbrev pub covers : Facts → Content → ℕ → Bool
covers f (Ref n c) ty = cone_at_most f (Cone (H.Idx ty) 0) (cone_of f c)
covers f Top ty = true
covers f _ ty = false

-- Whether a content covers the function with an index: one function covers itself alone, and each other content the
-- functions whose type it covers
abbrev pub covers_func : Facts → Content → ℕ → Bool
covers_func f (Ref n (Func h)) g = nat_eq h g
covers_func f a g = covers f a (least_of f.types (slice_index f.funcs g))

-- whether the type with an index, the least of its type, is at or below another, and a content covers it where it is
-- filtered to references to the other
unfoldable pub is_over : Facts → Content → ℕ → ℕ → Bool
is_over f a ty s = is_least f.types s && (is_sub f.types (H.Idx s) (H.Idx ty) && covers f (meets.filter f a (ref_to ty)) s)

-- whether the type with an index has a slot. In a valid module it does where a type above it does
abbrev pub has_slot : Facts → ℕ → ℕ → Bool
has_slot f slot s = nat_lt slot (slots_of f.types s)

-- the types at or below the type with an index, each by its least index, that have a slot, and that a content covers
-- where it is filtered to references to that type
unfoldable pub over : Facts → Content → ℕ → ℕ → List ℕ
over f a ty slot = filter (λ s. has_slot f slot s && is_over f a ty s) (run 0 (length (types_of f.types)))

-- whether a link says that the function with an index can be called by reference
abbrev pub names : ℕ → Link → Bool
names g (Callable h) = nat_eq h g
names g _ = false

-- whether the type of a function is at or below the type with an index, and a content covers the function where it is
-- filtered to references to that type
unfoldable pub is_callee : Facts → Content → ℕ → ℕ → Bool
is_callee f a ty g = is_sub f.types (H.Idx (slice_index f.funcs g)) (H.Idx ty) && covers_func f (meets.filter f a (ref_to ty)) g

-- those functions that can be called by reference
unfoldable pub callees : Facts → List Link → Content → ℕ → List ℕ
callees f links a ty = filter (λ g. list_any (names g) links && is_callee f a ty g) (run 0 (length f.funcs))
