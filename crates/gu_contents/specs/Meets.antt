-- What is left of a content where its values are cast, tested or compared.
use Rattle.std.specs.Prelude.{ℕ, ◌-◌, Bool, true, false, not, ◌&&◌, Option, Some, None, min, nat_lt, nat_le, is_some, if◌then◌else◌}
use Rattle.gu_types.specs.declared.types.Abs.{Abs}
use Rattle.gu_types.specs.declared.types.HeapType.{HeapType}
use Rattle.gu_types.specs.declared.types.RefType.{RefType}
use Rattle.gu_types.specs.declared.types.ValType.TheVariants as V
use Rattle.gu_types.specs.declared.types.TypeList.{TypeList}
use Rattle.gu_rec.specs.Sub.{top_over, distance, height}
use Rattle.gu_contents.specs.declared.content.Core.{Core}
use Rattle.gu_contents.specs.declared.content.Core.TheVariants.{Bottom, Func, Global, Cone}
use Rattle.gu_contents.specs.declared.content.Content.{Content}
use Rattle.gu_contents.specs.declared.content.Content.TheVariants.{Empty, I32, Many, Ref, Top}
use Rattle.gu_contents.specs.declared.facts.Facts.{Facts}
use Rattle.gu_contents.specs.Contents.{least_index, cone_of, bound, type_of_func, refs, eq_core, eq_content}
use Rattle.gu_contents.specs.Order.{cone_at_most}
use Rattle.gu_contents.specs.Whole.{whole, all}

-- what a cone of a depth has below a heap type that stands so many edges below its head, if it does
abbrev pub below_head : TypeList → ℕ → HeapType → Option ℕ → Core
below_head list depth to None = Bottom
below_head list depth to (Some edges) = if nat_le edges depth then Cone (least_index list to) (min (depth - edges) (height list to)) else Bottom

-- what of a cone is at or below a heap type: all where that is the head or above
abbrev pub meet_cone : TypeList → Core → HeapType → Core
meet_cone list (Cone head depth) to = if is_some (distance list to head) then Cone head depth else below_head list depth to (distance list head to)
meet_cone list core to = Bottom

-- What of a core is at or below a heap type that is no bottom. A function is there or not; a global stays itself where
-- its bound lies in the heap type's whole cone
abbrev pub meet_heap : Facts → Core → HeapType → Core
meet_heap f (Func g) to = if is_some (distance f.types to (type_of_func f g)) then Func g else Bottom
meet_heap f (Global g) to = if cone_at_most f (bound f g) (whole f to) then Global g else meet_cone f.types (bound f g) to
meet_heap f core to = meet_cone f.types core to

abbrev pub meet_under : Facts → Core → HeapType → Option Abs → Core
meet_under f core to None = meet_heap f core to
meet_under f core to (Some top) = Bottom

-- what of a core is at or below a heap type: nothing where that is a bottom
unfoldable pub meet : Facts → Core → HeapType → Core
meet f core to = meet_under f core to (top_over to)

-- what a content lets through where its values are cast to a reference type
unfoldable pub filter : Facts → Content → RefType → Content
filter f Empty to = Empty
filter f Top to = all f (V.Ref to)
filter f (Ref n c) to = refs (n && to.null) (meet f c to.heap)
filter f _ to = Empty

-- a core without what is at or below a heap type: nothing where all of it is, else it stays
abbrev pub core_minus : Facts → Core → HeapType → Core
core_minus f core by = if eq_core (meet f core by) core then Bottom else core

-- what a content keeps where its values are no values of a reference type
unfoldable pub minus : Facts → Content → RefType → Content
minus f (Ref n c) by = refs (n && not by.null) (core_minus f c by.heap)
minus f a by = a

-- the answer of a test whose values are let through as a content: no where nothing is, and then yes where all is
abbrev pub test_of : Content → Content → Content
test_of a through = if eq_content through Empty then I32 0 else (if eq_content through a then I32 1 else Many)

-- what a test answers of whether the values are of a reference type
unfoldable pub test : Facts → Content → RefType → Content
test f Empty to = Empty
test f a to = test_of a (filter f a to)

-- whether null is in a content
abbrev pub has_null : Content → Bool
has_null (Ref n c) = n
has_null Top = true
has_null _ = false

-- what a test answers of whether the values are null
unfoldable pub is_null : Content → Content
is_null Empty = Empty
is_null (Ref true Bottom) = I32 1
is_null a = if has_null a then Many else I32 0

-- whether no value is in a cone of a depth and in another, of whose heads the first stands above the second by so many
-- edges, if it does, or the second above the first by so many
abbrev pub far_apart : ℕ → Option ℕ → ℕ → Option ℕ → Bool
far_apart d (Some edges) e up = nat_lt d edges
far_apart d None e (Some edges) = nat_lt e edges
far_apart d None e None = true

abbrev pub cones_apart : TypeList → Core → Core → Bool
cones_apart list (Cone a d) (Cone b e) = far_apart d (distance list a b) e (distance list b a)
cones_apart list _ _ = true

-- whether no reference is in both of two cores, as far as the cones tell that stand for them
abbrev pub apart : Facts → Core → Core → Bool
apart f c d = cones_apart f.types (cone_of f c) (cone_of f d)

-- the answer of a comparison of references that are not the same for sure: no where they are not both null and their
-- cores are apart
abbrev pub equal_refs : Facts → Bool → Core → Bool → Core → Content
equal_refs f n c m d = if not (n && m) && apart f c d then I32 0 else Many

abbrev pub equal_cores : Facts → Bool → Core → Bool → Core → Content
equal_cores f true Bottom true Bottom = I32 1
equal_cores f false (Global g) false (Global h) = if eq_core (Global g) (Global h) then I32 1 else equal_refs f false (Global g) false (Global h)
equal_cores f n c m d = equal_refs f n c m d

-- what a comparison answers of whether the values are the same
unfoldable pub equal : Facts → Content → Content → Content
equal f Empty b = Empty
equal f a Empty = Empty
equal f (Ref n c) (Ref m d) = equal_cores f n c m d
equal f _ _ = Many
