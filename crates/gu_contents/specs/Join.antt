-- The least content that is at least two others.
use Rattle.std.specs.Prelude.{ℕ, ◌+◌, Bool, ◌||◌, Option, Some, None, max, find, option_map, unwrap_or, if◌then◌else◌}
use Rattle.gu_types.specs.declared.types.HeapType.{HeapType}
use Rattle.gu_types.specs.declared.types.TypeList.{TypeList}
use Rattle.gu_rec.specs.Sub.{is_sub, line, distance}
use Rattle.gu_contents.specs.declared.content.Core.{Core}
use Rattle.gu_contents.specs.declared.content.Core.TheVariants.{Bottom, Cone}
use Rattle.gu_contents.specs.declared.content.Content.{Content}
use Rattle.gu_contents.specs.declared.content.Content.TheVariants.{Empty, Many, Ref, Top}
use Rattle.gu_contents.specs.declared.facts.Facts.{Facts}
use Rattle.gu_contents.specs.Contents.{least_index, cone_of, eq_core, eq_content}

-- The least common supertype of two heap types, of which the first is no bottom, by its least index: the first on its
-- line that the other is a subtype of. None where there is none
unfoldable pub common : TypeList → HeapType → HeapType → Option HeapType
common list a b = option_map (least_index list) (find (is_sub list b) (line list a))

-- how many edges lead from a heap type down to another that stands below it
abbrev pub edges : TypeList → HeapType → HeapType → ℕ
edges list above below = unwrap_or (distance list above below) 0

-- the least cone below a head that has two others in it
abbrev pub cone_under : TypeList → HeapType → ℕ → HeapType → ℕ → HeapType → Core
cone_under list a d b e head = Cone head (max (edges list head a + d) (edges list head b + e))

-- the least cone that is at least two cones, if their heads have a common supertype
abbrev pub join_cones : Facts → Core → Core → Option Core
join_cones f Bottom core = Some core
join_cones f core Bottom = Some core
join_cones f (Cone a d) (Cone b e) = option_map (cone_under f.types a d b e) (common f.types a b)
join_cones f _ _ = None

-- The least core that is at least two others, if any is. Where they differ, and neither is the bottom, a function stands
-- for the cone of its type, and a global for its bound
abbrev pub join_cores : Facts → Core → Core → Option Core
join_cores f Bottom core = Some core
join_cores f core Bottom = Some core
join_cores f c d = if eq_core c d then Some c else join_cones f (cone_of f c) (cone_of f d)

-- references with a core, or all values where there is none
abbrev pub refs_or_top : Bool → Option Core → Content
refs_or_top null None = Top
refs_or_top null (Some core) = Ref null core

-- two numbers: many, unless they are the same
abbrev pub join_numbers : Content → Content → Content
join_numbers a b = if eq_content a b then a else Many

-- the least content that is at least two others
unfoldable pub join : Facts → Content → Content → Content
join f Empty b = b
join f a Empty = a
join f Top b = Top
join f a Top = Top
join f (Ref n c) (Ref m d) = refs_or_top (n || m) (join_cores f c d)
join f (Ref n c) b = Top
join f a (Ref m d) = Top
join f a b = join_numbers a b
