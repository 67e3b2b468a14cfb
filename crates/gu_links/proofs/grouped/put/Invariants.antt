use Rattle.std.proofs.Common.{◌≡◌, ◌<◌, ◌++◌, ◌∷◌, ◌&&◌, [], ℕ, true, not, cond, length, get_or}
use Rattle.gu_types.specs.Depth.{types_of}
use Rattle.gu_links.specs.Cells.{is_least}
use Rattle.gu_links.specs.Kept.{is_below}
use Rattle.gu_links.proofs.grouped.put.Given as goal

abbrev pub invariant-line : goal.invariant-line
invariant-line l = record {
  in_range : l.at < length (types_of l.f.types);
  long : length l.lists.items ≡ length l.initial.lists.items;
  up : (h : ℕ) → is_below l.f.types h l.at ≡ true → is_below l.f.types h l.entry.ty ≡ true;
  added : (h : ℕ) → h < length (types_of l.f.types) → is_least l.f.types h ≡ true
      → get_or l.lists.items h [] ≡ get_or l.initial.lists.items h [] ++ cond (is_below l.f.types h l.entry.ty && not (is_below l.f.types h l.at)) (l.entry.item ∷ []) [];
}

abbrev pub decreases-line : goal.decreases-line
decreases-line l = l.at
