use Rattle.std.proofs.Common.{◌≡◌, ◌<◌, [], ℕ, true, length, get_or, take}
use Rattle.gu_types.specs.Depth.{types_of}
use Rattle.gu_links.specs.Cells.{is_least}
use Rattle.gu_links.specs.Listing.{listed}
use Rattle.gu_links.proofs.grouped.listed_below.Given as goal

abbrev pub invariant-items : goal.invariant-items
invariant-items l = record {
  long : length l.lists.items ≡ length (types_of l.f.types);
  are : (h : ℕ) → h < length (types_of l.f.types) → is_least l.f.types h ≡ true → get_or l.lists.items h [] ≡ listed l.f h (take l.entry-index l.items);
}
