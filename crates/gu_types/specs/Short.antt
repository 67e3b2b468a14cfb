-- What a `ShortList` holds.
use Rattle.std.specs.Prelude.{List, ⊤}
use Rattle.gu_types.specs.declared.short.Items.{Items}
use Rattle.gu_types.specs.declared.short.Items.TheVariants.{One, Many}

-- the items, in order, however they are held
abbrev pub items_of : {T : Type 0} → Items T → List T
items_of (One item alloc) = item
items_of (Many items) = items.items

-- not a single item that is held in place
abbrev pub IsMany : {T : Type 0} → Items T → Type 0
IsMany (One item alloc) = ⊥
IsMany (Many items) = ⊤
