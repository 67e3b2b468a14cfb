-- What a `&mut` into a list writes back to it.
use Rattle.std.specs.Prelude.{List, ◌++◌, take, drop, length}
use Rattle.std.specs.Borrow.{Lends, MutBor, Fml, RattleType, Array}
use Rattle.gu_types.specs.contracts.list.List.{the_row}

-- the written items at the length of the old list: what is too much goes, and what is missing stays old
abbrev pub refill : {X : Type 0} → List X → List X → List X
refill old written = take (length old) (written ++ drop (length written) old)

-- the list becomes what is left behind the slice
abbrev pub lends_slice : (T : RattleType) → MutBor (List T.Denot) → MutBor (List T.Denot) → Fml
lends_slice T list slice = Lends (the_row T) (Array T 0) list slice (refill list.now)
