-- What a `&mut` into a boxed value writes back to it.
use Rattle.std.specs.Borrow.{Lends, MutBor, Fml, RattleType}
use Rattle.gu_boxed.specs.contracts.Boxed.{the_row}

-- the boxed value becomes what is left behind the reference
abbrev pub lends_value : (T : RattleType) → MutBor T.Denot → MutBor T.Denot → Fml
lends_value T boxed value = Lends (the_row T) T boxed value (λ written. written)
