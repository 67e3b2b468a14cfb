-- A place in a text.
use Rattle.std.specs.Prelude.{ℕ, List}

-- how many bytes are passed, and the bytes that are left
pub record Place : Type 0 where
  pub at : ℕ
  pub rest : List ℕ
