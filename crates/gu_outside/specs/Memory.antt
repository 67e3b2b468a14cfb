-- What the sources and sinks in memory are to a caller. The calls at which one fails are counted from 1.
use Rattle.std.specs.Prelude.{ℕ, List}

-- a source: the bytes that are left, the calls at which it fails, the calls and faults so far, and how
-- many bytes it moves at most in a call
pub record Supply : Type 0 where
  pub left : List ℕ
  pub fails : List ℕ
  pub calls : ℕ
  pub faults : ℕ
  pub piece : ℕ

-- a sink: the bytes that it holds, how many more have room, and the same script
pub record Store : Type 0 where
  pub held : List ℕ
  pub room : ℕ
  pub fails : List ℕ
  pub calls : ℕ
  pub faults : ℕ
  pub piece : ℕ
