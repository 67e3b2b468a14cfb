-- The rows of the typing table: what an instruction takes from the operands and what it puts on them (core
-- specification 3.0, 3.1 Conventions, instruction types).
use Rattle.std.specs.Prelude.{List}
use Rattle.gu_types.specs.declared.types.ValType.{ValType}

pub data Row : Type 0 where
  -- takes operands of the first types, the last of which is on top, and puts those of the second
  goes : (operands results : List ValType) → Row
  -- takes operands and never goes on: behind it the stack is polymorphic
  leaves : (operands : List ValType) → Row
