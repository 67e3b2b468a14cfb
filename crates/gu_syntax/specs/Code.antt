-- Expressions as a tree that definitions go over by cases: a block holds its inner code.
-- It is the abstract syntax of instructions (core specification 3.0, 2.4 Instructions).
use Rattle.std.specs.Prelude.{List, [], ◌∷◌}
use Rattle.gu_syntax.specs.declared.instr.BlockType.{BlockType}
use Rattle.gu_syntax.specs.declared.instr.Catch.{Catch}
use Rattle.gu_syntax.specs.declared.instr.Instr as I
use Rattle.gu_syntax.specs.declared.instr.Instr.TheVariants.{Block, Loop, If, TryTable}
use Rattle.gu_syntax.specs.declared.instr.Instr.{Instr, Row_of-Instr, end_of-Instr, more_of-Instr, more_of-Structured, more_of-Choice, more_of-Guarded}

mutual
  -- an instruction
  pub data Ins : Type 0 where
    -- one that holds no code
    leaf : Instr → Ins
    block : BlockType → Code → Ins
    loop : BlockType → Code → Ins
    -- an `if` with both its branches, the second empty where it is missing
    choice : BlockType → (yes no : Code) → Ins
    try_table : BlockType → List Catch → Code → Ins

  -- instructions in order
  pub data Code : Type 0 where
    done : Code
    next : Ins → Code → Code

unfoldable mutual
  -- an instruction as a tree
  pub ins_of : Instr → Ins
  ins_of (I.Block' boxed (more_of-Structured ty shape row rest)) = block ty (code_row row)
  ins_of (I.Loop' boxed (more_of-Structured ty shape row rest)) = loop ty (code_row row)
  ins_of (I.If' boxed (more_of-Choice ty shape row shape' row' rest)) = choice ty (code_row row) (code_row row')
  ins_of (I.TryTable' boxed (more_of-Guarded ty catches shape row rest)) = try_table ty catches (code_row row)
  ins_of i = leaf i

  pub code_row : {n : _} → Row_of-Instr n → Code
  code_row end_of-Instr = done
  code_row (more_of-Instr i rest) = next (ins_of i) (code_row rest)

-- a list of instructions as a tree
abbrev pub code_of : List Instr → Code
code_of [] = done
code_of (i ∷ is) = next (ins_of i) (code_of is)

-- the way back from a tree
abbrev mutual
  pub instr_of : Ins → Instr
  instr_of (leaf i) = i
  instr_of (block ty code) = Block (record { ty = ty; body = record { code = list_of code } })
  instr_of (loop ty code) = Loop (record { ty = ty; body = record { code = list_of code } })
  instr_of (choice ty yes' no') = If (record { ty = ty; yes = record { code = list_of yes' }; no = record { code = list_of no' } })
  instr_of (try_table ty catches code) = TryTable (record { ty = ty; catches = catches; body = record { code = list_of code } })

  pub list_of : Code → List Instr
  list_of done = []
  list_of (next ins code) = instr_of ins ∷ list_of code
