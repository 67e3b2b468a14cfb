-- Instructions up to the code that ends them, as the grammar sees them.
use Rattle.std.specs.Prelude.{Bool}
use Rattle.gu_syntax.specs.Code.{Code, code_of}
use Rattle.gu_read_code.specs.declared.code.Branch.{Branch}

abbrev pub branch_of : Branch → Code × Bool
branch_of branch = (code_of branch.code.code, branch.at_else)
