-- What a body is checked in, as the context of the core specification 3.0, 3.1 Conventions, contexts.
use Rattle.std.specs.Prelude.{Bool, true, false, List}
use Rattle.gu_types.specs.declared.types.ValType.{ValType}
use Rattle.gu_model.specs.TypingContext.{Context}
use Rattle.gu_model.specs.Index.{FuncType}
use Rattle.gu_valid_code.specs.declared.env.Env.{Env}
use Rattle.gu_valid_code.specs.declared.env.Signature.{Signature}

abbrev pub context_of : Env → Context
context_of env = record {
  types = env.types.now;
  funcs = env.funcs;
  tables = env.tables;
  memories = env.memories;
  tags = env.tags;
  globals = env.globals;
  elems = env.elems;
  segs = env.segs;
  declared = env.declared;
}

abbrev pub function_of : Signature → FuncType
function_of s = record { params = s.params.now; results = s.results.now }

-- the types that the label of a block takes: of a loop the parameters (core specification 3.0, 3.4 Instructions)
abbrev pub label_of : (is_loop : Bool) → FuncType → List ValType
label_of true t = t.params
label_of false t = t.results
