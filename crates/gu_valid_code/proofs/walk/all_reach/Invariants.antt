use Rattle.std.proofs.Common.{◌≡◌, drop}
use Rattle.std.specs.List.{list_all}
use Rattle.gu_model.specs.Typing.{type_catch}
use Rattle.gu_valid_code.specs.Env.{context_of}
use Rattle.gu_valid_code.proofs.walk.all_reach.Given as goal

abbrev pub invariant-loop-catch : goal.invariant-loop-catch
invariant-loop-catch l =
    list_all (type_catch (context_of l.env) l.scope) (drop l.catch-index l.catches) ≡ list_all (type_catch (context_of l.env) l.scope) l.catches
