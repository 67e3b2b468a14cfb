use Rattle.std.proofs.Common.{◌≡◌, drop}
use Rattle.std.specs.List.{list_all}
use Rattle.gu_model.specs.Typing.{takes}
use Rattle.gu_valid_code.specs.Env.{context_of}
use Rattle.gu_valid_code.proofs.leaf.all_take.Given as goal

abbrev pub invariant-loop-label : goal.invariant-loop-label
invariant-loop-label l =
    list_all (takes (context_of l.env) l.scope l.count l.state) (drop l.label-index l.labels) ≡ list_all (takes (context_of l.env) l.scope l.count l.state) l.labels
