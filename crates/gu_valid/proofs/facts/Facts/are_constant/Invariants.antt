use Rattle.std.proofs.Common.{◌≡◌, drop, length}
use Rattle.std.specs.List.{list_all}
use Rattle.gu_model.specs.Valid.{is_constant_body}
use Rattle.gu_model.specs.ValidContext.{context}
use Rattle.gu_valid.proofs.facts.Facts.are_constant.Given as goal

abbrev pub invariant-loop-body : goal.invariant-loop-body
invariant-loop-body l =
    let m = l.self.module.now in
    let holds = is_constant_body m (length (context m).globals) l.ty in
    list_all holds (drop l.body-index l.bodies) ≡ list_all holds l.bodies
