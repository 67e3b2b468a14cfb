use Rattle.std.proofs.Common.{◌∙◌, ap, List, map, Bor}
use Rattle.gu_syntax.specs.declared.instr.Body.{Body}
use Rattle.gu_syntax.specs.declared.module.Elem.{Elem}
use Rattle.gu_syntax.specs.declared.module.Export.{Export}
use Rattle.gu_model.specs.ValidContext.{marked, named_by_elems, named_by_exports}
use Rattle.gu_valid.proofs.Lists.{outside_is}
use Rattle.gu_valid.proofs.declared.mark_outside.Goals as goal

pub returns : goal.returns
returns c =
    outside_is c.args.m.now (map (λ (b : Bor Body). b.now) c.args.bodies.now) c.args.flags.now c.mark_bodies.new.flags c.mark_exports.new.flags c.mark_elems.new.flags c.requires c.mark_bodies.ensures (c.mark_exports.ensures ∙ ap (λ (es : List Export). marked (named_by_exports es) c.mark_bodies.new.flags) c.as_slice.ensures) (c.mark_elems.ensures ∙ ap (λ (es : List Elem). marked (named_by_elems es) c.mark_exports.new.flags) c.as_slice-2.ensures)
