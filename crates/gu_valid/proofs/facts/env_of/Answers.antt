use Rattle.std.proofs.Common.{◌∙◌, ap, length, map, List}
use Rattle.gu_syntax.specs.declared.module.Elem.{Elem}
use Rattle.gu_syntax.specs.declared.module.Seg.{Seg}
use Rattle.gu_model.specs.ValidContext.{context, elem_type}
use Rattle.gu_valid.proofs.Counted.{memories_are, same_context}
use Rattle.gu_valid.proofs.facts.env_of.Goals as goal

pub returns : goal.returns
returns c =
    let m = c.args.m.now in
    same_context _ (context m) c.requires.types (c.funcs.view_is ∙ c.in_ok-funcs.ensures) c.in_ok-tables_of.ensures (c.count_memories.ensures ∙ memories_are m) c.in_ok-tags_of.ensures c.in_ok-globals_of.ensures (c.in_ok-elems_of.ensures ∙ ap (λ (es : List Elem). map elem_type es) c.as_slice-2.ensures) (ap (λ (ss : List Seg). length ss) c.as_slice-3.ensures) c.in_ok-declared.ensures
