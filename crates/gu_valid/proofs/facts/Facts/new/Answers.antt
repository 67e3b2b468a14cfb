use Rattle.std.proofs.Common.{◌∙◌, ap, arith, map, List, Bor}
use Rattle.std.specs.List.{list_any}
use Rattle.gu_types.specs.Depth.{types_in}
use Rattle.gu_syntax.specs.declared.instr.Body.{Body}
use Rattle.gu_model.specs.ValidContext.{needs_count_body}
use Rattle.gu_valid.proofs.Counted.{globals_are, few_globals}
use Rattle.gu_valid.proofs.facts.Facts.new.Goals as goal

pub returns-clause-facts : goal.returns-clause-facts
returns-clause-facts c =
    let m = c.args.m.now in
    record {
      small = c.requires.small;
      kinds = c.in_ok-kinds_of.ensures ∙ ap types_in c.as_slice.ensures;
      imported = c.imported_globals.ensures ∙ globals_are m;
      few = omega (arith, c.imported_globals.ensures, globals_are m, few_globals m, c.requires.small.imports);
      constants_need = c.any_needs.ensures ∙ ap (λ (bs : List (Bor Body)). list_any needs_count_body (map (λ b. b.now) bs)) c.deref-2.ensures.value ∙ ap (list_any needs_count_body) c.in_ok-bodies.ensures;
      context = c.in_ok-env.ensures;
    }
