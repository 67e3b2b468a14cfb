use Rattle.std.proofs.Common.{ap, ◌∙◌, sym, subst}
use Rattle.gu_outside.specs.Outside.{Appended, PrefixAdded}
use Rattle.gu_syntax.specs.declared.module.Module.{Module}
use Rattle.gu_syntax.specs.Encoding.{encoding}
use Rattle.gu_write_parts.specs.Limit.{BlamesLength}
use Rattle.gu_report.specs.declared.status.Status.{Status}
use Rattle.gu_report.specs.Statuses.{of_writer}
use Rattle.wasm_gufa.specs.Steps.{Says}
use Rattle.wasm_gufa.proofs.Causes.{says_unwritten, run_is, optimises, broken_off}
use Rattle.wasm_gufa.proofs.top.put_least.Goals as goal

pub returns-in_err-text-clause-says : goal.returns-in_err-text-clause-says
returns-in_err-text-clause-says g c = λ bytes accepted.
    let held = g.K.Sink.held c.args.output.now in
    subst (λ (status : Status). Says status bytes held held) (sym (run_is c.from_residual.result (of_writer c.in_err-text.field-0.0) c.from_residual.ensures.1))
    (says_unwritten bytes held held c.args.module c.in_err-text.field-0.0 accepted
    (subst (λ (n : Module). BlamesLength (encoding n) c.in_err-text.field-0.0) (c.get.ensures.same ∙ c.cut_module-cut.ensures) c.in_err-text.ensures.too_long))

pub returns-in-Ok-clause-says : goal.returns-in-Ok-clause-says
returns-in-Ok-clause-says g c = λ bytes accepted.
    let before = g.K.Sink.held c.args.output.now in
    let after = g.K.Sink.held c.put_all.new.output in
    optimises bytes c.in_ok-text.text.items before after
    (record {
      m = c.args.module;
      accepted = accepted;
      made = c.in_ok-text.ensures.text ∙ ap encoding (c.get.ensures.same ∙ c.cut_module-cut.ensures);
      short = c.in_ok-text.ensures.short;
    })
    (subst (Appended before after) c.as_slice.ensures.value c.in-Ok.ensures.all)

pub returns-in-Err-clause-says : goal.returns-in-Err-clause-says
returns-in-Err-clause-says g c = λ bytes accepted.
    let before = g.K.Sink.held c.args.output.now in
    let after = g.K.Sink.held c.put_all.new.output in
    broken_off bytes c.in_ok-text.text.items before after
    (record {
      m = c.args.module;
      accepted = accepted;
      made = c.in_ok-text.ensures.text ∙ ap encoding (c.get.ensures.same ∙ c.cut_module-cut.ensures);
      short = c.in_ok-text.ensures.short;
    })
    (subst (PrefixAdded before after) c.as_slice.ensures.value c.in-Err.ensures.part)
