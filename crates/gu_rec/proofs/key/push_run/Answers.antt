use Rattle.std.proofs.Common.{◌+◌, ◌∙◌, ◌++◌, ◌∷◌, [], ap, sym, append_assoc}
use Rattle.gu_rec.specs.Keys.{run}
use Rattle.gu_rec.proofs.Numbers.{run_more}
use Rattle.gu_rec.proofs.key.push_run.Goals as goal

pub loop-k-preserved : goal.loop-k-preserved
loop-k-preserved c =
    c.in_ok-push.ensures.items
    ∙ (ap (λ l. l ++ (c.args.first + c.loop-k.k) ∷ []) c.loop-k.invariant
    ∙ (append_assoc c.args.numbers.now.items (run c.args.first c.loop-k.k) ((c.args.first + c.loop-k.k) ∷ [])
    ∙ ap (λ l. c.args.numbers.now.items ++ l) (sym (run_more c.args.first c.loop-k.k))))
