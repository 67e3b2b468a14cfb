use Rattle.std.proofs.Common.{◌∙◌, ap, length, List, ℕ}
use Rattle.gu_model.specs.TypingContext.{Context}
use Rattle.gu_valid.proofs.facts.Facts.count_funcs.Goals as goal

pub returns : goal.returns
returns c = ap (λ (xs : List ℕ). length xs) c.as_slice.ensures ∙ ap (λ (C : Context). length C.funcs) c.requires.context
