-- Sameness of modules is an equivalence, and sameness with equal steps is the stronger one.
use Rattle.std.proofs.Common.{List, [], ◌++◌, ◌≡◌, refl, ap, ◌∙◌, sym, append_assoc, append-nil}
use Rattle.gu_syntax.specs.declared.module.Module.{Module}
use Rattle.gu_model.specs.Script.{Event, Begins}
use Rattle.gu_model.specs.Same.{SameOutside, Follows, Same, SameSteps}
use Rattle.gu_model.specs.Laws.{IsEquivalence}

pub begins_same : {a b : List Event} → a ≡ b → Begins a b
begins_same {a} {b} e = record { rest = []; is = sym e ∙ sym (append-nil a) }

pub begins_then : {a b c : List Event} → Begins a b → Begins b c → Begins a c
begins_then p q = record { rest = p.rest ++ q.rest; is = q.is ∙ ap (λ x. x ++ q.rest) p.is ∙ append_assoc _ p.rest q.rest }

outside_same : (m : Module) → SameOutside m m
outside_same m = record { imports = refl; exports = refl }

outside_back : (m n : Module) → SameOutside m n → SameOutside n m
outside_back m n s = record { imports = sym s.imports; exports = sym s.exports }

outside_then : (m n o : Module) → SameOutside m n → SameOutside n o → SameOutside m o
outside_then m n o s t = record { imports = s.imports ∙ t.imports; exports = s.exports ∙ t.exports }

follows_same : (m : Module) → Follows m m
follows_same m script steps = (steps, begins_same refl)

follows_then : (m n o : Module) → Follows m n → Follows n o → Follows m o
follows_then m n o f g script steps = let h = f script steps in let k = g script h.0 in (k.0, begins_then h.1 k.1)

pub same_is_an_equivalence : IsEquivalence Same
same_is_an_equivalence = record {
  reflexive = λ m. record { outside = outside_same m; there = follows_same m; back = follows_same m };
  symmetric = λ m n s. record { outside = outside_back m n s.outside; there = s.back; back = s.there };
  transitive = λ m n o s t. record { outside = outside_then m n o s.outside t.outside; there = follows_then m n o s.there t.there; back = follows_then o n m t.back s.back };
}

pub same_steps_is_an_equivalence : IsEquivalence SameSteps
same_steps_is_an_equivalence = record {
  reflexive = λ m. record { outside = outside_same m; traces = λ script steps. refl };
  symmetric = λ m n s. record { outside = outside_back m n s.outside; traces = λ script steps. sym (s.traces script steps) };
  transitive = λ m n o s t. record { outside = outside_then m n o s.outside t.outside; traces = λ script steps. s.traces script steps ∙ t.traces script steps };
}

pub same_steps_is_same : (m n : Module) → SameSteps m n → Same m n
same_steps_is_same m n s = record {
  outside = s.outside;
  there = λ script steps. (steps, begins_same (s.traces script steps));
  back = λ script steps. (steps, begins_same (sym (s.traces script steps)));
}
