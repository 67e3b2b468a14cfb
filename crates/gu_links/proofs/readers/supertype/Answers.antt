use Rattle.std.proofs.Common.{◌≡◌, ◌+◌, ◌-◌, ℕ, length, refl, Some, sym, ap, ◌∙◌, arith}
use Rattle.gu_types.specs.Depth.{types_of}
use Rattle.gu_rec.proofs.Lines.{parent_below}
use Rattle.gu_contents.proofs.Heights.{least_is}
use Rattle.gu_links.proofs.Within.{least_below}
use Rattle.gu_links.proofs.Listed.{step_up, no_step, no_further, least_least_of}
use Rattle.gu_links.proofs.readers.supertype.Goals as goal

pub returns-in_err-at-clause-value : goal.returns-in_err-at-clause-value
returns-in_err-at-clause-value c above d =
    let t = c.line-test.true in
    let left : c.args.up ≡ c.line.counter + ((c.args.up - c.line.counter - 1) + 1) = omega arith in
    absurd (no_step c.args.f.now above c.line.at (c.args.up - c.line.counter - 1) (sym c.parent.ensures ∙ c.in_err-at.was)
    (c.line.invariant.on above ((c.args.up - c.line.counter - 1) + 1) (d ∙ ap (λ (n : ℕ). Some n) left)))

pub line-preserved : goal.line-preserved
line-preserved c =
    let e = sym c.parent.ensures ∙ c.in_ok-at.was in
    let b = parent_below (types_of c.args.f.now.types) c.line.at c.in_ok-at.at e in
    let r = c.line.invariant.in_range in
    record {
      in_range = omega arith;
      on = λ above n d.
          step_up c.args.f.now above c.line.at c.in_ok-at.at n e
          (c.line.invariant.on above (n + 1) (d ∙ ap (λ (m : ℕ). Some m) (let z : c.line.counter + 1 + n ≡ c.line.counter + (n + 1) = omega arith in z)));
    }

pub returns-clause-value : goal.returns-clause-value
returns-clause-value c above d =
    let t = c.line-test.false in
    let end = c.line.auto.counter-end in
    let left : c.args.up ≡ c.line.counter + 0 = omega arith in
    let same = no_further c.args.f.now above c.line.at (c.line.invariant.on above 0 (d ∙ ap (λ (n : ℕ). Some n) left)) in
    ap (λ (n : ℕ). Some n) (least_is c.args.f.now.types c.line.at c.canon.result c.canon.ensures.same c.canon.ensures.least ∙ sym same)

pub returns-clause-in_range : goal.returns-clause-in_range
returns-clause-in_range c = least_below c.args.f.now c.line.at c.canon.result (length (types_of c.args.f.now.types)) c.line.invariant.in_range refl c.canon.ensures.same c.canon.ensures.least

pub returns-clause-least : goal.returns-clause-least
returns-clause-least c = least_least_of c.args.f.now c.line.at c.canon.result c.canon.ensures.same c.canon.ensures.least
