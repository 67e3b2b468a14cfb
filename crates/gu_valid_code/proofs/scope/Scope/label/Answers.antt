use Rattle.std.proofs.Common.{◌∙◌, ◌≡◌, ◌≤◌, ◌+◌, ◌-◌, ap, arith, length, slice_get, Bor, List}
use Rattle.gu_types.specs.declared.types.ValType.{ValType}
use Rattle.gu_model.specs.TypingContext.{Around}
use Rattle.gu_valid_code.proofs.Lookups.{from_end}
use Rattle.gu_valid_code.proofs.scope.Scope.label.Goals as goal

pub returns : goal.returns
returns c =
    from_end (λ (label : Bor (List ValType)). label.now) c.self.inside.labels.items c.args.index c.in_ok-place.place c.index.result.now (let e : c.args.index + 1 ≤ length c.self.inside.labels.items = omega (arith, c.in_ok-place.ensures.0, c.len.ensures) in e) (let e : c.in_ok-place.place ≡ length c.self.inside.labels.items - (c.args.index + 1) = omega (arith, c.in_ok-place.ensures.1, c.len.ensures) in e) c.index.ensures
    ∙ ap (λ (a : Around). slice_get a.labels c.args.index) c.self.view_is
