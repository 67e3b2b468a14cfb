use Rattle.std.proofs.Common.{◌∙◌, ap, List, Bool, slice_get}
use Rattle.gu_types.specs.declared.types.ValType.{ValType}
use Rattle.gu_valid_code.proofs.Lookups.{item_found}
use Rattle.gu_valid_code.proofs.env.Env.global.Goals as goal

pub returns : goal.returns
returns c =
    item_found c.as_slice.result.now c.args.index c.in_ok-ty.field-0 c.in_ok-ty.ensures.lookup ∙ ap (λ (gs : List (ValType × Bool)). slice_get gs c.args.index) c.as_slice.ensures
