use Rattle.gu_valid_code.specs.Env.{context_of}
use Rattle.gu_valid_code.proofs.Leaves.{by_row}
use Rattle.gu_valid_code.proofs.leaf.type_leaf.Goals as goal

pub returns-in_default : goal.returns-in_default
returns-in_default c =
    let C = context_of c.args.env.now in
    let d = c.in_default in
    rw (by_row C c.args.scope.now c.args.instr.now c.args.state.now d.not-Drop d.not-Select d.not-LocalGet d.not-RefIsNull d.not-RefAsNonNull d.not-BrOnNull d.not-BrOnNonNull d.not-BrTable d.not-AnyConvertExtern d.not-ExternConvertAny c.requires) c.by_row.ensures
