use Rattle.std.proofs.Common.{sym}
use Rattle.gu_model.specs.ValidConstants.{with_globals}
use Rattle.gu_valid_code.specs.Env.{context_of}
use Rattle.gu_valid_code.proofs.Constants.{other}
use Rattle.gu_valid_code.proofs.constant.is_constant.Goals as goal

pub returns-in_default : goal.returns-in_default
returns-in_default c =
    let d = c.in_default in
    sym (other (with_globals c.args.globals (context_of c.args.env.now)) c.args.instr.now d.not-I32Const d.not-I64Const d.not-Num d.not-RefNull d.not-RefFunc d.not-RefI31 d.not-StructNew d.not-StructNewDefault d.not-ArrayNew d.not-ArrayNewDefault d.not-ArrayNewFixed d.not-AnyConvertExtern d.not-ExternConvertAny d.not-GlobalGet)
