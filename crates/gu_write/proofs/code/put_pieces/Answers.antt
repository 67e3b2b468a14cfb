use Rattle.std.proofs.Common.{arith, rules, ◌≡◌, ◌<◌, ◌+◌, ◌++◌, length}
use Rattle.std.proofs.lemmas.Grind.{common_steps}
use Rattle.std.proofs.lemmas.Result.{err_from_is_err_and}
use Rattle.gu_syntax.specs.Encoding.{encode_items, encode_func}
use Rattle.gu_write.proofs.Joined.{pending_on, pending_long, pending_fails, pending_ends}
use Rattle.gu_write.proofs.code.put_pieces.Goals as goal

pub returns-in_err-bytes-clause-too_long : goal.returns-in_err-bytes-clause-too_long
returns-in_err-bytes-clause-too_long c =
    let p = err_from_is_err_and c.from_residual.result c.from_residual.ensures.1 in
    rw (p.1, p.2) (pending_fails c.args.funcs.now c.args.out.now.items c.pieces.out.items c.pieces.place c.in-Some.piece c.pieces.piece-iterator.rest.items c.next.new.self.rest.items c.pieces.invariant c.in-Some.ensures.steps.0 c.in_err-bytes.field-0.0 c.in_err-bytes.was)

pub returns-in_err-put_bytes-clause-too_long : goal.returns-in_err-put_bytes-clause-too_long
returns-in_err-put_bytes-clause-too_long c =
    let step : 268435456 < length c.pieces.out.items + length c.in_ok-bytes.bytes.items → 268435456 < length c.args.out.now.items + length (encode_items encode_func c.args.funcs.now) = pending_long c.args.funcs.now c.args.out.now.items c.pieces.out.items c.pieces.place c.in-Some.piece c.pieces.piece-iterator.rest.items c.next.new.self.rest.items c.pieces.invariant c.in-Some.ensures.steps.0 c.in_ok-bytes.bytes c.in_ok-bytes.was in
    first_of (grind (arith, common_steps), search rules)

pub pieces-preserved : goal.pieces-preserved
pieces-preserved c =
    let put : c.put_bytes.new.out.items ≡ c.pieces.out.items ++ c.in_ok-bytes.bytes.items = first_of (grind (arith, common_steps), search rules) in
    pending_on c.args.funcs.now c.args.out.now.items c.pieces.out.items c.pieces.place c.in-Some.piece c.pieces.piece-iterator.rest.items c.next.new.self.rest.items c.pieces.invariant c.in-Some.ensures.steps.0 c.in_ok-bytes.bytes c.put_bytes.new.out.items c.in_ok-bytes.was put

pub returns-clause-too_long : goal.returns-clause-too_long
returns-clause-too_long c =
    let step : 268435456 < length c.pieces.out.items + length (encode_items encode_func c.funcs_from.result.now) → 268435456 < length c.args.out.now.items + length (encode_items encode_func c.args.funcs.now) = pending_ends c.args.funcs.now c.funcs_from.result.now c.args.out.now.items c.pieces.out.items c.pieces.place c.pieces.piece-iterator.rest.items c.pieces.invariant c.funcs_from.ensures in
    first_of (grind (arith, common_steps), search rules)
