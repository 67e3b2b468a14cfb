use Rattle.std.proofs.Common.{◌+◌, ◌*◌, ◌≤◌, length}
use Rattle.gu_read_code.proofs.Turns.{ReadsOnto}
use Rattle.gu_read_code.proofs.code.+nesting.Given as goal

abbrev pub decreases-read_block : goal.decreases-read_block
decreases-read_block l = 3 * l.room

abbrev pub decreases-read_loop : goal.decreases-read_loop
decreases-read_loop l = 3 * l.room

abbrev pub decreases-read_if : goal.decreases-read_if
decreases-read_if l = 3 * l.room

abbrev pub decreases-read_try_table : goal.decreases-read_try_table
decreases-read_try_table l = 3 * l.room

abbrev pub decreases-read_instr : goal.decreases-read_instr
decreases-read_instr l = 3 * l.room + 1

abbrev pub decreases-read_until : goal.decreases-read_until
decreases-read_until l = 3 * l.room + 2

abbrev pub invariant-read_until-code : goal.invariant-read_until-code
invariant-read_until-code l = record {
  onto : ReadsOnto l.room l.may_split l.bytes l.fn.pending.items l.from l.pending.items l.rest;
  inside : length l.rest ≤ length l.bytes;
}

abbrev pub decreases-read_until-code : goal.decreases-read_until-code
decreases-read_until-code l = length l.rest
