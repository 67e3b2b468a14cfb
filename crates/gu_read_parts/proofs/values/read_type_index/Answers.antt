use Rattle.std.proofs.Common.{arith}
use Rattle.std.proofs.lemmas.Int.{ints}
use Rattle.gu_bytes.proofs.Signed.{signed_fits}
use Rattle.gu_read_parts.proofs.values.read_type_index.Goals as goal

pub overflow_cast-result : goal.overflow_cast-result
overflow_cast-result c = let passed = c.in-Ok.ensures.integer in let fits = signed_fits 33 passed.front c.in-Ok.index passed.spells in omega (arith, ints, fits)
