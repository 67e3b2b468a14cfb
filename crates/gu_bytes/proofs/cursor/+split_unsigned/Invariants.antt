use Rattle.gu_bytes.proofs.cursor.+split_unsigned.Given as goal

abbrev pub decreases-split_unsigned : goal.decreases-split_unsigned
decreases-split_unsigned l = l.bits
