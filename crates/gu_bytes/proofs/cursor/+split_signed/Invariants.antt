use Rattle.gu_bytes.proofs.cursor.+split_signed.Given as goal

abbrev pub decreases-split_signed : goal.decreases-split_signed
decreases-split_signed l = l.bits
