use Rattle.gu_syntax.proofs.Modules.{module_again, module_read, module_within}
use Rattle.gu_syntax.proofs.laws.decoding_reads_modules.Goals as goal

pub returns : goal.returns
returns c = record { again = module_again; taken = module_read; inside = module_within }
