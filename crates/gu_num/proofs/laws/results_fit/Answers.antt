use Rattle.gu_num.proofs.Fits.{one_fits, two_fit}
use Rattle.gu_num.proofs.laws.results_fit.Goals as goal

pub returns : goal.returns
returns c = record { one = one_fits; two = two_fit }
