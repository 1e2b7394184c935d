use Rattle.std.proofs.Common.{◌==◌, sym, ap}
use Rattle.smf_text.proofs.Ones.{sum-ones}
use Rattle.smf_text.proofs.words.MetaShape.fits.Goals as goal

pub returns-in-Each : goal.returns-in-Each
returns-in-Each c = rw c.in-Each.is (ap (λ n. c.args.count == n) (sym (sum-ones c.in-Each.numbers)))
