use Rattle.text_forms.proofs.Hexed.{LINES_at}
use Rattle.text_forms.proofs.hex.hex_of.Goals as goal

pub returns : goal.returns
returns c = let p = LINES_at c.args.byte c.ranges.byte.fits in rw (p.second_is, p.third_is)
