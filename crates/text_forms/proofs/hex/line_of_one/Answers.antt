use Rattle.text_forms.proofs.Hexed.{LINES_at}
use Rattle.text_forms.proofs.hex.line_of_one.Goals as goal

pub returns : goal.returns
returns c =
    let p = LINES_at c.args.a c.ranges.a.fits in
    rw (p.first_is, p.second_is, p.third_is, p.fourth_is)
