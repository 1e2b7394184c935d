use Rattle.std.proofs.Common.{refl}
use Rattle.session_live.proofs.Counted.{counts-new}
use Rattle.session_live.proofs.heard.HeardLines.new.Goals as goal

pub returns : goal.returns
returns c = counts-new c.no_lines.result 0 c.no_lines.ensures.rows c.no_lines.ensures.none refl
