use Rattle.std.proofs.Common.{arith}
use Rattle.smf_make.proofs.FileLines.{can-head}
use Rattle.smf_make.proofs.file_lines.can_head.Goals as goal

pub returns-in-Ok : goal.returns-in-Ok
returns-in-Ok c = can-head c.args.format c.args.tracks c.args.division _ c.if-format-gt1.false (omega (arith, c.ranges.tracks.fits)) c.in-Ok.ensures
