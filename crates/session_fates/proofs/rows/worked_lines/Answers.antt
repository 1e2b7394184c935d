use Rattle.std.proofs.Common.{refl}
use Rattle.std.specs.Fmt.{digits}
use Rattle.session_fates.proofs.rows.worked_lines.Goals as goal

pub returns : goal.returns
unfolding digits
returns c = record {
  arrives = refl;
  below = refl;
  above = refl;
  shifted = refl;
  channel = refl;
  kind = refl;
  lost = refl;
  no_port = refl;
  no_way = refl;
  more = refl;
}
