use Rattle.std.proofs.Common.{refl}
use Rattle.std.specs.Fmt.{digits}
use Rattle.std.specs.Str.{chars}
use lib.Utf8.{encode}
use Rattle.smf_check.proofs.laws.worked_checks.Goals as goal

pub returns : goal.returns
unfolding digits chars encode
returns c = record {
  all = refl;
  quiet = refl;
  some_not = refl;
  escaped = refl;
  alone = refl;
  all_whole = refl;
  forgiven = refl;
  forgiven_quiet = refl;
  forgiven_whole = refl;
  none = refl;
}
