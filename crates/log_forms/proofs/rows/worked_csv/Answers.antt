use Rattle.std.proofs.Common.{refl}
use Rattle.std.specs.Fmt.{digits}
use Rattle.midi_wire.specs.Messages.{begins}
use Rattle.log_forms.specs.Forms.{csv_line}
use Rattle.log_forms.specs.Kinds.{kind_of}
use Rattle.log_forms.proofs.rows.worked_csv.Goals as goal

pub returns : goal.returns
unfolding csv_line kind_of begins digits
returns c = record {
  head = refl;
  delivery = refl;
  got = refl;
  exclusive = refl;
  done = refl;
  count = refl;
  queue = refl;
  pools = refl;
  refused = refl;
  skip = refl;
  plain = refl;
  comma = refl;
  quote = refl;
}
