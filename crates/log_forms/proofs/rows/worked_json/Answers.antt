use Rattle.std.proofs.Common.{refl}
use Rattle.std.specs.Fmt.{digits}
use Rattle.midi_wire.specs.Messages.{begins}
use Rattle.log_forms.specs.Forms.{json_line}
use Rattle.log_forms.specs.Kinds.{kind_of}
use Rattle.log_forms.proofs.rows.worked_json.Goals as goal

pub returns : goal.returns
unfolding json_line kind_of begins digits
returns c = record {
  delivery = refl;
  got = refl;
  clock = refl;
  exclusive = refl;
  done = refl;
  count = refl;
  queue = refl;
  pools = refl;
  refused = refl;
  skip = refl;
  listing = refl;
  two = refl;
}
