use Rattle.std.proofs.Common.{refl}
use Rattle.std.specs.Fmt.{digits}
use Rattle.midi_wire.specs.Messages.{begins}
use Rattle.script_text.proofs.rows.worked_faults.Goals as goal

pub returns-clause-faults : goal.returns-clause-faults
unfolding begins
returns-clause-faults c = record {
  readable = refl;
  no_words = refl;
  remark = refl;
  no_moment = refl;
  no_command = refl;
  unknown = refl;
  first_wrong = refl;
  second_wrong = refl;
  first_before_last = refl;
  missing = refl;
  missing_file = refl;
  too_many = refl;
  no_byte = refl;
  missing_byte = refl;
  no_message = refl;
  bytes_alone = refl;
  no_due = refl;
  no_channel = refl;
  two_channels = refl;
  marked = refl;
  marked_remark = refl;
  part_of_mark = refl;
  remark_behind = refl;
  remark_for_byte = refl;
  remark_for_channel = refl;
  remark_for_address = refl;
  remark_for_command = refl;
  name_as_remark = refl;
}

pub returns-clause-texts : goal.returns-clause-texts
unfolding digits
returns-clause-texts c = record {
  wrong = refl;
  missing = refl;
  too_many = refl;
  remark = refl;
}
