use Rattle.std.proofs.Common.{refl}
use Rattle.std.specs.Fmt.{digits}
use Rattle.midi_wire.specs.Messages.{begins}
use Rattle.seq_session.proofs.rows.worked_logs.Goals as goal

pub returns-clause-hostile : goal.returns-clause-hostile
unfolding digits begins
returns-clause-hostile c = record {
  lines = refl;
  first = refl;
  second = refl;
  hostile = refl;
  empty = refl;
}

pub returns-clause-others : goal.returns-clause-others
unfolding digits
returns-clause-others c = record { too_long = refl; no_place = refl }

pub returns-clause-refusals : goal.returns-clause-refusals
unfolding digits
returns-clause-refusals c = record { first = refl; second = refl; third = refl }

pub returns-clause-blanked : goal.returns-clause-blanked
unfolding digits
returns-clause-blanked c = record { log = refl; twice = refl; none = refl; empty = refl }
