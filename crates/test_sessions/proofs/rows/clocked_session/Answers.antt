use Rattle.std.proofs.Common.{◌≡◌, [], ◌∷◌, refl}
use Rattle.std.specs.Fmt.{digits}
use Rattle.midi_wire.specs.Messages.{begins}
use Rattle.seq_examples.specs.Rows.{queue_clock}
use Rattle.seq_examples.proofs.QueueClock as run
use Rattle.seq_session.specs.Merging.{inputs_of, lines_of}
use Rattle.seq_session.specs.Rows.{no_files, a_script}
use Rattle.seq_session.specs.Sessions.{session}
use Rattle.test_sessions.specs.Rows.{clocked_scripts, clock_text, hearer_text}
use Rattle.test_sessions.proofs.Worked.{log_by}
use Rattle.test_sessions.proofs.rows.clocked_session.Goals as goal

said : inputs_of (session no_files 1562800 clocked_scripts) ≡ queue_clock
unfolding begins
said = refl

on_lines : lines_of (session no_files 1562800 clocked_scripts) ≡ 1 ∷ 2 ∷ 3 ∷ 4 ∷ 5 ∷ 6 ∷ 7 ∷ 1 ∷ 2 ∷ 3 ∷ 8 ∷ 9 ∷ 10 ∷ 11 ∷ 12 ∷ 13 ∷ []
unfolding begins
on_lines = refl

pub returns : goal.returns
unfolding digits begins
returns c = record {
  owner = log_by no_files 1562800 clocked_scripts (a_script 128 clock_text) queue_clock _ _ _ said on_lines run.run refl;
  hearer = log_by no_files 1562800 clocked_scripts (a_script 129 hearer_text) queue_clock _ _ _ said on_lines run.run refl;
}
