use Rattle.std.proofs.Common.{◌≡◌, [], ◌∷◌, refl}
use Rattle.std.specs.Fmt.{digits}
use Rattle.midi_wire.specs.Messages.{begins}
use Rattle.seq_examples.specs.Rows.{equal_moments}
use Rattle.seq_examples.proofs.EqualMoments as run
use Rattle.seq_session.specs.Merging.{inputs_of, lines_of}
use Rattle.seq_session.specs.Rows.{no_files, a_script}
use Rattle.seq_session.specs.Sessions.{session}
use Rattle.test_sessions.specs.Rows.{tied_scripts, both_text}
use Rattle.test_sessions.proofs.Worked.{log_by}
use Rattle.test_sessions.proofs.rows.tied_session.Goals as goal

said : inputs_of (session no_files 200 tied_scripts) ≡ equal_moments
unfolding begins
said = refl

on_lines : lines_of (session no_files 200 tied_scripts) ≡ 1 ∷ 2 ∷ 3 ∷ 4 ∷ 1 ∷ 2 ∷ 3 ∷ 1 ∷ 2 ∷ 3 ∷ 4 ∷ 4 ∷ 5 ∷ 5 ∷ []
unfolding begins
on_lines = refl

pub returns : goal.returns
unfolding digits begins
returns c = record {
  hearer = log_by no_files 200 tied_scripts (a_script 129 both_text) equal_moments _ _ _ said on_lines run.run refl;
}
