use Rattle.std.proofs.Common.{◌≡◌, [], ◌∷◌, refl}
use Rattle.std.specs.Fmt.{digits}
use Rattle.midi_wire.specs.Messages.{begins}
use Rattle.seq_examples.specs.Rows.{played_file}
use Rattle.seq_examples.proofs.PlayedFile as run
use Rattle.seq_session.specs.Merging.{inputs_of, lines_of}
use Rattle.seq_session.specs.Rows.{a_script}
use Rattle.seq_session.specs.Sessions.{session}
use Rattle.test_sessions.specs.Rows.{player_scripts, hearer_text, one_file}
use Rattle.test_sessions.proofs.Worked.{log_by}
use Rattle.test_sessions.proofs.rows.played_session.Goals as goal

said : inputs_of (session one_file 600000000 player_scripts) ≡ played_file
unfolding begins
said = refl

on_lines : lines_of (session one_file 600000000 player_scripts) ≡ 1 ∷ 2 ∷ 3 ∷ 4 ∷ 1 ∷ 2 ∷ 3 ∷ 5 ∷ 6 ∷ []
unfolding begins
on_lines = refl

pub returns : goal.returns
unfolding digits begins
returns c = record {
  hearer = log_by one_file 600000000 player_scripts (a_script 129 hearer_text) played_file _ _ _ said on_lines run.run refl;
}
