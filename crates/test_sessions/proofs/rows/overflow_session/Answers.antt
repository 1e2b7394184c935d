use Rattle.std.proofs.Common.{◌≡◌, [], ◌∷◌, refl}
use Rattle.std.specs.Fmt.{digits}
use Rattle.midi_wire.specs.Messages.{begins}
use Rattle.seq_examples.specs.Rows.{input_overflow}
use Rattle.seq_examples.proofs.InputOverflow as run
use Rattle.seq_session.specs.Merging.{inputs_of, lines_of}
use Rattle.seq_session.specs.Rows.{no_files, a_script}
use Rattle.seq_session.specs.Sessions.{session}
use Rattle.test_sessions.specs.Rows.{overflow, sender_text, taker_text, other_text}
use Rattle.test_sessions.proofs.Worked.{log_by}
use Rattle.test_sessions.proofs.rows.overflow_session.Goals as goal

said : inputs_of (session no_files 10 overflow) ≡ input_overflow
unfolding begins
said = refl

on_lines : lines_of (session no_files 10 overflow) ≡ 1 ∷ 2 ∷ 1 ∷ 2 ∷ 3 ∷ 1 ∷ 2 ∷ 3 ∷ 3 ∷ 4 ∷ 5 ∷ 4 ∷ []
unfolding begins
on_lines = refl

pub returns : goal.returns
unfolding digits begins
returns c = record {
  sender = log_by no_files 10 overflow (a_script 128 sender_text) input_overflow _ _ _ said on_lines run.run refl;
  taker = log_by no_files 10 overflow (a_script 129 taker_text) input_overflow _ _ _ said on_lines run.run refl;
  other = log_by no_files 10 overflow (a_script 130 other_text) input_overflow _ _ _ said on_lines run.run refl;
}
