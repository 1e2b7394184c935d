-- What is found for every end is that of the session without one.
use Rattle.std.proofs.Common.{ℕ, List}
use Rattle.seq_session.specs.declared.source.Script.{Script}
use Rattle.seq_session.specs.Sessions.{FolderContents}
use Rattle.session_circle.specs.declared.circle.SessionCircle.{SessionCircle}
use Rattle.session_circle.specs.declared.every_end.TheConstants.{NO_END}
use Rattle.session_circle.specs.declared.table.SessionCircles.{SessionCircles}
use Rattle.session_circle.specs.Found.{IsForEveryEnd, AreForEveryEnd}
use Rattle.program_tasks.specs.Circles.{IsCircleFound, AreCirclesFound}

pub found_for_every_end : (folder : FolderContents) (scripts : List Script) (owner : ℕ) (c : SessionCircle) → IsForEveryEnd folder scripts owner c → IsCircleFound folder NO_END scripts owner c
found_for_every_end folder scripts owner c e = record {
  inputs = e.inputs;
  lines = e.lines;
  is = record { least = e.circle.found.least; openings_are = e.circle.found.openings_are; apart_are = e.circle.found.apart_are };
  shut = e.circle.shut;
  outside = e.circle.outside;
  every_byte = e.circle.every_byte;
  none_is_shut = e.circle.found.none_is_shut;
  every_end = λ endless. e.every_end.shut;
  every_end_byte = λ endless. e.every_end.every_byte;
  every_end_apart = λ endless. e.every_end.among;
}

pub all_found_for_every_end : (folder : FolderContents) (scripts : List Script) (s : SessionCircles) → AreForEveryEnd folder scripts s → AreCirclesFound folder NO_END scripts s
all_found_for_every_end folder scripts s e = record { inputs = e.inputs; lines = e.lines; are = e.circles; every_end = λ endless. e.every_end }
