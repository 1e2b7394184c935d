use Rattle.std.proofs.Common.{ℕ, List, ◌≤◌, ◌++◌, length}
use Rattle.smf_make.specs.ReadInPart.{IsAsFar}
use Rattle.smf_make.specs.Streamed.{most_text}
use Rattle.smf_make.proofs.Streaming.{IsWithin}
use Rattle.smf_make.proofs.stream.take_piece.Given as goal

abbrev pub invariant-loop-part : goal.invariant-loop-part
invariant-loop-part l = record {
  within : (text : List ℕ) → IsAsFar l.fn.maker l.fn.kept.items text → length (text ++ l.fn.piece) ≤ most_text → IsWithin l.maker l.kept.items l.left (text ++ l.fn.piece);
}

abbrev pub decreases-loop-part : goal.decreases-loop-part
decreases-loop-part l = length l.left
