use Rattle.std.proofs.Common.{◌≡◌, ◌≤◌, ◌++◌, length}
use Rattle.std.specs.Prelude.{false}
use Rattle.smf_grammar.specs.Files.{IsFile}
use Rattle.smf_text.specs.PlacedTexts.{placed_items}
use Rattle.smf_text.proofs.Walked.{ToCome}
use Rattle.smf_text.proofs.walk.print_tracks.Given as goal

abbrev pub invariant-tracks : goal.invariant-tracks
invariant-tracks g l = record {
  coming : (w : IsFile l.bytes l.file) → ToCome g.W.Sink.HasTaken l.is_placed (length l.bytes) l.initial.out l.out (length l.file.tracks) l.track l.left l.text.items (l.initial.text.items ++ placed_items l.is_placed (length l.bytes) 0 w.after w.items);
  within : length l.left ≤ length l.bytes;
  unmarked : g.W.Sink.failed l.out ≡ false;
  eager : g.W.Sink.takes_some l.out ≡ g.W.Sink.takes_some l.initial.out;
}

abbrev pub decreases-tracks : goal.decreases-tracks
decreases-tracks g l = length l.left
