use Rattle.std.proofs.Common.{◌≡◌, ◌++◌}
use Rattle.std.specs.Prelude.{false}
use Rattle.std.specs.Slice.Iter.{chunks_rest, chunks_size}
use Rattle.text_forms.specs.Hex.{spaced_hex}
use Rattle.tool_text.specs.Gathered.{IsGathered}
use Rattle.tool_text.proofs.wire.print_spaced.Given as goal

abbrev pub invariant-loop-part : goal.invariant-loop-part
invariant-loop-part g l = record {
  can_next : (goal.iterator-loop-part g).can_next l.part-iterator;
  finite : (goal.iterator-loop-part g).is_finite l.part-iterator;
  size : chunks_size l.part-iterator ≡ 4096;
  goes : IsGathered g.W.Sink.HasTaken l.initial.out l.out l.text.items (spaced_hex (chunks_rest l.part-iterator)) (l.initial.text.items ++ spaced_hex l.fn.bytes);
  unmarked : g.W.Sink.failed l.out ≡ false;
  eager : g.W.Sink.takes_some l.out ≡ g.W.Sink.takes_some l.initial.out;
}
