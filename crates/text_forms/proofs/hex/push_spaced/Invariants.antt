use Rattle.std.proofs.Common.{◌≡◌, ◌++◌, ◌*◌, ◌<◌, ◌≤◌, ℕ, length, get_or, vec_capacity}
use Rattle.std.specs.Slice.Iter.{chunks_rest, chunks_size}
use Rattle.text_forms.specs.Hex.{spaced_hex}
use Rattle.text_forms.proofs.hex.push_spaced.Given as goal

abbrev pub invariant-loop-group : goal.invariant-loop-group
invariant-loop-group l = record {
  can_next : goal.iterator-loop-group.can_next l.group-iterator;
  finite : goal.iterator-loop-group.is_finite l.group-iterator;
  size : chunks_size l.group-iterator ≡ 64;
  room : length l.digits ≡ 192;
  spaces : (k : ℕ) → 3 * k < length l.digits → get_or l.digits (3 * k) 0 ≡ 32;
  capacity : vec_capacity l.initial.text ≤ vec_capacity l.text;
  text : l.text.items ++ spaced_hex (chunks_rest l.group-iterator) ≡ l.initial.text.items ++ spaced_hex l.fn.bytes;
}
