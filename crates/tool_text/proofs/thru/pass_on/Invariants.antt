use Rattle.std.proofs.Common.{◌≡◌}
use Rattle.std.specs.Slice.Iter.{chunks_rest, chunks_size}
use Rattle.tool_text.proofs.OnTheWay.{IsOnTheWay}
use Rattle.tool_text.proofs.thru.pass_on.Given as goal

abbrev pub invariant-loop-part : goal.invariant-loop-part
invariant-loop-part g l = record {
  can_next : (goal.iterator-loop-part g).can_next l.part-iterator;
  finite : (goal.iterator-loop-part g).is_finite l.part-iterator;
  size : chunks_size l.part-iterator ≡ 1000;
  way : IsOnTheWay l.initial.engine l.engine l.fn.piece (chunks_rest l.part-iterator) l.initial.text.items l.text.items;
}
