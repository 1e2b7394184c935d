use Rattle.std.proofs.Common.{arith}
use Rattle.midi_wire.proofs.Exclusives.{front-of, front-end}
use Rattle.midi_wire.proofs.Outcomes.{from_place}
use Rattle.midi_wire.proofs.parser.exclusive_count.Goals as goal
use Rattle.midi_wire.proofs.parser.exclusive_count.Goals.{else-count-data-via-then-count-data+else-data-count, else-count-data-via-else-count-data}

pub returns-then-data-count-clause-some : goal.returns-then-data-count-clause-some
returns-then-data-count-clause-some c =
    front-of c.args.bytes.now _ c.data_len-count.result c.in-len1-up.len_at_least (from_place c.args.bytes.now 1) c.if-status.true c.data_len-count.ensures.value c.if-count-data.true c.if-data-count.true

pub returns-else-count-data-clause-none : goal.returns-else-count-data-clause-none
returns-else-count-data-clause-none c =
    λ count front.
    let end = front-end c.args.bytes.now _ _ count (from_place c.args.bytes.now 1) c.data_len-count.ensures.value front in
    elim c.else-count-data.branch [
      | else-count-data-via-then-count-data+else-data-count w ↦ w.if-data-count.false end.last
      | else-count-data-via-else-count-data w ↦ absurd (omega (arith, end.within, w.if-count-data.false))
    ]
