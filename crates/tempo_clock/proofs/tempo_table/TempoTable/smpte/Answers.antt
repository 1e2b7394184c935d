use Rattle.std.proofs.Common.{sym}
use Rattle.tempo_clock.proofs.Made.{kept-smpte}
use Rattle.tempo_clock.proofs.tempo_table.TempoTable.smpte.Goals as goal

pub invariant_of-result : goal.invariant_of-result
invariant_of-result c =
    kept-smpte _ _ c.wrapping_neg.result _ _ _ (sym c.if-not-is_smpte_rate.ensures) c.ranges.per_frame.fits c.wrapping_neg.type_inv c.wrapping_neg.ensures c.from_be_bytes.ensures c.new.ensures.items c.new-2.ensures.items
