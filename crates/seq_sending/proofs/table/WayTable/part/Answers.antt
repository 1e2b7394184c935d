use Rattle.std.proofs.Common.{◌<◌, None, sym, subst, ◌∙◌, arith}
use Rattle.seq_sending.specs.Table.{IsSlotFound, AreWaysKept}
use Rattle.seq_sending.proofs.Edged.{but-removed}
use Rattle.seq_sending.proofs.Joined.{agree-removed, others-removed, all-changed, none-changed}
use Rattle.seq_sending.proofs.Known.{none-counted, within}
use Rattle.seq_sending.proofs.table.WayTable.part.Goals as goal

pub returns-then-is_filter : goal.returns-then-is_filter
returns-then-is_filter c clients edges is stood kept =
    let a = c.args in
    subst (λ g. AreWaysKept clients g c.forget_client.new.self) (sym is) (c.forget_client.ensures clients clients edges _ (but-removed clients edges a.source.now a.target.now) kept)

pub returns-then-at-len : goal.returns-then-at-len
returns-then-at-len c clients edges is stood kept =
    let a = c.args in
    let g = a.graph.now in
    let s = a.source.now in
    let t = a.target.now in
    let port = sym c.is_filter.ensures ∙ c.if-is_filter.false in
    let at = c.place_of-at.ensures.place in
    let there = subst (λ n. c.place_of-at.result < n) (c.len.ensures ∙ a.self.now.places.ok.0) c.if-at-len.true in
    record {
      rows = kept.rows;
      ways = all-changed clients edges g a.self.now.changes s at.0 c.place_of-at.result at.1 (agree-removed clients edges g s t port is) (others-removed clients edges g s t port is) a.self.now.places.items c.part_slot.new.slot
          there (c.part_slot.ensures clients edges at.0 c.place_of-at.result at.1 port is stood
          (subst (IsSlotFound clients edges a.self.now.changes c.place_of-at.result) (within a.self.now.places.items c.place_of-at.result None _ there ∙ sym c.index_mut-slot.ensures.value)
          (kept.ways c.place_of-at.result))) kept.ways;
      counts = none-counted clients g _ c.clear.ensures;
    }

pub returns-else-at-len : goal.returns-else-at-len
returns-else-at-len c clients edges is stood kept =
    let a = c.args in
    let g = a.graph.now in
    let s = a.source.now in
    let t = a.target.now in
    let port = sym c.is_filter.ensures ∙ c.if-is_filter.false in
    let at = c.place_of-at.ensures.place in
    record {
      rows = kept.rows;
      ways = none-changed clients edges g a.self.now.changes s at.0 c.place_of-at.result at.1 (agree-removed clients edges g s t port is) (others-removed clients edges g s t port is) a.self.now.places.items
          (λ l. absurd (omega (arith, l, c.if-at-len.false, c.len.ensures, a.self.now.places.ok.0))) kept.ways;
      counts = none-counted clients g _ c.clear.ensures;
    }
