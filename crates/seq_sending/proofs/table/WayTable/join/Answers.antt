use Rattle.std.proofs.Common.{◌<◌, None, refl, sym, subst, ◌∙◌, arith}
use Rattle.seq_sending.specs.Table.{IsSlotFound}
use Rattle.seq_sending.proofs.Edged.{but-added}
use Rattle.seq_sending.proofs.Joined.{agree-added, others-added, all-changed, none-changed}
use Rattle.seq_sending.proofs.Known.{none-counted, within}
use Rattle.seq_sending.proofs.table.WayTable.join.Goals as goal

pub returns-then-is_filter : goal.returns-then-is_filter
returns-then-is_filter c clients edges target kept = c.forget_client.ensures clients clients edges _ (but-added clients edges c.args.source.now target) kept

pub returns-then-place-len : goal.returns-then-place-len
returns-then-place-len c clients edges target kept =
    let a = c.args in
    let s = a.source.now in
    let port = sym c.is_filter.ensures ∙ c.if-is_filter.false in
    let at = c.place_of-place.ensures.place in
    let there = subst (λ n. c.place_of-place.result < n) (c.len.ensures ∙ a.self.now.places.ok.0) c.if-place-len.true in
    record {
      rows = kept.rows;
      ways = all-changed clients edges _ a.self.now.changes s at.0 c.place_of-place.result at.1 (agree-added clients edges _ s target port refl) (others-added clients edges _ s target port refl)
          a.self.now.places.items c.join_slot.new.slot there (c.join_slot.ensures clients edges a.self.now.changes s target at.0 c.place_of-place.result at.1 port
          (subst (IsSlotFound clients edges a.self.now.changes c.place_of-place.result) (within a.self.now.places.items c.place_of-place.result None _ there ∙ sym c.index_mut-slot.ensures.value)
          (kept.ways c.place_of-place.result))) kept.ways;
      counts = none-counted clients _ _ c.clear.ensures;
    }

pub returns-else-place-len : goal.returns-else-place-len
returns-else-place-len c clients edges target kept =
    let a = c.args in
    let s = a.source.now in
    let port = sym c.is_filter.ensures ∙ c.if-is_filter.false in
    let at = c.place_of-place.ensures.place in
    record {
      rows = kept.rows;
      ways = none-changed clients edges _ a.self.now.changes s at.0 c.place_of-place.result at.1 (agree-added clients edges _ s target port refl) (others-added clients edges _ s target port refl)
          a.self.now.places.items (λ l. absurd (omega (arith, l, c.if-place-len.false, c.len.ensures, a.self.now.places.ok.0))) kept.ways;
      counts = none-counted clients _ _ c.clear.ensures;
    }
