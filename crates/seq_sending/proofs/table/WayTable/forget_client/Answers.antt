use Rattle.std.proofs.Common.{◌<◌, length, set, sym, subst, ap, ◌∙◌}
use Rattle.std.proofs.lemmas.List.{length-set}
use Rattle.seq_sending.specs.declared.changes.Changes.{Changes}
use Rattle.seq_sending.proofs.Known.{found-after, none-counted}
use Rattle.seq_sending.proofs.table.WayTable.forget_client.Goals as goal

pub returns : goal.returns
returns c clients others edges other_edges agree kept =
    let was = c.args.self.now in
    let next = c.next_change-change in
    let earlier = next.ensures.earlier clients edges kept.ways in
    record {
      rows = length-set next.new.self.changes.last c.row_of.result next.result ∙ ap (λ (x : Changes). length x.last) next.ensures.changes ∙ kept.rows;
      ways = found-after was.changes _ c.args.client c.row_of.result next.result clients others edges other_edges next.new.self.places.items
          c.row_of.ensures.start (subst (λ n. c.row_of.result < n) (sym kept.rows) c.row_of.ensures.small)
          (ap (λ (x : Changes). set x.last c.row_of.result next.result) next.ensures.changes) (ap (λ (x : Changes). x.count) next.ensures.changes) earlier.1 agree earlier.0;
      counts = none-counted others other_edges _ next.ensures.counts;
    }
