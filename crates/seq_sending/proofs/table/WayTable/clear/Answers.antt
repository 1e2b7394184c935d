use Rattle.std.proofs.Common.{ap}
use Rattle.seq_sending.specs.declared.changes.Changes.{Changes}
use Rattle.seq_sending.proofs.Known.{found-no-more, none-counted}
use Rattle.seq_sending.proofs.table.WayTable.clear.Goals as goal

pub returns : goal.returns
returns c clients others edges other_edges kept =
    let was = c.args.self.now in
    let next = c.next_change-change in
    let earlier = next.ensures.earlier clients edges kept.ways in
    record {
      rows = c.all_at-self.ensures.rows;
      ways = found-no-more clients others edges other_edges was.changes _ next.result next.new.self.places.items
          (ap (λ (x : Changes). x.count) next.ensures.changes) c.all_at-self.ensures.each earlier.1 earlier.0;
      counts = none-counted others other_edges _ next.ensures.counts;
    }
