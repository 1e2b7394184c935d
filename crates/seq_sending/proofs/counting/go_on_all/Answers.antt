use Rattle.std.proofs.Common.{◌+◌, ◌*◌, ℕ, List, ap, ◌∙◌, arith}
use Rattle.std.specs.Prelude.{slice_index}
use Rattle.std.proofs.lemmas.List.{take_all}
use Rattle.node_table.specs.Numbers.{first_client}
use Rattle.node_table.specs.declared.number.Addr.{Addr}
use Rattle.seq_sending.specs.Counts.{ways_behind, ways_in}
use Rattle.seq_sending.proofs.Totals.{sum_by-more}
use Rattle.seq_sending.proofs.counting.go_on_all.Goals as goal

pub loop-entry-preserved : goal.loop-entry-preserved
loop-entry-preserved g c =
    let a = c.args in
    let l = c.loop-entry in
    record {
      long = c.go_on.auto.counts ∙ l.invariant.long;
      counted = λ row n low.
          let past : Addr → List ℕ → ℕ = ways_behind a.clients.now.clients a.graph.now (first_client + row) (n + 1) in
          omega (
            arith,
            c.in_ok-go_on.ensures row n low,
            l.invariant.counted row n low,
            sum_by-more (λ e. e.ways * past e.node (g.M.Carried.bytes e.message)) a.entries.now l.entry-index c.entry-item.result c.loop-entry-test.true c.entry-item.is,
          );
    }

pub returns : goal.returns
returns g c row n low =
    let a = c.args in
    let l = c.loop-entry in
    let behind : ℕ → Addr → List ℕ → ℕ = ways_behind a.clients.now.clients a.graph.now (first_client + row) in
    l.invariant.counted row n low
    ∙ ap (λ es. slice_index a.counts.now row + ways_in g.M.Carried.bytes (behind n) a.front.now.entries.items + ways_in g.M.Carried.bytes (behind (n + 1)) es)
    (take_all l.entry-index a.entries.now c.loop-entry-test.false)
