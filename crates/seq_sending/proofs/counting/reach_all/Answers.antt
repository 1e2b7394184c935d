use Rattle.std.proofs.Common.{◌≡◌, ◌+◌, ◌*◌, ℕ, take, ap, ◌∙◌, arith}
use Rattle.std.proofs.lemmas.List.{take_all}
use Rattle.node_table.specs.Numbers.{first_client}
use Rattle.node_table.specs.declared.number.Addr.{Addr}
use Rattle.std.specs.Prelude.{sum_by, slice_index}
use Rattle.seq_sending.specs.Counts.{ways_at, ways_in}
use Rattle.seq_sending.proofs.Totals.{sum_by-more, times}
use Rattle.seq_sending.proofs.counting.reach_all.Goals as goal

pub loop-target-preserved : goal.loop-target-preserved
loop-target-preserved g c =
    let a = c.args in
    let l = c.loop-target in
    record {
      long = c.reach.auto.counts ∙ l.invariant.long;
      counted = λ row past low.
          let one : Addr → ℕ = ways_at (first_client + row) past (g.M.Carried.bytes a.message.now) in
          let d : a.ways * sum_by one (take (l.target-index + 1) a.targets.now) ≡ a.ways * sum_by one (take l.target-index a.targets.now) + a.ways * one c.target-item.result =
          times a.ways _ _ _ (sum_by-more one a.targets.now l.target-index c.target-item.result c.loop-target-test.true c.target-item.is) in
          omega (arith, c.in_ok-reach.ensures row past low, l.invariant.counted row past low, d);
    }

pub returns : goal.returns
returns g c row past low =
    let a = c.args in
    let l = c.loop-target in
    l.invariant.counted row past low
    ∙ ap (λ ts. slice_index a.counts.now row + ways_in g.M.Carried.bytes past a.front.now.entries.items + a.ways * sum_by (ways_at (first_client + row) past (g.M.Carried.bytes a.message.now)) ts)
    (take_all l.target-index a.targets.now c.loop-target-test.false)
