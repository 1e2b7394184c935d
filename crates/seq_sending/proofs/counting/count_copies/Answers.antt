use Rattle.std.proofs.Common.{◌≡◌, ◌+◌, ◌-◌, ℕ, List, ap, ◌∙◌, arith}
use Rattle.node_table.specs.Numbers.{first_client}
use Rattle.node_table.specs.declared.number.Addr.{Addr}
use Rattle.patch_graph.specs.Paths.{hops}
use Rattle.seq_sending.specs.Counts.{ways_behind, ways_in}
use Rattle.seq_sending.proofs.Reached.{none-left, from-first}
use Rattle.seq_sending.proofs.counting.count_copies.Goals as goal

pub loop-hop-init : goal.loop-hop-init
unfolding hops
loop-hop-init g c =
    let a = c.args in
    record {
      long = c.reach_all.auto.counts ∙ c.requires;
      counted = λ row low.
          let past : Addr → List ℕ → ℕ = ways_behind a.clients.now.clients a.graph.now (first_client + row) 7 in
          omega (
            arith,
            c.in_ok-reach_all.ensures row past low,
            ap (ways_in g.M.Carried.bytes past) c.clear.ensures,
            from-first a.clients.now.clients a.graph.now (first_client + row) a.targets.now (g.M.Carried.bytes a.message.now),
          );
    }

pub loop-hop-preserved : goal.loop-hop-preserved
unfolding hops
loop-hop-preserved g c =
    let a = c.args in
    let l = c.loop-hop in
    record {
      long = c.go_on_all.auto.counts ∙ l.invariant.long;
      counted = λ row low.
          let past : ℕ → Addr → List ℕ → ℕ = ways_behind a.clients.now.clients a.graph.now (first_client + row) in
          let n : ℕ = 8 - (l._hop + 1) in
          let e : n + 1 ≡ 8 - l._hop = omega arith in
          let front : ways_in g.M.Carried.bytes (past (n + 1)) c.as_slice-entries.result.now ≡ ways_in g.M.Carried.bytes (past (8 - l._hop)) l.front.entries.items =
          ap (λ k. ways_in g.M.Carried.bytes (past k) c.as_slice-entries.result.now) e ∙ ap (ways_in g.M.Carried.bytes (past (8 - l._hop))) c.as_slice-entries.ensures.value in
          let swapped : ways_in g.M.Carried.bytes (past n) c.swap.new.x.entries.items ≡ ways_in g.M.Carried.bytes (past n) c.go_on_all.new.front.entries.items =
          ap (λ f. ways_in g.M.Carried.bytes (past n) f.entries.items) c.swap.ensures.x_after in
          omega (arith, swapped, c.in_ok-go_on_all.ensures row n low, ap (ways_in g.M.Carried.bytes (past n)) c.clear-in-loop-hop.ensures, front, l.invariant.counted row low);
    }

pub returns : goal.returns
unfolding hops
returns g c row low =
    let a = c.args in
    let l = c.loop-hop in
    let n : ℕ = 8 - l._hop in
    let e : n ≡ 0 = omega arith in
    omega (arith, l.invariant.counted row low, none-left a.clients.now.clients a.graph.now (first_client + row) g.M.Carried.bytes n l.front.entries.items e)
