use Rattle.std.proofs.Common.{◌≡◌, ◌+◌, ◌*◌, ℕ, List, Some, None, ap, sym, ◌∙◌, arith}
use Rattle.std.specs.Option.{option_copied}
use Rattle.std.specs.FinMap
use Rattle.node_table.specs.Numbers.{first_client}
use Rattle.node_table.specs.declared.number.Addr.{Addr}
use Rattle.seq_state.specs.Effect.{filter_of}
use Rattle.seq_state.specs.Copies.{filter_at, passed_by}
use Rattle.seq_sending.specs.Carrying.{let_through}
use Rattle.seq_sending.proofs.Sent.{let-through}
use Rattle.std.specs.Prelude.{sum_by, slice_index}
use Rattle.seq_sending.specs.Counts.{ways_at, ways_behind, ways_in}
use Rattle.seq_sending.proofs.Reached.{on-ok, ways-on, ways-stopped}
use Rattle.seq_sending.proofs.counting.go_on.Goals as goal
use Rattle.seq_sending.proofs.counting.go_on.Goals.{in-Port, in-Filter}

pub returns-in-Some : goal.returns-in-Some
returns-in-Some g c row n low =
    let a = c.args in
    let node : Addr = a.entry.now.node in
    let m : List ℕ = g.M.Carried.bytes a.entry.now.message in
    let clients = a.clients.now.clients in
    let past : Addr → List ℕ → ℕ = ways_behind clients a.graph.now (first_client + row) n in
    let new : List ℕ = g.M.Carried.bytes c.in-Some.passed in
    let pass : let_through (option_copied c.match-node.rule) m ≡ passed_by (filter_at clients node.client node.node) m =
    elim c.match-node.branch [
      | in-Port w ↦ ap (λ r. let_through (option_copied r) m) w.rule-is ∙ sym (ap (λ x. passed_by (filter_at clients node.client x) m) w.in-Port.is)
      | in-Filter w ↦
          ap (λ r. let_through (option_copied r) m) w.rule-is
          ∙ let-through (filter_of (FinMap.get clients node.client) w.in-Filter.filter) (option_copied w.rule-rule.result) m w.rule-rule.ensures
          ∙ sym (ap (λ x. passed_by (filter_at clients node.client x) m) w.in-Filter.is)
    ] in
    let told : passed_by (filter_at clients node.client node.node) m ≡ Some new =
    sym pass ∙ ap (let_through (option_copied c.match-node.rule)) (sym c.in_ok-message.ensures) ∙ sym c.in-Some.ensures in
    let same : sum_by (ways_at (first_client + row) past new) c.targets-targets.result.now ≡ ways_behind clients a.graph.now (first_client + row) (n + 1) node m =
    ap (sum_by (ways_at (first_client + row) past new)) c.targets-targets.ensures ∙ sym (ways-on clients a.graph.now (first_client + row) n node m new told) in
    let before : ℕ = slice_index a.counts.now row + ways_in g.M.Carried.bytes past a.front.now.entries.items in
    let after : ℕ = slice_index c.reach_all.new.counts row + ways_in g.M.Carried.bytes past c.reach_all.new.front.entries.items in
    on-ok c.reach_all.result (after ≡ before + a.entry.now.ways * sum_by (ways_at (first_client + row) past new) c.targets-targets.result.now)
    (after ≡ before + a.entry.now.ways * ways_behind clients a.graph.now (first_client + row) (n + 1) node m)
    (λ e. e ∙ ap (λ k. before + a.entry.now.ways * k) same)
    (c.reach_all.ensures row past low)

pub returns-in-None : goal.returns-in-None
returns-in-None g c row n low =
    let a = c.args in
    let node : Addr = a.entry.now.node in
    let m : List ℕ = g.M.Carried.bytes a.entry.now.message in
    let clients = a.clients.now.clients in
    let past : Addr → List ℕ → ℕ = ways_behind clients a.graph.now (first_client + row) n in
    let pass : let_through (option_copied c.match-node.rule) m ≡ passed_by (filter_at clients node.client node.node) m =
    elim c.match-node.branch [
      | in-Port w ↦ ap (λ r. let_through (option_copied r) m) w.rule-is ∙ sym (ap (λ x. passed_by (filter_at clients node.client x) m) w.in-Port.is)
      | in-Filter w ↦
          ap (λ r. let_through (option_copied r) m) w.rule-is
          ∙ let-through (filter_of (FinMap.get clients node.client) w.in-Filter.filter) (option_copied w.rule-rule.result) m w.rule-rule.ensures
          ∙ sym (ap (λ x. passed_by (filter_at clients node.client x) m) w.in-Filter.is)
    ] in
    let told : passed_by (filter_at clients node.client node.node) m ≡ None =
    sym pass ∙ ap (let_through (option_copied c.match-node.rule)) (sym c.in_ok-message.ensures) ∙ sym c.in-None.ensures in
    let before : ℕ = slice_index a.counts.now row + ways_in g.M.Carried.bytes past a.front.now.entries.items in
    let nothing : before ≡ before + a.entry.now.ways * 0 = omega arith in
    nothing ∙ ap (λ k. before + a.entry.now.ways * k) (sym (ways-stopped clients a.graph.now (first_client + row) (n + 1) node m told))
