use Rattle.std.proofs.Common.{◌≡◌, ◌+◌, ◌*◌, cond, eqb, ap, sym, ◌∙◌, arith}
use Rattle.node_table.specs.Numbers.{first_client}
use Rattle.seq_sending.specs.Counts.{ways_at, ways_in}
use Rattle.seq_sending.proofs.Reached.{on-ok}
use Rattle.seq_sending.proofs.counting.reach.Goals as goal

pub returns-then-is_filter : goal.returns-then-is_filter
returns-then-is_filter g c row past l =
    let a = c.args in
    let bytes = g.M.Carried.bytes in
    let at : ways_at (first_client + row) past (bytes a.message.now) a.node.now ≡ past a.node.now (bytes a.message.now) =
    ap (λ b. cond b (past a.node.now (bytes a.message.now)) (cond (eqb a.node.now.client (first_client + row)) 1 0)) (sym c.is_filter.ensures ∙ c.if-is_filter.true) in
    on-ok c.add.result _ _
    (λ (e : ways_in bytes past c.add.new.self.entries.items ≡ ways_in bytes past a.front.now.entries.items + a.ways * past a.node.now (bytes a.message.now)).
    omega (arith, e, ap (λ k. a.ways * k) at)) (c.add.ensures past)
