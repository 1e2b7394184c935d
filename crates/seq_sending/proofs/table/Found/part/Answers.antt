use Rattle.std.proofs.Common.{◌-◌, length, take, ap, refl, ◌∙◌, arith}
use Rattle.patch_graph.specs.Index.{targets_of}
use Rattle.seq_sending.proofs.Joined.{one-less, one-newer-less}
use Rattle.seq_sending.proofs.table.Found.part.Goals as goal

pub returns-then-place-known-clause-ways : goal.returns-then-place-known-clause-ways
returns-then-place-known-clause-ways c known clients nodes at left are =
    let a = c.args in
    let told = ap length c.targets-targets.ensures in
    let sum = c.in-Some.ensures.1 in
    one-newer-less nodes (targets_of a.graph.now a.source.now) a.place a.target.now at left clients a.graph.now a.self.now _
    (omega (arith, told, sum, c.len-known.ensures, c.if-nodes-targets.false)) are (omega (arith, c.len-known.ensures, c.if-place-known.true))
    (omega (arith, sum, c.if-place-known.true, c.if-place-nodes.false)) refl

pub returns-clause-ways : goal.returns-clause-ways
returns-clause-ways c known clients nodes at left are =
    let a = c.args in
    let told = ap length c.targets-targets.ensures in
    let sum = c.in-Some.ensures.1 in
    one-less nodes (targets_of a.graph.now a.source.now) a.place a.target.now at left clients a.graph.now a.self.now c.take_out.new.self
    (omega (arith, told, sum, c.len-known.ensures, c.if-nodes-targets.false)) are _
    (ap (λ n. take (n - 1) c.targets-targets.result.now) c.len-known.ensures ∙ ap (take (length a.self.now.ways - 1)) c.targets-targets.ensures)
    (omega (arith, c.len-known.ensures, c.if-place-known.false)) c.take_out.ensures.newer (c.take_out.ensures.ways known) (c.take_out.ensures.through known)
