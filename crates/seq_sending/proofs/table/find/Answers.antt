use Rattle.std.proofs.Common.{refl, subst}
use Rattle.patch_graph.specs.Index.{targets_of}
use Rattle.seq_sending.specs.Reach.{LeadInOrder, MayLeadThrough}
use Rattle.seq_sending.specs.Ways.{AreWaysTo}
use Rattle.seq_sending.proofs.Known.{at-once}
use Rattle.seq_sending.proofs.table.find.Goals as goal

pub returns-clause-ways : goal.returns-clause-ways
returns-clause-ways c =
    let a = c.args in
    let at = c.targets-targets.ensures in
    let reach = c.in_ok-nodes.field-0 in
    at-once a.clients.now.clients a.graph.now (targets_of a.graph.now a.source.now) _ refl (record {
      each = subst (λ ts. AreWaysTo a.clients.now.clients a.graph.now ts c.in_ok-ways.ways) at c.in_ok-ways.ensures;
      within = subst (LeadInOrder (MayLeadThrough reach.through) a.graph.now) at c.in_ok-nodes.ensures;
    })
