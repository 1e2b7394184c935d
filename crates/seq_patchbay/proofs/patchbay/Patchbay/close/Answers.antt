use Rattle.std.proofs.Common.{None, ap, sym, subst, ◌∙◌}
use Rattle.std.specs.List.{list_any}
use Rattle.patch_graph.specs.Edges.{ends_at_client}
use Rattle.seq_clients.specs.Roster.{Roster}
use Rattle.seq_sending.specs.Table.{AreWaysKept}
use Rattle.seq_patchbay.specs.Network.{Network}
use Rattle.seq_patchbay.proofs.Gone.{but-client-gone}
use Rattle.seq_patchbay.proofs.patchbay.Patchbay.close.Goals as goal

pub invariant_of-self : goal.invariant_of-self
invariant_of-self c =
    let s = c.self.inside in
    let ways = c.forget_client.new.self in
    subst (λ es. AreWaysKept c.close.new.self.clients es ways) (sym c.remove_client.ensures)
    (c.forget_client.ensures s.clients.clients c.close.new.self.clients s.graph _
    (but-client-gone s.clients.clients _ s.graph c.args.client None (ap (λ (r : Roster). r.clients) c.close.ensures) (ap (λ (n : Network). list_any (ends_at_client c.args.client) n.graph) c.self.view_is ∙ c.end_into_client.ensures.none)) c.self.invariant)
