use Rattle.std.proofs.Common.{ap}
use Rattle.seq_clients.specs.Roster.{Roster}
use Rattle.seq_patchbay.proofs.Changed.{but-client}
use Rattle.seq_patchbay.proofs.patchbay.Patchbay.set_filter.Goals as goal

pub invariant_of-self : goal.invariant_of-self
invariant_of-self c =
    let s = c.self.inside in
    c.forget_client.ensures s.clients.clients _ s.graph s.graph (but-client s.clients.clients _ s.graph c.args.client _ (ap (λ (r : Roster). r.clients) c.set_filter.ensures)) c.self.invariant
