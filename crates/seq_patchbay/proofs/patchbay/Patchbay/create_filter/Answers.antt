use Rattle.std.proofs.Common.{ap}
use Rattle.std.proofs.lemmas.Result.{on_ok_weaker}
use Rattle.seq_clients.specs.Roster.{Roster}
use Rattle.seq_sending.proofs.Agreeing.{agree-refl}
use Rattle.seq_sending.proofs.Keeping.{kept-or-same}
use Rattle.seq_patchbay.proofs.Changed.{but-client}
use Rattle.seq_patchbay.proofs.patchbay.Patchbay.create_filter.Goals as goal

pub invariant_of-self : goal.invariant_of-self
invariant_of-self c =
    let s = c.self.inside in
    let was = s.clients in
    kept-or-same c.create_filter.result was _ s.graph c.forget_client.new.self
    (on_ok_weaker c.create_filter.result
    (λ e. c.forget_client.ensures was.clients _ s.graph s.graph (but-client was.clients _ s.graph c.args.client _ (ap (λ (r : Roster). r.clients) e)) c.self.invariant)
    c.create_filter.ensures.ok)
    c.create_filter.ensures.err
    (c.forget_client.ensures was.clients was.clients s.graph s.graph (agree-refl _ _ was.clients s.graph) c.self.invariant)
