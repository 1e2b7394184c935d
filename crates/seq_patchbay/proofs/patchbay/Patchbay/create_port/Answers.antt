use Rattle.std.proofs.Common.{Some}
use Rattle.std.proofs.lemmas.Result.{on_ok_weaker}
use Rattle.seq_state.specs.Effect.{new_port}
use Rattle.seq_sending.proofs.Keeping.{kept-port, kept-or-same}
use Rattle.seq_patchbay.proofs.patchbay.Patchbay.create_port.Goals as goal

pub invariant_of-self : goal.invariant_of-self
invariant_of-self c =
    let s = c.self.inside in
    kept-or-same c.create_port.result s.clients _ s.graph s.ways
    (on_ok_weaker c.create_port.result (λ e. kept-port s.clients _ s.graph s.ways c.args.client c.args.port (Some (new_port c.args.name.now c.args.caps)) e c.self.invariant) c.create_port.ensures.ok)
    c.create_port.ensures.err c.self.invariant
