use Rattle.std.proofs.lemmas.Result.{on_ok_weaker}
use Rattle.seq_sending.proofs.Keeping.{kept-queue, kept-or-same}
use Rattle.seq_patchbay.proofs.patchbay.Patchbay.set_tempo.Goals as goal

pub invariant_of-self : goal.invariant_of-self
invariant_of-self c =
    let s = c.self.inside in
    kept-or-same c.set_tempo.result s.clients _ s.graph s.ways
    (on_ok_weaker c.set_tempo.result (λ e. kept-queue s.clients _ s.graph s.ways c.args.client c.args.queue _ e c.self.invariant) c.set_tempo.ensures.ok)
    c.set_tempo.ensures.err c.self.invariant
