use Rattle.std.proofs.Common.{Some, ap, ◌∙◌}
use Rattle.std.specs.FinMap.{get}
use Rattle.std.proofs.lemmas.Result.{on_ok_weaker}
use Rattle.seq_clients.specs.Roster.{Roster}
use Rattle.seq_state.specs.State.{filters_of}
use Rattle.seq_state.specs.Effect.{new_client}
use Rattle.seq_patchbay.specs.Network.{Network}
use Rattle.seq_sending.proofs.Keeping.{kept-with, kept-or-same}
use Rattle.seq_patchbay.proofs.patchbay.Patchbay.open.Goals as goal

pub invariant_of-self : goal.invariant_of-self
invariant_of-self c =
    let s = c.self.inside in
    let made = Some (new_client c.args.name.now c.args.in_size c.args.out_size) in
    let none = ap filters_of (ap (λ (n : Network). get n.clients.clients c.args.client) c.self.view_is ∙ c.requires.fresh) in
    kept-or-same c.open.result s.clients _ s.graph s.ways
    (on_ok_weaker c.open.result (λ e. kept-with s.clients c.open.new.self s.graph s.ways c.args.client made (ap (λ (r : Roster). r.clients) e) none c.self.invariant) c.open.ensures.ok)
    c.open.ensures.err c.self.invariant
