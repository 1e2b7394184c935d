use Rattle.std.proofs.Common.{sym, ◌∙◌}
use Rattle.seq_sending.proofs.Keeping.{where-ok, kept-port}
use Rattle.seq_patchbay.proofs.patchbay.Patchbay.feed.Goals as goal

pub invariant_of-self : goal.invariant_of-self
invariant_of-self c =
    let s = c.self.inside in
    c.clear.ensures s.clients.clients c.feed-fed.new.self.clients s.graph s.graph c.self.invariant

pub invariant_of-self-else-is_err : goal.invariant_of-self-else-is_err
invariant_of-self-else-is_err c =
    kept-port c.self.inside.clients _ c.self.inside.graph c.self.inside.ways c.args.client c.args.port _
    (where-ok c.feed-fed.result _ (sym c.is_err.ensures.value ∙ c.if-is_err.false) c.feed-fed.ensures.fed) c.self.invariant
