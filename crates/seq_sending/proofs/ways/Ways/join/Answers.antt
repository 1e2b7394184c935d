use Rattle.std.proofs.Common.{◌∷◌, [], ◌++◌, sym, subst}
use Rattle.seq_sending.specs.Ways.{AreWaysTo}
use Rattle.seq_sending.proofs.Agreeing.{ways-one-more}
use Rattle.seq_sending.proofs.ways.Ways.join.Goals as goal

pub returns : goal.returns
returns c nodes each =
    let a = c.args in
    let t = a.target.now in
    subst (AreWaysTo a.clients.now.clients a.graph.now (nodes ++ t ∷ [])) (sym c.in_ok-push.ensures.items)
    (ways-one-more a.clients.now.clients a.graph.now nodes c.self.inside.ways.items t c.in_ok-way.way (subst (AreWaysTo a.clients.now.clients a.graph.now nodes) (sym c.self.view_is) each) c.in_ok-way.ensures.way c.in_ok-way.ensures.parts)
