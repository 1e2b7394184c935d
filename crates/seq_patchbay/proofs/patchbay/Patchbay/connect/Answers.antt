use Rattle.std.proofs.Common.{sym, subst}
use Rattle.seq_sending.specs.Table.{AreWaysKept}
use Rattle.seq_patchbay.proofs.patchbay.Patchbay.connect.Goals as goal

pub invariant_of-self : goal.invariant_of-self
invariant_of-self c =
    let s = c.self.inside in
    subst (λ es. AreWaysKept s.clients.clients es s.ways) (sym c.in_err-add.ensures.err) c.self.invariant

pub invariant_of-self-2 : goal.invariant_of-self-2
invariant_of-self-2 c =
    let s = c.self.inside in
    subst (λ es. AreWaysKept s.clients.clients es c.join.new.self) (sym c.in_ok-add.ensures.ok) (c.join.ensures s.clients.clients s.graph c.args.target c.self.invariant)
