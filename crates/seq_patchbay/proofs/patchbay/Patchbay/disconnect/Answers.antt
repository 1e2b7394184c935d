use Rattle.std.proofs.Common.{sym, subst}
use Rattle.seq_sending.specs.Table.{AreWaysKept}
use Rattle.seq_patchbay.proofs.patchbay.Patchbay.disconnect.Goals as goal

pub invariant_of-self : goal.invariant_of-self
invariant_of-self c =
    let s = c.self.inside in
    c.part-in-Some.ensures s.clients.clients s.graph c.in-Some.ensures.rest c.in-Some.ensures.place c.self.invariant

pub invariant_of-self-in_default : goal.invariant_of-self-in_default
invariant_of-self-in_default c = subst (λ es. AreWaysKept c.self.inside.clients.clients es c.self.inside.ways) (sym c.in_default.ensures.kept) c.self.invariant
