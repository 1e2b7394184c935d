use Rattle.std.proofs.Common.{sym, ap, subst}
use Rattle.seq_clients.specs.Roster.{Roster}
use Rattle.seq_sending.specs.Table.{AreWaysKept}
use Rattle.seq_patchbay.proofs.patchbay.Patchbay.unlisten.Goals as goal

pub invariant_of-self : goal.invariant_of-self
invariant_of-self c =
    let old = c.self.inside in
    subst (λ cs. AreWaysKept cs old.graph old.ways) (sym (ap (λ (r : Roster). r.clients) c.unlisten.ensures)) c.self.invariant
