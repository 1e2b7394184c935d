use Rattle.std.proofs.Common.{◌≡◌, sym, ap, subst}
use Rattle.seq_clients.specs.Roster.{Roster}
use Rattle.seq_sending.specs.Table.{AreWaysKept}
use Rattle.std.proofs.lemmas.Result.{on_ok_weaker, on_err_weaker}
use Rattle.seq_sending.proofs.Keeping.{in-both}
use Rattle.seq_patchbay.proofs.patchbay.Patchbay.receive.Goals as goal

pub invariant_of-self : goal.invariant_of-self
invariant_of-self c =
    let old = c.self.inside in
    let P : Type 0 = c.receive.new.self.clients ≡ old.clients.clients in
    let same : P = in-both c.receive.result P (on_ok_weaker c.receive.result (λ e. ap (λ (r : Roster). r.clients) e) c.receive.ensures.left) (on_err_weaker c.receive.result (λ e. ap (λ (r : Roster). r.clients) e) c.receive.ensures.err) in
    subst (λ cs. AreWaysKept cs old.graph old.ways) (sym same) c.self.invariant
