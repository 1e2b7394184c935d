use Rattle.std.proofs.Common.{refl, subst}
use Rattle.std.specs.Prelude.{IfSome}
use Rattle.seq_session.specs.Devices.{reader_of, IsAmong}
use Rattle.program_tasks.specs.Sessions.{owners}
use Rattle.program_tasks.proofs.Opened.{none-next, is-among-some}
use Rattle.program_tasks.proofs.session.Session.fault_of.Goals as goal

pub loop-script-init : goal.loop-script-init
loop-script-init c = refl

pub loop-script-preserved : goal.loop-script-preserved
loop-script-preserved c = none-next c.deref-script-items.result.now c.loop-script.script-index c.script-item.result c.script-item.is c.loop-script-test.true c.in-Read.client c.if-eq.ensures c.loop-script.invariant

pub unreachable-requires : goal.unreachable-requires
unreachable-requires c =
    is-among-some c.args.self.now.scripts.items c.deref-script-items.result.now c.in-Read.client c.loop-script.script-index
    (subst (λ f. IfSome (reader_of f) (λ k. IsAmong k (owners c.args.self.now.scripts.items))) c.in-Read.is c.requires)
    c.deref-script-items.ensures.value c.loop-script.auto.script-index-end c.loop-script-test.false c.loop-script.invariant
