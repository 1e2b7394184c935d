use Rattle.std.proofs.Common.{◌≡◌, false, subst, refl, sym, ap, ◌∙◌, [], rules}
use Rattle.seq_session.specs.Devices.{clients, AreSound}
use Rattle.program_tasks.specs.Opened.{AreSourcesOf}
use Rattle.std.specs.Prelude.{Contains}
use Rattle.program_tasks.specs.Words.{scripts_seen}
use Rattle.program_tasks.specs.Sessions.{owners}
use Rattle.program_tasks.proofs.Files.{sources_next}
use Rattle.folder_files.proofs.Filtered.{take-all}
use Rattle.program_tasks.proofs.Opened.{all-more, clients-next, script-at}
use Rattle.program_tasks.proofs.session.Session.open.Goals as goal

pub loop-script-init : goal.loop-script-init
loop-script-init g c = record {
  opened = subst (AreSourcesOf g.S.FileStore.IsOpened []) (sym c.new-sources.ensures.items) tt;
  clients = ap clients c.new-sources.ensures.items;
  sound = subst (AreSound g.S.Reader.Source.failed) (sym c.new-sources.ensures.items) tt;
}

pub loop-script-preserved : goal.loop-script-preserved
loop-script-preserved g c = record {
  opened = sources_next g.S.FileStore.IsOpened c.deref-script-items.result.now c.loop-script.script-index c.script-item.result c.loop-script.sources.items _ _ c.loop-script-test.true c.script-item.is c.in_ok-push.ensures.items c.loop-script.invariant.opened refl c.in-Ok.ensures.opened;
  clients = clients-next c.deref-script-items.result.now c.loop-script.script-index c.script-item.result c.script-item.is c.loop-script-test.true _ _ _ c.in_ok-push.ensures.items refl c.loop-script.invariant.clients;
  sound = subst (AreSound g.S.Reader.Source.failed) (sym c.in_ok-push.ensures.items)
      (all-more (λ s. g.S.Reader.Source.failed s.reader ≡ false) c.loop-script.sources.items _ c.loop-script.invariant.sound c.in-Ok.ensures.sound);
}

pub returns-clause-opened : goal.returns-clause-opened
returns-clause-opened g c =
    subst (λ words. AreSourcesOf g.S.FileStore.IsOpened words c.loop-script.sources.items) (take-all _ _ c.loop-script.auto.script-index-end c.loop-script-test.false ∙ c.deref-script-items.ensures.value) c.loop-script.invariant.opened

pub returns-clause-clients : goal.returns-clause-clients
returns-clause-clients g c =
    c.loop-script.invariant.clients ∙ ap owners (take-all _ _ c.loop-script.auto.script-index-end c.loop-script-test.false ∙ c.deref-script-items.ensures.value)

pub returns-clause-readers : goal.returns-clause-readers
returns-clause-readers g c = c.loop-script.invariant.sound

pub returns-in_default-clause-fault : goal.returns-in_default-clause-fault
returns-in_default-clause-fault g c =
    let w = c.script-item.result in
    let at : Contains (scripts_seen c.deref-script-items.result.now) (w.client, w.path.now) = script-at c.deref-script-items.result.now c.loop-script.script-index w c.loop-script-test.true c.script-item.is in
    ((w.client, subst (λ words. Contains (scripts_seen words) (w.client, w.path.now)) c.deref-script-items.ensures.value at), search rules)
