use Rattle.std.proofs.Common.{◌∙◌, ap, subst}
use Rattle.std.proofs.lemmas.Result.{IfErr-weaker, IfOk-weaker}
use Rattle.seq_session.specs.Devices.{AreRead, clients}
use Rattle.program_tasks.proofs.Files.{of_files}
use Rattle.program_tasks.proofs.Unread.{of_session}
use Rattle.program_tasks.proofs.running.hold_session.Goals as goal

pub returns-clause-held : goal.returns-clause-held
returns-clause-held g c = IfOk-weaker c.hold_from.result _ _
    (λ held h. record {
      scripts = h.scripts;
      read = of_files g.S.FileStore.IsOpened g.S.Reader.Source.HasLeft _ _ _ h.scripts c.in_ok-sources.ensures.opened (subst (λ olds. AreRead g.S.Reader.Source.HasLeft olds c.hold_from.new.sources h.scripts) c.as_mut_slice.ensures.value h.read);
      logs = h.logs;
      listing = h.listing;
    })
    c.hold_from.ensures.held

pub returns-clause-fault : goal.returns-clause-fault
returns-clause-fault g c = IfErr-weaker c.hold_from.result _ _
    (λ told h. of_session g.S.FileStore.IsOpened g.S.Reader.Source.HasLeft g.S.FileStore.CannotOpen g.S.Reader.Source.failed c.args.session.now.scripts.items c.in_ok-sources.sources.items c.hold_from.new.sources h.fault told
    c.in_ok-sources.ensures.opened
    (c.hold_from.ensures.clients ∙ ap clients c.as_mut_slice.ensures.value)
    h.readers h.told_as)
    c.hold_from.ensures.stopped
