use Rattle.std.proofs.Common.{◌∙◌, ap, subst}
use Rattle.seq_session.specs.Devices.{AreRead, ReadersTell, clients, reader_blamed}
use Rattle.program_tasks.proofs.Files.{of_files}
use Rattle.program_tasks.proofs.Unread.{of_session}
use Rattle.program_tasks.proofs.running.run_session.Goals as goal

pub returns-in-Ok-clause-run : goal.returns-in-Ok-clause-run
returns-in-Ok-clause-run g c =
    let run = c.in-Ok.ensures.run in
    record {
      scripts = run.scripts;
      read = of_files g.S.FileStore.IsOpened g.S.Reader.Source.HasLeft _ _ _ run.scripts c.in_ok-sources.ensures.opened (subst (λ olds. AreRead g.S.Reader.Source.HasLeft olds c.run_scripts.new.scripts run.scripts) c.as_mut_slice.ensures.value run.read);
      is = run.is;
    }

pub returns-clause-fault : goal.returns-clause-fault
returns-clause-fault g c =
    of_session g.S.FileStore.IsOpened g.S.Reader.Source.HasLeft g.S.FileStore.CannotOpen g.S.Reader.Source.failed c.args.session.now.scripts.items c.in_ok-sources.sources.items c.run_scripts.new.scripts c.in-Err.fault c.fault_of.result
    c.in_ok-sources.ensures.opened
    (c.run_scripts.ensures.clients ∙ ap clients c.as_mut_slice.ensures.value)
    (subst (λ r. ReadersTell g.S.Reader.Source.failed (reader_blamed r) c.run_scripts.new.scripts) c.in-Err.is c.run_scripts.ensures.reader_marks)
    c.fault_of.ensures
