use Rattle.std.proofs.Common.{◌∙◌, sym, ap, subst}
use Rattle.std.proofs.lemmas.Bool.{false≢true}
use Rattle.program_tasks.specs.Explained.{IsExplanationOf}
use Rattle.program_tasks.specs.Faults.{IsOfEvents}
use Rattle.program_tasks.specs.Recorded.{recorded_text, IsFileWritten}
use Rattle.program_tasks.proofs.Unread.{of_events}
use Rattle.program_tasks.proofs.recording.record_session.Goals as goal

pub returns-then-is_withheld-clause-recorded : goal.returns-then-is_withheld-clause-recorded
returns-then-is_withheld-clause-recorded g c =
    let run = c.in_ok-run.ensures.run in
    record {
      scripts = run.scripts;
      read = run.read;
      explained = subst (λ ps. IsExplanationOf c.args.files.now c.args.session.now.until run.scripts ps c.in_ok-explanation.explanation) c.ports.ensures
          (c.in_ok-explanation.ensures c.args.files.now c.args.session.now.until run.scripts run.is);
      written = λ e. absurd (false≢true (sym e ∙ sym c.is_withheld.ensures ∙ c.if-is_withheld.true));
    }

pub returns-clause-recorded : goal.returns-clause-recorded
returns-clause-recorded g c =
    let run = c.in_ok-run.ensures.run in
    record {
      scripts = run.scripts;
      read = run.read;
      explained = subst (λ ps. IsExplanationOf c.args.files.now c.args.session.now.until run.scripts ps c.in_ok-explanation.explanation) c.ports.ensures
          (c.in_ok-explanation.ensures c.args.files.now c.args.session.now.until run.scripts run.is);
      written = λ _. subst (IsFileWritten g.S.FileStore.IsBegun g.S.Writer.Sink.HasTaken g.S.FileStore.IsStored c.args.recording.now.path.now)
          (c.as_slice-2.ensures.value ∙ c.in_ok-bytes.ensures.text ∙ ap (recorded_text c.args.recording.now.what) run.is.plain) c.in_ok-write_file.ensures.written;
    }

pub returns-in_err-bytes-clause-fault : goal.returns-in_err-bytes-clause-fault
returns-in_err-bytes-clause-fault g c =
    let run = c.in_ok-run.ensures.run in
    of_events g.S.FileStore.IsOpened g.S.Reader.Source.HasLeft g.S.FileStore.CannotOpen g.S.Reader.Source.failed c.args.files.now c.args.session.now.until c.args.session.now.scripts.items c.args.recording.now run.scripts run.read
    _ _ c.from_residual-in_err-bytes.result c.in_err-bytes.field-0.0 c.from_residual-in_err-bytes.ensures.1
    (subst (λ entries. IsOfEvents c.args.recording.now.what entries c.in_err-bytes.field-0.0) run.is.plain c.in_err-bytes.ensures.fault)
