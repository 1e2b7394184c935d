use Rattle.std.proofs.Common.{◌∙◌, inr, ap}
use Rattle.std.specs.Prelude.{string_bytes}
use Rattle.std.proofs.lemmas.List.{take-map}
use Rattle.script_text.specs.declared.script.TheConstants.{MOST_FILES}
use Rattle.program_tasks.specs.Explained.{run_answer}
use Rattle.program_tasks.proofs.Said.{are_files, err_is}
use Rattle.program_tasks.proofs.subcommands.record.Goals as goal

pub returns-clause-recorded : goal.returns-clause-recorded
returns-clause-recorded g c = record {
  between = _;
  files = c.named-files.result;
  are = are_files g.N.Notes.HasTold g.S.FileStore.IsOpened g.S.Reader.Source.HasLeft g.S.FileStore.CannotOpen g.S.Reader.Source.failed g.S.FileStore.IsStanding g.S.FileStore.HasNames _ c.args.explains _ _ _ c.in_ok-folder.folder c.in_ok-opened.opened c.named-files.result
      c.in_ok-folder.ensures.read c.in_ok-opened.ensures.opened c.in_ok-opened.ensures.told c.named-files.ensures.names c.named-files.ensures.files;
  explanation = c.in_ok-explanation.explanation;
  recorded = c.in_ok-explanation.ensures.recorded;
  told = c.tell_where.ensures;
  answered = c.answer.ensures
      ∙ ap (λ all. run_answer all c.in_ok-explanation.explanation) c.takes_all.ensures;
}

pub returns-in_err-explanation-clause-fault : goal.returns-in_err-explanation-clause-fault
returns-in_err-explanation-clause-fault g c =
    err_is _ c.from_residual-in_err-explanation.result c.in_err-explanation.field-0.0 c.from_residual-in_err-explanation.ensures.1
    (inr (record {
      files = c.named-files.result;
      are = are_files g.N.Notes.HasTold g.S.FileStore.IsOpened g.S.Reader.Source.HasLeft g.S.FileStore.CannotOpen g.S.Reader.Source.failed g.S.FileStore.IsStanding g.S.FileStore.HasNames _ c.args.explains _ _ _ c.in_ok-folder.folder c.in_ok-opened.opened c.named-files.result
          c.in_ok-folder.ensures.read c.in_ok-opened.ensures.opened c.in_ok-opened.ensures.told c.named-files.ensures.names c.named-files.ensures.files;
      why = rw (take-map string_bytes MOST_FILES c.in_ok-folder.folder.names.items) c.in_err-explanation.ensures.fault;
    }))
