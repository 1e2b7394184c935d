use Rattle.std.proofs.Common.{◌∙◌, true, ap}
use Rattle.program_tasks.specs.Explained.{run_answer}
use Rattle.program_tasks.proofs.Said.{are_files}
use Rattle.program_tasks.proofs.subcommands.explain.Goals as goal

pub returns-clause-explained : goal.returns-clause-explained
returns-clause-explained g c = record {
  between = _;
  files = c.named.result;
  are = are_files g.N.Notes.HasTold g.S.FileStore.IsOpened g.S.Reader.Source.HasLeft g.S.FileStore.CannotOpen g.S.Reader.Source.failed g.S.FileStore.IsStanding g.S.FileStore.HasNames _ true _ _ _ c.in_ok-folder.folder c.in_ok-opened.opened c.named.result
      c.in_ok-folder.ensures.read c.in_ok-opened.ensures.opened c.in_ok-opened.ensures.told c.named.ensures.names c.named.ensures.files;
  explanation = c.in_ok-explanation.explanation;
  explained = c.in_ok-explanation.ensures.explained;
  told = c.tell.ensures;
  answered = c.answer.ensures
      ∙ ap (λ all. run_answer all c.in_ok-explanation.explanation) c.takes_all.ensures;
}
