use Rattle.std.proofs.Common.{false, inr, Err, ap}
use Rattle.tool_text.specs.declared.fault.ToolFault.{ToolFault}
use Rattle.tool_text.specs.Faults.{blames_sink}
use Rattle.program_tasks.proofs.Said.{are_files}
use Rattle.program_tasks.proofs.subcommands.live.Goals as goal

pub returns-in-Ok-clause-answered : goal.returns-in-Ok-clause-answered
returns-in-Ok-clause-answered g c = record {
  files = c.named.result;
  are = are_files g.N.Notes.HasTold g.S.FileStore.IsOpened g.S.Reader.Source.HasLeft g.S.FileStore.CannotOpen g.S.Reader.Source.failed g.S.FileStore.IsStanding g.S.FileStore.HasNames _ false _ _ _ c.in_ok-folder.folder c.in_ok-opened.opened c.named.result
      c.in_ok-folder.ensures.read c.in_ok-opened.ensures.opened c.in_ok-opened.ensures.told c.named.ensures.names c.named.ensures.files;
  answered = c.in-Ok.ensures.text;
}

pub returns-clause-fault : goal.returns-clause-fault
returns-clause-fault g c = inr (record {
  files = c.named.result;
  are = are_files g.N.Notes.HasTold g.S.FileStore.IsOpened g.S.Reader.Source.HasLeft g.S.FileStore.CannotOpen g.S.Reader.Source.failed g.S.FileStore.IsStanding g.S.FileStore.HasNames _ false _ _ _ c.in_ok-folder.folder c.in_ok-opened.opened c.named.result
      c.in_ok-folder.ensures.read c.in_ok-opened.ensures.opened c.in_ok-opened.ensures.told c.named.ensures.names c.named.ensures.files;
  short = c.in-Err.ensures.short;
  of_stream = c.in-Err.fault;
  text = c.of_tool.ensures.text;
  status = c.of_tool.ensures.status;
  only = c.in-Err.ensures.only;
  read = λ same. c.in-Err.ensures.read (ap (λ x. Err x) same);
  prompt = λ same. c.in-Err.ensures.prompt (ap (λ x. Err x) same);
  write = λ same. c.in-Err.ensures.marks.marked (ap (λ (x : ToolFault). blames_sink {A = Unit {0}} (Err x)) same);
})
