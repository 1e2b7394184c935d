use Rattle.std.proofs.Common.{◌∙◌, sym, inl, inr, rules}
use Rattle.program_tasks.proofs.Stopped.{stopped, read_fault}
use Rattle.program_tasks.proofs.task.perform.Goals as goal
use Rattle.program_tasks.proofs.task.perform.Goals.{in-Standard, in-Path+in-Ok, in-Path+in-Err}

pub returns-in-Err-done-clause-told : goal.returns-in-Err-done-clause-told
returns-in-Err-done-clause-told g c = record {
  of_tool = c.in-Err-done.fault;
  text = c.of_tool.ensures.text;
  status = c.of_tool.ensures.status;
  stopped = elim c.match-task.branch [
    | in-Standard w ↦
        rw (w.in-Standard.is, w.input-is, w.out-is)
        (stopped g.I.Source.HasLeft g.I.Source.failed _ c.args.task.tool c.args.input.now w.print-done.new.input w.print-done.result c.in-Err-done.fault (sym w.done-is ∙ c.in-Err-done.is)
        w.print-done.ensures.told w.print-done.ensures.read w.print-done.ensures.marks.marked)
    | in-Path+in-Ok w ↦
        rw (w.in-Path.is, w.out-is)
        (inr (record {
          before = w.in-Ok.file;
          after = w.print.new.input;
          opened = w.in-Ok.ensures.opened;
          stopped = stopped g.S.Reader.Source.HasLeft g.S.Reader.Source.failed _ c.args.task.tool w.in-Ok.file w.print.new.input w.print.result c.in-Err-done.fault (sym w.done-is ∙ c.in-Err-done.is)
              w.print.ensures.told w.print.ensures.read w.print.ensures.marks.marked;
        }))
    | in-Path+in-Err w ↦ rw w.in-Path.is (inl (search rules, read_fault _ _ (sym w.done-is ∙ c.in-Err-done.is)))
  ];
}
