use Rattle.std.proofs.lemmas.Result.{on_ok_weaker}
use Rattle.byte_io.specs.Moved.{Took}
use Rattle.log_forms.specs.Forms.{log_in}
use Rattle.program_tasks.proofs.PrintedLogs.{formed_printed}
use Rattle.program_tasks.proofs.formed.+print_each.Goals as goal

pub returns-clause-text : goal.returns-clause-text
returns-clause-text g t c =
    let log : Took g.W.Sink.HasTaken c.args.out.now (log_in c.args.form c.in-Some.script.now.client c.in-Some-split_first.log.now.taken) c.send.new.out =
    rw (c.as_slice.ensures.value, c.in_ok-push_held.ensures, c.clear.ensures.items) at c.in_ok-send.ensures.written in
    on_ok_weaker c.print_each.result
    (formed_printed g.W.Sink.HasTaken c.args.form (λ l. l.taken) c.args.scripts.now c.in-Some.more_scripts.now c.args.logs.now c.in-Some-split_first.more_logs.now c.in-Some.script.now c.in-Some-split_first.log.now c.args.out.now c.send.new.out c.print_each.new.out
    c.in-Some.ensures.cases.0 c.in-Some-split_first.ensures.cases.0 log)
    c.print_each.ensures.text
