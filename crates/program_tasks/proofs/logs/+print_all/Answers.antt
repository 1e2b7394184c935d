use Rattle.std.proofs.lemmas.Result.{on_ok_weaker, on_err_weaker}
use Rattle.memory.proofs.Outcomes.{on_err}
use Rattle.program_tasks.proofs.PrintedLogs.{logs_printed, first_stops, later_stops}
use Rattle.program_tasks.proofs.logs.+print_all.Goals as goal

pub returns-in_err-print_log-clause-short : goal.returns-in_err-print_log-clause-short
returns-in_err-print_log-clause-short g t c = on_err c.from_residual.result
    (first_stops g.W.Sink.HasTaken (λ l. l.taken) c.args.scripts.now c.in-Some.more_scripts.now c.args.logs.now c.in-Some-split_first.more_logs.now c.in-Some.script.now c.in-Some-split_first.log.now c.args.out.now c.args.out.now c.print_log.new.out
    c.in-Some.ensures.cases.0 c.in-Some-split_first.ensures.cases.0 c.in_err-print_log.ensures.short)

pub returns-clause-text : goal.returns-clause-text
returns-clause-text g t c = on_ok_weaker c.print_all.result
    (logs_printed g.W.Sink.HasTaken (λ l. l.taken) c.args.scripts.now c.in-Some.more_scripts.now c.args.logs.now c.in-Some-split_first.more_logs.now c.in-Some.script.now c.in-Some-split_first.log.now c.args.out.now c.print_log.new.out c.print_all.new.out
    c.in-Some.ensures.cases.0 c.in-Some-split_first.ensures.cases.0 c.in_ok-print_log.ensures.text)
    c.print_all.ensures.text

pub returns-clause-short : goal.returns-clause-short
returns-clause-short g t c = on_err_weaker c.print_all.result
    (later_stops g.W.Sink.HasTaken (λ l. l.taken) c.args.scripts.now c.in-Some.more_scripts.now c.args.logs.now c.in-Some-split_first.more_logs.now c.in-Some.script.now c.in-Some-split_first.log.now c.args.out.now c.print_log.new.out c.print_all.new.out
    c.in-Some.ensures.cases.0 c.in-Some-split_first.ensures.cases.0 c.in_ok-print_log.ensures.text)
    c.print_all.ensures.short
