use Rattle.std.proofs.lemmas.Result.{on_err_weaker, on_ok_weaker}
use Rattle.memory.proofs.Outcomes.{on_err}
use Rattle.byte_io.proofs.Moved.{took_more}
use Rattle.program_tasks.specs.LogsPrinted.{client_heading}
use Rattle.program_tasks.proofs.Fronts.{gained_before, gained_after}
use Rattle.program_tasks.proofs.logs.print_log.Goals as goal

pub returns-in_err-send-clause-short : goal.returns-in_err-send-clause-short
returns-in_err-send-clause-short g c = on_err c.from_residual-in_err-send.result
    (gained_before g.W.Sink.HasTaken _ _ (client_heading c.args.client) c.args.log.now.taken (rw (c.as_slice.ensures.value, c.in_ok-push_client.ensures, c.clear.ensures.items) at c.in_err-send.ensures.part))

pub returns-clause-text : goal.returns-clause-text
returns-clause-text g c = on_ok_weaker c.send_to.result
    (λ k. took_more g.W.Sink.HasTaken _ _ _ (client_heading c.args.client) c.args.log.now.taken (rw (c.as_slice.ensures.value, c.in_ok-push_client.ensures, c.clear.ensures.items) at c.in_ok-send.ensures.written) k)
    c.send_to.ensures.written

pub returns-clause-short : goal.returns-clause-short
returns-clause-short g c = on_err_weaker c.send_to.result
    (λ k. gained_after g.W.Sink.HasTaken _ _ _ (client_heading c.args.client) c.args.log.now.taken (rw (c.as_slice.ensures.value, c.in_ok-push_client.ensures, c.clear.ensures.items) at c.in_ok-send.ensures.written) k)
    c.send_to.ensures.part
