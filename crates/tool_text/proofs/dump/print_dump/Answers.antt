use Rattle.std.proofs.lemmas.Result.{on_ok_weaker, on_err_weaker}
use Rattle.memory.proofs.Outcomes.{on_err}
use Rattle.tool_text.proofs.Dumped.{head-printed, tempos-printed, tempos-stop, events-printed, events-stop, all-printed, all-stop}
use Rattle.tool_text.proofs.Pieces.{stops-none, goes-stops}
use Rattle.tool_text.proofs.dump.print_dump.Goals as goal

pub returns-in_err-cursor-clause-short : goal.returns-in_err-cursor-clause-short
returns-in_err-cursor-clause-short g c = on_err c.from_residual.result (stops-none g.W.Sink.HasTaken _ _)

pub returns-in_err-push_head-clause-short : goal.returns-in_err-push_head-clause-short
returns-in_err-push_head-clause-short g c = on_err c.from_residual-in_err-push_head.result (stops-none g.W.Sink.HasTaken _ _)

pub returns-in_err-print_tempos-clause-short : goal.returns-in_err-print_tempos-clause-short
returns-in_err-print_tempos-clause-short g c =
    let head = head-printed g.W.Sink.HasTaken c.args.file.now c.args.out.now _ _ c.new-text.ensures.items c.in_ok-push_head.ensures in
    on_err c.from_residual-in_err-print_tempos.result (tempos-stop g.W.Sink.HasTaken c.args.file.now _ _ _ _ _ head c.tempo_entries.ensures c.in_err-print_tempos.ensures.short)

pub returns-in_err-print_events-clause-short : goal.returns-in_err-print_events-clause-short
returns-in_err-print_events-clause-short g c =
    let head = head-printed g.W.Sink.HasTaken c.args.file.now c.args.out.now _ _ c.new-text.ensures.items c.in_ok-push_head.ensures in
    let tempos = tempos-printed g.W.Sink.HasTaken c.args.file.now _ _ _ _ _ _ head c.tempo_entries.ensures c.in_ok-print_tempos.ensures.sent in
    on_err c.from_residual-in_err-print_events.result (events-stop g.W.Sink.HasTaken c.args.file.now _ _ _ _ _ tempos c.in_ok-cursor.ensures c.in_err-print_events.ensures.short)

pub returns-in_err-push_skipped-clause-short : goal.returns-in_err-push_skipped-clause-short
returns-in_err-push_skipped-clause-short g c =
    let head = head-printed g.W.Sink.HasTaken c.args.file.now c.args.out.now _ _ c.new-text.ensures.items c.in_ok-push_head.ensures in
    let tempos = tempos-printed g.W.Sink.HasTaken c.args.file.now _ _ _ _ _ _ head c.tempo_entries.ensures c.in_ok-print_tempos.ensures.sent in
    let events = events-printed g.W.Sink.HasTaken c.args.file.now _ _ _ _ _ _ tempos c.in_ok-cursor.ensures c.in_ok-print_events.ensures.sent in
    on_err c.from_residual-in_err-push_skipped.result (goes-stops g.W.Sink.HasTaken _ _ _ _ _ events)

pub returns-clause-text : goal.returns-clause-text
returns-clause-text g c =
    let head = head-printed g.W.Sink.HasTaken c.args.file.now c.args.out.now _ _ c.new-text.ensures.items c.in_ok-push_head.ensures in
    let tempos = tempos-printed g.W.Sink.HasTaken c.args.file.now _ _ _ _ _ _ head c.tempo_entries.ensures c.in_ok-print_tempos.ensures.sent in
    let events = events-printed g.W.Sink.HasTaken c.args.file.now _ _ _ _ _ _ tempos c.in_ok-cursor.ensures c.in_ok-print_events.ensures.sent in
    on_ok_weaker c.flush.result (λ k. all-printed g.W.Sink.HasTaken c.args.file.now _ _ _ _ _ _ events c.skipped.ensures c.in_ok-push_skipped.ensures k) c.flush.ensures.sent

pub returns-clause-short : goal.returns-clause-short
returns-clause-short g c =
    let head = head-printed g.W.Sink.HasTaken c.args.file.now c.args.out.now _ _ c.new-text.ensures.items c.in_ok-push_head.ensures in
    let tempos = tempos-printed g.W.Sink.HasTaken c.args.file.now _ _ _ _ _ _ head c.tempo_entries.ensures c.in_ok-print_tempos.ensures.sent in
    let events = events-printed g.W.Sink.HasTaken c.args.file.now _ _ _ _ _ _ tempos c.in_ok-cursor.ensures c.in_ok-print_events.ensures.sent in
    on_err_weaker c.flush.result (λ k. all-stop g.W.Sink.HasTaken c.args.file.now _ _ _ _ _ _ events c.skipped.ensures c.in_ok-push_skipped.ensures k) c.flush.ensures.short
