use Rattle.std.proofs.Common.{◌∙◌, refl}
use Rattle.memory.proofs.Outcomes.{on_err}
use Rattle.tool_text.proofs.Dumped.{goes-event, stops-event}
use Rattle.tool_text.proofs.Pieces.{goes-stops}
use Rattle.tool_text.proofs.dump.print_events.Goals as goal

pub returns-in_err-event-clause-short : goal.returns-in_err-event-clause-short
returns-in_err-event-clause-short g c = on_err c.from_residual.result (goes-stops g.W.Sink.HasTaken _ _ _ _ _ c.events.invariant.goes)

pub returns-in_err-push_event-clause-short : goal.returns-in_err-push_event-clause-short
returns-in_err-push_event-clause-short g c = on_err c.from_residual-in_err-push_event.result (goes-stops g.W.Sink.HasTaken _ _ _ _ _ c.events.invariant.goes)

pub returns-in_err-spill-clause-short : goal.returns-in_err-spill-clause-short
returns-in_err-spill-clause-short g c = on_err c.from_residual-in_err-spill.result
    (stops-event g.W.Sink.HasTaken c.in-Some.event c.events.cursor c.next.new.self _ _ _ _ _ _ (rw c.in-Some.is at c.in_ok-event.ensures.some) c.events.invariant.goes c.in_ok-push_event.ensures c.in_err-spill.ensures.short)

pub events-preserved-in_ok-spill : goal.events-preserved-in_ok-spill
events-preserved-in_ok-spill g c = record {
  goes = goes-event g.W.Sink.HasTaken c.in-Some.event c.events.cursor c.next.new.self _ _ _ _ _ _ _ (rw c.in-Some.is at c.in_ok-event.ensures.some) c.events.invariant.goes c.in_ok-push_event.ensures c.in_ok-spill.ensures.sent;
  unmarked = c.in_ok-spill.ensures.marks.unmarked refl;
  eager = c.spill.ensures.marks.eager ∙ c.events.invariant.eager;
}

pub events-preserved : goal.events-preserved
events-preserved g c = record {
  goes = goes-event g.W.Sink.HasTaken c.in-Some.event c.events.cursor c.next.new.self _ _ _ _ _ _ _ (rw c.in-Some.is at c.in_ok-event.ensures.some) c.events.invariant.goes c.in_ok-push_event.ensures c.in_ok-spill.ensures.sent;
  unmarked = c.in_ok-spill.ensures.marks.unmarked refl;
  eager = c.spill.ensures.marks.eager ∙ c.events.invariant.eager;
}
