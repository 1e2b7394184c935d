use Rattle.std.proofs.Common.{map, take}
use Rattle.seq_state.specs.declared.log.LogEntry.TheVariants.{Delivered}
use Rattle.seq_session.specs.AllLogs.{TellMore}
use Rattle.seq_session.proofs.log.push_all_delivered.Given as goal

abbrev pub invariant-loop-delivery : goal.invariant-loop-delivery
invariant-loop-delivery l =
    TellMore l.seating.reads.now l.seating.lines.now (map Delivered (take l.delivery-index l.delivered))
    (map (λ t. t.items) l.initial.texts.items) (map (λ t. t.items) l.texts.items)
