use Rattle.std.proofs.Common.{◌≡◌, ◌≤◌, ◌+◌, length, drop}
use Rattle.std.specs.Prelude.{None}
use Rattle.smf_grammar.specs.Texts.{bad_event, events_text}
use Rattle.smf_files.specs.declared.write.TheConstants.{MOST_EVENT_BYTES}
use Rattle.smf_files.proofs.write.events_size.Given as goal

abbrev pub invariant-loop-event : goal.invariant-loop-event
invariant-loop-event l = record {
  measured : l.size + length (events_text l.before (drop l.event-index l.events)) ≡ length (events_text 0 l.events);
  small : l.size ≤ MOST_EVENT_BYTES;
  good : bad_event l.before (drop l.event-index l.events) ≡ None;
}
