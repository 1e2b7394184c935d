use Rattle.std.proofs.Common.{◌≡◌, ◌++◌, drop}
use Rattle.std.specs.Prelude.{None}
use Rattle.smf_grammar.specs.Texts.{bad_event, events_text}
use Rattle.smf_files.proofs.write.push_events.Given as goal

abbrev pub invariant-loop-event : goal.invariant-loop-event
invariant-loop-event l = record {
  written : l.out.items ++ events_text l.before (drop l.event-index l.events) ≡ l.initial.out.items ++ events_text 0 l.events;
  good : bad_event l.before (drop l.event-index l.events) ≡ None;
}
