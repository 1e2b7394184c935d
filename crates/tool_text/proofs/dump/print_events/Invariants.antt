use Rattle.std.proofs.Common.{◌≡◌, ◌++◌, length}
use Rattle.std.specs.Prelude.{false}
use Rattle.std.specs.List.{flat_map}
use Rattle.tool_text.specs.Dump.{event_line}
use Rattle.tool_text.specs.Gathered.{IsGathered}
use Rattle.tool_text.proofs.dump.print_events.Given as goal

abbrev pub invariant-events : goal.invariant-events
invariant-events g l = record {
  goes : IsGathered g.W.Sink.HasTaken l.initial.out l.out l.text.items (flat_map event_line l.cursor) (l.initial.text.items ++ flat_map event_line l.initial.cursor);
  unmarked : g.W.Sink.failed l.out ≡ false;
  eager : g.W.Sink.takes_some l.out ≡ g.W.Sink.takes_some l.initial.out;
}

abbrev pub decreases-events : goal.decreases-events
decreases-events g l = length l.cursor
