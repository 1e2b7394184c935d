use Rattle.std.proofs.Common.{◌≡◌, ◌++◌, drop}
use Rattle.std.specs.Prelude.{false}
use Rattle.std.specs.List.{flat_map}
use Rattle.tool_text.specs.Dump.{tempo_line}
use Rattle.tool_text.specs.Gathered.{IsGathered}
use Rattle.tool_text.proofs.dump.print_tempos.Given as goal

abbrev pub invariant-loop-entry : goal.invariant-loop-entry
invariant-loop-entry g l = record {
  goes : IsGathered g.W.Sink.HasTaken l.initial.out l.out l.text.items (flat_map tempo_line (drop l.entry-index l.entries)) (l.initial.text.items ++ flat_map tempo_line l.entries);
  unmarked : g.W.Sink.failed l.out ≡ false;
  eager : g.W.Sink.takes_some l.out ≡ g.W.Sink.takes_some l.initial.out;
}
