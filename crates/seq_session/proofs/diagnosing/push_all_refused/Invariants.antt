use Rattle.std.proofs.Common.{◌≡◌, ◌++◌, length, take}
use Rattle.node_table.specs.Numbers.{places}
use Rattle.seq_session.specs.Diagnostics.{last_made, refused_lines}
use Rattle.seq_session.specs.MadeCaps.{AreAtPlaces}
use Rattle.seq_session.proofs.diagnosing.push_all_refused.Given as goal

abbrev pub invariant-loop-entry : goal.invariant-loop-entry
invariant-loop-entry l = record {
  told : l.told.items ≡ l.initial.told.items ++ refused_lines l.lines l.inputs (take l.entry-index l.entries);
  whole : length l.made.items ≡ places;
  made : AreAtPlaces (last_made l.inputs (take l.entry-index l.entries)) l.made.items;
}
