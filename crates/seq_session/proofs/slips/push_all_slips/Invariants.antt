use Rattle.std.proofs.Common.{◌≡◌, ◌++◌, take}
use Rattle.std.specs.List.{flat_map}
use Rattle.seq_session.specs.Slips.{slip_line}
use Rattle.seq_session.proofs.slips.push_all_slips.Given as goal

abbrev pub invariant-loop-entry : goal.invariant-loop-entry
invariant-loop-entry l = l.told.items ≡ l.initial.told.items ++ flat_map (slip_line l.inputs l.lines) (take l.entry-index l.entries)
