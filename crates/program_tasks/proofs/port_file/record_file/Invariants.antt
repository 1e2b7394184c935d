use Rattle.std.proofs.Common.{◌≡◌, take}
use Rattle.program_tasks.specs.Recording.{recording_of}
use Rattle.program_tasks.proofs.port_file.record_file.Given as goal

-- the events of the entries so far
abbrev pub invariant-loop-entry : goal.invariant-loop-entry
invariant-loop-entry l = record {
  events : l.events.items ≡ recording_of l.fn.port (take l.entry-index l.entry-items);
}
