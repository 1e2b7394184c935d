use Rattle.std.proofs.Common.{◌≡◌, map, take}
use Rattle.seq_session.specs.Streams.{emptied}
use Rattle.seq_session.proofs.streaming.all_emptied.Given as goal

abbrev pub invariant-loop-read : goal.invariant-loop-read
invariant-loop-read l = l.empty.items ≡ map emptied (take l.read-index l.reads)
