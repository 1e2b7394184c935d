use Rattle.std.proofs.Common.{◌≡◌, ◌++◌, take}
use Rattle.session_fates.specs.Told.{ways_text}
use Rattle.session_fates.proofs.text.push_ways.Given as goal

abbrev pub invariant-loop-way : goal.invariant-loop-way
invariant-loop-way l = l.text.items ≡ l.fn.text.items ++ ways_text l.source (take l.way-index l.ways)
