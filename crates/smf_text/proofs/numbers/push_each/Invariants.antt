use Rattle.std.proofs.Common.{◌≡◌, ◌++◌, take}
use Rattle.smf_text.specs.Words.{each_text}
use Rattle.smf_text.proofs.numbers.push_each.Given as goal

abbrev pub invariant-loop-byte : goal.invariant-loop-byte
invariant-loop-byte l = l.text.items ≡ l.initial.text.items ++ each_text (take l.byte-index l.bytes)
