use Rattle.std.proofs.Common.{◌≡◌, length}
use Rattle.script_text.specs.Numbers.{hex_bytes}
use Rattle.script_text.specs.Words.{words}
use Rattle.script_text.proofs.Gathered.{after}
use Rattle.smf_make.proofs.numbers.hex_bytes.Given as goal

abbrev pub invariant-loop-word : goal.invariant-loop-word
invariant-loop-word l = record {
  rest : after l.bytes.items (hex_bytes (words l.left)) ≡ hex_bytes (words l.text);
}

abbrev pub decreases-loop-word : goal.decreases-loop-word
decreases-loop-word l = length l.left
