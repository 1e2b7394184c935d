use Rattle.std.proofs.Common.{◌≡◌, length}
use Rattle.script_text.proofs.Gathered.{after}
use Rattle.smf_make.specs.SaidEvents.{Whole, quoted_from}
use Rattle.smf_make.proofs.quoting.up_to_mark.Given as goal

abbrev pub invariant-loop-byte : goal.invariant-loop-byte
invariant-loop-byte l = record {
  rest : after l.bytes.items (quoted_from Whole l.left) ≡ quoted_from Whole l.text;
}

abbrev pub decreases-loop-byte : goal.decreases-loop-byte
decreases-loop-byte l = length l.left
