use Rattle.std.proofs.Common.{◌≡◌, ◌-◌}
use Rattle.std.specs.Prelude.{replicate}
use Rattle.script_text.specs.Words.{words}
use Rattle.script_text.proofs.Gathered.{after}
use Rattle.smf_make.specs.SaidEvents.{numbers_said}
use Rattle.smf_make.proofs.numbers.each_number.Given as goal

abbrev pub invariant-loop-i : goal.invariant-loop-i
invariant-loop-i l = record {
  rest : after l.bytes.items (numbers_said (replicate (l.count - l._i) 1) (words l.left)) ≡ numbers_said (replicate l.count 1) (words l.text);
}
