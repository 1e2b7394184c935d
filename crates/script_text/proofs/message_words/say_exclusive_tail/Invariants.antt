use Rattle.std.proofs.Common.{◌≡◌, length}
use Rattle.midi_wire.specs.Messages.{is_tail}
use Rattle.midi_wire.specs.declared.status.StatusClass.TheVariants.{Exclusive}
use Rattle.script_text.proofs.SaidBytes.{is_said, end_exclusive}
use Rattle.script_text.proofs.message_words.say_exclusive_tail.Given as goal

abbrev pub invariant-loop-word : goal.invariant-loop-word
invariant-loop-word l = record {
  said : is_said (end_exclusive l.left) l.words ≡ is_said (is_tail Exclusive) l.fn.words;
}

abbrev pub decreases-loop-word : goal.decreases-loop-word
decreases-loop-word l = length l.words
