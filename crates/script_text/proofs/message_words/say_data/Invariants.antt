use Rattle.std.proofs.Common.{◌≡◌, length}
use Rattle.script_text.proofs.SaidBytes.{is_said, are_data}
use Rattle.script_text.proofs.message_words.say_data.Given as goal

abbrev pub invariant-loop-word : goal.invariant-loop-word
invariant-loop-word l = record {
  said : is_said (are_data l.left) l.words ≡ is_said (are_data l.fn.count) l.fn.words;
}

abbrev pub decreases-loop-word : goal.decreases-loop-word
decreases-loop-word l = length l.words
