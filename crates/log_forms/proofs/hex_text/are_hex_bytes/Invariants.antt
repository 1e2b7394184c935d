use Rattle.std.proofs.Common.{◌≡◌, length}
use Rattle.std.specs.List.{list_all}
use Rattle.log_forms.specs.Lines.{words, is_hex_byte}
use Rattle.log_forms.proofs.hex_text.are_hex_bytes.Given as goal

-- all are bytes where those that are left are
abbrev pub invariant-loop-word : goal.invariant-loop-word
invariant-loop-word l = list_all is_hex_byte l.words ≡ list_all is_hex_byte (words l.text)

abbrev pub decreases-loop-word : goal.decreases-loop-word
decreases-loop-word l = length l.words
