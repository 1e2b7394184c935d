use Rattle.std.proofs.Common.{◌≡◌, ◌++◌, ◌*◌, ◌+◌, take, vec_len}
use Rattle.text_forms.specs.Hex.{spaced_hex}
use Rattle.text_forms.proofs.hex.overwrite_spaced_line.Given as goal

abbrev pub invariant-loop-byte : goal.invariant-loop-byte
invariant-loop-byte l = record {
  at : l.end ≡ l.fn.at + 3 * l.byte-index;
  len : vec_len l.text ≡ vec_len l.fn.text;
  spelled : take l.end l.text.items ≡ take l.fn.at l.fn.text.items ++ spaced_hex (take l.byte-index l.bytes);
}
