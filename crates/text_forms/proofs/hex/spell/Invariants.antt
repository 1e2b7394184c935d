use Rattle.std.proofs.Common.{◌≡◌, ◌*◌, ◌<◌, ℕ, length, take, get_or}
use Rattle.text_forms.specs.Hex.{spaced_hex}
use Rattle.text_forms.proofs.hex.spell.Given as goal

abbrev pub invariant-loop-i : goal.invariant-loop-i
invariant-loop-i l = record {
  spaces : (k : ℕ) → 3 * k < length l.digits → get_or l.digits (3 * k) 0 ≡ 32;
  spelled : take (3 * l.i) l.digits ≡ spaced_hex (take l.i l.bytes);
}
