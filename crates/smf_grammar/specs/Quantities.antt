-- Definition: Variable-length quantities: one to four bytes of seven bits, high bits first; bit 7
-- says that another byte follows (Standard MIDI Files 1.0, "Conventions").
use Rattle.std.specs.Prelude.{ℕ, suc, ◌+◌, ◌*◌, ◌%◌, List, [], ◌∷◌, length, take, Result, Ok, Err, nat_le, ◌==◌, if◌then◌else◌}
use Rattle.midi_wire.specs.Messages.{is_status}
use Rattle.smf_grammar.specs.declared.fault.QuantityFault.{QuantityFault}
use Rattle.smf_grammar.specs.declared.fault.QuantityFault.TheVariants.{Short, Long}

-- how many bytes have bit 7 set before the first that has it clear
abbrev pub continuation_count : List ℕ → ℕ
continuation_count [] = 0
continuation_count (b ∷ bytes) = if is_status b then suc (continuation_count bytes) else 0

-- a number and seven more bits for each byte
abbrev pub septets : ℕ → List ℕ → ℕ
septets high [] = high
septets high (b ∷ bytes) = septets (high * 128 + b % 128) bytes

-- the quantity that stands first, and how many bytes it has
unfoldable pub quantity : List ℕ → Result (ℕ × ℕ) QuantityFault
quantity bytes =
    if nat_le 4 (continuation_count bytes) then Err Long else
    (if continuation_count bytes == length bytes then Err Short else
    Ok (septets 0 (take (suc (continuation_count bytes)) bytes), suc (continuation_count bytes)))
