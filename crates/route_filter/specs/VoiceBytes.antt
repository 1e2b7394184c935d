-- Representation: Channel messages by their parts.
use Rattle.std.specs.Prelude.{ℕ, ◌≤◌, ◌<◌, pos, ◌+ℤ◌, Bool, ◌&&◌, nat_lt, nat_le, List, [], ◌∷◌, Option, Some, None, if◌then◌else◌}
use Rattle.route_filter.specs.declared.rule_args.RuleArgs.{RuleArgs}
use Rattle.route_filter.specs.Passing.{in_range, as_note}

-- program changes and channel pressures have one data byte, all others two
abbrev pub has_one_data : ℕ → Bool
has_one_data status = nat_le 192 status && nat_lt status 224

-- the full bytes of a channel message
abbrev pub voice_bytes : ℕ → ℕ → ℕ → List ℕ
voice_bytes status first second =
    if has_one_data status then status ∷ first ∷ [] else status ∷ first ∷ second ∷ []

pub record IsVoice (status first second : ℕ) : Type 0 where
  pub least : 128 ≤ status
  pub most : status < 240
  pub first_low : first < 128
  pub second_low : second < 128

-- where the first data byte goes, which is a note or is none
abbrev pub first_byte_after : RuleArgs → Bool → ℕ → Option ℕ
first_byte_after rule is_note first =
    if is_note then (if in_range rule first then as_note (pos first +ℤ rule.shift) else None)
    else Some first
