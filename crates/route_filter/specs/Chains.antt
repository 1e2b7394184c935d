-- Representation: Two rules, the one after the other.
use Rattle.std.specs.Prelude.{ℕ, ℤ, pos, ◌+ℤ◌, true, ◌&&◌, nat_le, Option, None, option_and_then, if◌then◌else◌}
use Rattle.route_filter.specs.declared.rule_args.RuleArgs.{RuleArgs}
use Rattle.route_filter.specs.Passing.{as_note}
use Rattle.route_filter.specs.VoiceBytes.{first_byte_after}

-- where a note goes that is raised if it is in the range
abbrev pub note_after : ℕ → ℕ → ℤ → ℕ → Option ℕ
note_after low high shift note =
    if nat_le low note && nat_le note high then as_note (pos note +ℤ shift) else None

-- where a note goes by the one rule, and from there by the next
abbrev pub moved_twice : RuleArgs → RuleArgs → ℕ → Option ℕ
moved_twice one next note =
    option_and_then (first_byte_after next true) (first_byte_after one true note)
