-- A rule lets a message through exactly where it fails no test.
use Rattle.std.proofs.Common.{◌≡◌, ℕ, Bool, true, false, cond, ◌&&◌, List, Option, Some, None, refl, sym, ap, ◌∙◌, arith}
use Rattle.std.specs.Prelude.{pos, ◌+ℤ◌, nat_lt, nat_le, not, is_some, is_none, option_map, if◌then◌else◌}
use Rattle.std.specs.Option.{option_or}
use Rattle.std.proofs.lemmas.Bool.Decides.{nat_tests}
use Rattle.midi_wire.specs.Kinds.{kind_of, channel_number}
use Rattle.route_filter.specs.declared.rule_args.RuleArgs.{RuleArgs}
use Rattle.route_filter.specs.Passing.{note_of, as_note, takes_channel, takes_note, with_first, shifted_by, on_rule_channel, rule_output}
use Rattle.route_filter.specs.Rules.{has_kind, has_channel}
use Rattle.way_fates.specs.Stops.{stop_of_channel, stop_of_note, stop_by}
use Rattle.way_fates.specs.declared.stop.Stop.{Stop}
use Rattle.way_fates.specs.declared.stop.Stop.TheVariants as stop

not-below : (low note : ℕ) → nat_le low note ≡ not (nat_lt note low)
not-below low note = grind (arith, nat_tests)

module _ (rule : RuleArgs) (m : List ℕ) where
  abbrev out : Option ℕ → Option (List ℕ)
  out note = option_map (on_rule_channel rule.channel) (shifted_by rule.shift note m)

  mapped : (o : Option ℕ) → is_some (option_map (on_rule_channel rule.channel) (option_map (with_first m) o)) ≡ is_some o
  mapped None = refl
  mapped (Some n) = refl

  abbrev shift_test : ℕ → Option Stop
  shift_test note = if is_some (as_note (pos note +ℤ rule.shift)) then None else Some (stop.NoteShifted note rule.shift)

  by-shift : (note : ℕ) (s : Bool) → is_some (as_note (pos note +ℤ rule.shift)) ≡ s →
      is_none (cond s None (Some (stop.NoteShifted note rule.shift))) ≡ is_some (out (Some note))
  by-shift note true e = sym e ∙ sym (mapped (as_note (pos note +ℤ rule.shift)))
  by-shift note false e = sym e ∙ sym (mapped (as_note (pos note +ℤ rule.shift)))

  by-note : (n : Option ℕ) → is_none (stop_of_note rule n) ≡ is_some (cond (takes_note rule n) (out n) None)
  by-note None = refl
  by-note (Some note) =
      go (nat_lt note rule.low) (nat_lt rule.high note)
      ∙ ap (λ b. is_some (cond b (out (Some note)) None)) (sym (ap (λ a. a && nat_le note rule.high) (not-below rule.low note) ∙ ap (λ b. not (nat_lt note rule.low) && b) (not-below note rule.high)))
    where
      go : (below above : Bool) → is_none (cond below (Some (stop.NoteBelow note rule.low)) (cond above (Some (stop.NoteAbove note rule.high)) (shift_test note))) ≡ is_some (cond (not below && not above) (out (Some note)) None)
      go true above = refl
      go false true = refl
      go false false = by-shift note (is_some (as_note (pos note +ℤ rule.shift))) refl

  by-channel : (c n : Option ℕ) → is_none (option_or (stop_of_channel rule c) (stop_of_note rule n)) ≡ is_some (cond (takes_channel rule c && takes_note rule n) (out n) None)
  by-channel None n = by-note n
  by-channel (Some k) n = go (has_channel rule.channels k)
    where
      go : (b : Bool) → is_none (option_or (cond b None (Some (stop.Channel k))) (stop_of_note rule n)) ≡ is_some (cond (b && takes_note rule n) (out n) None)
      go true = by-note n
      go false = refl

  by-kind : (b : Bool) (c n : Option ℕ) → is_none (option_or (cond b None (Some stop.Kind)) (option_or (stop_of_channel rule c) (stop_of_note rule n))) ≡ is_some (cond (b && (takes_channel rule c && takes_note rule n)) (out n) None)
  by-kind true c n = by-channel c n
  by-kind false c n = refl

pub passes-untested : (rule : RuleArgs) (m : List ℕ) → is_none (stop_by rule m) ≡ is_some (rule_output rule m)
passes-untested rule m = by-kind rule m (has_kind rule.kinds.0 (kind_of m)) (channel_number m) (note_of m)

-- what fails no test is let through
pub let-through : (rule : RuleArgs) (m : List ℕ) → stop_by rule m ≡ None → rule_output rule m ≡ None → ⊥
let-through rule m e f = let h : true ≡ false = sym (ap is_none e) ∙ passes-untested rule m ∙ ap is_some f in cc
