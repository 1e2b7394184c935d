-- What a rule makes of a message, by its status.
use Rattle.std.proofs.Common.{◌≡◌, ℕ, ◌%◌, ◌≤◌, Bool, true, false, List, ◌∷◌, Some, None, refl, ap, ◌∙◌}
use Rattle.std.specs.Prelude.{Option, if◌then◌else◌, ◌&&◌, is_some, option_map, slice_index, pos, ◌+ℤ◌}
use Rattle.midi_wire.specs.Messages.{begins}
use Rattle.midi_wire.specs.Writings.{status_of, is_channel}
use Rattle.midi_wire.specs.Kinds.{kind_of, kind_of_status, channel_number}
use Rattle.midi_wire.proofs.WrittenNext.{message-not-channel}
use Rattle.route_filter.specs.declared.rule_args.RuleArgs.{RuleArgs}
use Rattle.route_filter.specs.Rules.{has_kind, has_channel}
use Rattle.route_filter.specs.Passing.{has_note, note_of, in_range, takes_channel, takes_note, as_note, with_first, shifted_by, on_channel, on_rule_channel, rule_output}
use Rattle.route_filter.specs.VoiceBytes.{first_byte_after}
use Rattle.route_filter.proofs.Statuses.{note-system}

-- ---- a message of the system

stays : (channel : Option ℕ) (m : List ℕ) → is_some (channel_number m) ≡ false → on_rule_channel channel m ≡ m
stays None m e = refl
stays (Some n) m e = ap (λ (t : Bool). if t then on_channel n m else m) e

-- by whether it is taken, and what its channel and its note are
abbrev made_by : RuleArgs → Bool → Option ℕ → Option ℕ → List ℕ → Option (List ℕ)
made_by rule t channel note m = if t && (takes_channel rule channel && takes_note rule note) then option_map (on_rule_channel rule.channel) (shifted_by rule.shift note m) else None

pub no-channel : (m : List ℕ) → 240 ≤ status_of m → channel_number m ≡ None
no-channel m h = ap (λ (t : Bool). if t then Some (status_of m % 16) else None) (message-not-channel m h)

pub system-passed : (rule : RuleArgs) (m : List ℕ) → 240 ≤ status_of m → rule_output rule m ≡ (if has_kind rule.kinds.0 (kind_of m) then Some m else None)
system-passed rule m h =
    ap (λ (c : Option ℕ). made_by rule (has_kind rule.kinds.0 (kind_of m)) c (note_of m) m) (no-channel m h)
    ∙ ap (λ (t : Bool). made_by rule (has_kind rule.kinds.0 (kind_of m)) None (if t then Some (slice_index m 1) else None) m) (note-system (status_of m) h)
    ∙ go (has_kind rule.kinds.0 (kind_of m))
  where
    go : (t : Bool) → made_by rule t None None m ≡ (if t then Some m else None)
    go true = ap (λ (n : List ℕ). Some n) (stays rule.channel m (ap is_some (no-channel m h)))
    go false = refl

-- ---- a channel message

maps-both : (f : List ℕ → List ℕ) (g : ℕ → List ℕ) (o : Option ℕ) → option_map f (option_map g o) ≡ option_map (λ n. f (g n)) o
maps-both f g None = refl
maps-both f g (Some n) = refl

voice-made : (rule : RuleArgs) (s a : ℕ) (more : List ℕ) (t u v : Bool) → (if t && (u && takes_note rule (if v then Some a else None)) then option_map (on_rule_channel rule.channel) (shifted_by rule.shift (if v then Some a else None) (s ∷ a ∷ more)) else None) ≡ (if t && u then option_map (λ n. on_rule_channel rule.channel (s ∷ n ∷ more)) (first_byte_after rule v a) else None)
voice-made rule s a more false u v = refl
voice-made rule s a more true false v = refl
voice-made rule s a more true true false = refl
voice-made rule s a more true true true =
    go (in_range rule a)
  where
    go : (w : Bool) → (if w then option_map (on_rule_channel rule.channel) (option_map (with_first (s ∷ a ∷ more)) (as_note (pos a +ℤ rule.shift))) else None) ≡ option_map (λ n. on_rule_channel rule.channel (s ∷ n ∷ more)) (if w then as_note (pos a +ℤ rule.shift) else None)
    go true = maps-both (on_rule_channel rule.channel) (with_first (s ∷ a ∷ more)) (as_note (pos a +ℤ rule.shift))
    go false = refl

pub voice-passed : (rule : RuleArgs) (s a : ℕ) (more : List ℕ) → is_channel (begins s) ≡ true → rule_output rule (s ∷ a ∷ more) ≡ (if has_kind rule.kinds.0 (kind_of_status s) && has_channel rule.channels (s % 16) then option_map (λ n. on_rule_channel rule.channel (s ∷ n ∷ more)) (first_byte_after rule (has_note (kind_of_status s)) a) else None)
voice-passed rule s a more e =
    ap (λ (t : Bool). made_by rule (has_kind rule.kinds.0 (kind_of_status s)) (if t then Some (s % 16) else None) (note_of (s ∷ a ∷ more)) (s ∷ a ∷ more)) e
    ∙ voice-made rule s a more (has_kind rule.kinds.0 (kind_of_status s)) (has_channel rule.channels (s % 16)) (has_note (kind_of_status s))
