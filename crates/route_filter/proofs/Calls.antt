-- The returns of `pass` and `pass_voice`, over plain variables: `args` are the fields of the rule, `has` is what a test answered.
use Rattle.std.proofs.Common.{◌≡◌, ℕ, ◌+◌, ◌-◌, ◌*◌, ◌/◌, ◌%◌, ◌≤◌, Bool, true, false, List, Some, None, refl, sym, ap, ◌∙◌, arith}
use Rattle.std.specs.Prelude.{Option, IsTrue, if◌then◌else◌, ◌&&◌, option_map, unwrap_or}
use Rattle.midi_wire.specs.declared.kind.Kind.{Kind}
use Rattle.midi_wire.specs.Writings.{status_of}
use Rattle.midi_wire.specs.Kinds.{kind_of, kind_of_status}
use Rattle.route_filter.specs.declared.rule_args.RuleArgs.{RuleArgs}
use Rattle.route_filter.specs.Rules.{has_kind, has_channel, is_rule}
use Rattle.route_filter.specs.Passing.{has_note, rule_output}
use Rattle.route_filter.specs.VoiceBytes.{voice_bytes, IsVoice, first_byte_after}
use Rattle.route_filter.proofs.Passes.{system-passed}
use Rattle.route_filter.proofs.Voices.{parts-passed}

-- ---- a message of the system

pub system-known : (rule args : RuleArgs) (m : List ℕ) (kind : Kind) (has t : Bool) → args ≡ rule → kind ≡ kind_of m → has ≡ has_kind args.kinds.0 kind → has ≡ t → 240 ≤ status_of m → (if t then Some m else None) ≡ rule_output rule m
system-known rule args m kind has t e f g h l =
    ap (λ (b : Bool). if b then Some m else None) (sym h ∙ g ∙ ap (λ (r : RuleArgs). has_kind r.kinds.0 kind) e ∙ ap (has_kind rule.kinds.0) f)
    ∙ sym (system-passed rule m l)

-- ---- a channel message

-- what passes, where the kind, the channel and the first data byte are these
abbrev given : Bool → Bool → Option ℕ → ℕ → ℕ → Option (List ℕ)
given k c o t b = if k && c then option_map (λ n. voice_bytes t n b) o else None

without-kind : (c : Bool) (o : Option ℕ) (t b : ℕ) → None ≡ given false c o t b
without-kind c o t b = refl

without-channel : (k : Bool) (o : Option ℕ) (t b : ℕ) → None ≡ given k false o t b
without-channel true o t b = refl
without-channel false o t b = refl

module _ (rule args : RuleArgs) (s a b : ℕ) (is : args ≡ rule) (known : IsTrue (is_rule args)) (voice : IsVoice s a b) where
  all : (t : ℕ) → t ≡ s - s % 16 + unwrap_or args.channel (s % 16) → rule_output rule (voice_bytes s a b) ≡ given (has_kind args.kinds.0 (kind_of_status s)) (has_channel args.channels (s % 16)) (first_byte_after args (has_note (kind_of_status s)) a) t b
  all t e =
      let at : t ≡ s / 16 * 16 + unwrap_or args.channel (s % 16) = e ∙ ap (λ (n : ℕ). n + unwrap_or args.channel (s % 16)) (let f : s - s % 16 ≡ s / 16 * 16 = omega arith in f) in
      ap (λ (r : RuleArgs). rule_output r (voice_bytes s a b)) (sym is) ∙ parts-passed args s a b t known voice.least voice.most at

  pub kind-missing : (has : Bool) → has ≡ has_kind args.kinds.0 (kind_of_status s) → has ≡ false → None ≡ rule_output rule (voice_bytes s a b)
  kind-missing has e f =
      let t : ℕ = s - s % 16 + unwrap_or args.channel (s % 16) in
      ap (λ (k : Bool). given k (has_channel args.channels (s % 16)) (first_byte_after args (has_note (kind_of_status s)) a) t b) (sym f ∙ e) ∙ sym (all t refl)

  pub channel-missing : (has : Bool) → has ≡ has_channel args.channels (s % 16) → has ≡ false → None ≡ rule_output rule (voice_bytes s a b)
  channel-missing has e f =
      let t : ℕ = s - s % 16 + unwrap_or args.channel (s % 16) in
      let k : Bool = has_kind args.kinds.0 (kind_of_status s) in
      let o : Option ℕ = first_byte_after args (has_note (kind_of_status s)) a in
      without-channel k o t b ∙ ap (λ (c : Bool). given k c o t b) (sym f ∙ e) ∙ sym (all t refl)

  -- once the kind and the channel were found in the rule
  pub found : (has there : Bool) (o : Option ℕ) (t : ℕ) → has ≡ has_kind args.kinds.0 (kind_of_status s) → has ≡ true → there ≡ has_channel args.channels (s % 16) → there ≡ true → o ≡ first_byte_after rule (has_note (kind_of_status s)) a → t ≡ s - s % 16 + unwrap_or args.channel (s % 16) → option_map (λ n. voice_bytes t n b) o ≡ rule_output rule (voice_bytes s a b)
  found has there o t e f g h i j =
      ap (λ (k : Bool). given k true o t b) (sym f ∙ e) ∙ ap (λ (c : Bool). given (has_kind args.kinds.0 (kind_of_status s)) c o t b) (sym h ∙ g)
      ∙ ap (λ (q : Option ℕ). given (has_kind args.kinds.0 (kind_of_status s)) (has_channel args.channels (s % 16)) q t b) (i ∙ ap (λ (r : RuleArgs). first_byte_after r (has_note (kind_of_status s)) a) (sym is))
      ∙ sym (all t j)
