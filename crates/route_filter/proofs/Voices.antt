-- The messages of a channel, and what `pass` makes of one.
use Rattle.std.proofs.Common.{◌≡◌, ℕ, ◌+◌, ◌*◌, ◌/◌, ◌%◌, ◌≤◌, ◌<◌, ◌⊎◌, inl, inr, Bool, true, false, List, [], ◌∷◌, length, Some, None, refl, sym, ap, subst, ◌∙◌, arith}
use Rattle.std.specs.Prelude.{Option, if◌then◌else◌, ◌&&◌, ◌==◌, nat_lt, nat_le, IsTrue, is_some, option_map, unwrap_or, slice_get, unsigned_abs, ℤ, pos, negsuc, ◌+ℤ◌}
use Rattle.std.proofs.lemmas.Bool.{cases_lt, ltb-true, leb-true, eqb-true}
use Rattle.std.proofs.lemmas.Bool.Decides.{nat_tests}
use Rattle.midi_wire.specs.declared.status.Width.TheVariants.{One, Two}
use Rattle.midi_wire.specs.declared.status.StatusClass.{StatusClass}
use Rattle.midi_wire.specs.declared.status.StatusClass.TheVariants.{Channel}
use Rattle.midi_wire.specs.Messages.{begins, all_data, is_group, IsTail, IsMessage, is_message}
use Rattle.midi_wire.specs.Writings.{status_of, is_channel}
use Rattle.midi_wire.specs.Kinds.{kind_of_status}
use Rattle.midi_wire.proofs.Table.{begins-8, begins-C, begins-E, begins-low, channel-below}
use Rattle.midi_wire.proofs.AllRead.{message-by, group-one, group-two}
use Rattle.midi_wire.proofs.MessageTests.{message-test}
use Rattle.midi_wire.proofs.Written.{and_true}
use Rattle.route_filter.specs.declared.rule_args.RuleArgs.{RuleArgs}
use Rattle.route_filter.specs.Rules.{has_kind, has_channel, is_channel_choice, is_rule}
use Rattle.route_filter.specs.Passing.{has_note, in_range, as_note, on_channel, on_rule_channel, rule_output}
use Rattle.route_filter.specs.VoiceBytes.{has_one_data, voice_bytes, IsVoice, first_byte_after}
use Rattle.route_filter.proofs.Passes.{voice-passed}

-- a message of a channel, by how many data bytes it has
pub data Voice : List ℕ → Type 0 where
  OneByte : (s a : ℕ) → 192 ≤ s → s < 224 → a < 128 → Voice (s ∷ a ∷ [])
  TwoBytes : (s a b : ℕ) → 128 ≤ s → s < 240 → (192 ≤ s → 224 ≤ s) → a < 128 → b < 128 → Voice (s ∷ a ∷ b ∷ [])

low-data : (a : ℕ) (more : List ℕ) → all_data (a ∷ more) ≡ true → a < 128
low-data a more e = ltb-true a 128 (and_true (nat_lt a 128) (all_data more) e).0

rest-data : (a : ℕ) (more : List ℕ) → all_data (a ∷ more) ≡ true → all_data more ≡ true
rest-data a more e = (and_true (nat_lt a 128) (all_data more) e).1

voice-one : (s : ℕ) (tail : List ℕ) → IsTrue (is_group One tail) → 192 ≤ s → s < 224 → Voice (s ∷ tail)
voice-one s [] p h l = let n : length {A = ℕ} [] ≡ 1 = eqb-true (length {A = ℕ} []) 1 (and_true (length {A = ℕ} [] == 1) (all_data []) p).0 in absurd (omega arith)
voice-one s (a ∷ []) p h l = OneByte s a h l (low-data a [] (and_true (length (a ∷ []) == 1) (all_data (a ∷ [])) p).1)
voice-one s (a ∷ b ∷ tail) p h l = let n : length (a ∷ b ∷ tail) ≡ 1 = eqb-true (length (a ∷ b ∷ tail)) 1 (and_true (length (a ∷ b ∷ tail) == 1) (all_data (a ∷ b ∷ tail)) p).0 in absurd (omega arith)

voice-two : (s : ℕ) (tail : List ℕ) → IsTrue (is_group Two tail) → 128 ≤ s → s < 240 → (192 ≤ s → 224 ≤ s) → Voice (s ∷ tail)
voice-two s [] p h l w = let n : length {A = ℕ} [] ≡ 2 = eqb-true (length {A = ℕ} []) 2 (and_true (length {A = ℕ} [] == 2) (all_data []) p).0 in absurd (omega arith)
voice-two s (a ∷ []) p h l w = let n : length (a ∷ []) ≡ 2 = eqb-true (length (a ∷ [])) 2 (and_true (length (a ∷ []) == 2) (all_data (a ∷ [])) p).0 in absurd (omega arith)
voice-two s (a ∷ b ∷ []) p h l w =
    let d : all_data (a ∷ b ∷ []) ≡ true = (and_true (length (a ∷ b ∷ []) == 2) (all_data (a ∷ b ∷ [])) p).1 in
    TwoBytes s a b h l w (low-data a (b ∷ []) d) (low-data b [] (rest-data a (b ∷ []) d))
voice-two s (a ∷ b ∷ x ∷ tail) p h l w = let n : length (a ∷ b ∷ x ∷ tail) ≡ 2 = eqb-true (length (a ∷ b ∷ x ∷ tail)) 2 (and_true (length (a ∷ b ∷ x ∷ tail) == 2) (all_data (a ∷ b ∷ x ∷ tail)) p).0 in absurd (omega arith)

pub voice-of : (m : List ℕ) → IsMessage m → status_of m < 240 → Voice m
voice-of [] p l = absurd p
voice-of (s ∷ tail) p l =
    go (cases_lt s 128) (cases_lt s 192) (cases_lt s 224)
  where
    go : (s < 128) ⊎ (128 ≤ s) → (s < 192) ⊎ (192 ≤ s) → (s < 224) ⊎ (224 ≤ s) → Voice (s ∷ tail)
    go (inl c) y z = absurd (subst (λ (k : StatusClass). IsTail k tail) (begins-low s c) p)
    go (inr c) (inl d) z = voice-two s tail (subst (λ (k : StatusClass). IsTail k tail) (begins-8 s c d) p) c l (λ h. absurd (omega arith))
    go (inr c) (inr d) (inl e) = voice-one s tail (subst (λ (k : StatusClass). IsTail k tail) (begins-C s d e) p) d e
    go (inr c) (inr d) (inr e) = voice-two s tail (subst (λ (k : StatusClass). IsTail k tail) (begins-E s e l) p) c l (λ h. e)

-- ---- the status of what passes

pub redirected-to : (channel : Option ℕ) (s : ℕ) (more : List ℕ) → is_channel (begins s) ≡ true → on_rule_channel channel (s ∷ more) ≡ (s / 16 * 16 + unwrap_or channel (s % 16)) ∷ more
redirected-to None s more e = ap (λ (t : ℕ). t ∷ more) (let f : s ≡ s / 16 * 16 + s % 16 = omega arith in f)
redirected-to (Some n) s more e = ap (λ (t : Bool). if t then on_channel n (s ∷ more) else s ∷ more) (ap (λ (t : Bool). is_some (if t then Some (s % 16) else None)) e)

channel-low : (channel : Option ℕ) (n : ℕ) → is_channel_choice channel ≡ true → n < 16 → unwrap_or channel n < 16
channel-low None n e l = l
channel-low (Some k) n e l = let f : k ≤ 15 = leb-true k 15 e in omega arith

rule-channel : (rule : RuleArgs) → IsTrue (is_rule rule) → is_channel_choice rule.channel ≡ true
rule-channel rule p =
    (and_true (nat_le (unsigned_abs rule.shift) 127) (is_channel_choice rule.channel)
    (and_true (nat_le rule.high 127) (nat_le (unsigned_abs rule.shift) 127 && is_channel_choice rule.channel)
    (and_true (nat_le rule.low rule.high) (nat_le rule.high 127 && (nat_le (unsigned_abs rule.shift) 127 && is_channel_choice rule.channel))
    (and_true (nat_le rule.kinds.0 1023) (nat_le rule.low rule.high && (nat_le rule.high 127 && (nat_le (unsigned_abs rule.shift) 127 && is_channel_choice rule.channel))) p).1).1).1).1

pub new-channel : (rule : RuleArgs) (s : ℕ) → IsTrue (is_rule rule) → unwrap_or rule.channel (s % 16) < 16
new-channel rule s p = channel-low rule.channel (s % 16) (rule-channel rule p) (omega arith)

-- ---- the first data byte of what passes

as_note-low : (z : ℤ) (n : ℕ) → as_note z ≡ Some n → n < 128
as_note-low (pos k) n e =
    go (nat_lt k 128) refl e
  where
    go : (t : Bool) → nat_lt k 128 ≡ t → (if t then Some k else None) ≡ Some n → n < 128
    go true f g = let h : k ≡ n = cc in let i : k < 128 = ltb-true k 128 f in omega arith
    go false f g = let h : ⊥ = cc in absurd h
as_note-low (negsuc k) n e = let f : ⊥ = cc in absurd f

pub moved-low : (rule : RuleArgs) (v : Bool) (a n : ℕ) → a < 128 → first_byte_after rule v a ≡ Some n → n < 128
moved-low rule false a n l e = let f : a ≡ n = cc in omega arith
moved-low rule true a n l e =
    go (in_range rule a) e
  where
    go : (w : Bool) → (if w then as_note (pos a +ℤ rule.shift) else None) ≡ Some n → n < 128
    go true f = as_note-low (pos a +ℤ rule.shift) n f
    go false f = let g : ⊥ = cc in absurd g

-- ---- what a rule makes of a message of a channel

and-false : (t u : Bool) (m : Option (List ℕ)) → u ≡ false → None ≡ (if t && u then m else None)
and-false true u m e = ap (λ (v : Bool). if v then m else None) (sym e)
and-false false u m e = refl

dropped : (rule : RuleArgs) (s a : ℕ) (more : List ℕ) → is_channel (begins s) ≡ true → has_channel rule.channels (s % 16) ≡ false → None ≡ rule_output rule (s ∷ a ∷ more)
dropped rule s a more p e = and-false (has_kind rule.kinds.0 (kind_of_status s)) (has_channel rule.channels (s % 16)) _ e ∙ sym (voice-passed rule s a more p)

and-true : (t u : Bool) (m : Option (List ℕ)) → t ≡ true → u ≡ true → (if t && u then m else None) ≡ m
and-true t u m e f = ap (λ (v : Bool). if v && u then m else None) e ∙ ap (λ (v : Bool). if v then m else None) f

pub taken : (rule : RuleArgs) (s a : ℕ) (more : List ℕ) (o : Option ℕ) → is_channel (begins s) ≡ true → has_kind rule.kinds.0 (kind_of_status s) ≡ true → has_channel rule.channels (s % 16) ≡ true → first_byte_after rule (has_note (kind_of_status s)) a ≡ o → rule_output rule (s ∷ a ∷ more) ≡ option_map (λ n. on_rule_channel rule.channel (s ∷ n ∷ more)) o
taken rule s a more o p e f g =
    voice-passed rule s a more p
    ∙ and-true (has_kind rule.kinds.0 (kind_of_status s)) (has_channel rule.channels (s % 16)) _ e f
    ∙ ap (λ (q : Option ℕ). option_map (λ n. on_rule_channel rule.channel (s ∷ n ∷ more)) q) g

-- ---- a message by its parts

bytes-one : (s a b : ℕ) → 192 ≤ s → s < 224 → voice_bytes s a b ≡ s ∷ a ∷ []
bytes-one s a b h l = grind (arith, nat_tests)

bytes-low : (s a b : ℕ) → s < 192 → voice_bytes s a b ≡ s ∷ a ∷ b ∷ []
bytes-low s a b l = grind (arith, nat_tests)

bytes-high : (s a b : ℕ) → 224 ≤ s → voice_bytes s a b ≡ s ∷ a ∷ b ∷ []
bytes-high s a b h = grind (arith, nat_tests)

maps-same : (f g : ℕ → List ℕ) (o : Option ℕ) → ((n : ℕ) → f n ≡ g n) → option_map f o ≡ option_map g o
maps-same f g None same = refl
maps-same f g (Some n) same = ap (λ (m : List ℕ). Some m) (same n)

-- what a rule makes of a channel message
pub parts-passed : (rule : RuleArgs) (s a b t : ℕ) → IsTrue (is_rule rule) → 128 ≤ s → s < 240 → t ≡ s / 16 * 16 + unwrap_or rule.channel (s % 16) → rule_output rule (voice_bytes s a b) ≡ (if has_kind rule.kinds.0 (kind_of_status s) && has_channel rule.channels (s % 16) then option_map (λ n. voice_bytes t n b) (first_byte_after rule (has_note (kind_of_status s)) a) else None)
parts-passed rule s a b t p h l e =
    go (cases_lt s 192) (cases_lt s 224)
  where
    small : unwrap_or rule.channel (s % 16) < 16
    small = new-channel rule s p

    made : (more : List ℕ) → voice_bytes s a b ≡ s ∷ a ∷ more → ((n : ℕ) → voice_bytes t n b ≡ t ∷ n ∷ more) → rule_output rule (voice_bytes s a b) ≡ (if has_kind rule.kinds.0 (kind_of_status s) && has_channel rule.channels (s % 16) then option_map (λ n. voice_bytes t n b) (first_byte_after rule (has_note (kind_of_status s)) a) else None)
    made more f g =
        ap (rule_output rule) f ∙ voice-passed rule s a more (channel-below s h l)
        ∙ ap (λ (o : Option (List ℕ)). if has_kind rule.kinds.0 (kind_of_status s) && has_channel rule.channels (s % 16) then o else None)
        (maps-same (λ n. on_rule_channel rule.channel (s ∷ n ∷ more)) (λ n. voice_bytes t n b) (first_byte_after rule (has_note (kind_of_status s)) a)
        (λ n. redirected-to rule.channel s (n ∷ more) (channel-below s h l) ∙ ap (λ (k : ℕ). k ∷ n ∷ more) (sym e) ∙ sym (g n)))

    go : (s < 192) ⊎ (192 ≤ s) → (s < 224) ⊎ (224 ≤ s) → rule_output rule (voice_bytes s a b) ≡ (if has_kind rule.kinds.0 (kind_of_status s) && has_channel rule.channels (s % 16) then option_map (λ n. voice_bytes t n b) (first_byte_after rule (has_note (kind_of_status s)) a) else None)
    go (inl c) y = made (b ∷ []) (bytes-low s a b c) (λ n. bytes-low t n b (omega (arith, small)))
    go (inr c) (inl d) = made [] (bytes-one s a b c d) (λ n. bytes-one t n b (omega (arith, small)) (omega (arith, small)))
    go (inr c) (inr d) = made (b ∷ []) (bytes-high s a b d) (λ n. bytes-high t n b (omega (arith, small)))

-- the parts of a channel message
pub parts-of : (m : List ℕ) (s a b : ℕ) → IsMessage m → s < 240 → s ≡ status_of m → a ≡ unwrap_or (slice_get m 1) 0 → b ≡ unwrap_or (slice_get m 2) 0 → IsVoice s a b × (voice_bytes s a b ≡ m)
parts-of m s a b p l e f g =
    let v : IsVoice (status_of m) (unwrap_or (slice_get m 1) 0) (unwrap_or (slice_get m 2) 0) × (voice_bytes (status_of m) (unwrap_or (slice_get m 1) 0) (unwrap_or (slice_get m 2) 0) ≡ m) = go m (voice-of m p (subst (λ (n : ℕ). n < 240) e l)) in
    rw (e, f, g) v
  where
    go : (m : List ℕ) → Voice m → IsVoice (status_of m) (unwrap_or (slice_get m 1) 0) (unwrap_or (slice_get m 2) 0) × (voice_bytes (status_of m) (unwrap_or (slice_get m 1) 0) (unwrap_or (slice_get m 2) 0) ≡ m)
    go m (OneByte s a h l k) = (record { least = omega arith; most = omega arith; first_low = k; second_low = omega arith }, bytes-one s a 0 h l)
    go m (TwoBytes s a b h l w k g) = (record { least = h; most = l; first_low = k; second_low = g }, two (cases_lt s 192))
      where
        two : (s < 192) ⊎ (192 ≤ s) → voice_bytes s a b ≡ s ∷ a ∷ b ∷ []
        two (inl c) = bytes-low s a b c
        two (inr c) = bytes-high s a b (w c)

-- they make a message
pub one-message : (s a b : ℕ) (has : Bool) → IsVoice s a b → has ≡ has_one_data s → has ≡ true → IsTrue (is_message (s ∷ a ∷ []))
one-message s a b has v e f =
    let both = and_true (nat_le 192 s) (nat_lt s 224) (sym e ∙ f) in
    message-test (s ∷ a ∷ []) (message-by (Channel One) s (a ∷ []) (begins-C s (leb-true 192 s both.0) (ltb-true s 224 both.1)) (group-one a v.first_low))

pub two-message : (s a b : ℕ) (has : Bool) → IsVoice s a b → has ≡ has_one_data s → has ≡ false → IsTrue (is_message (s ∷ a ∷ b ∷ []))
two-message s a b has v e f =
    message-test (s ∷ a ∷ b ∷ []) (message-by (Channel Two) s (a ∷ b ∷ []) (go (cases_lt s 192) (cases_lt s 224)) (group-two a b v.first_low v.second_low))
  where
    none : has_one_data s ≡ false
    none = sym e ∙ f

    between : 192 ≤ s → s < 224 → has_one_data s ≡ true
    between h l = grind (arith, nat_tests)

    go : (s < 192) ⊎ (192 ≤ s) → (s < 224) ⊎ (224 ≤ s) → begins s ≡ Channel Two
    go (inl c) y = begins-8 s v.least c
    go (inr c) (inl d) = let bad : true ≡ false = sym (between c d) ∙ none in cc
    go (inr c) (inr d) = begins-E s d v.most
