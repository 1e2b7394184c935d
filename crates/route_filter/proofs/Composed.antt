-- A rule that makes of each message what one rule and then the next make of it.
use Rattle.std.proofs.Common.{◌≡◌, ℕ, ◌+◌, ◌*◌, ◌/◌, ◌%◌, ◌≤◌, ◌<◌, ◌⊎◌, inl, inr, Bool, true, false, List, Some, None, refl, sym, ap, ◌∙◌, arith}
use Rattle.std.specs.Prelude.{Option, IsTrue, if◌then◌else◌, ◌&&◌, option_map, option_and_then, unwrap_or, slice_get, bit_and, ℤ}
use Rattle.std.specs.Option.{option_or}
use Rattle.std.proofs.lemmas.Bool.{cases_lt}
use Rattle.midi_wire.specs.declared.kind.Kind.{Kind}
use Rattle.midi_wire.specs.Messages.{IsMessage}
use Rattle.midi_wire.specs.Writings.{status_of}
use Rattle.midi_wire.specs.Kinds.{kind_of, kind_of_status}
use Rattle.route_filter.specs.declared.kinds.Kinds.{Kinds}
use Rattle.route_filter.specs.declared.rule_args.RuleArgs.{RuleArgs}
use Rattle.route_filter.specs.Rules.{has_kind, has_channel, is_rule}
use Rattle.route_filter.specs.Passing.{has_note, rule_output}
use Rattle.route_filter.specs.VoiceBytes.{voice_bytes, IsVoice, first_byte_after}
use Rattle.route_filter.specs.Chains.{note_after, moved_twice}
use Rattle.route_filter.proofs.Statuses.{kind-stays, note-system}
use Rattle.route_filter.proofs.Passes.{system-passed}
use Rattle.route_filter.proofs.Voices.{parts-passed, parts-of, new-channel}
use Rattle.route_filter.proofs.Sets.{both-kinds, kinds-left}

-- how the parts of the whole come from those of the one rule and the next
pub record IsWhole (one next whole : RuleArgs) : Type 0 where
  pub without_note : (k : Kind) → has_note k ≡ false → has_kind whole.kinds.0 k ≡ (has_kind one.kinds.0 k && has_kind next.kinds.0 k)
  pub with_note : (k : Kind) (n : ℕ) → has_note k ≡ true → (if has_kind whole.kinds.0 k then first_byte_after whole true n else None) ≡ (if has_kind one.kinds.0 k && has_kind next.kinds.0 k then moved_twice one next n else None)
  pub channels : (n : ℕ) → n < 16 → has_channel whole.channels n ≡ (has_channel one.channels n && has_channel next.channels (unwrap_or one.channel n))
  pub channel : whole.channel ≡ option_or next.channel one.channel

-- ---- a message of a channel, by its kind, its channel and its first data byte

abbrev given : Bool → Bool → Option ℕ → (ℕ → List ℕ) → Option (List ℕ)
given k c o f = if k && c then option_map f o else None

none-left : (t : Bool) → ◌≡◌ {A = Option (List ℕ)} None (if t then None else None)
none-left true = refl
none-left false = refl

given-twice : (g : List ℕ → Option (List ℕ)) (f h : ℕ → List ℕ) (k c k' c' : Bool) (o : Option ℕ) (p : ℕ → Option ℕ) → ((n : ℕ) → g (f n) ≡ given k' c' (p n) h) → option_and_then g (given k c o f) ≡ given (k && k') (c && c') (option_and_then p o) h
given-twice g f h false c k' c' o p e = refl
given-twice g f h true false true c' o p e = refl
given-twice g f h true false false c' o p e = refl
given-twice g f h true true k' c' None p e = none-left (k' && c')
given-twice g f h true true k' c' (Some n) p e = e n

-- the kind and the first data byte together
given-by : (k c : Bool) (o : Option ℕ) (f : ℕ → List ℕ) → given k c o f ≡ (if c then option_map f (if k then o else None) else None)
given-by true c o f = refl
given-by false true o f = refl
given-by false false o f = refl

unwrap-twice : (o p : Option ℕ) (n : ℕ) → unwrap_or (option_or p o) n ≡ unwrap_or p (unwrap_or o n)
unwrap-twice o None n = refl
unwrap-twice o (Some k) n = refl

module _ (one next whole : RuleArgs) (known : IsTrue (is_rule one)) (known' : IsTrue (is_rule next)) (rule : IsTrue (is_rule whole)) (is : IsWhole one next whole) where
  same-given : (k : Kind) (c : Bool) (a : ℕ) (f : ℕ → List ℕ) (v : Bool) → has_note k ≡ v → given (has_kind whole.kinds.0 k) c (first_byte_after whole v a) f ≡ given (has_kind one.kinds.0 k && has_kind next.kinds.0 k) c (option_and_then (first_byte_after next v) (first_byte_after one v a)) f
  same-given k c a f true e =
      given-by (has_kind whole.kinds.0 k) c (first_byte_after whole true a) f
      ∙ ap (λ (o : Option ℕ). if c then option_map f o else None) (is.with_note k a e)
      ∙ sym (given-by (has_kind one.kinds.0 k && has_kind next.kinds.0 k) c (moved_twice one next a) f)
  same-given k c a f false e = ap (λ (t : Bool). given t c (Some a) f) (is.without_note k e)

  voice : (s a b : ℕ) → 128 ≤ s → s < 240 → rule_output whole (voice_bytes s a b) ≡ option_and_then (rule_output next) (rule_output one (voice_bytes s a b))
  voice s a b h l =
      let k : Kind = kind_of_status s in
      let v : Bool = has_note k in
      let channel : ℕ = unwrap_or one.channel (s % 16) in
      let small : channel < 16 = new-channel one s known in
      let t : ℕ = s / 16 * 16 + channel in
      let u : ℕ = s / 16 * 16 + unwrap_or whole.channel (s % 16) in
      let upper : t / 16 ≡ s / 16 = omega (arith, small) in
      let lower : t % 16 ≡ channel = omega (arith, small) in
      let at : u ≡ t / 16 * 16 + unwrap_or next.channel (t % 16) =
      ap (λ (n : ℕ). s / 16 * 16 + n) (ap (λ (o : Option ℕ). unwrap_or o (s % 16)) is.channel ∙ unwrap-twice one.channel next.channel (s % 16) ∙ ap (unwrap_or next.channel) (sym lower))
      ∙ ap (λ (n : ℕ). n * 16 + unwrap_or next.channel (t % 16)) (sym upper) in
      let then-next = λ (n : ℕ).
      parts-passed next t n b u known' (omega (arith, small)) (omega (arith, small)) at
      ∙ ap (λ (j : Kind). given (has_kind next.kinds.0 j) (has_channel next.channels (t % 16)) (first_byte_after next (has_note j) n) (λ i. voice_bytes u i b)) (kind-stays s t h l upper)
      ∙ ap (λ (i : ℕ). given (has_kind next.kinds.0 k) (has_channel next.channels i) (first_byte_after next v n) (λ i. voice_bytes u i b)) lower in
      parts-passed whole s a b u rule h l refl
      ∙ same-given k (has_channel whole.channels (s % 16)) a (λ i. voice_bytes u i b) v refl
      ∙ ap (λ (c : Bool). given (has_kind one.kinds.0 k && has_kind next.kinds.0 k) c (option_and_then (first_byte_after next v) (first_byte_after one v a)) (λ i. voice_bytes u i b)) (is.channels (s % 16) (omega arith))
      ∙ sym (ap (option_and_then (rule_output next)) (parts-passed one s a b t known h l refl)
      ∙ given-twice (rule_output next) (λ i. voice_bytes t i b) (λ i. voice_bytes u i b) (has_kind one.kinds.0 k) (has_channel one.channels (s % 16)) (has_kind next.kinds.0 k) (has_channel next.channels channel) (first_byte_after one v a) (first_byte_after next v) then-next)

  system : (m : List ℕ) → 240 ≤ status_of m → rule_output whole m ≡ option_and_then (rule_output next) (rule_output one m)
  system m h =
      system-passed whole m h
      ∙ ap (λ (t : Bool). if t then Some m else None) (is.without_note (kind_of m) (note-system (status_of m) h))
      ∙ go (has_kind one.kinds.0 (kind_of m))
      ∙ ap (option_and_then (rule_output next)) (sym (system-passed one m h))
    where
      go : (t : Bool) → (if t && has_kind next.kinds.0 (kind_of m) then Some m else None) ≡ option_and_then (rule_output next) (if t then Some m else None)
      go true = sym (system-passed next m h)
      go false = refl

  pub passed-twice : (m : List ℕ) → IsMessage m → rule_output whole m ≡ option_and_then (rule_output next) (rule_output one m)
  passed-twice m p =
      go (cases_lt (status_of m) 240)
    where
      go : (status_of m < 240) ⊎ (240 ≤ status_of m) → rule_output whole m ≡ option_and_then (rule_output next) (rule_output one m)
      go (inl l) =
          let first : ℕ = unwrap_or (slice_get m 1) 0 in
          let second : ℕ = unwrap_or (slice_get m 2) 0 in
          let parts : IsVoice (status_of m) first second × (voice_bytes (status_of m) first second ≡ m) = parts-of m (status_of m) first second p l refl refl refl in
          ap (rule_output whole) (sym parts.1)
          ∙ voice (status_of m) first second parts.0.least l
          ∙ ap (λ (n : List ℕ). option_and_then (rule_output next) (rule_output one n)) parts.1
      go (inr h) = system m h

-- ---- the whole, by whether a note passes both

same-if : (t u : Bool) (o p : Option ℕ) → t ≡ u → o ≡ p → (if t then o else None) ≡ (if u then p else None)
same-if t u o p e f = ap (λ (v : Bool). if v then o else None) e ∙ ap (λ (q : Option ℕ). if u then q else None) f

no-note-left : (t u : Bool) (o p : Option ℕ) → t ≡ false → p ≡ None → (if t then o else None) ≡ (if u then p else None)
no-note-left t u o p e f = ap (λ (v : Bool). if v then o else None) e ∙ none-found u ∙ ap (λ (q : Option ℕ). if u then q else None) (sym f)
  where
    none-found : (u : Bool) → ◌≡◌ {A = Option ℕ} None (if u then None else None)
    none-found true = refl
    none-found false = refl

module _ (one next : RuleArgs) (channels : ℕ) (channel : Option ℕ) (kinds : Kinds) (mask : (n : ℕ) → n < 16 → has_channel channels n ≡ (has_channel one.channels n && has_channel next.channels (unwrap_or one.channel n))) (given : channel ≡ option_or next.channel one.channel) (set : kinds.0 ≡ bit_and one.kinds.0 next.kinds.0) where
  in-both : (k : Kind) → has_kind kinds.0 k ≡ (has_kind one.kinds.0 k && has_kind next.kinds.0 k)
  in-both k = ap (λ (n : ℕ). has_kind n k) set ∙ both-kinds one.kinds.0 next.kinds.0 k

  pub whole-some : (low high : ℕ) (shift : ℤ) → ((n : ℕ) → note_after low high shift n ≡ moved_twice one next n) → IsWhole one next (record { channels = channels; kinds = kinds; low = low; high = high; shift = shift; channel = channel })
  whole-some low high shift e = record {
    without_note = λ k v. in-both k;
    with_note = λ k n v. same-if _ _ _ _ (in-both k) (e n);
    channels = mask;
    channel = given;
  }

  pub whole-none : (low high : ℕ) (shift : ℤ) (others : Kinds) → others.0 ≡ bit_and kinds.0 1016 → ((n : ℕ) → moved_twice one next n ≡ None) → IsWhole one next (record { channels = channels; kinds = others; low = low; high = high; shift = shift; channel = channel })
  whole-none low high shift others left e = record {
    without_note = λ k v. ap (λ (n : ℕ). has_kind n k) left ∙ (kinds-left kinds.0 k).1 v ∙ in-both k;
    with_note = λ k n v. no-note-left _ _ _ _ (ap (λ (n : ℕ). has_kind n k) left ∙ (kinds-left kinds.0 k).0 v) (e n);
    channels = mask;
    channel = given;
  }
