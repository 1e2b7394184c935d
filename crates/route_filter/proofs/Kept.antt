-- What holds of each message that passes.
use Rattle.std.proofs.Common.{◌≡◌, ℕ, ◌+◌, ◌*◌, ◌/◌, ◌%◌, ◌^◌, ◌≤◌, ◌<◌, ◌⊎◌, inl, inr, Bool, true, false, List, [], ◌∷◌, Some, None, refl, sym, ap, subst, ◌∙◌, arith}
use Rattle.std.specs.Prelude.{Option, if◌then◌else◌, ◌&&◌, ◌==◌, not, nat_lt, nat_le, IsTrue, option_map, unwrap_or, bit_and, pos, ◌+ℤ◌}
use Rattle.std.proofs.lemmas.Bool.{cases_lt, lt-ltb, le-leb, eqb-true}
use Rattle.std.proofs.lemmas.Nat.{and_mask, and_comm, pow_below, pow_pos}
use Rattle.midi_wire.specs.declared.kind.Kind.{Kind}
use Rattle.midi_wire.specs.declared.kind.Kind.TheVariants.{NoteOff, NoteOn, PolyPressure, ControlChange, ProgramChange, ChannelPressure, PitchBend, SystemCommon, RealTime, Exclusive}
use Rattle.midi_wire.specs.declared.status.Width.TheVariants.{One, Two}
use Rattle.midi_wire.specs.declared.status.StatusClass.TheVariants.{Channel}
use Rattle.midi_wire.specs.Messages.{begins, IsMessage}
use Rattle.midi_wire.specs.Writings.{status_of, is_channel}
use Rattle.midi_wire.specs.Kinds.{kind_of, kind_of_status, channel_number}
use Rattle.midi_wire.proofs.AllRead.{message-by, group-one, group-two}
use Rattle.midi_wire.proofs.Table.{begins-8, begins-C, begins-E, channel-below}
use Rattle.midi_wire.proofs.WrittenNext.{message-channel}
use Rattle.route_filter.specs.declared.rule_args.RuleArgs.{RuleArgs}
use Rattle.route_filter.specs.Rules.{has_kind, has_channel, is_rule}
use Rattle.route_filter.specs.Passing.{has_note, as_note, on_rule_channel, rule_output}
use Rattle.route_filter.specs.Laws.{PassesMessages, open_rule, OpenRulePassesAll, KeepsKind, GivesChannel, SystemMessagesStay}
use Rattle.route_filter.proofs.Statuses.{kind-stays, begins-stays}
use Rattle.route_filter.specs.VoiceBytes.{first_byte_after}
use Rattle.route_filter.proofs.Passes.{no-channel, voice-passed, system-passed}
use Rattle.route_filter.proofs.Voices.{Voice, OneByte, TwoBytes, voice-of, redirected-to, new-channel, moved-low, taken}

-- ---- the message that passes

-- a message on the rule's channel, with some first data byte
record Passed (rule : RuleArgs) (s : ℕ) (more n : List ℕ) : Type 0 where
  first : ℕ
  low : first < 128
  is : n ≡ (s / 16 * 16 + unwrap_or rule.channel (s % 16)) ∷ first ∷ more

what-passed : (rule : RuleArgs) (s a : ℕ) (more n : List ℕ) → is_channel (begins s) ≡ true → a < 128 → rule_output rule (s ∷ a ∷ more) ≡ Some n → Passed rule s more n
what-passed rule s a more n c l e =
    go (has_kind rule.kinds.0 (kind_of_status s) && has_channel rule.channels (s % 16)) (first_byte_after rule (has_note (kind_of_status s)) a) refl (sym (voice-passed rule s a more c) ∙ e)
  where
    go : (t : Bool) (o : Option ℕ) → first_byte_after rule (has_note (kind_of_status s)) a ≡ o → (if t then option_map (λ k. on_rule_channel rule.channel (s ∷ k ∷ more)) o else None) ≡ Some n → Passed rule s more n
    go true (Some first) f g =
        let h : on_rule_channel rule.channel (s ∷ first ∷ more) ≡ n = cc in
        record { first = first; low = moved-low rule (has_note (kind_of_status s)) a first l f; is = sym h ∙ redirected-to rule.channel s (first ∷ more) c }
    go true None f g = let h : ⊥ = cc in absurd h
    go false o f g = let h : ⊥ = cc in absurd h

same-upper : (s k : ℕ) → k < 16 → (s / 16 * 16 + k) / 16 ≡ s / 16
same-upper s k l = omega arith

-- ---- what passes is a message of the same kind

record Kept (m n : List ℕ) : Type 0 where
  message : IsMessage n
  kind : kind_of n ≡ kind_of m

begins-two : (s : ℕ) → 128 ≤ s → s < 240 → (192 ≤ s → 224 ≤ s) → begins s ≡ Channel Two
begins-two s h l w =
    go (cases_lt s 192)
  where
    go : (s < 192) ⊎ (192 ≤ s) → begins s ≡ Channel Two
    go (inl c) = begins-8 s h c
    go (inr c) = begins-E s (w c) l

voice-kept : (rule : RuleArgs) (m n : List ℕ) → IsTrue (is_rule rule) → Voice m → rule_output rule m ≡ Some n → Kept m n
voice-kept rule m n p (OneByte s a h l k) e =
    let x : Passed rule s [] n = what-passed rule s a [] n (channel-below s (omega arith) (omega arith)) k e in
    let t : ℕ = s / 16 * 16 + unwrap_or rule.channel (s % 16) in
    let u : t / 16 ≡ s / 16 = same-upper s (unwrap_or rule.channel (s % 16)) (new-channel rule s p) in
    let b : begins t ≡ Channel One = begins-stays s t (omega arith) (omega arith) u ∙ begins-C s h l in
    record {
      message = subst IsMessage (sym x.is) (message-by (Channel One) t (x.first ∷ []) b (group-one x.first x.low));
      kind = ap kind_of x.is ∙ kind-stays s t (omega arith) (omega arith) u;
    }
voice-kept rule m n p (TwoBytes s a d h l w k g) e =
    let x : Passed rule s (d ∷ []) n = what-passed rule s a (d ∷ []) n (channel-below s h l) k e in
    let t : ℕ = s / 16 * 16 + unwrap_or rule.channel (s % 16) in
    let u : t / 16 ≡ s / 16 = same-upper s (unwrap_or rule.channel (s % 16)) (new-channel rule s p) in
    let b : begins t ≡ Channel Two = begins-stays s t h l u ∙ begins-two s h l w in
    record {
      message = subst IsMessage (sym x.is) (message-by (Channel Two) t (x.first ∷ d ∷ []) b (group-two x.first d x.low g));
      kind = ap kind_of x.is ∙ kind-stays s t h l u;
    }

system-same : (rule : RuleArgs) (m n : List ℕ) → 240 ≤ status_of m → rule_output rule m ≡ Some n → m ≡ n
system-same rule m n h e =
    go (has_kind rule.kinds.0 (kind_of m)) (sym (system-passed rule m h) ∙ e)
  where
    go : (t : Bool) → (if t then Some m else None) ≡ Some n → m ≡ n
    go true f = cc
    go false f = let g : ⊥ = cc in absurd g

kept : (rule : RuleArgs) (m n : List ℕ) → IsTrue (is_rule rule) → IsMessage m → rule_output rule m ≡ Some n → Kept m n
kept rule m n p q e =
    go (cases_lt (status_of m) 240)
  where
    go : (status_of m < 240) ⊎ (240 ≤ status_of m) → Kept m n
    go (inl l) = voice-kept rule m n p (voice-of m q l) e
    go (inr h) = let f : m ≡ n = system-same rule m n h e in record { message = subst IsMessage f q; kind = ap kind_of (sym f) }

pub passes-messages : PassesMessages
passes-messages rule m n p q e = (kept rule m n p q e).message

pub keeps-kind : KeepsKind
keeps-kind rule m n p q e = (kept rule m n p q e).kind

-- ---- the channel of what passes

some-is : (a b : ℕ) → Some a ≡ Some b → a ≡ b
some-is a b e = cc

voice-channel : (rule : RuleArgs) (s a : ℕ) (more n : List ℕ) (channel : ℕ) → IsTrue (is_rule rule) → 128 ≤ s → s < 240 → a < 128 → channel_number (s ∷ a ∷ more) ≡ Some channel → rule_output rule (s ∷ a ∷ more) ≡ Some n → channel_number n ≡ Some (unwrap_or rule.channel channel)
voice-channel rule s a more n channel p h l k e f =
    let b : is_channel (begins s) ≡ true = channel-below s h l in
    let x : Passed rule s more n = what-passed rule s a more n b k f in
    let u : ℕ = unwrap_or rule.channel (s % 16) in
    let g : u < 16 = new-channel rule s p in
    let i : Some (s % 16) ≡ Some channel = ap (λ (t : Bool). if t then Some (s % 16) else None) (sym b) ∙ e in
    let w : (s / 16 * 16 + u) % 16 ≡ u = omega arith in
    ap channel_number x.is
    ∙ ap (λ (t : Bool). if t then Some ((s / 16 * 16 + u) % 16) else None) (channel-below (s / 16 * 16 + u) (omega arith) (omega arith))
    ∙ ap (λ (k : ℕ). Some k) w
    ∙ ap (λ (k : ℕ). Some (unwrap_or rule.channel k)) (some-is (s % 16) channel i)

pub gives-channel : GivesChannel
gives-channel rule m n channel p q e f =
    go (cases_lt (status_of m) 240)
  where
    voice : (m : List ℕ) → Voice m → channel_number m ≡ Some channel → rule_output rule m ≡ Some n → channel_number n ≡ Some (unwrap_or rule.channel channel)
    voice m (OneByte s a h l k) e f = voice-channel rule s a [] n channel p (omega arith) (omega arith) k e f
    voice m (TwoBytes s a b h l w k g) e f = voice-channel rule s a (b ∷ []) n channel p h l k e f

    go : (status_of m < 240) ⊎ (240 ≤ status_of m) → channel_number n ≡ Some (unwrap_or rule.channel channel)
    go (inl l) = voice m (voice-of m q l) e f
    go (inr h) = let g : None ≡ Some channel = sym (no-channel m h) ∙ e in let i : ⊥ = cc in absurd i

-- ---- messages of the system

pub system-stays : SystemMessagesStay
system-stays rule m n q e f =
    go (cases_lt (status_of m) 240)
  where
    go : (status_of m < 240) ⊎ (240 ≤ status_of m) → n ≡ m
    go (inl l) = let g : Some (status_of m % 16) ≡ None = ap (λ (t : Bool). if t then Some (status_of m % 16) else None) (sym (message-channel m q l)) ∙ e in let h : ⊥ = cc in absurd h
    go (inr h) = sym (system-same rule m n h f)

-- ---- the rule that passes all

open-kind : (k : Kind) → has_kind 1023 k ≡ true
open-kind NoteOff = refl
open-kind NoteOn = refl
open-kind PolyPressure = refl
open-kind ControlChange = refl
open-kind ProgramChange = refl
open-kind ChannelPressure = refl
open-kind PitchBend = refl
open-kind SystemCommon = refl
open-kind RealTime = refl
open-kind Exclusive = refl

low-bit : (n : ℕ) → n < 16 → bit_and 65535 (2 ^ n) ≡ 2 ^ n
low-bit n l =
    let f : 2 ^ n < 2 ^ 16 = pow_below n 16 l in
    and_comm 65535 (2 ^ n) ∙ and_mask (2 ^ n) 16 ∙ (let g : 2 ^ n % 2 ^ 16 ≡ 2 ^ n = omega arith in g)

open-channel : (n : ℕ) → n < 16 → has_channel 65535 n ≡ true
open-channel n l =
    go (bit_and 65535 (2 ^ n) == 0) refl
  where
    go : (t : Bool) → (bit_and 65535 (2 ^ n) == 0) ≡ t → not t ≡ true
    go true e = let f : bit_and 65535 (2 ^ n) ≡ 0 = eqb-true (bit_and 65535 (2 ^ n)) 0 e in absurd (omega (arith, low-bit n l, pow_pos n))
    go false e = refl

open-moved : (v : Bool) (a : ℕ) → a < 128 → first_byte_after open_rule v a ≡ Some a
open-moved false a l = refl
open-moved true a l =
    ap (λ (t : Bool). if t && nat_le a 127 then as_note (pos a +ℤ pos 0) else None) (le-leb 0 a (omega arith))
    ∙ ap (λ (t : Bool). if t then as_note (pos a +ℤ pos 0) else None) (le-leb a 127 (omega arith))
    ∙ ap (λ (n : ℕ). if nat_lt n 128 then Some n else None) (let e : a + 0 ≡ a = omega arith in e)
    ∙ ap (λ (t : Bool). if t then Some a else None) (lt-ltb a 128 l)

open-voice : (m : List ℕ) → Voice m → rule_output open_rule m ≡ Some m
open-voice m (OneByte s a h l k) = taken open_rule s a [] (Some a) (channel-below s (omega arith) (omega arith)) (open-kind (kind_of_status s)) (open-channel (s % 16) (omega arith)) (open-moved (has_note (kind_of_status s)) a k)
open-voice m (TwoBytes s a b h l w k g) = taken open_rule s a (b ∷ []) (Some a) (channel-below s h l) (open-kind (kind_of_status s)) (open-channel (s % 16) (omega arith)) (open-moved (has_note (kind_of_status s)) a k)

pub open-all : OpenRulePassesAll
open-all m q =
    go (cases_lt (status_of m) 240)
  where
    go : (status_of m < 240) ⊎ (240 ≤ status_of m) → rule_output open_rule m ≡ Some m
    go (inl l) = open-voice m (voice-of m q l)
    go (inr h) = system-passed open_rule m h ∙ ap (λ (t : Bool). if t then Some m else None) (open-kind (kind_of m))
