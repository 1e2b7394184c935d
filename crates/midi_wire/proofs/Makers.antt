-- The public calls of a message, over plain variables.
use Rattle.std.proofs.Common.{◌≡◌, ℕ, ◌+◌, ◌-◌, ◌%◌, ◌≤◌, ◌<◌, Bool, true, false, ◌⊎◌, inl, inr, List, [], ◌∷◌, ◌++◌, length, take, drop, get_or, Some, None, refl, sym, ap, subst, ◌∙◌, arith}
use Rattle.std.specs.Prelude.{if◌then◌else◌, ◌==◌, ◌||◌, IsTrue}
use Rattle.std.proofs.lemmas.Bool.{eqb-true}
use Rattle.midi_wire.specs.declared.kind.Kind.TheVariants as kinds
use Rattle.midi_wire.specs.Messages.{Width, One, Two, StatusClass, Channel, Common, TuneRequest, Exclusive, RealTime, Nothing, begins, all_data, is_group, IsTail, IsMessage, IsExclusiveTail, is_message}
use Rattle.midi_wire.specs.Writings.{status_of, is_channel}
use Rattle.midi_wire.specs.Kinds.{kind_of, kind_of_status, channel_number, is_base}
use Rattle.midi_wire.proofs.Steps.{length-snoc}
use Rattle.midi_wire.proofs.Table.{begins-8, begins-C, begins-E, begins-F0}
use Rattle.midi_wire.proofs.AllRead.{message-by, group-one, group-two}
use Rattle.midi_wire.proofs.Written.{and_true, exclusive-is}
use Rattle.midi_wire.proofs.MessageTests.{message-test, message-tested}

-- ---- the channel

pub channel-there : (m : List ℕ) (s : ℕ) → s ≡ status_of m → is_channel (begins s) ≡ true → Some (s % 16) ≡ channel_number m
channel-there m s e c = ap (λ t. if t then Some (s % 16) else None) (sym c) ∙ ap (λ n. if is_channel (begins n) then Some (n % 16) else None) e

pub channel-absent : (m : List ℕ) (s : ℕ) → s ≡ status_of m → is_channel (begins s) ≡ false → None ≡ channel_number m
channel-absent m s e c = ap (λ t. if t then Some (s % 16) else None) (sym c) ∙ ap (λ n. if is_channel (begins n) then Some (n % 16) else None) e

-- ---- messages of a channel

or_true : (a b : Bool) → (a || b) ≡ true → (a ≡ true) ⊎ (b ≡ true)
or_true true b e = inl refl
or_true false b e = inr e

begins-one : (base channel : ℕ) → IsTrue (is_base One base) → channel < 16 → begins (base + channel) ≡ Channel One
begins-one base channel p l =
    go (or_true (base == 192) (base == 208) p)
  where
    go : ((base == 192) ≡ true) ⊎ ((base == 208) ≡ true) → begins (base + channel) ≡ Channel One
    go (inl e) = let f : base ≡ 192 = eqb-true base 192 e in begins-C (base + channel) (omega arith) (omega arith)
    go (inr e) = let f : base ≡ 208 = eqb-true base 208 e in begins-C (base + channel) (omega arith) (omega arith)

begins-two : (base channel : ℕ) → IsTrue (is_base Two base) → channel < 16 → begins (base + channel) ≡ Channel Two
begins-two base channel p l =
    go (or_true (base == 128) _ p)
  where
    low : (n : ℕ) → (base == n) ≡ true → 128 ≤ n → n < 177 → begins (base + channel) ≡ Channel Two
    low n e h k = let f : base ≡ n = eqb-true base n e in begins-8 (base + channel) (omega arith) (omega arith)

    high : (base == 224) ≡ true → begins (base + channel) ≡ Channel Two
    high e = let f : base ≡ 224 = eqb-true base 224 e in begins-E (base + channel) (omega arith) (omega arith)

    last : ((base == 176) ≡ true) ⊎ ((base == 224) ≡ true) → begins (base + channel) ≡ Channel Two
    last (inl e) = low 176 e (omega arith) (omega arith)
    last (inr e) = high e

    third : ((base == 160) ≡ true) ⊎ (((base == 176) || (base == 224)) ≡ true) → begins (base + channel) ≡ Channel Two
    third (inl e) = low 160 e (omega arith) (omega arith)
    third (inr e) = last (or_true (base == 176) (base == 224) e)

    second : ((base == 144) ≡ true) ⊎ (((base == 160) || ((base == 176) || (base == 224))) ≡ true) → begins (base + channel) ≡ Channel Two
    second (inl e) = low 144 e (omega arith) (omega arith)
    second (inr e) = third (or_true (base == 160) ((base == 176) || (base == 224)) e)

    go : ((base == 128) ≡ true) ⊎ (((base == 144) || ((base == 160) || ((base == 176) || (base == 224)))) ≡ true) → begins (base + channel) ≡ Channel Two
    go (inl e) = low 128 e (omega arith) (omega arith)
    go (inr e) = second (or_true (base == 144) ((base == 160) || ((base == 176) || (base == 224))) e)

pub voice-one : (base channel first : ℕ) → IsTrue (is_base One base) → channel < 16 → first < 128 → IsTrue (is_message ((base + channel) ∷ first ∷ []))
voice-one base channel first p l h = message-test ((base + channel) ∷ first ∷ []) (message-by (Channel One) (base + channel) (first ∷ []) (begins-one base channel p l) (group-one first h))

pub voice-two : (base channel first second : ℕ) → IsTrue (is_base Two base) → channel < 16 → first < 128 → second < 128 → IsTrue (is_message ((base + channel) ∷ first ∷ second ∷ []))
voice-two base channel first second p l h k = message-test ((base + channel) ∷ first ∷ second ∷ []) (message-by (Channel Two) (base + channel) (first ∷ second ∷ []) (begins-two base channel p l) (group-two first second h k))

-- ---- the kind of an exclusive message

pub kind-F0 : kind_of_status 240 ≡ kinds.Exclusive
unfolding kind_of_status
kind-F0 = refl

pub kind-exclusive : (m : List ℕ) → get_or m 0 0 ≡ 240 → kind_of m ≡ kinds.Exclusive
kind-exclusive [] e = absurd (omega (arith, e))
kind-exclusive (s ∷ tail) e = ap (λ n. kind_of_status n) e ∙ kind-F0

-- ---- a message from its bytes

tail-exclusive : (s : ℕ) (tail : List ℕ) → IsMessage (s ∷ tail) → s ≡ 240 → IsExclusiveTail tail
tail-exclusive s tail p e = subst (λ k. IsTail k tail) (ap begins e ∙ begins-F0) p

length-last : (p : List ℕ) (b : ℕ) → length (p ++ b ∷ []) ≡ length p + 1
length-last p b = length-snoc p b

pub exclusive-long : (m : List ℕ) → IsTrue (is_message m) → get_or m 0 0 ≡ 240 → 2 ≤ length m
exclusive-long [] p e = absurd (message-tested [] p)
exclusive-long (s ∷ tail) p e =
    let t : IsExclusiveTail tail = tail-exclusive s tail (message-tested (s ∷ tail) p) e in
    let n : length tail ≡ length t.0 + 1 = ap (λ (xs : List ℕ). length xs) t.1 ∙ length-last t.0 247 in
    omega arith

take-front : (p q : List ℕ) → take (length p) (p ++ q) ≡ p
take-front [] q = refl
take-front (b ∷ p) q = ap (λ (xs : List ℕ). b ∷ xs) (take-front p q)

pub exclusive-whole : (m : List ℕ) → IsTrue (is_message m) → get_or m 0 0 ≡ 240 → 240 ∷ take (length m - 1 - 1) (drop 1 m) ++ 247 ∷ [] ≡ m
exclusive-whole [] p e = absurd (message-tested [] p)
exclusive-whole (s ∷ tail) p e =
    let t : IsExclusiveTail tail = tail-exclusive s tail (message-tested (s ∷ tail) p) e in
    let n : length (s ∷ tail) - 1 - 1 ≡ length t.0 = omega (arith, ap (λ (xs : List ℕ). length xs) t.1, length-last t.0 247) in
    ap (λ (k : ℕ). 240 ∷ take k tail ++ 247 ∷ []) n
    ∙ ap (λ (xs : List ℕ). 240 ∷ take (length t.0) xs ++ 247 ∷ []) t.1
    ∙ ap (λ (xs : List ℕ). 240 ∷ xs ++ 247 ∷ []) (take-front t.0 (247 ∷ []))
    ∙ ap (λ (xs : List ℕ). 240 ∷ xs) (sym t.1)
    ∙ ap (λ (b : ℕ). b ∷ tail) (sym e)

pub exclusive-same : (m : List ℕ) → IsTrue (is_message m) → get_or m 0 0 ≡ 240 → IsTrue (is_message (240 ∷ take (length m - 1 - 1) (drop 1 m) ++ 247 ∷ []))
exclusive-same m p e = subst (λ (xs : List ℕ). IsTrue (is_message xs)) (sym (exclusive-whole m p e)) p

group-short : (w : Width) (tail : List ℕ) → IsTrue (is_group w tail) → length tail ≤ 2
group-short One tail p = let n : length tail ≡ 1 = eqb-true (length tail) 1 (and_true (length tail == 1) (all_data tail) p).0 in omega arith
group-short Two tail p = let n : length tail ≡ 2 = eqb-true (length tail) 2 (and_true (length tail == 2) (all_data tail) p).0 in omega arith

nil-short : (tail : List ℕ) → tail ≡ [] → length tail ≤ 2
nil-short tail e = subst (λ (xs : List ℕ). length xs ≤ 2) (sym e) (omega arith)

tail-short : (k : StatusClass) (tail : List ℕ) → IsTail k tail → (k ≡ Exclusive → ⊥) → length tail ≤ 2
tail-short (Channel w) tail p n = group-short w tail p
tail-short (Common w) tail p n = group-short w tail p
tail-short TuneRequest tail p n = nil-short tail p
tail-short Exclusive tail p n = absurd (n refl)
tail-short RealTime tail p n = nil-short tail p
tail-short Nothing tail p n = absurd p

-- a message that is not exclusive has one byte to three
pub short-long : (m : List ℕ) → IsTrue (is_message m) → (get_or m 0 0 ≡ 240 → ⊥) → (1 ≤ length m) × (length m ≤ 3)
short-long [] p n = absurd (message-tested [] p)
short-long (s ∷ tail) p n =
    let l : length tail ≤ 2 = tail-short (begins s) tail (message-tested (s ∷ tail) p) (λ e. n (exclusive-is s e)) in
    (omega arith, omega arith)

pub three-whole : (m : List ℕ) → length m ≡ 3 → get_or m 0 0 ∷ get_or m 1 0 ∷ get_or m 2 0 ∷ [] ≡ m
three-whole [] e = absurd (omega (arith, e))
three-whole (a ∷ []) e = absurd (omega (arith, e))
three-whole (a ∷ b ∷ []) e = absurd (omega (arith, e))
three-whole (a ∷ b ∷ x ∷ []) e = refl
three-whole (a ∷ b ∷ x ∷ y ∷ m) e = absurd (omega (arith, e))

pub three-same : (m : List ℕ) → IsTrue (is_message m) → (get_or m 0 0 ≡ 240 → ⊥) → (length m ≡ 1 → ⊥) → (length m ≡ 2 → ⊥) → IsTrue (is_message (get_or m 0 0 ∷ get_or m 1 0 ∷ get_or m 2 0 ∷ []))
three-same m p n f g =
    let h : (1 ≤ length m) × (length m ≤ 3) = short-long m p n in
    let low : 1 ≤ length m = h.0 in
    let high : length m ≤ 3 = h.1 in
    subst (λ (xs : List ℕ). IsTrue (is_message xs)) (sym (three-whole m (omega arith))) p
