-- What is written of a quantity and of an event is read back.
use Rattle.std.proofs.Common.{◌≡◌, ◌≢◌, ◌≤◌, ◌<◌, ℕ, suc, ◌+◌, ◌*◌, ◌/◌, ◌%◌, Bool, true, false, List, [], ◌∷◌, ◌++◌, ◌∙◌, length, take, drop, refl, arith, ap, sym, subst, append_assoc, length-append, ◌⊎◌, inl, inr}
use Rattle.std.specs.Prelude.{Option, Result, Ok, Err, if◌then◌else◌, IsTrue, nat_lt, nat_le, ◌==◌}
use Rattle.std.proofs.lemmas.Bool.{eqb-true, le-leb}
use Rattle.std.proofs.lemmas.Bool.Decides.{leb_tells, eqb_tells, nat_tests}
use Rattle.std.proofs.Math.Seq.{take-append_seam}
use Rattle.midi_wire.specs.declared.status.Width.{Width}
use Rattle.midi_wire.specs.declared.status.Width.TheVariants.{One, Two}
use Rattle.midi_wire.specs.declared.status.StatusClass.{StatusClass}
use Rattle.midi_wire.specs.Messages.{begins, is_status, all_data, is_group, IsTail, IsExclusiveTail, IsMessage}
use Rattle.midi_wire.specs.declared.status.StatusClass.TheVariants as wire
use Rattle.midi_wire.specs.Writings.{is_channel, status_of}
use Rattle.midi_wire.proofs.Table.{begins-low, channel-from}
use Rattle.midi_wire.proofs.Written.{and_true}
use Rattle.smf_grammar.specs.Outcomes.{◌>>=◌, fault_unless}
use Rattle.smf_grammar.specs.declared.fault.PairFault.{PairFault}
use Rattle.smf_grammar.specs.declared.fault.PairFault.TheVariants.{Truncated, BadData}
use Rattle.smf_grammar.specs.Septets.{septets_at}
use Rattle.smf_grammar.specs.Pairs.{TrackEvent, Voice, Exclusive, Escape, quantity_at, data_byte_at, group_at, voice_at, sized_at, event_at, pair_at}
use Rattle.smf_grammar.specs.Texts.{shortest, message_text, stands_in_files}
use Rattle.smf_grammar.proofs.Septets.{quantity-septets}
use Rattle.smf_grammar.proofs.Shorter.{quantity-shorter}

-- ---- quantities

last-byte : (k high b : ℕ) (rest : List ℕ) → b < 128 → septets_at (suc k) high (b ∷ rest) ≡ Ok (high * 128 + b, rest)
unfolding septets_at
last-byte k high b rest h =
    let low : nat_lt b 128 ≡ true = le-leb (suc b) 128 h in
    let same : b % 128 ≡ b = omega arith in
    ap (λ (t : Bool). if t then Ok (high * 128 + b % 128, rest) else septets_at k (high * 128 + b % 128) rest) low ∙ ap (λ (n : ℕ). Ok (high * 128 + n, rest)) same

not-low : (x : ℕ) → nat_lt (128 + x) 128 ≡ false
not-low x = grind (arith, nat_tests)

more-byte : (k high x : ℕ) (rest : List ℕ) → x < 128 → septets_at (suc k) high ((128 + x) ∷ rest) ≡ septets_at k (high * 128 + x) rest
unfolding septets_at
more-byte k high x rest h =
    let same : (128 + x) % 128 ≡ x = omega arith in
    ap (λ (t : Bool). if t then Ok (high * 128 + (128 + x) % 128, rest) else septets_at k (high * 128 + (128 + x) % 128) rest) (not-low x) ∙ ap (λ (n : ℕ). septets_at k (high * 128 + n) rest) same

pub septets-shortest : (n : ℕ) (rest : List ℕ) → n ≤ 268435455 → septets_at 4 0 (shortest n ++ rest) ≡ Ok (n, rest)
unfolding shortest
septets-shortest n rest h =
    go (nat_lt n 128) (nat_lt n 16384) (nat_lt n 2097152) (leb_tells (suc n) 128) (leb_tells (suc n) 16384) (leb_tells (suc n) 2097152)
  where
    low : ℕ
    low = n % 128

    go : (s t u : Bool) → ((s ≡ true) × (suc n ≤ 128)) ⊎ ((s ≡ false) × (128 < suc n)) → ((t ≡ true) × (suc n ≤ 16384)) ⊎ ((t ≡ false) × (16384 < suc n)) → ((u ≡ true) × (suc n ≤ 2097152)) ⊎ ((u ≡ false) × (2097152 < suc n)) →
        septets_at 4 0 ((if s then (n ∷ []) else (if t then ((128 + n / 128) ∷ n % 128 ∷ []) else (if u then ((128 + n / 128 / 128) ∷ (128 + n / 128 % 128) ∷ n % 128 ∷ []) else ((128 + n / 128 / 128 / 128) ∷ (128 + n / 128 / 128 % 128) ∷ (128 + n / 128 % 128) ∷ n % 128 ∷ [])))) ++ rest) ≡ Ok (n, rest)
    go true t u (inl a) b c = let same : 0 * 128 + n ≡ n = omega arith in last-byte 3 0 n rest a.1 ∙ ap (λ (k : ℕ). Ok (k, rest)) same
    go true t u (inr a) b c = let e : true ≡ false = a.0 in let bad : ⊥ = cc in absurd bad
    go false t u (inl a) b c = let e : false ≡ true = a.0 in let bad : ⊥ = cc in absurd bad
    go false true u (inr a) (inl b) c =
        let small : suc n ≤ 16384 = b.1 in
        let top : n / 128 < 128 = omega arith in
        let sum : (0 * 128 + n / 128) * 128 + n % 128 ≡ n = omega arith in
        more-byte 3 0 (n / 128) (n % 128 ∷ rest) top ∙ last-byte 2 (0 * 128 + n / 128) (n % 128) rest (omega arith) ∙ ap (λ (k : ℕ). Ok (k, rest)) sum
    go false true u (inr a) (inr b) c = let e : true ≡ false = b.0 in let bad : ⊥ = cc in absurd bad
    go false false u (inr a) (inl b) c = let e : false ≡ true = b.0 in let bad : ⊥ = cc in absurd bad
    go false false true (inr a) (inr b) (inl c) =
        let small : suc n ≤ 2097152 = c.1 in
        let top : n / 128 / 128 < 128 = omega arith in
        let sum : ((0 * 128 + n / 128 / 128) * 128 + n / 128 % 128) * 128 + n % 128 ≡ n = omega arith in
        more-byte 3 0 (n / 128 / 128) ((128 + n / 128 % 128) ∷ n % 128 ∷ rest) top ∙ more-byte 2 (0 * 128 + n / 128 / 128) (n / 128 % 128) (n % 128 ∷ rest) (omega arith)
        ∙ last-byte 1 ((0 * 128 + n / 128 / 128) * 128 + n / 128 % 128) (n % 128) rest (omega arith) ∙ ap (λ (k : ℕ). Ok (k, rest)) sum
    go false false true (inr a) (inr b) (inr c) = let e : true ≡ false = c.0 in let bad : ⊥ = cc in absurd bad
    go false false false (inr a) (inr b) (inl c) = let e : false ≡ true = c.0 in let bad : ⊥ = cc in absurd bad
    go false false false (inr a) (inr b) (inr c) =
        let top : n / 128 / 128 / 128 < 128 = omega arith in
        let sum : (((0 * 128 + n / 128 / 128 / 128) * 128 + n / 128 / 128 % 128) * 128 + n / 128 % 128) * 128 + n % 128 ≡ n = omega arith in
        more-byte 3 0 (n / 128 / 128 / 128) ((128 + n / 128 / 128 % 128) ∷ (128 + n / 128 % 128) ∷ n % 128 ∷ rest) top
        ∙ more-byte 2 (0 * 128 + n / 128 / 128 / 128) (n / 128 / 128 % 128) ((128 + n / 128 % 128) ∷ n % 128 ∷ rest) (omega arith)
        ∙ more-byte 1 ((0 * 128 + n / 128 / 128 / 128) * 128 + n / 128 / 128 % 128) (n / 128 % 128) (n % 128 ∷ rest) (omega arith)
        ∙ last-byte 0 (((0 * 128 + n / 128 / 128 / 128) * 128 + n / 128 / 128 % 128) * 128 + n / 128 % 128) (n % 128) rest (omega arith) ∙ ap (λ (k : ℕ). Ok (k, rest)) sum

pub quantity-shortest : (n : ℕ) (rest : List ℕ) → n ≤ 268435455 → quantity_at (shortest n ++ rest) ≡ Ok (n, rest)
quantity-shortest n rest h = quantity-septets (shortest n ++ rest) ∙ septets-shortest n rest h

pub quantity-byte : (b : ℕ) (rest : List ℕ) → b < 128 → quantity_at (b ∷ rest) ≡ Ok (b, rest)
quantity-byte b rest h = let same : 0 * 128 + b ≡ b = omega arith in quantity-septets (b ∷ rest) ∙ last-byte 3 0 b rest h ∙ ap (λ (k : ℕ). Ok (k, rest)) same

-- ---- events

unfoldable pub event-spelled : List ℕ → TrackEvent
event-spelled [] = Escape []
event-spelled (s ∷ tail) = if s == 240 then Exclusive tail else Voice s tail

byte-text : (b : ℕ) (rest : List ℕ) → nat_lt b 128 ≡ true → data_byte_at (b ∷ rest) ≡ Ok (b, rest)
byte-text b rest h = let low : is_status b ≡ false = grind (arith, nat_tests) in ap (λ (t : Bool). if t then Err BadData else Ok (b, rest)) low

pub group-text : (w : Width) (tail more : List ℕ) → IsTrue (is_group w tail) → group_at w (tail ++ more) ≡ Ok (tail, more)
unfolding group_at
group-text One [] more h = let bad : false ≡ true = h in let none : ⊥ = cc in absurd none
group-text One (a ∷ []) more h =
    let low : nat_lt a 128 ≡ true = (and_true (nat_lt a 128) true (and_true (length (a ∷ []) == 1) (all_data (a ∷ [])) h).1).0 in
    ap (λ (r : Result (ℕ × List ℕ) PairFault). r >>= λ first. Ok (first.0 ∷ [], first.1)) (byte-text a more low)
group-text One (a ∷ b ∷ tail) more h = let e : length (a ∷ b ∷ tail) ≡ 1 = eqb-true (length (a ∷ b ∷ tail)) 1 (and_true (length (a ∷ b ∷ tail) == 1) (all_data (a ∷ b ∷ tail)) h).0 in absurd (omega arith)
group-text Two [] more h = let bad : false ≡ true = h in let none : ⊥ = cc in absurd none
group-text Two (a ∷ []) more h = let e : length (a ∷ []) ≡ 2 = eqb-true (length (a ∷ [])) 2 (and_true (length (a ∷ []) == 2) (all_data (a ∷ [])) h).0 in absurd (omega arith)
group-text Two (a ∷ b ∷ []) more h =
    let both : IsTrue (all_data (a ∷ b ∷ [])) = (and_true (length (a ∷ b ∷ []) == 2) (all_data (a ∷ b ∷ [])) h).1 in
    let first : nat_lt a 128 ≡ true = (and_true (nat_lt a 128) (all_data (b ∷ [])) both).0 in
    let second : nat_lt b 128 ≡ true = (and_true (nat_lt b 128) true (and_true (nat_lt a 128) (all_data (b ∷ [])) both).1).0 in
    ap (λ (r : Result (ℕ × List ℕ) PairFault). r >>= λ first. data_byte_at first.1 >>= λ second. Ok (first.0 ∷ second.0 ∷ [], second.1)) (byte-text a (b ∷ more) first)
    ∙ ap (λ (r : Result (ℕ × List ℕ) PairFault). r >>= λ second. Ok (a ∷ second.0 ∷ [], second.1)) (byte-text b more second)
group-text Two (a ∷ b ∷ d ∷ tail) more h = let e : length (a ∷ b ∷ d ∷ tail) ≡ 2 = eqb-true (length (a ∷ b ∷ d ∷ tail)) 2 (and_true (length (a ∷ b ∷ d ∷ tail) == 2) (all_data (a ∷ b ∷ d ∷ tail)) h).0 in absurd (omega arith)

drop-front : (xs ys : List ℕ) → drop (length xs) (xs ++ ys) ≡ ys
drop-front [] ys = refl
drop-front (x ∷ xs) ys = drop-front xs ys

pub sized-text : (n : ℕ) (left bytes more : List ℕ) → quantity_at left ≡ Ok (n, bytes ++ more) → n ≡ length bytes → sized_at left ≡ Ok (bytes, more)
unfolding sized_at
sized-text n left bytes more e same =
    let fits : nat_le n (length (bytes ++ more)) ≡ true = le-leb n (length (bytes ++ more)) (omega (arith, length-append bytes more)) in
    ap (λ (r : Result (ℕ × List ℕ) PairFault). r >>= λ size. fault_unless (nat_le size.0 (length size.1)) Truncated (Ok (take size.0 size.1, drop size.0 size.1))) e
    ∙ ap (λ (t : Bool). fault_unless t Truncated (Ok (take n (bytes ++ more), drop n (bytes ++ more)))) fits
    ∙ ap (λ (k : ℕ). Ok (take k (bytes ++ more), drop k (bytes ++ more))) same
    ∙ ap (λ (xs : List ℕ). Ok (xs, drop (length bytes) (bytes ++ more))) (take-append_seam bytes more)
    ∙ ap (λ (xs : List ℕ). Ok (bytes, xs)) (drop-front bytes more)

not-exclusive : (s : ℕ) → s ≢ 240 → begins s ≡ wire.Exclusive → ⊥
unfolding begins
not-exclusive s ne e = grind (arith, nat_tests)

abbrev EventReads : Option ℕ → List ℕ → List ℕ → Type 0
EventReads running m more = event_at running (message_text m ++ more) ≡ Ok (event-spelled m, more)

channel-status : (s : ℕ) (w : Width) → begins s ≡ wire.Channel w → (nat_lt s 128 ≡ false) × (nat_lt s 240 ≡ true)
channel-status s w is =
    let high : nat_lt s 128 ≡ false = elim (leb_tells (suc s) 128) as (λ _. nat_lt s 128 ≡ false) [ inl a ↦ (let bad : wire.Nothing ≡ wire.Channel w = sym (begins-low s a.1) ∙ is in cc) | inr a ↦ a.0 ] in
    let low : nat_lt s 240 ≡ true = elim (leb_tells 240 s) as (λ _. nat_lt s 240 ≡ true) [ inl a ↦ (let bad : true ≡ false = sym (ap is_channel is) ∙ channel-from s a.1 in cc) | inr a ↦ le-leb (suc s) 240 a.1 ] in
    (high, low)

pub voice-whole : (running : Option ℕ) (s : ℕ) (w : Width) (tail more : List ℕ) → begins s ≡ wire.Channel w → IsTrue (is_group w tail) → event_at running (s ∷ (tail ++ more)) ≡ Ok (Voice s tail, more)
unfolding event_at voice_at
voice-whole running s w tail more is group =
    let range : (nat_lt s 128 ≡ false) × (nat_lt s 240 ≡ true) = channel-status s w is in
    rw (range.0, range.1, is)
    (ap (λ (r : Result (List ℕ × List ℕ) PairFault). r >>= λ group. Ok (Voice s group.0, group.1)) (group-text w tail more group))

voice-text : (running : Option ℕ) (s : ℕ) (w : Width) (tail more : List ℕ) → begins s ≡ wire.Channel w → IsTrue (is_group w tail) → EventReads running (s ∷ tail) more
unfolding event-spelled
voice-text running s w tail more is group =
    let low : nat_lt s 240 ≡ true = (channel-status s w is).1 in
    let other : (s == 240) ≡ false = grind (arith, nat_tests, low) in
    rw other (voice-whole running s w tail more is group)

exclusive-text : (running : Option ℕ) (tail more : List ℕ) → length tail ≤ 268435455 → EventReads running (240 ∷ tail) more
unfolding event_at event-spelled
exclusive-text running tail more small =
    ap (λ (r : Result (List ℕ × List ℕ) PairFault). r >>= λ bytes. Ok (Exclusive bytes.0, bytes.1))
    (sized-text (length tail) (shortest (length tail) ++ tail ++ more) tail more (ap quantity_at (append_assoc (shortest (length tail)) tail more) ∙ quantity-shortest (length tail) (tail ++ more) small) refl)

pub event-text : (running : Option ℕ) (m more : List ℕ) → IsMessage m → IsTrue (stands_in_files (begins (status_of m))) → EventReads running m more
event-text running [] more h k = absurd h
event-text running (s ∷ tail) more h k =
    go (begins s) refl h k
  where
    go : (b : StatusClass) → begins s ≡ b → IsTail b tail → IsTrue (stands_in_files b) → EventReads running (s ∷ tail) more
    go (wire.Channel w) is t k = voice-text running s w tail more is t
    go wire.Exclusive is t k =
        elim (eqb_tells s 240) as (λ _. EventReads running (s ∷ tail) more) [
          | inl e ↦ (let small : length tail ≤ 268435455 = exclusive-small tail t in subst (λ (x : ℕ). EventReads running (x ∷ tail) more) (sym e.1) (exclusive-text running tail more small))
          | inr e ↦ absurd (not-exclusive s e.1 is)
        ]
      where
        exclusive-small : (tail : List ℕ) → IsExclusiveTail tail → length tail ≤ 268435455
        exclusive-small tail t =
            let whole : length tail ≡ length (t.0 ++ 247 ∷ []) = ap (λ (xs : List ℕ). length xs) t.1 in
            let one : length (t.0 ++ 247 ∷ []) ≡ length t.0 + 1 = length-append t.0 (247 ∷ []) in
            let few : length t.0 ≤ 65536 = t.3 in
            omega arith
    go (wire.Common w) is t k = let bad : false ≡ true = k in let none : ⊥ = cc in absurd none
    go wire.TuneRequest is t k = let bad : false ≡ true = k in let none : ⊥ = cc in absurd none
    go wire.RealTime is t k = let bad : false ≡ true = k in let none : ⊥ = cc in absurd none
    go wire.Nothing is t k = let bad : false ≡ true = k in let none : ⊥ = cc in absurd none

-- ---- pairs

pub pair-parts : (running : Option ℕ) (left l l' : List ℕ) (n : ℕ) (e : TrackEvent) → quantity_at left ≡ Ok (n, l) → event_at running l ≡ Ok (e, l') → pair_at running left ≡ Ok (record { delta = n; event = e }, l')
unfolding pair_at
pair-parts running [] l l' n e q v = let less : length l < 0 = quantity-shorter [] (n, l) q in absurd (omega arith)
pair-parts running (b ∷ left) l l' n e q v =
    ap (λ (r : Result (ℕ × List ℕ) PairFault). r >>= λ delta. event_at running delta.1 >>= λ event. Ok (record { delta = delta.0; event = event.0 }, event.1)) q
    ∙ ap (λ (r : Result (TrackEvent × List ℕ) PairFault). r >>= λ event. Ok (record { delta = n; event = event.0 }, event.1)) v
