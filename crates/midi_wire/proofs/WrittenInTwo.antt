-- Messages written in two goes, and one message more.
use Rattle.std.proofs.Common.{◌≡◌, ℕ, true, false, ◌⊎◌, inl, inr, List, [], ◌∷◌, ◌++◌, Option, Some, None, refl, sym, ap, ◌∙◌, append_assoc}
use Rattle.std.specs.Prelude.{if◌then◌else◌, ◌==◌, ◌&&◌}
use Rattle.std.proofs.lemmas.Bool.{eqb-true, cases_Bool}
use Rattle.midi_wire.specs.Messages.{begins}
use Rattle.midi_wire.specs.Writings.{status_of, tail_of, is_channel, is_real, repeats, written_next, written_on, wire_bytes, message_with, written_after, status_after, status_after_all, status_in_force}
use Rattle.midi_wire.specs.Laws.{WritesInTwo, WritesOneMore}
use Rattle.midi_wire.proofs.WrittenNext.{channel-not-real}

-- after these messages this status is in force, or none
pub record InForce (before : List (List ℕ)) (q : Option ℕ) : Type 0 where
  pub same : (s : ℕ) → is_channel (begins s) ≡ true → repeats before s ≡ repeats (message_with q) s

not-same : (s t : ℕ) → is_channel (begins s) ≡ true → is_channel (begins t) ≡ false → (t == s) ≡ false
not-same s t c d =
    go (cases_Bool (t == s))
  where
    go : ((t == s) ≡ true) ⊎ ((t == s) ≡ false) → (t == s) ≡ false
    go (inl e) = let f : is_channel (begins t) ≡ is_channel (begins s) = ap (λ n. is_channel (begins n)) (eqb-true t s e) in cc
    go (inr e) = e

-- a message more: its status is in force where it is a channel message, and none after others but real time
in_force-more : (before : List (List ℕ)) (q : Option ℕ) (m : List ℕ) → InForce before q → InForce (m ∷ before) (status_after q m)
in_force-more before q m f = record {
  same = λ s c. go s c (cases_Bool (is_channel (begins (status_of m)))) (cases_Bool (is_real (begins (status_of m))));
}
  where
    go : (s : ℕ) → is_channel (begins s) ≡ true → (is_channel (begins (status_of m)) ≡ true) ⊎ (is_channel (begins (status_of m)) ≡ false) → (is_real (begins (status_of m)) ≡ true) ⊎ (is_real (begins (status_of m)) ≡ false) → repeats (m ∷ before) s ≡ repeats (message_with (status_after q m)) s
    go s c (inl e) y =
        let r : is_real (begins (status_of m)) ≡ false = channel-not-real (begins (status_of m)) e in
        ap (λ t. if t then repeats before s else (status_of m == s)) r
        ∙ ap (λ t. if t then false else (status_of m == s)) (sym r)
        ∙ ap (λ t. repeats (message_with (if t then Some (status_of m) else (if is_real (begins (status_of m)) then q else None))) s) (sym e)
    go s c (inr e) (inl r) =
        ap (λ t. if t then repeats before s else (status_of m == s)) r
        ∙ f.same s c
        ∙ ap (λ t. repeats (message_with (if t then q else None)) s) (sym r)
        ∙ ap (λ t. repeats (message_with (if t then Some (status_of m) else (if is_real (begins (status_of m)) then q else None))) s) (sym e)
    go s c (inr e) (inr r) =
        ap (λ t. if t then repeats before s else (status_of m == s)) r
        ∙ not-same s (status_of m) c e
        ∙ ap (λ t. repeats (message_with (if t then q else None)) s) (sym r)
        ∙ ap (λ t. repeats (message_with (if t then Some (status_of m) else (if is_real (begins (status_of m)) then q else None))) s) (sym e)

next-same : (before : List (List ℕ)) (q : Option ℕ) (m : List ℕ) → InForce before q → written_next before m ≡ written_next (message_with q) m
next-same before q m f =
    go (cases_Bool (is_channel (begins (status_of m))))
  where
    go : (is_channel (begins (status_of m)) ≡ true) ⊎ (is_channel (begins (status_of m)) ≡ false) → written_next before m ≡ written_next (message_with q) m
    go (inl e) = ap (λ t. if is_channel (begins (status_of m)) && t then tail_of m else m) (f.same (status_of m) e)
    go (inr e) =
        ap (λ t. if t && repeats before (status_of m) then tail_of m else m) e
        ∙ ap (λ t. if t && repeats (message_with q) (status_of m) then tail_of m else m) (sym e)

-- what messages are written as depends on the status in force alone
pub written-in-force : (before : List (List ℕ)) (q : Option ℕ) (ms : List (List ℕ)) → InForce before q → written_on before ms ≡ written_after q ms
written-in-force before q [] f = refl
written-in-force before q (m ∷ ms) f =
    let start : InForce (message_with q) q = record { same = λ s c. refl } in
    ap (λ (xs : List ℕ). xs ++ written_on (m ∷ before) ms) (next-same before q m f)
    ∙ ap (λ (xs : List ℕ). written_next (message_with q) m ++ xs) (written-in-force (m ∷ before) (status_after q m) ms (in_force-more before q m f) ∙ sym (written-in-force (m ∷ message_with q) (status_after q m) ms (in_force-more (message_with q) q m start)))

-- one message, and then the others
pub written_after-cons : (q : Option ℕ) (m : List ℕ) (ms : List (List ℕ)) → written_after q (m ∷ ms) ≡ written_next (message_with q) m ++ written_after (status_after q m) ms
written_after-cons q m ms = ap (λ (xs : List ℕ). written_next (message_with q) m ++ xs) (written-in-force (m ∷ message_with q) (status_after q m) ms (in_force-more (message_with q) q m (record { same = λ s c. refl })))

pub writes-in-two : WritesInTwo
writes-in-two q [] ns = refl
writes-in-two q (m ∷ ms) ns =
    written_after-cons q m (ms ++ ns)
    ∙ ap (λ (xs : List ℕ). written_next (message_with q) m ++ xs) (writes-in-two (status_after q m) ms ns)
    ∙ sym (append_assoc (written_next (message_with q) m) (written_after (status_after q m) ms) (written_after (status_after_all q (m ∷ ms)) ns))
    ∙ ap (λ (xs : List ℕ). xs ++ written_after (status_after_all q (m ∷ ms)) ns) (sym (written_after-cons q m ms))

-- a loop's step: the messages so far, and one more
pub writes-one-more : WritesOneMore
writes-one-more ms m = writes-in-two None ms (m ∷ [])

pub status_after_all-snoc : (q : Option ℕ) (ms : List (List ℕ)) (m : List ℕ) → status_after_all q (ms ++ m ∷ []) ≡ status_after (status_after_all q ms) m
status_after_all-snoc q [] m = refl
status_after_all-snoc q (n ∷ ms) m = status_after_all-snoc (status_after q n) ms m

pub status_in_force-snoc : (ms : List (List ℕ)) (m : List ℕ) → status_in_force (ms ++ m ∷ []) ≡ status_after (status_in_force ms) m
status_in_force-snoc ms m = status_after_all-snoc None ms m

-- a loop that writes messages one by one: what stands in `new` after one more
pub written-step : (base out new : List ℕ) (ms : List (List ℕ)) (m : List ℕ) → out ≡ base ++ wire_bytes ms → new ≡ out ++ written_after (status_in_force ms) (m ∷ []) → new ≡ base ++ wire_bytes (ms ++ m ∷ [])
written-step base out new ms m e f =
    f
    ∙ ap (λ (xs : List ℕ). xs ++ written_after (status_in_force ms) (m ∷ [])) e
    ∙ append_assoc base (wire_bytes ms) (written_after (status_in_force ms) (m ∷ []))
    ∙ ap (λ (xs : List ℕ). base ++ xs) (sym (writes-one-more ms m))
