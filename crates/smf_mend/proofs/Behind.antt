-- What stands behind a delta time, as the code cuts it.
use Rattle.std.proofs.Common.{◌≡◌, ◌≤◌, ◌<◌, ℕ, ◌-◌, ◌%◌, true, false, List, [], ◌∷◌, ◌∙◌, length, length-drop, take, drop, get_or, Fits, w8, refl, arith, ap, sym}
use Rattle.std.specs.Prelude.{Option, Result, Ok, Err, IsTrue, nat_le, ◌&&◌, slice_index_or}
use Rattle.std.proofs.lemmas.Bool.{le-leb}
use Rattle.std.proofs.Math.Seq.{take-length}
use Rattle.midi_wire.proofs.MessageTests.{and_both}
use Rattle.smf_grammar.specs.declared.fault.QuantityFault.{QuantityFault}
use Rattle.smf_grammar.specs.Quantities.{quantity}
use Rattle.smf_grammar.specs.Pairs.{Voice, Pair, quantity_by, quantity_at}
use Rattle.smf_grammar.specs.Written.{are_bytes, can_stand}
use Rattle.smf_files.proofs.WritingTracks.{bytes-fit}
use Rattle.smf_grammar.specs.Seen.{is_event_sound}
use Rattle.smf_grammar.proofs.Shorter.{quantity-sized}
use Rattle.smf_mend.specs.Lenient.{event_behind, event_left, has_high_data, lenient_pair_at}
use Rattle.smf_mend.proofs.Softened.{softened-high, quantity-small, low-sound}

pub cut-all : (left : List ℕ) (size : ℕ) → take (length left - size) (drop size left) ≡ drop size left
cut-all left size = ap (λ (k : ℕ). take k (drop size left)) (sym (length-drop size left)) ∙ take-length (drop size left)

pub size-within : (left : List ℕ) (delta size : ℕ) → Ok (delta, size) ≡ quantity left → size ≤ length left
size-within left delta size e = (quantity-sized left (delta, size) (sym e)).1

pub quantity-is : (left : List ℕ) (delta size : ℕ) → Ok (delta, size) ≡ quantity left → quantity_at left ≡ Ok (delta, drop size left)
quantity-is left delta size e = ap (λ (r : Result (ℕ × ℕ) QuantityFault). quantity_by r left) (sym e)

pub event-cut : (left : List ℕ) (delta size : ℕ) → Ok (delta, size) ≡ quantity left → take (length left - size) (drop size left) ≡ event_left left
unfolding event_left
event-cut left delta size e = cut-all left size ∙ sym (ap event_behind (quantity-is left delta size e))

pub event-none : (left : List ℕ) (fault : QuantityFault) → Err fault ≡ quantity left → [] ≡ event_left left
unfolding event_left
event-none left fault e = sym (ap (λ (r : Result (ℕ × ℕ) QuantityFault). event_behind (quantity_by r left)) (sym e))

-- ---- a program change whose data byte has bit 7 set

pub none-high : (left : List ℕ) (fault : QuantityFault) → Err fault ≡ quantity left → has_high_data (event_left left) ≡ true → ⊥
none-high left fault e high = let low : has_high_data (event_left left) ≡ false = ap has_high_data (sym (event-none left fault e)) in let bad : ⊥ = cc in bad

short-high : (event : List ℕ) → length event < 2 → has_high_data event ≡ true → ⊥
short-high [] h high = let bad : ⊥ = cc in bad
short-high (status ∷ []) h high = let bad : ⊥ = cc in bad
short-high (status ∷ b ∷ more) h high = omega arith

pub cut-high : (left : List ℕ) (delta size : ℕ) → Ok (delta, size) ≡ quantity left → length (take (length left - size) (drop size left)) < 2 → has_high_data (event_left left) ≡ true → ⊥
cut-high left delta size e short high = short-high (take (length left - size) (drop size left)) short (ap has_high_data (event-cut left delta size e) ∙ high)

-- the pair that the code makes of what it found
abbrev pub low_pair : ℕ → List ℕ → Pair
low_pair delta event = record { delta = delta; event = Voice (slice_index_or event 0 0) (slice_index_or event 1 0 % 128 ∷ []) }

pub record IsLowProgram (left : List ℕ) (delta : ℕ) (event : List ℕ) : Type 0 where
  pub value : (running : Option ℕ) → lenient_pair_at running left ≡ Ok (low_pair delta event, take (length event - 2) (drop 2 event))
  pub sound : IsTrue (is_event_sound (Voice (slice_index_or event 0 0) (slice_index_or event 1 0 % 128 ∷ [])))
  pub can : IsTrue (can_stand (low_pair delta event))

low-program-of : (left : List ℕ) (delta : ℕ) (event : List ℕ) → quantity_at left ≡ Ok (delta, event) → has_high_data event ≡ true → 2 ≤ length event → IsLowProgram left delta event
low-program-of left delta [] e high long = let few : 2 ≤ 0 = long in absurd (omega arith)
low-program-of left delta (status ∷ []) e high long = let few : 2 ≤ 1 = long in absurd (omega arith)
low-program-of left delta (status ∷ b ∷ more) e high long =
    let size : length (status ∷ b ∷ more) - 2 ≡ length more = omega arith in
    let rest : take (length (status ∷ b ∷ more) - 2) more ≡ more = ap (λ (n : ℕ). take n more) size ∙ take-length more in
    let sound : IsTrue (is_event_sound (Voice status (b % 128 ∷ []))) = low-sound status b more high in
    let near : nat_le delta 268435455 ≡ true = le-leb delta 268435455 (quantity-small left (delta, status ∷ b ∷ more) e) in
    record {
      value = λ running. softened-high running left delta status b more e high ∙ ap (λ (xs : List ℕ). Ok (record { delta = delta; event = Voice status (b % 128 ∷ []) }, xs)) (sym rest);
      sound = sound;
      can = and_both (nat_le delta 268435455) (is_event_sound (Voice status (b % 128 ∷ [])) && true) near (and_both (is_event_sound (Voice status (b % 128 ∷ []))) true sound refl);
    }

pub low-program : (left : List ℕ) (delta size : ℕ) → Ok (delta, size) ≡ quantity left → has_high_data (event_left left) ≡ true → 2 ≤ length (take (length left - size) (drop size left)) → IsLowProgram left delta (take (length left - size) (drop size left))
low-program left delta size e high long =
    low-program-of left delta (take (length left - size) (drop size left)) (quantity-is left delta size e ∙ ap (λ (xs : List ℕ). Ok (delta, xs)) (sym (cut-all left size)))
    (ap has_high_data (event-cut left delta size e) ∙ high) long

-- ---- bytes

pub counted : (bytes : List ℕ) → ((i : ℕ) → Fits w8 (get_or bytes i 0)) → length bytes < 268435456 → IsTrue (are_bytes bytes)
counted bytes fit few = sym (bytes-fit bytes fit) ∙ le-leb (length bytes) 268435455 (omega arith)
