-- A quantity is read of its own bytes alone, so a softened content has the same delta time.
use Rattle.std.proofs.Common.{◌≡◌, ◌≤◌, ◌<◌, ℕ, zero, suc, ◌+◌, ◌*◌, ◌-◌, ◌%◌, Bool, true, false, List, [], ◌∷◌, ◌++◌, ◌∙◌, length, length-append, take, drop, refl, arith, ap, sym, subst}
use Rattle.std.specs.Prelude.{Option, Result, Ok, Err, if◌then◌else◌, IsTrue, nat_lt, nat_le, slice_index_or}
use Rattle.std.proofs.lemmas.Bool.{le-leb, leb-true}
use Rattle.std.proofs.Math.Seq.{take-append_seam, drop-append_seam}
use Rattle.midi_wire.specs.declared.status.Width.TheVariants.{One}
use Rattle.midi_wire.specs.Messages.{begins, is_status, is_group, is_tail, is_message}
use Rattle.midi_wire.specs.declared.status.StatusClass.{StatusClass}
use Rattle.midi_wire.specs.declared.status.StatusClass.TheVariants.{Channel}
use Rattle.midi_wire.proofs.Table.{begins-C}
use Rattle.midi_wire.proofs.Written.{and_true}
use Rattle.midi_wire.proofs.MessageTests.{and_both}
use Rattle.smf_grammar.specs.declared.fault.PairFault.{PairFault}
use Rattle.smf_grammar.specs.Septets.{septets_at}
use Rattle.smf_grammar.specs.Pairs.{Voice, Pair, quantity_at, pair_at}
use Rattle.smf_grammar.specs.Seen.{is_voice, is_event_sound}
use Rattle.smf_grammar.proofs.Septets.{quantity-septets}
use Rattle.smf_grammar.proofs.Shorter.{quantity-shorter, pair-shorter}
use Rattle.smf_grammar.proofs.Spelled.{voice-whole, pair-parts}
use Rattle.smf_mend.specs.Laws.{ForgivesSoftened}
use Rattle.smf_mend.specs.Lenient.{event_behind, event_left, is_program_change, has_high_data, with_low_data, softened, lenient_pair_at}

-- ---- quantities

-- what a quantity is read of, whatever stands behind it
record Apart (n high : ℕ) (left : List ℕ) (x : ℕ) (rest : List ℕ) : Type 0 where
  front : List ℕ
  whole : left ≡ front ++ rest
  again : (other : List ℕ) → septets_at n high (front ++ other) ≡ Ok (x, other)

septets-apart : (n high : ℕ) (left : List ℕ) (x : ℕ) (rest : List ℕ) → septets_at n high left ≡ Ok (x, rest) → Apart n high left x rest
unfolding septets_at
septets-apart zero high left x rest e = let bad : ⊥ = cc in absurd bad
septets-apart (suc n) high [] x rest e = let bad : ⊥ = cc in absurd bad
septets-apart (suc n) high (b ∷ left) x rest e =
    go (septets-apart n (high * 128 + b % 128) left x rest) (nat_lt b 128) refl e
  where
    go : (septets_at n (high * 128 + b % 128) left ≡ Ok (x, rest) → Apart n (high * 128 + b % 128) left x rest) → (t : Bool) → nat_lt b 128 ≡ t →
        (if t then Ok (high * 128 + b % 128, left) else septets_at n (high * 128 + b % 128) left) ≡ Ok (x, rest) → Apart (suc n) high (b ∷ left) x rest
    go again true is e =
        let same : ◌≡◌ {A = ℕ × List ℕ} (high * 128 + b % 128, left) (x, rest) = cc in
        let value : high * 128 + b % 128 ≡ x = ap (λ (p : ℕ × List ℕ). p.0) same in
        let left_over : left ≡ rest = ap (λ (p : ℕ × List ℕ). p.1) same in
        record {
          front = b ∷ [];
          whole = ap (λ (l : List ℕ). b ∷ l) left_over;
          again = λ other. ap (λ (t : Bool). if t then Ok (high * 128 + b % 128, other) else septets_at n (high * 128 + b % 128) other) is ∙ ap (λ (k : ℕ). Ok (k, other)) value;
        }
    go again false is e =
        let a : Apart n (high * 128 + b % 128) left x rest = again e in
        record {
          front = b ∷ a.front;
          whole = ap (λ (l : List ℕ). b ∷ l) a.whole;
          again = λ other. ap (λ (t : Bool). if t then Ok (high * 128 + b % 128, a.front ++ other) else septets_at n (high * 128 + b % 128) (a.front ++ other)) is ∙ a.again other;
        }

pub record Parted (left : List ℕ) (delta : ℕ) (event : List ℕ) : Type 0 where
  pub front : List ℕ
  pub whole : left ≡ front ++ event
  pub again : (other : List ℕ) → quantity_at (front ++ other) ≡ Ok (delta, other)

pub quantity-parted : (left : List ℕ) (delta : ℕ) (event : List ℕ) → quantity_at left ≡ Ok (delta, event) → Parted left delta event
quantity-parted left delta event e =
    let a : Apart 4 0 left delta event = septets-apart 4 0 left delta event (sym (quantity-septets left) ∙ e) in
    record { front = a.front; whole = a.whole; again = λ other. quantity-septets (a.front ++ other) ∙ a.again other }

-- a quantity is small
abbrev Small : Result (ℕ × List ℕ) PairFault → Type 0
Small r = (x : ℕ × List ℕ) → r ≡ Ok x → x.0 ≤ 268435455

small-step : (k high b : ℕ) (left : List ℕ) → high * 128 + b % 128 ≤ 268435455 → Small (septets_at k (high * 128 + b % 128) left) → Small (septets_at (suc k) high (b ∷ left))
unfolding septets_at
small-step k high b left low more = go (nat_lt b 128)
  where
    go : (t : Bool) → Small (if t then Ok (high * 128 + b % 128, left) else septets_at k (high * 128 + b % 128) left)
    go true = λ x is. let same : ◌≡◌ {A = ℕ × List ℕ} (high * 128 + b % 128, left) x = cc in subst (λ (y : ℕ × List ℕ). y.0 ≤ 268435455) same low
    go false = more

small-nil : (k high : ℕ) → Small (septets_at (suc k) high [])
unfolding septets_at
small-nil k high = λ x is. let bad : ⊥ = cc in absurd bad

small-none : (high : ℕ) (left : List ℕ) → Small (septets_at 0 high left)
unfolding septets_at
small-none high left = λ x is. let bad : ⊥ = cc in absurd bad

small-1 : (high : ℕ) (left : List ℕ) → high < 2097152 → Small (septets_at 1 high left)
small-1 high [] h = small-nil 0 high
small-1 high (b ∷ left) h = small-step 0 high b left (omega arith) (small-none (high * 128 + b % 128) left)

small-2 : (high : ℕ) (left : List ℕ) → high < 16384 → Small (septets_at 2 high left)
small-2 high [] h = small-nil 1 high
small-2 high (b ∷ left) h = small-step 1 high b left (omega arith) (small-1 (high * 128 + b % 128) left (omega arith))

small-3 : (high : ℕ) (left : List ℕ) → high < 128 → Small (septets_at 3 high left)
small-3 high [] h = small-nil 2 high
small-3 high (b ∷ left) h = small-step 2 high b left (omega arith) (small-2 (high * 128 + b % 128) left (omega arith))

small-4 : (left : List ℕ) → Small (septets_at 4 0 left)
small-4 [] = small-nil 3 0
small-4 (b ∷ left) = small-step 3 0 b left (omega arith) (small-3 (0 * 128 + b % 128) left (omega arith))

pub quantity-small : (left : List ℕ) (x : ℕ × List ℕ) → quantity_at left ≡ Ok x → x.0 ≤ 268435455
quantity-small left x e = small-4 left x (sym (quantity-septets left) ∙ e)

-- ---- softened contents

pub softened-same : (left : List ℕ) → has_high_data (event_left left) ≡ false → softened left ≡ left
unfolding softened
softened-same left low = ap (λ (t : Bool). if t then (take (length left - length (event_left left)) left ++ with_low_data (event_left left)) else left) low

pub lenient-strict : (running : Option ℕ) (left : List ℕ) → has_high_data (event_left left) ≡ false → lenient_pair_at running left ≡ pair_at running left
lenient-strict running left low = ap (pair_at running) (softened-same left low)

-- a status is that of a program change
pub record IsProgram (status b : ℕ) : Type 0 where
  pub from : 192 ≤ status
  pub below : status < 224
  pub high : is_status b ≡ true

pub program-status : (status b : ℕ) (more : List ℕ) → has_high_data (status ∷ b ∷ more) ≡ true → IsProgram status b
program-status status b more h =
    let both = and_true (is_program_change status) (is_status b) h in
    let parts = and_true (nat_le 192 status) (nat_lt status 208) both.0 in
    let top : status < 208 = leb-true (suc status) 208 parts.1 in
    record { from = leb-true 192 status parts.0; below = omega arith; high = both.1 }

low-group : (b : ℕ) → IsTrue (is_group One (b % 128 ∷ []))
low-group b = let low : nat_lt (b % 128) 128 ≡ true = le-leb (suc (b % 128)) 128 (omega arith) in and_both (nat_lt (b % 128) 128) true low refl

-- with that bit cleared it is a whole message
pub low-sound : (status b : ℕ) (more : List ℕ) → has_high_data (status ∷ b ∷ more) ≡ true → IsTrue (is_event_sound (Voice status (b % 128 ∷ [])))
low-sound status b more h =
    let program : IsProgram status b = program-status status b more h in
    let from : 192 ≤ status = program.from in
    let below : status < 224 = program.below in
    let class : begins status ≡ Channel One = begins-C status program.from program.below in
    let voice : IsTrue (is_voice status) = and_both (nat_le 128 status) (nat_lt status 240) (le-leb 128 status (omega arith)) (le-leb (suc status) 240 (omega arith)) in
    and_both (is_voice status) (is_message (status ∷ b % 128 ∷ [])) voice (subst (λ (k : StatusClass). IsTrue (is_tail k (b % 128 ∷ []))) (sym class) (low-group b))

-- what is left of a content where the bit is cleared
record Softens (left : List ℕ) (delta status b : ℕ) (more : List ℕ) : Type 0 where
  front : List ℕ
  whole : left ≡ front ++ status ∷ b ∷ more
  soft : softened left ≡ front ++ status ∷ b % 128 ∷ more
  again : quantity_at (front ++ status ∷ b % 128 ∷ more) ≡ Ok (delta, status ∷ b % 128 ∷ more)

softens : (left : List ℕ) (delta status b : ℕ) (more : List ℕ) → quantity_at left ≡ Ok (delta, status ∷ b ∷ more) → has_high_data (status ∷ b ∷ more) ≡ true → Softens left delta status b more
unfolding softened event_left
softens left delta status b more e high =
    let a : Parted left delta (status ∷ b ∷ more) = quantity-parted left delta (status ∷ b ∷ more) e in
    let event : event_left left ≡ status ∷ b ∷ more = ap event_behind e in
    let long : length left ≡ length a.front + length (status ∷ b ∷ more) = ap length a.whole ∙ length-append a.front (status ∷ b ∷ more) in
    let size : length left - length (status ∷ b ∷ more) ≡ length a.front = omega (arith, long) in
    let front : take (length left - length (status ∷ b ∷ more)) left ≡ a.front =
    ap (λ (n : ℕ). take n left) size ∙ ap (take (length a.front)) a.whole ∙ take-append_seam a.front (status ∷ b ∷ more) in
    record {
      front = a.front;
      whole = a.whole;
      soft =
          ap (λ (l : List ℕ). if has_high_data l then (take (length left - length l) left ++ with_low_data l) else left) event
          ∙ ap (λ (t : Bool). if t then (take (length left - length (status ∷ b ∷ more)) left ++ status ∷ b % 128 ∷ more) else left) high
          ∙ ap (λ (xs : List ℕ). xs ++ status ∷ b % 128 ∷ more) front;
      again = a.again (status ∷ b % 128 ∷ more);
    }

pub softened-high : (running : Option ℕ) (left : List ℕ) (delta status b : ℕ) (more : List ℕ) → quantity_at left ≡ Ok (delta, status ∷ b ∷ more) → has_high_data (status ∷ b ∷ more) ≡ true →
    lenient_pair_at running left ≡ Ok (record { delta = delta; event = Voice status (b % 128 ∷ []) }, more)
softened-high running left delta status b more e high =
    let a : Softens left delta status b more = softens left delta status b more e high in
    let program : IsProgram status b = program-status status b more high in
    ap (pair_at running) a.soft
    ∙ pair-parts running (a.front ++ status ∷ b % 128 ∷ more) (status ∷ b % 128 ∷ more) more delta (Voice status (b % 128 ∷ [])) a.again
    (voice-whole running status One (b % 128 ∷ []) more (begins-C status program.from program.below) (low-group b))

-- so something changes
softened-apart : (left : List ℕ) (delta status b : ℕ) (more : List ℕ) → quantity_at left ≡ Ok (delta, status ∷ b ∷ more) → has_high_data (status ∷ b ∷ more) ≡ true → softened left ≡ left → ⊥
softened-apart left delta status b more e high same =
    let a : Softens left delta status b more = softens left delta status b more e high in
    let program : IsProgram status b = program-status status b more high in
    let top : 128 ≤ b = leb-true 128 b program.high in
    let both : a.front ++ status ∷ b % 128 ∷ more ≡ a.front ++ status ∷ b ∷ more = sym a.soft ∙ same ∙ a.whole in
    let events : status ∷ b % 128 ∷ more ≡ status ∷ b ∷ more = sym (drop-append_seam a.front (status ∷ b % 128 ∷ more)) ∙ ap (drop (length a.front)) both ∙ drop-append_seam a.front (status ∷ b ∷ more) in
    let bytes : b % 128 ≡ b = ap (λ (xs : List ℕ). slice_index_or xs 1 0) events in
    omega arith

pub forgives-softened : ForgivesSoftened
unfolding event_left
forgives-softened strict left = (λ low. softened-same left low, λ same. go same (has_high_data (event_left left)) refl)
  where
    program : softened left ≡ left → (delta : ℕ) (event : List ℕ) → quantity_at left ≡ Ok (delta, event) → has_high_data event ≡ true → ⊥
    program same delta [] q high = let bad : ⊥ = cc in bad
    program same delta (status ∷ []) q high = let bad : ⊥ = cc in bad
    program same delta (status ∷ b ∷ more) q high = softened-apart left delta status b more q high same

    high : softened left ≡ left → (r : Result (ℕ × List ℕ) PairFault) → quantity_at left ≡ r → has_high_data (event_behind r) ≡ true → ⊥
    high same (Err fault) q h = let bad : ⊥ = cc in bad
    high same (Ok found) q h = program same found.0 found.1 q h

    go : softened left ≡ left → (t : Bool) → has_high_data (event_left left) ≡ t → t ≡ false
    go same false low = refl
    go same true h = absurd (high same (quantity_at left) refl h)

-- a pair takes a byte at least
pub lenient-shorter : (running : Option ℕ) (left : List ℕ) (x : Pair × List ℕ) → lenient_pair_at running left ≡ Ok x → length x.1 < length left
unfolding event_left
lenient-shorter running left x e = go (has_high_data (event_left left)) refl
  where
    program : (delta : ℕ) (event : List ℕ) → quantity_at left ≡ Ok (delta, event) → has_high_data event ≡ true → length x.1 < length left
    program delta [] q high = let bad : ⊥ = cc in absurd bad
    program delta (status ∷ []) q high = let bad : ⊥ = cc in absurd bad
    program delta (status ∷ b ∷ more) q high =
        let less : length (status ∷ b ∷ more) < length left = quantity-shorter left (delta, status ∷ b ∷ more) q in
        let same : ◌≡◌ {A = Result (Pair × List ℕ) PairFault} (Ok (record { delta = delta; event = Voice status (b % 128 ∷ []) }, more)) (Ok x) = sym (softened-high running left delta status b more q high) ∙ e in
        let rest : ◌≡◌ {A = Pair × List ℕ} (record { delta = delta; event = Voice status (b % 128 ∷ []) }, more) x = cc in
        let size : length more ≡ length x.1 = ap (λ (y : Pair × List ℕ). length y.1) rest in
        omega (arith, size)

    high : (r : Result (ℕ × List ℕ) PairFault) → quantity_at left ≡ r → has_high_data (event_behind r) ≡ true → length x.1 < length left
    high (Err fault) q h = let bad : ⊥ = cc in absurd bad
    high (Ok found) q h = program found.0 found.1 q h

    go : (t : Bool) → has_high_data (event_left left) ≡ t → length x.1 < length left
    go false low = pair-shorter running left x (sym (lenient-strict running left low) ∙ e)
    go true h = high (quantity_at left) refl h
