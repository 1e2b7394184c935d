-- What one message is written as.
use Rattle.std.proofs.Common.{◌≡◌, ℕ, ◌≤◌, ◌<◌, true, false, List, [], ◌∷◌, ◌++◌, Option, Some, None, refl, sym, ap, subst, ◌∙◌, arith, append-nil, eq-eqb}
use Rattle.std.specs.Prelude.{if◌then◌else◌, ◌==◌, ◌&&◌}
use Rattle.std.proofs.lemmas.Bool.Decides.{nat_tests}
use Rattle.midi_wire.specs.Messages.{StatusClass, Channel, Common, TuneRequest, Exclusive, RealTime, Nothing, begins, IsTail, IsMessage}
use Rattle.midi_wire.specs.Writings.{status_of, tail_of, is_channel, is_real, repeats, written_next, message_with, status_after}
use Rattle.std.specs.Option.{option_eq}
use Rattle.std.specs.Prelude.{nat_eq}
use Rattle.std.proofs.lemmas.Bool.{eqb-true}
use Rattle.midi_wire.proofs.Table.{channel-below, channel-from}
use Rattle.midi_wire.proofs.Written.{begins-low-not, high-from, is_high}

no-tail : (k : StatusClass) (d : List ℕ) → IsTail k d → k ≡ Nothing → ⊥
no-tail k d p e = subst (λ j. IsTail j d) e p

begins-some : (m : List ℕ) → IsMessage m → begins (status_of m) ≡ Nothing → ⊥
begins-some [] p e = p
begins-some (s ∷ d) p e = no-tail (begins s) d p e

-- a message begins with a status
pub message-status : (m : List ℕ) → IsMessage m → 128 ≤ status_of m
message-status m p = begins-low-not (status_of m) (begins (status_of m)) refl (begins-some m p)

pub message-channel : (m : List ℕ) → IsMessage m → status_of m < 240 → is_channel (begins (status_of m)) ≡ true
message-channel m p l = channel-below (status_of m) (begins-low-not (status_of m) (begins (status_of m)) refl (begins-some m p)) l

pub channel-not-real : (k : StatusClass) → is_channel k ≡ true → is_real k ≡ false
channel-not-real (Channel w) e = refl
channel-not-real (Common w) e = refl
channel-not-real TuneRequest e = refl
channel-not-real Exclusive e = refl
channel-not-real RealTime e = cc
channel-not-real Nothing e = refl

high-real : (k : StatusClass) → is_high k ≡ true → (k ≡ Nothing → ⊥) → is_real k ≡ true
high-real (Channel w) e n = cc
high-real (Common w) e n = cc
high-real TuneRequest e n = cc
high-real Exclusive e n = cc
high-real RealTime e n = refl
high-real Nothing e n = absurd (n refl)

pub message-real : (m : List ℕ) → IsMessage m → 248 ≤ status_of m → is_real (begins (status_of m)) ≡ true
message-real m p l = high-real (begins (status_of m)) (high-from (status_of m) l) (begins-some m p)

pub same-written_next : (q : Option ℕ) (m : List ℕ) → is_channel (begins (status_of m)) ≡ true → q ≡ Some (status_of m) → written_next (message_with q) m ++ [] ≡ tail_of m
same-written_next q m c e =
    append-nil (written_next (message_with q) m)
    ∙ ap (λ x. written_next (message_with x) m) e
    ∙ ap (λ t. if t && repeats (message_with (Some (status_of m))) (status_of m) then tail_of m else m) c
    ∙ ap (λ t. if (if t then false else (status_of m == status_of m)) then tail_of m else m) (channel-not-real (begins (status_of m)) c)
    ∙ ap (λ t. if t then tail_of m else m) (eq-eqb (status_of m) (status_of m) refl)

pub other-written_next : (q : Option ℕ) (m : List ℕ) → is_channel (begins (status_of m)) ≡ false → m ≡ written_next (message_with q) m ++ []
other-written_next q m c = sym (append-nil (written_next (message_with q) m) ∙ ap (λ t. if t && repeats (message_with q) (status_of m) then tail_of m else m) c)

pub after-channel : (q : Option ℕ) (m : List ℕ) → is_channel (begins (status_of m)) ≡ true → Some (status_of m) ≡ status_after q m
after-channel q m c = ap (λ t. if t then Some (status_of m) else (if is_real (begins (status_of m)) then q else None)) (sym c)

pub after-real : (q : Option ℕ) (m : List ℕ) → is_channel (begins (status_of m)) ≡ false → is_real (begins (status_of m)) ≡ true → q ≡ status_after q m
after-real q m c r = ap (λ t. if t then q else None) (sym r) ∙ ap (λ t. if t then Some (status_of m) else (if is_real (begins (status_of m)) then q else None)) (sym c)

pub after-other : (q : Option ℕ) (m : List ℕ) → is_channel (begins (status_of m)) ≡ false → is_real (begins (status_of m)) ≡ false → None ≡ status_after q m
after-other q m c r = ap (λ t. if t then q else None) (sym r) ∙ ap (λ t. if t then Some (status_of m) else (if is_real (begins (status_of m)) then q else None)) (sym c)

real-high : (s : ℕ) → s < 248 → is_real (begins s) ≡ false
unfolding begins
real-high s l = grind (arith, nat_tests)

pub message-not-real : (m : List ℕ) → status_of m < 248 → is_real (begins (status_of m)) ≡ false
message-not-real m l = real-high (status_of m) l

pub message-not-channel : (m : List ℕ) → 240 ≤ status_of m → is_channel (begins (status_of m)) ≡ false
message-not-channel m l = channel-from (status_of m) l

pub option-same : (q : Option ℕ) (s : ℕ) → option_eq nat_eq q (Some s) ≡ true → q ≡ Some s
option-same None s e = cc
option-same (Some t) s e = ap (λ n. Some n) (eqb-true t s e)
