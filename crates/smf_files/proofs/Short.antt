-- A delta time of one byte before a message of a channel.
use Rattle.std.proofs.Common.{◌≡◌, ◌<◌, ℕ, ◌+◌, ◌*◌, ◌%◌, Bool, true, false, List, [], ◌∷◌, ◌∙◌, length, refl, arith, ap, sym, subst}
use Rattle.std.specs.Prelude.{Option, Some, None, Result, Ok, Err, if◌then◌else◌, nat_lt, IsTrue, is_some}
use Rattle.std.proofs.lemmas.Bool.Decides.{nat_tests}
use Rattle.midi_wire.specs.declared.status.StatusClass.{StatusClass}
use Rattle.midi_wire.specs.Messages.{begins}
use Rattle.midi_wire.specs.declared.status.StatusClass.TheVariants as wire
use Rattle.smf_grammar.specs.Outcomes.{◌>>=◌}
use Rattle.smf_grammar.specs.declared.fault.PairFault.{PairFault}
use Rattle.smf_grammar.specs.Pairs.{TrackEvent, Voice, Escape, Pair, is_end, quantity_at, group_at, voice_by, voice_at, running_at, event_at, pair_at}
use Rattle.smf_grammar.specs.Septets.{septets_at}
use Rattle.smf_grammar.specs.Contents.{message_of}
use Rattle.smf_grammar.specs.Seen.{is_event_sound, IsRunning}
use Rattle.smf_grammar.proofs.Binds.{Bound, bind-ok}
use Rattle.smf_grammar.proofs.Septets.{quantity-septets}
use Rattle.smf_grammar.proofs.Shorter.{pair-shorter}
use Rattle.smf_grammar.proofs.Sound.{event-sound}
use Rattle.smf_files.specs.Playing.{is_whole, IsShortDelta}
use Rattle.smf_files.proofs.Places.{whole-fault}

-- the event is a message of a channel
record IsVoiced (e : TrackEvent) : Type 0 where
  some : IsTrue (is_some (message_of e))
  ends : is_end e ≡ false

event_found : Result (TrackEvent × List ℕ) PairFault → TrackEvent
event_found (Ok y) = y.0
event_found (Err y) = Escape []

voice-voiced : (status : ℕ) (left : List ℕ) (y : TrackEvent × List ℕ) → voice_at status left ≡ Ok y → IsVoiced y.0
unfolding voice_at event_found
voice-voiced status left y e =
    go (begins status) e
  where
    go : (k : StatusClass) → voice_by k status left ≡ Ok y → IsVoiced y.0
    go (wire.Channel w) e =
        let b : Bound (group_at w left) (λ group. Ok (Voice status group.0, group.1)) y = bind-ok _ _ _ e in
        let same : Voice status b.value.0 ≡ y.0 = ap event_found b.next in
        subst IsVoiced same (record { some = refl; ends = refl })
    go (wire.Common w) e = let bad : ⊥ = cc in absurd bad
    go wire.TuneRequest e = let bad : ⊥ = cc in absurd bad
    go wire.Exclusive e = let bad : ⊥ = cc in absurd bad
    go wire.RealTime e = let bad : ⊥ = cc in absurd bad
    go wire.Nothing e = let bad : ⊥ = cc in absurd bad

running-voiced : (running : Option ℕ) (left : List ℕ) (y : TrackEvent × List ℕ) → running_at running left ≡ Ok y → IsVoiced y.0
running-voiced None left y e = let bad : ⊥ = cc in absurd bad
running-voiced (Some status) left y e = voice-voiced status left y e

event-voiced : (running : Option ℕ) (status : ℕ) (left : List ℕ) (y : TrackEvent × List ℕ) → status < 240 → event_at running (status ∷ left) ≡ Ok y → IsVoiced y.0
unfolding event_at
event-voiced running status left y less e =
    go (nat_lt status 128) (nat_lt status 240) _ (let below : nat_lt status 240 ≡ true = grind (arith, nat_tests) in below) e
  where
    go : (t u : Bool) (other : Result (TrackEvent × List ℕ) PairFault) → u ≡ true → (if t then running_at running (status ∷ left) else (if u then voice_at status left else other)) ≡ Ok y → IsVoiced y.0
    go true u other below e = running-voiced running (status ∷ left) y e
    go false true other below e = voice-voiced status left y e
    go false false other below e = let bad : ⊥ = cc in absurd bad

short-quantity : (delta status : ℕ) (left : List ℕ) → delta < 128 → quantity_at (delta ∷ status ∷ left) ≡ Ok (delta, status ∷ left)
unfolding septets_at
short-quantity delta status left less =
    let low : nat_lt delta 128 ≡ true = grind (arith, nat_tests) in
    let same : 0 * 128 + delta % 128 ≡ delta = omega arith in
    quantity-septets (delta ∷ status ∷ left)
    ∙ ap (λ (t : Bool). if t then Ok (0 * 128 + delta % 128, status ∷ left) else septets_at 3 (0 * 128 + delta % 128) (status ∷ left)) low
    ∙ ap (λ (n : ℕ). Ok (n, status ∷ left)) same

-- what the code needs of the pair, which it does not read
pub record Short (running : Option ℕ) (left : List ℕ) (delta : ℕ) : Type 0 where
  pub pair : Pair
  pub more : List ℕ
  pub read : pair_at running left ≡ Ok (pair, more)
  pub delta_is : pair.delta ≡ delta
  pub some : IsTrue (is_some (message_of pair.event))
  pub ends : is_end pair.event ≡ false
  pub sound : IsTrue (is_event_sound pair.event)
  pub shorter : length more < length left

abbrev after_delta : Option ℕ → ℕ → List ℕ → Result (Pair × List ℕ) PairFault
after_delta running delta left = event_at running left >>= λ event. Ok (record { delta = delta; event = event.0 }, event.1)

short-pair : (running : Option ℕ) (delta status : ℕ) (left : List ℕ) → delta < 128 → pair_at running (delta ∷ status ∷ left) ≡ after_delta running delta (status ∷ left)
unfolding pair_at
short-pair running delta status left less =
    ap (λ (r : Result (ℕ × List ℕ) PairFault). r >>= λ d. after_delta running d.0 d.1) (short-quantity delta status left less)

pub short : (running : Option ℕ) (left : List ℕ) (delta : ℕ) → IsTrue (is_whole running left) → IsRunning running → IsShortDelta delta left → Short running left delta
short running [] delta whole status s = let long : 1 < 0 = s.long in absurd (omega arith)
short running (d ∷ []) delta whole status s = let long : 1 < length (d ∷ []) = s.long in absurd (omega arith)
short running (d ∷ b ∷ left) delta whole status s =
    go (pair_at running (d ∷ b ∷ left)) refl
  where
    first : d ≡ delta
    first = s.first

    less : d < 128
    less = let low : delta < 128 = s.low in omega arith

    go : (r : Result (Pair × List ℕ) PairFault) → pair_at running (d ∷ b ∷ left) ≡ r → Short running (d ∷ b ∷ left) delta
    go (Err fault) is = absurd (whole-fault running (d ∷ b ∷ left) fault whole is)
    go (Ok found) is =
        let e : Bound (event_at running (b ∷ left)) (λ event. Ok (record { delta = d; event = event.0 }, event.1)) found = bind-ok _ _ _ (sym (short-pair running d b left less) ∙ is) in
        let same : (record { delta = d; event = e.value.0 }, e.value.1) ≡ found = cc in
        let voiced : IsVoiced e.value.0 = event-voiced running b left e.value s.voice e.first in
        record {
          pair = record { delta = d; event = e.value.0 };
          more = e.value.1;
          read = is ∙ ap (λ (x : Pair × List ℕ). Ok x) (sym same);
          delta_is = first;
          some = voiced.some;
          ends = voiced.ends;
          sound = event-sound running (b ∷ left) status e.value e.first;
          shorter = pair-shorter running (d ∷ b ∷ left) (record { delta = d; event = e.value.0 }, e.value.1) (is ∙ ap (λ (x : Pair × List ℕ). Ok x) (sym same));
        }
