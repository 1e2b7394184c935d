-- What messages do to notes.
use Rattle.std.proofs.Common.{◌≡◌, ◌≢◌, ℕ, ◌+◌, ◌*◌, ◌-◌, ◌<◌, ◌≤◌, ◌==◌, ◌&&◌, Bool, true, false, cond, IsTrue, List, [], ◌∷◌, ◌++◌, Option, Some, None, inl, inr, take, set, get_or, slice_index_or, slice_set, length, refl, sym, ap, subst, ◌∙◌, arith, append-nil}
use Rattle.std.proofs.lemmas.Bool.Decides.{nat_tests, leb_tells}
use Rattle.std.proofs.lemmas.List.{take_more, get_or_past, get_or_default, get_or-set_same, get_or-set_other}
use Rattle.std.proofs.lemmas.List.Elements.{filter_map-append}
use Rattle.std.proofs.lemmas.List.Sums.{fold_push}
use Rattle.std.specs.List.{fold, filter_map}
use Rattle.midi_wire.specs.Kinds.{channels}
use Rattle.midi_wire.specs.declared.status.Width.TheVariants.{One, Two}
use Rattle.midi_wire.specs.declared.status.StatusClass.{StatusClass}
use Rattle.midi_wire.specs.declared.status.StatusClass.TheVariants.{Channel, Common, TuneRequest, Exclusive, RealTime, Nothing}
use Rattle.midi_wire.specs.Messages.{begins, all_data, IsTail, IsMessage}
use Rattle.node_table.specs.Numbers.{first_client, most_ports}
use Rattle.seq_state.specs.declared.log.Delivery.{Delivery}
use Rattle.seq_state.specs.declared.log.LogEntry.{LogEntry}
use Rattle.seq_state.specs.declared.log.LogEntry.TheVariants.{Delivered}
use Rattle.seq_state.specs.Heard.{comes_to, message_at, port_messages}
use Rattle.sounding_notes.specs.declared.listing.SoundingNote.{SoundingNote}
use Rattle.sounding_notes.specs.Sounding.{after_message, sounds}
use Rattle.sounding_notes.specs.Kept.{reads, reads_at, after_heard, after_entry, port_number, all_ports, port_places, IsHeard, IsNote}

-- ---- the data of three bytes

short_payload : (payload : List ℕ) (first second : ℕ) → first ∷ second ∷ [] ≡ payload ++ 247 ∷ [] → IsTrue (all_data payload) → first < 128
short_payload [] first second e d = cc
short_payload (x ∷ payload) first second e d = grind (arith, nat_tests)

first_data : (b : StatusClass) (first second : ℕ) → IsTail b (first ∷ second ∷ []) → first < 128
first_data (Channel One) first second t = cc
first_data (Channel Two) first second t = grind (arith, nat_tests)
first_data (Common One) first second t = cc
first_data (Common Two) first second t = grind (arith, nat_tests)
first_data TuneRequest first second t = cc
first_data Exclusive first second t = short_payload t.0 first second t.1 t.2
first_data RealTime first second t = cc
first_data Nothing first second t = absurd t

pub data_of_three : (m : List ℕ) (status first second : ℕ) → IsMessage m → status ∷ first ∷ second ∷ [] ≡ m → first < 128
data_of_three m status first second i e = first_data (begins status) first second (subst IsMessage (sym e) i)

-- ---- message by message

-- what an exclusive message does
pub exclusive_ends_none : (channel note : ℕ) (before : Bool) (payload : List ℕ) → channel < channels → after_message channel note before (240 ∷ payload ++ 247 ∷ []) ≡ before
exclusive_ends_none channel note before [] l = refl
exclusive_ends_none channel note before (x ∷ []) l = grind (arith, nat_tests)
exclusive_ends_none channel note before (x ∷ y ∷ []) l = refl
exclusive_ends_none channel note before (x ∷ y ∷ z ∷ more) l = refl

-- more places, with no more notes
same_places : (old new : List Bool) → ((k : ℕ) (d : Bool) → k < port_places → k < length old → slice_index_or new k d ≡ slice_index_or old k d) → ((k : ℕ) (d : Bool) → length old ≤ k → k < port_places → slice_index_or new k d ≡ false) →
    (k : ℕ) → k < port_places → slice_index_or new k false ≡ slice_index_or old k false
same_places old new within past k l = elim (leb_tells (length old) k) [
  | inl h ↦ past k false h.1 l ∙ sym (get_or_past old k false h.1)
  | inr h ↦ within k false l h.1
]

pub heard_with_places : (m : List ℕ) (old whole new : List Bool) (len : ℕ) → len ≡ length old → ((k : ℕ) (d : Bool) → k < port_places → k < len → slice_index_or whole k d ≡ slice_index_or old k d) → ((k : ℕ) (d : Bool) → len ≤ k → k < port_places → slice_index_or whole k d ≡ false) →
    IsHeard m whole new → IsHeard m old new
heard_with_places m old whole new len same within past h channel note c n =
    h channel note c n ∙ ap (λ b. after_message channel note b m) (same_places old whole (λ k d l w. within k d l (omega (arith, same, w))) (λ k d w l. past k d (omega (arith, same, w)) l) (channel * 128 + note) (omega (arith, c, n)))

-- ---- entry by entry

same_port : (a b c e : ℕ) → (a == b) && (c == e) ≡ true → (a - 128) * 16 + c ≡ (b - 128) * 16 + e
same_port a b c e h =
    let clients : a ≡ b = grind (arith, nat_tests) in
    let ports : c ≡ e = grind (arith, nat_tests) in
    omega arith

other_port : (a b c e : ℕ) → 128 ≤ a → 128 ≤ b → c < 16 → e < 16 → (a == b) && (c == e) ≡ false → (b - 128) * 16 + e ≡ (a - 128) * 16 + c → ⊥
other_port a b c e al bl cs es h is =
    let clients : a ≡ b = omega arith in
    let ports : c ≡ e = omega arith in
    grind (arith, nat_tests)

-- the message of an entry is heard at its port alone
pub heard_at : (ports : List (List Bool)) (d : Delivery) (old new : List Bool) (i : ℕ) → length ports ≡ all_ports → i ≡ port_number d.target → i < all_ports → first_client ≤ d.target.client → d.target.port < most_ports → old ≡ get_or ports i old → IsHeard d.message old new →
    (n : SoundingNote) → IsNote n → reads_at (slice_set ports i new) n ≡ after_entry n (reads_at ports n) (Delivered d)
heard_at ports d old new i len is small low port was heard n note = go (comes_to n.target d) refl
  where
    same : old ≡ get_or ports i []
    same = was ∙ get_or_default ports i old [] (omega (arith, len, small))

    go : (b : Bool) → comes_to n.target d ≡ b → reads_at (slice_set ports i new) n ≡ after_heard n (reads_at ports n) (cond b (Some d.message) None)
    go true e =
        let at : port_number n.target ≡ i = sym (is ∙ same_port d.target.client n.target.client d.target.port n.target.port e) in
        ap (λ k. reads (get_or (set ports i new) k []) n.channel n.note) at
        ∙ ap (λ places. reads places n.channel n.note) (get_or-set_same ports i new [] (omega (arith, len, small)))
        ∙ heard n.channel n.note note.channel note.note
        ∙ ap (λ places. after_message n.channel n.note (reads places n.channel n.note) d.message) (same ∙ ap (λ k. get_or ports k []) (sym at))
    go false e =
        let apart : port_number n.target ≢ i = λ h. other_port d.target.client n.target.client d.target.port n.target.port low note.low port note.port e (h ∙ is) in
        ap (λ places. reads places n.channel n.note) (get_or-set_other ports i (port_number n.target) new [] apart)

sounds_push : (n : SoundingNote) (ms : List (List ℕ)) (o : Option (List ℕ)) → fold (after_message n.channel n.note) false (ms ++ filter_map (λ p. p) (o ∷ [])) ≡ after_heard n (fold (after_message n.channel n.note) false ms) o
sounds_push n ms None = ap (fold (after_message n.channel n.note) false) (append-nil ms)
sounds_push n ms (Some m) = fold_push (after_message n.channel n.note) false ms m

-- one more entry
pub sounds_more : (n : SoundingNote) (log : List LogEntry) (i : ℕ) (d : LogEntry) → i < length log →
    sounds (take (i + 1) log) n ≡ after_entry n (sounds (take i log) n) (get_or log i d)
sounds_more n log i d l =
    ap (λ es. sounds es n) (take_more log i d l)
    ∙ ap (fold (after_message n.channel n.note) false) (filter_map-append (message_at n.target) (take i log) (get_or log i d ∷ []))
    ∙ sounds_push n (port_messages n.target (take i log)) (message_at n.target (get_or log i d))
