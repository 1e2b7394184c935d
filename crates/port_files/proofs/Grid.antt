-- The track of a port says what came to it, each message at its tick.
use Rattle.std.proofs.Common.{◌≡◌, ◌≤◌, ◌∙◌, ◌+◌, ◌-◌, ℕ, Bool, true, false, List, [], ◌∷◌, ◌++◌, Some, None, refl, sym, ap, subst, arith}
use Rattle.std.specs.Prelude.{nat_le, ◌==◌, ◌&&◌, if◌then◌else◌, IsTrue}
use Rattle.std.specs.List.{list_all, cons_option}
use Rattle.std.proofs.lemmas.Bool.{le-leb, leb-true, eqb-true}
use Rattle.midi_wire.proofs.Written.{and_true}
use Rattle.smf_grammar.specs.Pairs.{Exclusive, Voice}
use Rattle.midi_wire.proofs.MessageTests.{tests-messages}
use Rattle.midi_wire.specs.Messages.{IsMessage, AllMessages, begins, is_message}
use Rattle.midi_wire.specs.Writings.{status_of}
use Rattle.node_table.specs.declared.number.PortAddr.{PortAddr}
use Rattle.seq_state.specs.declared.log.Delivery.{Delivery}
use Rattle.seq_state.specs.declared.log.LogEntry.{LogEntry}
use Rattle.seq_state.specs.declared.log.LogEntry.TheVariants.{Delivered, Replied}
use Rattle.seq_state.specs.Heard.{comes_to, port_messages}
use Rattle.seq_state.specs.Laws.{deliveries_of, NeverFall}
use Rattle.smf_grammar.specs.declared.event.Event.{Event}
use Rattle.smf_grammar.specs.Contents.{message_of, event_if, events_from}
use Rattle.smf_grammar.specs.Texts.{stands_in_files}
use Rattle.tempo_clock.specs.Ticks.{Tempos, tick_at}
use Rattle.tempo_clock.proofs.TickLaws.{ticks_come_back_exactly}
use Rattle.port_files.specs.Laws.{KeepsEvents, KeepsTicks}
use Rattle.port_files.specs.Tracks.{recording_of, track_event, event_pairs, end_pair}
use Rattle.port_files.proofs.Ticks.{ticks-rise}

-- ---- one message

message-said : (m : List ℕ) → IsMessage m → message_of (track_event m) ≡ Some m
message-said [] h = absurd h
message-said (s ∷ tail) h = go (s == 240) refl
  where
    go : (b : Bool) → (s == 240) ≡ b → message_of (track_event (s ∷ tail)) ≡ Some (s ∷ tail)
    go false e = ap (λ b. message_of (if b then Exclusive tail else Voice s tail)) e
    go true e =
        let is : s ≡ 240 = eqb-true s 240 e in
        let whole : is_message (240 ∷ tail) ≡ true = subst (λ n. IsTrue (is_message (n ∷ tail))) is ((tests-messages (s ∷ tail)).1 h) in
        ap (λ b. message_of (if b then Exclusive tail else Voice s tail)) e
        ∙ ap (λ b. if b then Some (240 ∷ tail) else None) whole
        ∙ ap (λ n. Some (n ∷ tail)) (sym is)

-- ---- events behind one another

-- their ticks rise from here on, and each is a message
abbrev Sound : ℕ → List Event → Type 0
Sound before [] = Unit {0}
Sound before (e ∷ es) = (before ≤ e.tick) × IsMessage e.message × Sound e.tick es

said : (before : ℕ) (es : List Event) → Sound before es → events_from before (event_pairs before es ++ end_pair ∷ []) ≡ es
said before [] h = refl
said before (e ∷ es) h =
    let tick : before + (e.tick - before) ≡ e.tick = let l : before ≤ e.tick = h.0 in omega arith in
    ap (λ t. event_if t (message_of (track_event e.message)) ++ events_from t (event_pairs e.tick es ++ end_pair ∷ [])) tick
    ∙ ap (λ m. event_if e.tick m ++ events_from e.tick (event_pairs e.tick es ++ end_pair ∷ [])) (message-said e.message h.1)
    ∙ ap (λ fs. e ∷ fs) (said e.tick es h.2)

-- ---- what came to a port

module _ (clock : Tempos) (port : PortAddr) where
  sound : (entries : List LogEntry) (low before : ℕ) → before ≤ tick_at clock low → list_all (λ d. nat_le low d.moment) (deliveries_of entries) ≡ true → NeverFall (deliveries_of entries) → AllMessages (port_messages port entries) →
      Sound before (recording_of clock port entries)
  sound [] low before l first rise all = tt
  sound (Replied place moment client reply ∷ entries) low before l first rise all = sound entries low before l first rise all
  sound (Delivered d ∷ entries) low before l first rise all =
      go (λ n b k from said. sound entries n b k from rise.1 said) (comes_to port d) (stands_in_files (begins (status_of d.message))) all
    where
      go : ((n b : ℕ) → b ≤ tick_at clock n → list_all (λ e. nat_le n e.moment) (deliveries_of entries) ≡ true → AllMessages (port_messages port entries) → Sound b (recording_of clock port entries)) →
          (c s : Bool) → AllMessages (cons_option (if c then Some d.message else None) (port_messages port entries)) →
          Sound before (cons_option (if c && s then Some (record { tick = tick_at clock d.moment; message = d.message }) else None) (recording_of clock port entries))
      go again false s a = again low before l (and_true (nat_le low d.moment) (list_all (λ e. nat_le low e.moment) (deliveries_of entries)) first).1 a
      go again true false a = again low before l (and_true (nat_le low d.moment) (list_all (λ e. nat_le low e.moment) (deliveries_of entries)) first).1 a.1
      go again true true a =
          let later : low ≤ d.moment = leb-true low d.moment (and_true (nat_le low d.moment) (list_all (λ e. nat_le low e.moment) (deliveries_of entries)) first).0 in
          let up : tick_at clock low ≤ tick_at clock d.moment = ticks-rise clock low d.moment later in
          (omega arith, a.0, again d.moment (tick_at clock d.moment) (omega arith) rise.0 a.1)

from-0 : (ds : List Delivery) → list_all (λ d. nat_le 0 d.moment) ds ≡ true
from-0 [] = refl
from-0 (d ∷ ds) = ap (λ b. b && list_all (λ d. nat_le 0 d.moment) ds) (le-leb 0 d.moment (omega arith)) ∙ from-0 ds

pub keeps-events : KeepsEvents
keeps-events clock port entries all rise = said 0 (recording_of clock port entries) (sound clock port entries 0 0 (omega arith) (from-0 (deliveries_of entries)) rise all)

pub keeps-ticks : KeepsTicks
keeps-ticks clock port d t some fits long recorded moment =
    ap (λ b. if b then Some (record { tick = tick_at clock d.moment; message = d.message }) else None) recorded
    ∙ ap (λ n. Some (record { tick = tick_at clock n; message = d.message })) moment
    ∙ ap (λ n. Some (record { tick = n; message = d.message })) (ticks_come_back_exactly clock t some fits long)
