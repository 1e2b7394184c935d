-- The tempo entries of a file are those of the map.
use Rattle.std.proofs.Common.{◌≡◌, ◌≤◌, ◌<◌, ◌∙◌, ◌+◌, ◌-◌, ℕ, Bool, true, false, List, [], ◌∷◌, ◌++◌, map, Some, None, refl, sym, ap, subst, arith}
use Rattle.std.specs.Prelude.{nat_le, nat_lt, ◌==◌, ◌&&◌, if◌then◌else◌, IsTrue}
use Rattle.std.specs.List.{flat_map}
use Rattle.std.proofs.lemmas.Bool.{le-leb, leb-true, ltb-true, eqb-true}
use Rattle.std.proofs.lemmas.Bool.Decides.{nat_tests}
use Rattle.std.proofs.lemmas.List.{append-nil}
use Rattle.byteorder.specs.Endian.{big_bytes, big_number}
use Rattle.byteorder.specs.Numbers.{big_number-reads_back}
use Rattle.midi_wire.proofs.Written.{and_true}
use Rattle.node_table.specs.declared.number.PortAddr.{PortAddr}
use Rattle.seq_state.specs.declared.log.LogEntry.{LogEntry}
use Rattle.smf_grammar.specs.declared.event.Event.{Event}
use Rattle.smf_grammar.specs.Contents.{put_by_tick, in_order, tempo_in, tempo_of, entry_if, tempos_from, last_at_each, default_entry}
use Rattle.smf_grammar.specs.Pairs.{Exclusive, Voice}
use Rattle.tempo_clock.specs.declared.entry.TempoEntry.{TempoEntry}
use Rattle.tempo_clock.specs.Entries.{is_tempo, are_rising_from, are_entries}
use Rattle.tempo_clock.specs.Ticks.{Tempos, is_smpte}
use Rattle.port_files.specs.Laws.{KeepsTempos}
use Rattle.port_files.specs.Tracks.{track_event, event_pairs, tempo_pairs, end_pair, recording_of, port_track}

-- ---- the track of the tempos

tempo-said : (tempo : ℕ) → IsTrue (is_tempo tempo) → tempo_in (big_bytes 3 tempo) ≡ Some tempo
tempo-said tempo h =
    let low : 1 ≤ tempo = leb-true 1 tempo (and_true (nat_le 1 tempo) (nat_le tempo 16777215) h).0 in
    let high : tempo ≤ 16777215 = leb-true tempo 16777215 (and_true (nat_le 1 tempo) (nat_le tempo 16777215) h).1 in
    let number : big_number 3 (big_bytes 3 tempo) ≡ tempo = ap (big_number 3) (sym (append-nil (big_bytes 3 tempo))) ∙ big_number-reads_back 3 tempo [] (omega arith) in
    let some : (tempo == 0) ≡ false = grind (arith, nat_tests) in
    rw (number, some) refl

one-said : (before : ℕ) (e : TempoEntry) (es : List TempoEntry) → before ≤ e.tick → IsTrue (is_tempo e.tempo) → tempos_from e.tick (tempo_pairs e.tick es ++ end_pair ∷ []) ≡ es →
    tempos_from before (tempo_pairs before (e ∷ es) ++ end_pair ∷ []) ≡ e ∷ es
one-said before e es l is more =
    let tick : before + (e.tick - before) ≡ e.tick = omega arith in
    ap (λ t. entry_if t (tempo_in (big_bytes 3 e.tempo)) ++ tempos_from t (tempo_pairs e.tick es ++ end_pair ∷ [])) tick
    ∙ ap (λ n. entry_if e.tick n ++ tempos_from e.tick (tempo_pairs e.tick es ++ end_pair ∷ [])) (tempo-said e.tempo is)
    ∙ ap (λ fs. e ∷ fs) more

-- a rising entry, and those behind it
record Rises (before : ℕ) (e : TempoEntry) (es : List TempoEntry) : Type 0 where
  later : before < e.tick
  is : IsTrue (is_tempo e.tempo)
  more : IsTrue (are_rising_from e.tick es)

rises : (before : ℕ) (e : TempoEntry) (es : List TempoEntry) → IsTrue (are_rising_from before (e ∷ es)) → Rises before e es
rises before e es h =
    let both = and_true (nat_lt before e.tick) (is_tempo e.tempo && are_rising_from e.tick es) h in
    let more = and_true (is_tempo e.tempo) (are_rising_from e.tick es) both.1 in
    record { later = ltb-true before e.tick both.0; is = more.0; more = more.1 }

rising-said : (before : ℕ) (es : List TempoEntry) → IsTrue (are_rising_from before es) → tempos_from before (tempo_pairs before es ++ end_pair ∷ []) ≡ es
rising-said before [] h = refl
rising-said before (e ∷ es) h =
    let r : Rises before e es = rises before e es h in
    let later : before < e.tick = r.later in
    one-said before e es (omega arith) r.is (rising-said e.tick es r.more)

-- ---- the other tracks

tempo-none : (m : List ℕ) → tempo_of (track_event m) ≡ None
tempo-none [] = refl
tempo-none (s ∷ tail) = go (s == 240)
  where
    go : (b : Bool) → tempo_of (if b then Exclusive tail else Voice s tail) ≡ None
    go true = refl
    go false = refl

tempos-none : (es : List Event) (before tick : ℕ) → tempos_from tick (event_pairs before es ++ end_pair ∷ []) ≡ []
tempos-none [] before tick = refl
tempos-none (e ∷ es) before tick =
    ap (λ n. entry_if (tick + (e.tick - before)) n ++ tempos_from (tick + (e.tick - before)) (event_pairs e.tick es ++ end_pair ∷ [])) (tempo-none e.message)
    ∙ tempos-none es e.tick (tick + (e.tick - before))

ports-none : (clock : Tempos) (entries : List LogEntry) (ports : List PortAddr) → flat_map (tempos_from 0) (map (port_track clock entries) ports) ≡ []
ports-none clock entries [] = refl
ports-none clock entries (port ∷ ports) =
    ap (λ ts. ts ++ flat_map (tempos_from 0) (map (port_track clock entries) ports)) (tempos-none (recording_of clock port entries) 0 0)
    ∙ ports-none clock entries ports

-- ---- in order, the last at each tick

first-put : (e : TempoEntry) (es : List TempoEntry) → IsTrue (are_rising_from e.tick es) → put_by_tick (λ (x : TempoEntry). x.tick) e es ≡ e ∷ es
first-put e [] h = refl
first-put e (f ∷ es) h =
    let later : e.tick < f.tick = (rises e.tick f es h).later in
    ap (λ (b : Bool). if b then (e ∷ f ∷ es) else (f ∷ put_by_tick (λ (x : TempoEntry). x.tick) e es)) (le-leb e.tick f.tick (omega arith))

rising-order : (before : ℕ) (es : List TempoEntry) → IsTrue (are_rising_from before es) → in_order (λ (x : TempoEntry). x.tick) es ≡ es
rising-order before [] h = refl
rising-order before (e ∷ es) h =
    let r : Rises before e es = rises before e es h in
    ap (put_by_tick (λ (x : TempoEntry). x.tick) e) (rising-order e.tick es r.more) ∙ first-put e es r.more

each-last : (e : TempoEntry) (es : List TempoEntry) → IsTrue (are_rising_from e.tick es) → last_at_each (e ∷ es) ≡ e ∷ es
each-last e [] h = refl
each-last e (f ∷ es) h =
    let r : Rises e.tick f es = rises e.tick f es h in
    let later : e.tick < f.tick = r.later in
    let apart : (e.tick == f.tick) ≡ false = grind (arith, nat_tests) in
    ap (λ (b : Bool). if b then last_at_each (f ∷ es) else (e ∷ last_at_each (f ∷ es))) apart ∙ ap (λ fs. e ∷ fs) (each-last f es r.more)

module _ (es : List TempoEntry) (h : IsTrue (are_entries es)) where
  -- the first entry takes the place of the default
  start-last : last_at_each (default_entry ∷ es) ≡ es
  start-last = go es h
    where
      go : (es : List TempoEntry) → IsTrue (are_entries es) → last_at_each (default_entry ∷ es) ≡ es
      go [] h = let bad : ⊥ = cc in absurd bad
      go (e ∷ es) h =
          let both = and_true (e.tick == 0) (is_tempo e.tempo && are_rising_from 0 es) h in
          let more = and_true (is_tempo e.tempo) (are_rising_from 0 es) both.1 in
          let start : e.tick ≡ 0 = eqb-true e.tick 0 both.0 in
          let same : (0 == e.tick) ≡ true = grind (arith, nat_tests) in
          ap (λ (b : Bool). if b then last_at_each (e ∷ es) else (default_entry ∷ last_at_each (e ∷ es))) same
          ∙ each-last e es (subst (λ n. IsTrue (are_rising_from n es)) (sym start) more.1)

  entries-order : in_order (λ (x : TempoEntry). x.tick) es ≡ es
  entries-order = go es h
    where
      go : (es : List TempoEntry) → IsTrue (are_entries es) → in_order (λ (x : TempoEntry). x.tick) es ≡ es
      go [] h = refl
      go (e ∷ es) h =
          let both = and_true (e.tick == 0) (is_tempo e.tempo && are_rising_from 0 es) h in
          let more = and_true (is_tempo e.tempo) (are_rising_from 0 es) both.1 in
          let start : e.tick ≡ 0 = eqb-true e.tick 0 both.0 in
          ap (put_by_tick (λ (x : TempoEntry). x.tick) e) (rising-order 0 es more.1)
          ∙ first-put e es (subst (λ n. IsTrue (are_rising_from n es)) (sym start) more.1)

  entries-said : tempos_from 0 (tempo_pairs 0 es ++ end_pair ∷ []) ≡ es
  entries-said = go es h
    where
      go : (es : List TempoEntry) → IsTrue (are_entries es) → tempos_from 0 (tempo_pairs 0 es ++ end_pair ∷ []) ≡ es
      go [] h = refl
      go (e ∷ es) h =
          let both = and_true (e.tick == 0) (is_tempo e.tempo && are_rising_from 0 es) h in
          let more = and_true (is_tempo e.tempo) (are_rising_from 0 es) both.1 in
          let start : e.tick ≡ 0 = eqb-true e.tick 0 both.0 in
          one-said 0 e es (omega arith) more.0 (subst (λ n. tempos_from n (tempo_pairs n es ++ end_pair ∷ []) ≡ es) (sym start) (rising-said 0 es more.1))

-- ---- together

pub keeps-tempos : KeepsTempos
keeps-tempos clock ports entries h = go (is_smpte clock) h
  where
    go : (b : Bool) → (b ≡ false → are_entries clock.entries ≡ true) →
        (if b then [] else last_at_each (default_entry ∷ in_order (λ (x : TempoEntry). x.tick) (flat_map (tempos_from 0) ((tempo_pairs 0 (if b then [] else clock.entries) ++ end_pair ∷ []) ∷ map (port_track clock entries) ports))))
        ≡ (if b then [] else clock.entries)
    go true k = refl
    go false k =
        ap (λ ts. last_at_each (default_entry ∷ in_order (λ (x : TempoEntry). x.tick) (tempos_from 0 (tempo_pairs 0 clock.entries ++ end_pair ∷ []) ++ ts))) (ports-none clock entries ports)
        ∙ ap (λ ts. last_at_each (default_entry ∷ in_order (λ (x : TempoEntry). x.tick) ts)) (append-nil (tempos_from 0 (tempo_pairs 0 clock.entries ++ end_pair ∷ [])) ∙ entries-said clock.entries (k refl))
        ∙ ap (λ ts. last_at_each (default_entry ∷ ts)) (entries-order clock.entries (k refl))
        ∙ start-last clock.entries (k refl)
