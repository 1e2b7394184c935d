-- The ticks of tempo entries and of events rise.
use Rattle.std.proofs.Common.{◌≡◌, ◌≢◌, ◌≤◌, ◌<◌, ℕ, Bool, true, false, ◌⊎◌, inl, inr, List, [], ◌∷◌, ◌∙◌, refl, ap, sym, subst, arith}
use Rattle.std.specs.Prelude.{not, length, slice_index, Some, None, IfSome, IsTrue, nat_le, ◌==◌, ◌&&◌, if◌then◌else◌}
use Rattle.std.specs.List.{list_all, flat_map}
use Rattle.byteorder.specs.Endian.{big_number}
use Rattle.std.proofs.lemmas.Bool.{le-leb, eq-eqb}
use Rattle.std.proofs.lemmas.Bool.Decides.{eqb_tells, nat_tests}
use Rattle.tempo_clock.specs.declared.entry.TempoEntry.{TempoEntry}
use Rattle.tempo_clock.specs.Entries.{is_tempo, are_rising_from, are_entries}
use Rattle.tempo_clock.proofs.Comparisons.{both, joined}
use Rattle.smf_grammar.specs.declared.event.Event.{Event}
use Rattle.smf_grammar.specs.Chunks.{is_frame_division}
use Rattle.smf_grammar.specs.Files.{MidiFile}
use Rattle.smf_grammar.specs.Contents.{tempo_in, put_by_tick, in_order, events_from, events_of, tempos_from, last_at_each, default_entry, entries_of}
use Rattle.smf_files.specs.Kept.{are_tempos}
use Rattle.smf_files.specs.Rising.{ticks_rise}
use Rattle.smf_files.proofs.Sorting.{NoneBelow, Rising, order-rises}

-- ---- all tempos are in range

module _ {X : Type 0} (p : X → Bool) where
  all-put : (n : X → ℕ) (x : X) (ys : List X) → p x ≡ true → list_all p ys ≡ true → list_all p (put_by_tick n x ys) ≡ true
  all-put n x [] e f = joined _ _ e f
  all-put n x (y ∷ ys) e f =
      go (nat_le (n x) (n y)) (all-put n x ys e (both (p y) (list_all p ys) f).1)
    where
      go : (b : Bool) → list_all p (put_by_tick n x ys) ≡ true → list_all p (if b then (x ∷ y ∷ ys) else (y ∷ put_by_tick n x ys)) ≡ true
      go true ih = joined _ _ e f
      go false ih = joined _ _ (both (p y) (list_all p ys) f).0 ih

  all-in-order : (n : X → ℕ) (xs : List X) → list_all p xs ≡ true → list_all p (in_order n xs) ≡ true
  all-in-order n [] e = refl
  all-in-order n (x ∷ xs) e = all-put n x (in_order n xs) (both (p x) (list_all p xs) e).0 (all-in-order n xs (both (p x) (list_all p xs) e).1)

last-in-range : (es : List TempoEntry) → are_tempos es ≡ true → are_tempos (last_at_each es) ≡ true
last-in-range [] h = refl
last-in-range (e ∷ []) h = h
last-in-range (e ∷ f ∷ more) h =
    go (e.tick == f.tick) (last-in-range (f ∷ more) (both (is_tempo e.tempo) (are_tempos (f ∷ more)) h).1)
  where
    go : (b : Bool) → are_tempos (last_at_each (f ∷ more)) ≡ true → are_tempos (if b then last_at_each (f ∷ more) else (e ∷ last_at_each (f ∷ more))) ≡ true
    go true ih = ih
    go false ih = joined _ _ (both (is_tempo e.tempo) (are_tempos (f ∷ more)) h).0 ih

-- the tempos that are kept are in range where all that were read are
pub kept-in-range : (metrical : Bool) (tempos : List TempoEntry) → are_tempos tempos ≡ true → are_tempos (if metrical then last_at_each (default_entry ∷ in_order (λ e. e.tick) tempos) else []) ≡ true
kept-in-range true tempos h = last-in-range (default_entry ∷ in_order (λ e. e.tick) tempos) (joined _ _ refl (all-in-order (λ (e : TempoEntry). is_tempo e.tempo) (λ e. e.tick) tempos h))
kept-in-range false tempos h = refl

three-bytes : (n : ℕ) → not (n == 0) ≡ true → n < 16777216 → is_tempo n ≡ true
three-bytes n some less = joined _ _ (grind (arith, nat_tests)) (le-leb n 16777215 (omega arith))

-- three bytes that set a tempo keep it in range
pub tempo-in-range : (bytes : List ℕ) → ((i : ℕ) → slice_index bytes i < 256) → IfSome (tempo_in bytes) (λ tempo. IsTrue (is_tempo tempo))
tempo-in-range bytes small =
    go ((length bytes == 3) && not (big_number 3 bytes == 0)) refl
  where
    fits : big_number 3 bytes < 16777216
    fits = omega (arith, small 0, small 1, small 2)

    go : (b : Bool) → ((length bytes == 3) && not (big_number 3 bytes == 0)) ≡ b → IfSome (if b then Some (big_number 3 bytes) else None) (λ tempo. IsTrue (is_tempo tempo))
    go true e = three-bytes (big_number 3 bytes) (both (length bytes == 3) (not (big_number 3 bytes == 0)) e).1 fits
    go false e = tt

-- ---- entries

abbrev tick_of : TempoEntry → ℕ
tick_of e = e.tick

rising-last : (tick : ℕ) (e : TempoEntry) (es : List TempoEntry) → tick < e.tick → Rising tick_of (e ∷ es) → are_tempos (last_at_each (e ∷ es)) ≡ true → are_rising_from tick (last_at_each (e ∷ es)) ≡ true
rising-last tick e [] low up h = joined _ _ (le-leb _ _ low) h
rising-last tick e (f ∷ more) low up h =
    go (e.tick == f.tick) (eqb_tells e.tick f.tick) (λ below. rising-last tick f more below up.1) (λ below. rising-last e.tick f more below up.1) h
  where
    go : (b : Bool) → ((b ≡ true) × (e.tick ≡ f.tick)) ⊎ ((b ≡ false) × (e.tick ≢ f.tick))
        → (tick < f.tick → are_tempos (last_at_each (f ∷ more)) ≡ true → are_rising_from tick (last_at_each (f ∷ more)) ≡ true)
        → (e.tick < f.tick → are_tempos (last_at_each (f ∷ more)) ≡ true → are_rising_from e.tick (last_at_each (f ∷ more)) ≡ true)
        → are_tempos (if b then last_at_each (f ∷ more) else (e ∷ last_at_each (f ∷ more))) ≡ true
        → are_rising_from tick (if b then last_at_each (f ∷ more) else (e ∷ last_at_each (f ∷ more))) ≡ true
    go true (inl same) past after k = let at : e.tick ≡ f.tick = same.1 in past (omega arith) k
    go true (inr other) past after k = let bad : true ≡ false = other.0 in cc
    go false (inl same) past after k = let bad : false ≡ true = same.0 in cc
    go false (inr other) past after k =
        let parts = both (is_tempo e.tempo) (are_tempos (last_at_each (f ∷ more))) k in
        let apart : e.tick ≢ f.tick = other.1 in
        let near : e.tick ≤ f.tick = up.0.0 in
        joined _ _ (le-leb _ _ low) (joined _ _ parts.0 (after (omega (arith, apart)) parts.1))

entries-last : (e : TempoEntry) (es : List TempoEntry) → e.tick ≡ 0 → Rising tick_of (e ∷ es) → are_tempos (last_at_each (e ∷ es)) ≡ true → are_entries (last_at_each (e ∷ es)) ≡ true
entries-last e [] first up h = joined _ _ (eq-eqb _ _ first) h
entries-last e (f ∷ more) first up h =
    go (e.tick == f.tick) (eqb_tells e.tick f.tick) (λ at. entries-last f more at up.1) h
  where
    go : (b : Bool) → ((b ≡ true) × (e.tick ≡ f.tick)) ⊎ ((b ≡ false) × (e.tick ≢ f.tick))
        → (f.tick ≡ 0 → are_tempos (last_at_each (f ∷ more)) ≡ true → are_entries (last_at_each (f ∷ more)) ≡ true)
        → are_tempos (if b then last_at_each (f ∷ more) else (e ∷ last_at_each (f ∷ more))) ≡ true
        → are_entries (if b then last_at_each (f ∷ more) else (e ∷ last_at_each (f ∷ more))) ≡ true
    go true (inl same) past k = past (sym same.1 ∙ first) k
    go true (inr other) past k = let bad : true ≡ false = other.0 in cc
    go false (inl same) past k = let bad : false ≡ true = same.0 in cc
    go false (inr other) past k =
        let parts = both (is_tempo e.tempo) (are_tempos (last_at_each (f ∷ more))) k in
        let apart : e.tick ≢ f.tick = other.1 in
        let near : e.tick ≤ f.tick = up.0.0 in
        joined _ _ (eq-eqb _ _ first) (joined _ _ parts.0 (rising-last 0 f more (omega (arith, apart, first)) up.1 parts.1))

all-above : (es : List TempoEntry) → NoneBelow tick_of 0 es
all-above [] = tt
all-above (e ∷ es) = (omega arith, all-above es)

-- the entries of a file by ticks per quarter note make a tempo map
pub entries-made : (f : MidiFile) (entries : List TempoEntry) → entries ≡ entries_of f → IsTrue (are_tempos entries) → is_frame_division f.division ≡ false → are_entries entries ≡ true
entries-made f entries e range metrical =
    subst (λ (es : List TempoEntry). are_entries es ≡ true) (sym same) (entries-last default_entry tempos refl (all-above tempos, order-rises tick_of (flat_map (tempos_from 0) f.tracks)) (subst (λ (es : List TempoEntry). are_tempos es ≡ true) same range))
  where
    tempos : List TempoEntry
    tempos = in_order tick_of (flat_map (tempos_from 0) f.tracks)

    same : entries ≡ last_at_each (default_entry ∷ tempos)
    same = e ∙ ap (λ (b : Bool). if b then [] else last_at_each (default_entry ∷ tempos)) metrical

-- and those of another are none
pub no-entries : (f : MidiFile) (entries : List TempoEntry) → entries ≡ entries_of f → is_frame_division f.division ≡ true → entries ≡ []
no-entries f entries e frames = e ∙ ap (λ (b : Bool). if b then [] else last_at_each (default_entry ∷ in_order tick_of (flat_map (tempos_from 0) f.tracks))) frames

-- ---- events

none-below : (tick : ℕ) (es : List Event) → NoneBelow (λ e. e.tick) tick es → list_all (λ x. nat_le tick x.tick) es ≡ true
none-below tick [] h = refl
none-below tick (e ∷ es) h = joined _ _ (le-leb _ _ h.0) (none-below tick es h.1)

ticks-rise : (es : List Event) → Rising (λ e. e.tick) es → ticks_rise es ≡ true
ticks-rise [] h = refl
ticks-rise (e ∷ es) h = joined _ _ (none-below e.tick es h.0) (ticks-rise es h.1)

-- the ticks of a file's events never fall
pub events-rise : (f : MidiFile) → ticks_rise (events_of f) ≡ true
events-rise f = ticks-rise (events_of f) (order-rises (λ (e : Event). e.tick) (flat_map (events_from 0) f.tracks))
