-- What a binary search finds among the entries and among their numerators.
use Rattle.std.proofs.Common.{◌≡◌, ◌≤◌, ◌<◌, ◌-◌, ◌∙◌, inl, inr, ℕ, zero, suc, true, false, cond, leb, ltb, leb-true, ltb-true, lt-ltb, List, [], ◌∷◌, length, get_or, take, refl, ap, sym, arith}
use Rattle.std.proofs.lemmas.List.{get_or_default}
use Rattle.std.specs.List.Sorted.{IsPartitionPoint, IsNonDecreasingBy}
use Rattle.std.specs.Prelude.{filter, nat_lt, slice_index}
use Rattle.tempo_clock.specs.declared.entry.TempoEntry.{TempoEntry}
use Rattle.tempo_clock.specs.Ticks.{Tempos, numerator}
use Rattle.tempo_clock.specs.Kept.{entry_at, AreOrdered, AreStarts, IsCut, IsSplit, AreBefore}
use Rattle.tempo_clock.proofs.Comparisons.{order, not_above, not_below}
use Rattle.tempo_clock.proofs.Numerators.{not_falling, numerator-rises, numerator-zero}

pub ticks_rise : (es : List TempoEntry) → AreOrdered es → IsNonDecreasingBy (λ e. e.tick) es
ticks_rise es o i j d h k =
    let r : (entry_at es i).tick ≤ (entry_at es j).tick = not_falling es o i j h k in
    let x : get_or es i d ≡ entry_at es i = get_or_default es i d (record { tick = 0; tempo = 0 }) (omega arith) in
    let y : get_or es j d ≡ entry_at es j = get_or_default es j d (record { tick = 0; tempo = 0 }) k in
    rw (x, y) r

pub starts_rise : (m : Tempos) (starts : List ℕ) → AreOrdered m.entries → AreStarts m starts → IsNonDecreasingBy (λ s. s) starts
starts_rise m starts o s i j d h k =
    let counted : length starts ≡ length m.entries = s.counted in
    let r : numerator m (entry_at m.entries i).tick ≤ numerator m (entry_at m.entries j).tick = numerator-rises m _ _ (not_falling m.entries o i j h (omega arith)) in
    let x : get_or starts i d ≡ numerator m (entry_at m.entries i).tick = get_or_default starts i d 0 (omega arith) ∙ s.each i (omega arith) in
    let y : get_or starts j d ≡ numerator m (entry_at m.entries j).tick = get_or_default starts j d 0 k ∙ s.each j (omega arith) in
    omega arith

-- what a binary search among ticks finds
pub cut_ticks : (es : List TempoEntry) (tick after : ℕ) → after ≤ length es → IsPartitionPoint (λ e. leb e.tick tick ≡ true) (λ e. leb e.tick tick ≡ false) es after → IsCut (λ i. (entry_at es i).tick) (length es) tick after
cut_ticks es tick after h p = record {
  within = h;
  low = λ some. leb-true _ _ (p.0 (after - 1) (record { tick = 0; tempo = 0 }) (omega arith) (omega arith));
  high = λ more. not_above _ _ (p.1 after (record { tick = 0; tempo = 0 }) (omega arith) more);
}

-- and among numerators
pub cut_starts : (starts : List ℕ) (limit after : ℕ) → after ≤ length starts → IsPartitionPoint (λ s. leb s limit ≡ true) (λ s. leb s limit ≡ false) starts after → IsCut (slice_index starts) (length starts) limit after
cut_starts starts limit after h p = record {
  within = h;
  low = λ some. leb-true _ _ (p.0 (after - 1) 0 (omega arith) (omega arith));
  high = λ more. not_above _ _ (p.1 after 0 (omega arith) more);
}

-- where the first entry stands at tick 0, it is at or below any bound
split_by : (value : ℕ → ℕ) → value 0 ≡ 0 → (es : List TempoEntry) (bound after : ℕ) → AreOrdered es → IsCut (λ i. value (entry_at es i).tick) (length es) bound after → IsSplit value es bound after
split_by value z es bound after o c =
    let first : value (entry_at es 0).tick ≡ 0 = ap value o.first ∙ z in
    record {
      within = c.within;
      low = elim (order after 0) [
        | inl none ↦
            let e : value (entry_at es (after - 1)).tick ≡ value (entry_at es 0).tick = ap (λ i. value (entry_at es i).tick) (omega arith) in
            omega arith
        | inr some ↦ c.low some
      ];
      high = c.high;
      empty = λ none. elim (order (length es) 0) [
        | inl less ↦ omega arith
        | inr some ↦
            let above : bound < value (entry_at es after).tick = c.high (omega arith) in
            let e : value (entry_at es after).tick ≡ value (entry_at es 0).tick = ap (λ i. value (entry_at es i).tick) none in
            absurd (omega arith)
      ];
    }

pub split_ticks : (es : List TempoEntry) (tick after : ℕ) → AreOrdered es → IsCut (λ i. (entry_at es i).tick) (length es) tick after → IsSplit (λ t. t) es tick after
split_ticks es tick after o c = split_by (λ t. t) refl es tick after o c

-- the numerators are those of the entries' ticks
pub cut_numerators : (m : Tempos) (es : List TempoEntry) (starts : List ℕ) (limit after : ℕ) → length starts ≡ length es → ((i : ℕ) → i < length es → slice_index starts i ≡ numerator m (entry_at es i).tick) → IsCut (slice_index starts) (length starts) limit after → IsCut (λ i. numerator m (entry_at es i).tick) (length es) limit after
cut_numerators m es starts limit after counted each c =
    let within : after ≤ length starts = c.within in
    record {
      within = omega arith;
      low = λ some. rw (each (after - 1) (omega arith)) at (c.low some);
      high = λ more. rw (each after more) at (c.high (omega arith));
    }

pub split_starts : (m : Tempos) (starts : List ℕ) (limit after : ℕ) → AreOrdered m.entries → AreStarts m starts → IsCut (slice_index starts) (length starts) limit after → IsSplit (numerator m) m.entries limit after
split_starts m starts limit after o s c = split_by (numerator m) (numerator-zero m) m.entries limit after o (cut_numerators m m.entries starts limit after s.counted s.each c)

filter_none : (es : List TempoEntry) (tick : ℕ) → ((k : ℕ) → k < length es → ltb (entry_at es k).tick tick ≡ false) → filter (λ e. nat_lt e.tick tick) es ≡ []
filter_none [] tick h = refl
filter_none (e ∷ es) tick h = ap (λ b. cond b (e ∷ filter (λ e. nat_lt e.tick tick) es) (filter (λ e. nat_lt e.tick tick) es)) (h 0 (omega arith)) ∙ filter_none es tick (λ k below. h (suc k) (omega arith))

-- the entries before a tick are the first ones
filter_first : (es : List TempoEntry) (tick kept : ℕ) → kept ≤ length es → IsPartitionPoint (λ e. ltb e.tick tick ≡ true) (λ e. ltb e.tick tick ≡ false) es kept → take kept es ≡ filter (λ e. nat_lt e.tick tick) es
filter_first es tick zero h p = sym (filter_none es tick (λ k below. p.1 k (record { tick = 0; tempo = 0 }) (omega arith) below))
filter_first [] tick (suc kept) h p = absurd (omega arith)
filter_first (e ∷ es) tick (suc kept) h p =
    let yes : ltb e.tick tick ≡ true = p.0 0 (record { tick = 0; tempo = 0 }) (omega arith) (omega arith) in
    let rest : take kept es ≡ filter (λ e. nat_lt e.tick tick) es = filter_first es tick kept (omega arith) (
      λ k d low high. p.0 (suc k) d (omega arith) (omega arith),
      λ k d low high. p.1 (suc k) d (omega arith) (omega arith),
    ) in
    ap (λ xs. e ∷ xs) rest ∙ ap (λ b. cond b (e ∷ filter (λ e. nat_lt e.tick tick) es) (filter (λ e. nat_lt e.tick tick) es)) (sym yes)

pub before_ticks : (es : List TempoEntry) (tick kept : ℕ) → kept ≤ length es → IsPartitionPoint (λ e. ltb e.tick tick ≡ true) (λ e. ltb e.tick tick ≡ false) es kept → AreBefore es tick kept
before_ticks es tick kept h p = record {
  within = h;
  each = λ i below. ltb-true _ _ (p.0 i (record { tick = 0; tempo = 0 }) (omega arith) below);
  rest = λ some. not_below _ _ (p.1 kept (record { tick = 0; tempo = 0 }) (omega arith) some);
  all = filter_first es tick kept h p;
}

-- where the last entry stands before the tick, all do
pub before_all : (es : List TempoEntry) (tick count : ℕ) → IsNonDecreasingBy (λ e. e.tick) es → count ≡ length es → 0 < count → (entry_at es (count - 1)).tick < tick → AreBefore es tick count
before_all es tick count rise size some last = before_ticks es tick count (omega arith) (
  λ k d low below.
      let at : get_or es k d ≡ entry_at es k = get_or_default es k d (record { tick = 0; tempo = 0 }) (omega arith) in
      let order : (entry_at es k).tick ≤ (entry_at es (count - 1)).tick = rise k (count - 1) (record { tick = 0; tempo = 0 }) (omega arith) (omega arith) in
      let e : (get_or es k d).tick ≡ (entry_at es k).tick = ap (λ (x : TempoEntry). x.tick) at in
      lt-ltb _ _ (omega arith),
  λ k d low below. absurd (omega arith),
)
