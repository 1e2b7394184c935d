-- What a change of tempo leaves as it was.
use Rattle.std.proofs.Common.{◌≡◌, ◌≤◌, ◌<◌, ◌*◌, ◌∙◌, inl, inr, ℕ, true, false, cond, leb, ltb, List, [], ◌∷◌, ◌++◌, refl, ap, sym, arith}
use Rattle.std.specs.Prelude.{filter, nat_lt}
use Rattle.std.proofs.lemmas.Bool.Decides.{nat_tests}
use Rattle.tempo_clock.specs.declared.entry.TempoEntry.{TempoEntry}
use Rattle.tempo_clock.specs.Ticks.{Tempos, is_smpte, resolution, tempo_or, duration, numerator, with_tempo_from}
use Rattle.tempo_clock.proofs.Comparisons.{order}
use Rattle.tempo_clock.proofs.Numerators.{numerator-alike}

-- an entry after the tick does not count
tempo_or-later : (d : ℕ) (xs : List TempoEntry) (x : TempoEntry) (tick : ℕ) → tick < x.tick → tempo_or d (xs ++ x ∷ []) tick ≡ tempo_or d xs tick
unfolding tempo_or
tempo_or-later d [] x tick h = let no : leb x.tick tick ≡ false = grind (arith, nat_tests) in ap (λ b. cond b x.tempo d) no
tempo_or-later d (e ∷ xs) x tick h = tempo_or-later (cond (leb e.tick tick) e.tempo d) xs x tick h

-- the last entry at or before the tick holds
tempo_or-last : (d : ℕ) (xs : List TempoEntry) (x : TempoEntry) (tick : ℕ) → x.tick ≤ tick → tempo_or d (xs ++ x ∷ []) tick ≡ x.tempo
unfolding tempo_or
tempo_or-last d [] x tick h = let yes : leb x.tick tick ≡ true = grind (arith, nat_tests) in ap (λ b. cond b x.tempo d) yes
tempo_or-last d (e ∷ xs) x tick h = tempo_or-last (cond (leb e.tick tick) e.tempo d) xs x tick h

-- entries from a later tick on do not count
tempo_or-kept : (d : ℕ) (es : List TempoEntry) (from tick : ℕ) → tick < from → tempo_or d (filter (λ e. nat_lt e.tick from) es) tick ≡ tempo_or d es tick
unfolding tempo_or
tempo_or-kept d [] from tick h = refl
tempo_or-kept d (e ∷ es) from tick h = elim (order from e.tick) [
  | inr before ↦
      let yes : ltb e.tick from ≡ true = grind (arith, nat_tests) in
      ap (λ b. tempo_or d (cond b (e ∷ filter (λ e. nat_lt e.tick from) es) (filter (λ e. nat_lt e.tick from) es)) tick) yes
      ∙ tempo_or-kept (cond (leb e.tick tick) e.tempo d) es from tick h
  | inl later ↦
      let no : ltb e.tick from ≡ false = grind (arith, nat_tests) in
      let none : leb e.tick tick ≡ false = grind (arith, nat_tests) in
      ap (λ b. tempo_or d (cond b (e ∷ filter (λ e. nat_lt e.tick from) es) (filter (λ e. nat_lt e.tick from) es)) tick) no
      ∙ tempo_or-kept d es from tick h ∙ sym (ap (λ b. tempo_or (cond b e.tempo d) es tick) none)
]

duration-before : (m : Tempos) (from tempo u : ℕ) → u < from → duration (with_tempo_from m from tempo) u ≡ duration m u
unfolding duration
duration-before m from tempo u h =
    ap (λ n. cond (is_smpte m) 1000000000 (1000 * n)) (tempo_or-later 0 (filter (λ e. nat_lt e.tick from) m.entries) (record { tick = from; tempo = tempo }) u h ∙ tempo_or-kept 0 m.entries from u h)

-- the ticks up to the first that is changed
pub numerator-changed : (m : Tempos) (from tempo t : ℕ) → t ≤ from → numerator (with_tempo_from m from tempo) t ≡ numerator m t
numerator-changed m from tempo t h = numerator-alike (with_tempo_from m from tempo) m t (λ u below. duration-before m from tempo u (omega arith))

-- the ticks per quarter note or second
pub resolution-changed : (m : Tempos) (from tempo : ℕ) → resolution (with_tempo_from m from tempo) ≡ resolution m
unfolding resolution
resolution-changed m from tempo = refl
