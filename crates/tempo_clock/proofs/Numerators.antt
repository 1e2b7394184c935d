-- How the numerators of ticks grow.
use Rattle.std.proofs.Common.{◌≡◌, ◌≤◌, ◌<◌, ◌+◌, ◌*◌, ◌-◌, ◌∙◌, ◌⊎◌, inl, inr, ℕ, zero, suc, Bool, true, false, cond, leb, List, [], ◌∷◌, length, refl, ap, sym, subst, arith}
use Rattle.std.proofs.lemmas.Bool.Decides.{nat_tests}
use Rattle.tempo_clock.specs.declared.entry.TempoEntry.{TempoEntry}
use Rattle.tempo_clock.specs.Ticks.{Tempos, is_smpte, tempo_or, duration, numerator}
use Rattle.tempo_clock.specs.Kept.{entry_at, AreOrdered}

-- ---- the numerator as a sum of durations

pub numerator-zero : (m : Tempos) → numerator m 0 ≡ 0
unfolding numerator
numerator-zero m = refl

pub numerator-next : (m : Tempos) (t : ℕ) → numerator m (t + 1) ≡ numerator m t + duration m t
unfolding numerator
numerator-next m t = let e : t + 1 ≡ suc t = omega arith in ap (numerator m) e

-- ticks that last alike
pub numerator-run : (m : Tempos) (from step k : ℕ) → ((u : ℕ) → from ≤ u → u < from + k → duration m u ≡ step) → numerator m (from + k) ≡ numerator m from + k * step
numerator-run m from step zero h = let e : from + 0 ≡ from = omega arith in ap (numerator m) e ∙ omega arith
numerator-run m from step (suc k) h =
    let e : from + suc k ≡ (from + k) + 1 = omega arith in
    let before : numerator m (from + k) ≡ numerator m from + k * step = numerator-run m from step k (λ u low high. h u low (omega arith)) in
    let last : duration m (from + k) ≡ step = h (from + k) (omega arith) (omega arith) in
    let next : numerator m ((from + k) + 1) ≡ numerator m (from + k) + duration m (from + k) = numerator-next m (from + k) in
    ap (numerator m) e ∙ omega arith

numerator-rises_by : (m : Tempos) (s k : ℕ) → numerator m s ≤ numerator m (s + k)
numerator-rises_by m s zero = let e : numerator m (s + 0) ≡ numerator m s = ap (numerator m) (omega arith) in omega arith
numerator-rises_by m s (suc k) =
    let e : numerator m (s + suc k) ≡ numerator m ((s + k) + 1) = ap (numerator m) (omega arith) in
    let next : numerator m ((s + k) + 1) ≡ numerator m (s + k) + duration m (s + k) = numerator-next m (s + k) in
    let before : numerator m s ≤ numerator m (s + k) = numerator-rises_by m s k in
    omega arith

pub numerator-rises : (m : Tempos) (s t : ℕ) → s ≤ t → numerator m s ≤ numerator m t
numerator-rises m s t h =
    let e : numerator m (s + (t - s)) ≡ numerator m t = ap (numerator m) (omega arith) in
    let r : numerator m s ≤ numerator m (s + (t - s)) = numerator-rises_by m s (t - s) in
    omega arith

-- where each tick lasts
pub numerator-rises_more : (m : Tempos) (s t : ℕ) → ((u : ℕ) → 0 < duration m u) → s < t → numerator m s < numerator m t
numerator-rises_more m s t lasts h =
    let next : numerator m (s + 1) ≡ numerator m s + duration m s = numerator-next m s in
    let some : 0 < duration m s = lasts s in
    let rest : numerator m (s + 1) ≤ numerator m t = numerator-rises m (s + 1) t (omega arith) in
    omega arith

pub numerator-small : (m : Tempos) (b t : ℕ) → ((u : ℕ) → duration m u ≤ b) → numerator m t ≤ t * b
numerator-small m b zero h = let z : numerator m 0 ≡ 0 = numerator-zero m in omega arith
numerator-small m b (suc t) h =
    let e : numerator m (suc t) ≡ numerator m (t + 1) = ap (numerator m) (omega arith) in
    let next : numerator m (t + 1) ≡ numerator m t + duration m t = numerator-next m t in
    let before : numerator m t ≤ t * b = numerator-small m b t h in
    let last : duration m t ≤ b = h t in
    omega arith

-- the same as far as the ticks last alike
pub numerator-alike : (m n : Tempos) (t : ℕ) → ((u : ℕ) → u < t → duration m u ≡ duration n u) → numerator m t ≡ numerator n t
numerator-alike m n zero h = numerator-zero m ∙ sym (numerator-zero n)
numerator-alike m n (suc t) h =
    let e : numerator m (suc t) ≡ numerator m (t + 1) = ap (numerator m) (omega arith) in
    let f : numerator n (suc t) ≡ numerator n (t + 1) = ap (numerator n) (omega arith) in
    let next : numerator m (t + 1) ≡ numerator m t + duration m t = numerator-next m t in
    let next' : numerator n (t + 1) ≡ numerator n t + duration n t = numerator-next n t in
    let before : numerator m t ≡ numerator n t = numerator-alike m n t (λ u below. h u (omega arith)) in
    let last : duration m t ≡ duration n t = h t (omega arith) in
    omega arith

-- ---- the tempo in force

pub tempo_or-none : (d : ℕ) (es : List TempoEntry) (tick : ℕ) → ((i : ℕ) → i < length es → tick < (entry_at es i).tick) → tempo_or d es tick ≡ d
unfolding tempo_or
tempo_or-none d [] tick h = refl
tempo_or-none d (e ∷ es) tick h =
    let above : tick < e.tick = h 0 (omega arith) in
    let no : leb e.tick tick ≡ false = grind (arith, nat_tests) in
    ap (λ b. tempo_or (cond b e.tempo d) es tick) no ∙ tempo_or-none d es tick (λ i below. h (suc i) (omega arith))

-- the last entry at or before the tick
pub tempo_or-at : (d : ℕ) (es : List TempoEntry) (tick i : ℕ) → i < length es → (entry_at es i).tick ≤ tick → ((j : ℕ) → i < j → j < length es → tick < (entry_at es j).tick) → tempo_or d es tick ≡ (entry_at es i).tempo
unfolding tempo_or
tempo_or-at d [] tick i h low high = absurd (omega arith)
tempo_or-at d (e ∷ es) tick zero h low high =
    let yes : leb e.tick tick ≡ true = grind (arith, nat_tests) in
    ap (λ b. tempo_or (cond b e.tempo d) es tick) yes ∙ tempo_or-none e.tempo es tick (λ j below. high (suc j) (omega arith) (omega arith))
tempo_or-at d (e ∷ es) tick (suc i) h low high =
    tempo_or-at (cond (leb e.tick tick) e.tempo d) es tick i (omega arith) low (λ j after below. high (suc j) (omega arith) (omega arith))

cond_within : (P : ℕ → Type 0) (b : Bool) (x y : ℕ) → P x → P y → P (cond b x y)
cond_within P true x y p q = p
cond_within P false x y p q = q

-- what holds of each tempo holds of the one in force
pub tempo_or-all : (P : ℕ → Type 0) (d : ℕ) (es : List TempoEntry) (tick : ℕ) → P d → ((i : ℕ) → i < length es → P (entry_at es i).tempo) → P (tempo_or d es tick)
unfolding tempo_or
tempo_or-all P d [] tick p h = p
tempo_or-all P d (e ∷ es) tick p h =
    tempo_or-all P (cond (leb e.tick tick) e.tempo d) es tick (cond_within P _ _ _ (h 0 (omega arith)) p) (λ i below. h (suc i) (omega arith))

-- a tempo is in force from the first entry on
pub tempo_or-above : (es : List TempoEntry) (tick : ℕ) → AreOrdered es → 0 < length es → 0 < tempo_or 0 es tick
unfolding tempo_or
tempo_or-above [] tick h some = absurd (omega arith)
tempo_or-above (e ∷ es) tick h some =
    let first : e.tick ≡ 0 = h.first in
    let yes : leb e.tick tick ≡ true = grind (arith, nat_tests) in
    let all : 0 < tempo_or e.tempo es tick = tempo_or-all (λ n. 0 < n) e.tempo es tick (h.above 0 some) (λ i below. h.above (suc i) (omega arith)) in
    subst (λ b. 0 < tempo_or (cond b e.tempo 0) es tick) (sym yes) all

-- ---- how long a tick lasts

pub duration-smpte : (m : Tempos) (tick : ℕ) → 32768 ≤ m.division → duration m tick ≡ 1000000000
unfolding duration
duration-smpte m tick h = let yes : is_smpte m ≡ true = grind (arith, nat_tests) in ap (λ b. cond b 1000000000 (1000 * tempo_or 0 m.entries tick)) yes

pub duration-metrical : (m : Tempos) (tick : ℕ) → m.division < 32768 → duration m tick ≡ 1000 * tempo_or 0 m.entries tick
unfolding duration
duration-metrical m tick h = let no : is_smpte m ≡ false = grind (arith, nat_tests) in ap (λ b. cond b 1000000000 (1000 * tempo_or 0 m.entries tick)) no

-- ---- a segment

at_or_below : (a b : ℕ) → a ≤ b → (a < b) ⊎ (a ≡ b)
at_or_below a b h = grind arith

pub not_falling : (es : List TempoEntry) → AreOrdered es → (a b : ℕ) → a ≤ b → b < length es → (entry_at es a).tick ≤ (entry_at es b).tick
not_falling es o a b h k = elim (at_or_below a b h) [
  | inl less ↦ let r : (entry_at es a).tick < (entry_at es b).tick = o.rising a b less k in omega arith
  | inr same ↦ let r : (entry_at es a).tick ≡ (entry_at es b).tick = ap (λ i. (entry_at es i).tick) same in omega arith
]

-- the ticks from an entry's to the next one's
pub numerator-segment : (m : Tempos) (i t : ℕ) → m.division < 32768 → AreOrdered m.entries → i < length m.entries → (entry_at m.entries i).tick ≤ t → (i + 1 < length m.entries → t ≤ (entry_at m.entries (i + 1)).tick) → numerator m t ≡ numerator m (entry_at m.entries i).tick + (t - (entry_at m.entries i).tick) * ((entry_at m.entries i).tempo * 1000)
numerator-segment m i t d o h low high =
    let from : ℕ = (entry_at m.entries i).tick in
    let e : t ≡ from + (t - from) = omega arith in
    ap (numerator m) e ∙ numerator-run m from ((entry_at m.entries i).tempo * 1000) (t - from) (λ u at before.
    let here : tempo_or 0 m.entries u ≡ (entry_at m.entries i).tempo = tempo_or-at 0 m.entries u i h at (λ j after below. later j u after below before) in
    let lasts : duration m u ≡ 1000 * tempo_or 0 m.entries u = duration-metrical m u d in
    omega arith)
  where
    later : (j u : ℕ) → i < j → j < length m.entries → u < (entry_at m.entries i).tick + (t - (entry_at m.entries i).tick) → u < (entry_at m.entries j).tick
    later j u after below before =
        let next : t ≤ (entry_at m.entries (i + 1)).tick = high (omega arith) in
        let order : (entry_at m.entries (i + 1)).tick ≤ (entry_at m.entries j).tick = not_falling m.entries o (i + 1) j (omega arith) below in
        omega arith
