-- The laws of moments.
use Rattle.std.proofs.Common.{◌≡◌, ◌≤◌, ◌<◌, ◌+◌, ◌-◌, ◌^◌, ◌∙◌, ◌↔◌, ◌&&◌, inl, inr, ℕ, Bool, true, false, Option, Some, None, leb, leb-true, le-leb, refl, ap, sym, arith}
use Rattle.std.specs.Prelude.{nat_le}
use Rattle.tempo_clock.specs.declared.due.Due.{Due}
use Rattle.tempo_clock.specs.declared.due.Due.TheVariants.{Tick, Nanos}
use Rattle.tempo_clock.specs.Search.{least}
use Rattle.tempo_clock.specs.Ticks.{Tempos, resolution, nanos_at, first_tick_from, with_tempo_from}
use Rattle.tempo_clock.specs.Clocks.{Clock, elapsed_time, runs_by, changed_from, with_tempo, due_time, is_due, moment_of}
use Rattle.tempo_clock.specs.Laws.{IsMoment, NoLater}
use Rattle.tempo_clock.proofs.Searches.{IsLeast, least-found, least-none_passes, least-is}
use Rattle.tempo_clock.proofs.Comparisons.{order, is_above, both, joined, not_both}
use Rattle.tempo_clock.proofs.TickLaws.{tempo_keeps_ticks, tempo_is_not_before, tempo_was_not_before}

found : (c : Clock) (accepted : ℕ) (due : Due) (moment : ℕ) → moment_of c accepted due ≡ Some moment → IsLeast (is_due c accepted due) (2 ^ 64 - 1) moment
unfolding moment_of
found c accepted due moment e = least-found (is_due c accepted due) (2 ^ 64 - 1) moment e

pub moments_are_all : (c : Clock) (accepted : ℕ) (due : Due) (t : ℕ) → moment_of c accepted due ≡ None → t < 2 ^ 64 → is_due c accepted due t ≡ false
unfolding moment_of
moments_are_all c accepted due t e h = least-none_passes (is_due c accepted due) (2 ^ 64 - 1) e t (omega arith)

pub moments_are_first : (c : Clock) (accepted : ℕ) (due : Due) (moment : ℕ) → moment_of c accepted due ≡ Some moment → IsMoment c accepted due moment
moments_are_first c accepted due moment e =
    let f : IsLeast (is_due c accepted due) (2 ^ 64 - 1) moment = found c accepted due moment e in
    record {
      fits = let w : moment ≤ 2 ^ 64 - 1 = f.within in omega arith;
      due_then = f.passes;
      first = λ t h. elim (order moment t) [ inl less ↦ less | inr more ↦ absurd (not_both _ h (f.below t more)) ];
    }

pub moments_are_later : (c : Clock) (accepted : ℕ) (due : Due) (moment : ℕ) → moment_of c accepted due ≡ Some moment → (accepted ≤ moment) × (runs_by c.since moment ≡ true)
moments_are_later c accepted due moment e =
    let t = both _ _ (found c accepted due moment e).passes in
    (leb-true _ _ t.0, (both _ _ t.1).0)

-- what is due is due where it was accepted and due no later
due_too : (c : Clock) (a b : ℕ) (d e : Due) (t : ℕ) → a ≤ b → due_time c.map d ≤ due_time c.map e → is_due c b e t ≡ true → is_due c a d t ≡ true
due_too c a b d e t h k due =
    let x = both (leb b t) (runs_by c.since t && leb (due_time c.map e) (elapsed_time c t)) due in
    let y = both (runs_by c.since t) (leb (due_time c.map e) (elapsed_time c t)) x.1 in
    let accepted : b ≤ t = leb-true _ _ x.0 in
    let shows : due_time c.map e ≤ elapsed_time c t = leb-true _ _ y.1 in
    let accepted' : leb a t ≡ true = le-leb a t (omega arith) in
    let shows' : leb (due_time c.map d) (elapsed_time c t) ≡ true = le-leb (due_time c.map d) (elapsed_time c t) (omega arith) in
    joined (leb a t) (runs_by c.since t && leb (due_time c.map d) (elapsed_time c t)) accepted' (joined (runs_by c.since t) (leb (due_time c.map d) (elapsed_time c t)) y.0 shows')

pub moments_rise : (c : Clock) (a b : ℕ) (d e : Due) → a ≤ b → due_time c.map d ≤ due_time c.map e → NoLater (moment_of c a d) (moment_of c b e)
moments_rise c a b d e h k = go (moment_of c a d) (moment_of c b e) refl refl
  where
    go : (x y : Option ℕ) → moment_of c a d ≡ x → moment_of c b e ≡ y → NoLater x y
    go x None p q = tt
    go None (Some m) p q =
        let known : IsMoment c b e m = moments_are_first c b e m q in
        not_both _ (due_too c a b d e m h k known.due_then) (moments_are_all c a d m p known.fits)
    go (Some n) (Some m) p q =
        let known : IsMoment c b e m = moments_are_first c b e m q in
        (moments_are_first c a d n p).first m (due_too c a b d e m h k known.due_then)

-- ---- a change of tempo

-- what the clock showed before the change tells the same of each due time
due_alike : (m : Tempos) (nanos tempo shown : ℕ) (due : Due) (o : Option ℕ) → 0 < resolution m → shown < nanos → first_tick_from m nanos ≡ o → nat_le (due_time (changed_from m o tempo) due) shown ≡ nat_le (due_time m due) shown
due_alike m nanos tempo shown due None p h e = refl
due_alike m nanos tempo shown (Nanos d) (Some from) p h e = refl
due_alike m nanos tempo shown (Tick t) (Some from) p h e = elim (order t from) [
  | inl before ↦ ap (λ n. nat_le n shown) (tempo_keeps_ticks m from tempo t before)
  | inr later ↦
      let new : nanos ≤ nanos_at (with_tempo_from m from tempo) t = tempo_is_not_before m nanos from tempo t p e (omega arith) in
      let old : nanos ≤ nanos_at m t = tempo_was_not_before m nanos from t p e (omega arith) in
      is_above _ _ (omega arith) ∙ sym (is_above _ _ (omega arith))
]

is_due_alike : (m : Tempos) (time : ℕ) (since : Option ℕ) (moment tempo accepted : ℕ) (due : Due) (t : ℕ) → 0 < resolution m → t < moment
    → is_due (with_tempo (record { map = m; time = time; since = since }) moment tempo) accepted due t ≡ is_due (record { map = m; time = time; since = since }) accepted due t
is_due_alike m time None moment tempo accepted due t p h = refl
is_due_alike m time (Some since) moment tempo accepted due t p h = go (leb since t) refl
  where
    go : (b : Bool) → leb since t ≡ b → (leb accepted t && (leb since t && nat_le (due_time (changed_from m (first_tick_from m (time + (moment - since))) tempo) due) (time + (t - since)))) ≡ (leb accepted t && (leb since t && nat_le (due_time m due) (time + (t - since))))
    go true e =
        let from : since ≤ t = leb-true _ _ e in
        ap (λ b. leb accepted t && (leb since t && b)) (due_alike m (time + (moment - since)) tempo (time + (t - since)) due (first_tick_from m (time + (moment - since))) p (omega arith) refl)
    go false e =
        ap (λ b. leb accepted t && (b && nat_le (due_time (changed_from m (first_tick_from m (time + (moment - since))) tempo) due) (time + (t - since)))) e
        ∙ sym (ap (λ b. leb accepted t && (b && nat_le (due_time m due) (time + (t - since)))) e)

-- tests that agree up to a number find it alike
least-alike : (p q : ℕ → Bool) (n k : ℕ) → ((t : ℕ) → t ≤ k → p t ≡ q t) → least p n ≡ Some k → least q n ≡ Some k
least-alike p q n k same e =
    let f : IsLeast p n k = least-found p n k e in
    least-is q n k f.within (sym (same k (omega arith)) ∙ f.passes) (λ t below. sym (same t (omega arith)) ∙ f.below t below)

pub tempo_keeps_moments : (c : Clock) (moment tempo accepted : ℕ) (due : Due) (k : ℕ) → 0 < resolution c.map → k < moment → (moment_of c accepted due ≡ Some k) ↔ (moment_of (with_tempo c moment tempo) accepted due ≡ Some k)
unfolding moment_of
tempo_keeps_moments c moment tempo accepted due k p h = (
  least-alike (is_due c accepted due) (is_due (with_tempo c moment tempo) accepted due) (2 ^ 64 - 1) k (λ t below. sym (is_due_alike c.map c.time c.since moment tempo accepted due t p (omega arith))),
  least-alike (is_due (with_tempo c moment tempo) accepted due) (is_due c accepted due) (2 ^ 64 - 1) k (λ t below. is_due_alike c.map c.time c.since moment tempo accepted due t p (omega arith)),
)
