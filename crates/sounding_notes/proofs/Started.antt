-- When a note sounds.
use Rattle.std.proofs.Common.{◌≡◌, ℕ, Bool, true, false, cond, ◌||◌, ◌⊎◌, inl, inr, List, [], ◌∷◌, refl, sym, ap, ◌∙◌}
use Rattle.std.proofs.lemmas.Bool.{false≢true}
use Rattle.std.proofs.lemmas.Grind.{fold-append}
use Rattle.std.specs.List.{fold, list_any}
use Rattle.sounding_notes.specs.Laws.{IsStarted}
use Rattle.sounding_notes.specs.Sounding.{starts, ends, after_message}

module _ (channel note : ℕ) where
  abbrev after_all : Bool → List (List ℕ) → Bool
  after_all b ms = fold (after_message channel note) b ms

  -- it sounded before and was not ended, or it was started
  abbrev Sounded : Bool → List (List ℕ) → Type 0
  Sounded b ms = ((b ≡ true) × (list_any (ends channel note) ms ≡ false)) ⊎ IsStarted channel note ms

  later : (m : List ℕ) (ms : List (List ℕ)) → IsStarted channel note ms → IsStarted channel note (m ∷ ms)
  later m ms s = record {
    before = m ∷ s.before;
    start = s.start;
    after = s.after;
    whole = ap (λ xs. m ∷ xs) s.whole;
    started = s.started;
    not_ended = s.not_ended;
  }

  here : (b : Bool) (m : List ℕ) (ms : List (List ℕ)) (s e : Bool) → starts channel note m ≡ s → ends channel note m ≡ e → cond s true (cond e false b) ≡ true → list_any (ends channel note) ms ≡ false → Sounded b (m ∷ ms)
  here b m ms true e hs he h none = inr (record { before = []; start = m; after = ms; whole = refl; started = hs; not_ended = none })
  here b m ms false true hs he h none = absurd (false≢true h)
  here b m ms false false hs he h none = inl (h, ap (λ x. x || list_any (ends channel note) ms) he ∙ none)

  pub sounded : (b : Bool) (ms : List (List ℕ)) → after_all b ms ≡ true → Sounded b ms
  sounded b [] h = inl (h, refl)
  sounded b (m ∷ ms) h = go (sounded (after_message channel note b m) ms h)
    where
      go : Sounded (after_message channel note b m) ms → Sounded b (m ∷ ms)
      go (inl last) = here b m ms (starts channel note m) (ends channel note m) refl refl last.0 last.1
      go (inr s) = inr (later m ms s)

  -- what goes on sounding
  goes_on : (m : List ℕ) (s e : Bool) → e ≡ false → cond s true (cond e false true) ≡ true
  goes_on m true e h = refl
  goes_on m false e h = ap (λ x. cond x false true) h

  still : (ms : List (List ℕ)) → list_any (ends channel note) ms ≡ false → after_all true ms ≡ true
  still [] h = refl
  still (m ∷ ms) h = go (ends channel note m) refl h (still ms)
    where
      go : (e : Bool) → ends channel note m ≡ e → e || list_any (ends channel note) ms ≡ false → (list_any (ends channel note) ms ≡ false → after_all true ms ≡ true) → after_all true (m ∷ ms) ≡ true
      go true he n more = absurd (false≢true (sym n))
      go false he n more = ap (λ b. after_all b ms) (goes_on m (starts channel note m) (ends channel note m) he) ∙ more n

  pub starts_sounding : (b : Bool) (ms : List (List ℕ)) → IsStarted channel note ms → after_all b ms ≡ true
  starts_sounding b ms s =
      ap (after_all b) s.whole
      ∙ fold-append (after_message channel note) b s.before (s.start ∷ s.after)
      ∙ ap (λ x. after_all (cond x true (cond (ends channel note s.start) false (after_all b s.before))) s.after) s.started
      ∙ still s.after s.not_ended

  pub from_a_start : (ms : List (List ℕ)) → after_all false ms ≡ true → IsStarted channel note ms
  from_a_start ms h = go (sounded false ms h)
    where
      go : Sounded false ms → IsStarted channel note ms
      go (inl before) = absurd (false≢true before.0)
      go (inr s) = s
