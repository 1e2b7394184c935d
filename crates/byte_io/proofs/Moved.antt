-- Lemmas on bytes that go from a device, or to one.
use Rattle.std.proofs.Common.{◌≡◌, ◌<◌, ◌≤◌, ◌+◌, ◌-◌, ◌++◌, ◌∙◌, ℕ, zero, suc, Bool, true, false, List, [], ◌⊎◌, inl, inr, length, take, drop, sym, ap, subst, append_assoc, append-nil, length-drop, length-append, refl, arith}
use Rattle.std.proofs.lemmas.List.{length-take, length-take-le, take-append-le, take-append-drop, take_all, drop-drop}
use Rattle.std.proofs.Math.Seq.{take-append_seam, take-length, take-add}
use Rattle.byte_io.specs.Moved.{Gave, GaveAll, GaveSome, Took, TookPart}

-- a slice from a place to the end, as the code's range gives it
pub from_place : (b : List ℕ) (at : ℕ) → take (length b - at) (drop at b) ≡ drop at b
from_place b at = ap (λ k. take k (drop at b)) (sym (length-drop at b)) ∙ take-length (drop at b)

-- a first part that is copied before other bytes is found there again
moved_all : (u ys : List ℕ) (n : ℕ) → n ≤ length u → u ≡ take n (take n u ++ ys) ++ drop n u
moved_all u ys n h =
    let same : take n (take n u ++ ys) ≡ take n u = ap (λ k. take k (take n u ++ ys)) (sym (length-take-le n u h)) ∙ take-append_seam (take n u) ys in
    rw same (sym (take-append-drop n u))

-- what was copied to the front of a buffer, and what is left after it, make the whole
pub moved : (items r copy ys : List ℕ) (at n : ℕ) → r ≡ items → n ≤ length (drop at items) → copy ≡ take n (take (length r - at) (drop at r)) → drop at items ≡ take n (copy ++ ys) ++ drop (at + n) items
moved items r copy ys at n same h e =
    let copied : copy ≡ take n (drop at items) = e ∙ ap (take n) (from_place r at) ∙ ap (λ (x : List ℕ). take n (drop at x)) same in
    rw (copied, ← drop-drop n at items) (moved_all (drop at items) ys n h)

pub read_few : (items xs : List ℕ) (n most : ℕ) → length items + n ≤ most → length (items ++ take n xs) ≤ most
read_few items xs n most h =
    let all : length (items ++ take n xs) ≡ length items + length (take n xs) = length-append items (take n xs) in
    let few : length (take n xs) ≤ n = omega (arith, length-take n xs) in
    omega arith

-- no byte at all
nothing_of : (b : List ℕ) (n : ℕ) → n ≡ 0 → take n b ≡ []
nothing_of b zero z = refl
nothing_of b (suc n) z = absurd (omega arith)

-- ---- sources

module _ {R : Type 0} (HasLeft : R → List ℕ → Type 0) where
  -- before the first read
  pub gave_none : (s : R) (items : List ℕ) → items ≡ [] → Gave HasLeft s items s
  gave_none s items none = subst (λ (xs : List ℕ). Gave HasLeft s xs s) (sym none) (λ rest h. h)

  pub gave_more : (s t u : R) (a b : List ℕ) → Gave HasLeft s a t → Gave HasLeft t b u → Gave HasLeft s (a ++ b) u
  gave_more s t u a b first then = λ rest h. subst (HasLeft s) (sym (append_assoc a b rest)) (first (b ++ rest) (then rest h))

  -- what was read so far, and what one more read gave to a part of a buffer
  pub read_more : (s t u : R) (items items' buffer rest : List ℕ) (n : ℕ) → Gave HasLeft s items t → Gave HasLeft t (take n buffer) u → n ≤ length buffer → items' ≡ items ++ take n (buffer ++ rest) → Gave HasLeft s items' u
  read_more s t u items items' buffer rest n before gave h more =
      let same : items ++ take n buffer ≡ items' = ap (λ (x : List ℕ). items ++ x) (sym (take-append-le n buffer rest h)) ∙ sym more in
      subst (λ (xs : List ℕ). Gave HasLeft s xs u) same (gave_more s t u items (take n buffer) before gave)

  -- a read that gave nothing
  pub read_nothing : (s t u : R) (items buffer : List ℕ) (n : ℕ) → Gave HasLeft s items t → Gave HasLeft t (take n buffer) u → n ≡ 0 → Gave HasLeft s items u
  read_nothing s t u items buffer n before gave z =
      let same : items ++ take n buffer ≡ items = ap (λ (x : List ℕ). items ++ x) (nothing_of buffer n z) ∙ append-nil items in
      subst (λ (xs : List ℕ). Gave HasLeft s xs u) same (gave_more s t u items (take n buffer) before gave)

  -- so of a read that failed
  pub read_failed : (s t u : R) (items : List ℕ) → Gave HasLeft s items t → Gave HasLeft t [] u → Gave HasLeft s items u
  read_failed s t u items before gave = subst (λ (xs : List ℕ). Gave HasLeft s xs u) (append-nil items) (gave_more s t u items [] before gave)

  -- where as many were read as were asked for
  pub all_read : (most : ℕ) (s t u : R) (items : List ℕ) → u ≡ t → Gave HasLeft s items t → length items ≡ most → GaveAll HasLeft most s items u
  all_read most s t u items same gave full = record { gave = subst (λ (x : R). Gave HasLeft s items x) (sym same) gave; within = omega arith; ended = inr full }

  -- where nothing was left
  pub end_read : (most : ℕ) (s t v u : R) (items buffer : List ℕ) (n : ℕ) → u ≡ v → Gave HasLeft s items t → Gave HasLeft t (take n buffer) v → n ≡ 0 → HasLeft v [] → length items ≤ most → GaveAll HasLeft most s items u
  end_read most s t v u items buffer n same before gave z none few = record {
    within = few;
    gave = subst (λ (x : R). Gave HasLeft s items x) (sym same) (read_nothing s t v items buffer n before gave z);
    ended = inl (subst (λ (x : R). HasLeft x []) (sym same) none);
  }

  pub gave_some : (most : ℕ) (s u : R) (items : List ℕ) → Gave HasLeft s items u → length items ≤ most → GaveSome HasLeft most s u
  gave_some most s u items gave few = record { given = items; gave = gave; within = few }

-- ---- sinks

module _ {W : Type 0} (HasTaken : W → List ℕ → Type 0) where
  pub took_none : (s : W) → Took HasTaken s [] s
  took_none s = λ before h. subst (HasTaken s) (sym (append-nil before)) h

  pub took_more : (s t u : W) (a b : List ℕ) → Took HasTaken s a t → Took HasTaken t b u → Took HasTaken s (a ++ b) u
  took_more s t u a b first then = λ before h. subst (HasTaken u) (append_assoc before a b) (then (before ++ a) (first before h))

  -- what was written so far, and what one more write took
  pub written_more : (s t u : W) (b : List ℕ) (at n : ℕ) → Took HasTaken s (take at b) t → Took HasTaken t (take n (take (length b - at) (drop at b))) u → Took HasTaken s (take (at + n) b) u
  written_more s t u b at n before took =
      let same : take at b ++ take n (take (length b - at) (drop at b)) ≡ take (at + n) b = rw (from_place b at, ← take-add at n b) refl in
      subst (λ (xs : List ℕ). Took HasTaken s xs u) same (took_more s t u _ _ before took)

  -- all bytes were written before a place at the end
  pub written_all : (s t : W) (b : List ℕ) (at : ℕ) → Took HasTaken s (take at b) t → length b ≤ at → Took HasTaken s b t
  written_all s t b at took l = subst (λ (xs : List ℕ). Took HasTaken s xs t) (take_all at b l) took

  -- where a write before the end takes nothing, some bytes are missing
  pub written_part : (s t u : W) (b more : List ℕ) (at : ℕ) → Took HasTaken s (take at b) t → Took HasTaken t more u → more ≡ [] → at < length b → TookPart HasTaken s b u
  written_part s t u b more at before took none l =
      let left : length (drop at b) ≡ length b - at = length-drop at b in
      let same : take at b ++ more ≡ take at b = ap (λ (x : List ℕ). take at b ++ x) none ∙ append-nil (take at b) in
      record {
        gained = take at b;
        missing = drop at b;
        took = subst (λ (xs : List ℕ). Took HasTaken s xs u) same (took_more s t u _ _ before took);
        split = sym (take-append-drop at b);
        short = omega arith;
      }

  pub written_stuck : (s t u : W) (b more : List ℕ) (at n : ℕ) → Took HasTaken s (take at b) t → Took HasTaken t (take n more) u → n ≡ 0 → at < length b → TookPart HasTaken s b u
  written_stuck s t u b more at n before took z l = written_part s t u b (take n more) at before took (nothing_of more n z) l

-- a device that took none of some bytes is none that takes at least one
pub not_eager : (now old : Bool) (b : List ℕ) (at n : ℕ) → now ≡ old → (now ≡ true → 0 < length (take (length b - at) (drop at b)) → 0 < n) → at < length b → n ≡ 0 → old ≡ false
not_eager now true b at n e some l z =
    let left : length (take (length b - at) (drop at b)) ≡ length b - at = ap length (from_place b at) ∙ length-drop at b in
    let more : 0 < n = some e (omega arith) in absurd (omega arith)
not_eager now false b at n e some l z = refl
