-- Heads of which no two are of one track: in order of track they stand in one way.
use Rattle.std.proofs.Common.{◌≡◌, ◌≤◌, ℕ, suc, ◌+◌, Bool, true, false, cond, List, [], ◌∷◌, ◌++◌, ◌∙◌, length, refl, arith, ap, sym}
use Rattle.std.specs.Prelude.{Option, Some, None, IfSome, ◌==◌, count_by, sum_by}
use Rattle.std.specs.List.{filter}
use Rattle.std.specs.List.Sorted.{IsPermutation}
use Rattle.std.specs.Option.{option_to_list}
use Rattle.std.proofs.lemmas.List.Sorted.{sum_by-IsPermutation}
use Rattle.std.proofs.lemmas.List.Sums.{sum_by-cons, length-filter}
use Rattle.smf_grammar.specs.Contents.{in_order}
use Rattle.smf_files.specs.declared.heads.TrackHead.{TrackHead}
use Rattle.smf_files.specs.Playing.{AreApart}
use Rattle.smf_files.proofs.Sorting.{one-order, order-rises, order-same}

abbrev track : TrackHead → ℕ
track h = h.track

abbrev one : ℕ → TrackHead → ℕ
one t h = cond (h.track == t) 1 0

count-cons : (t : ℕ) (h : TrackHead) (hs : List TrackHead) → count_by (λ k. k.track == t) (h ∷ hs) ≡ one t h + count_by (λ k. k.track == t) hs
count-cons t h hs = sum_by-cons (one t) h hs

pub apart-rest : (h : TrackHead) (hs : List TrackHead) → AreApart (h ∷ hs) → AreApart hs
apart-rest h hs a t =
    let sum : count_by (λ k. k.track == t) (h ∷ hs) ≡ one t h + count_by (λ k. k.track == t) hs = count-cons t h hs in
    let most : count_by (λ k. k.track == t) (h ∷ hs) ≤ 1 = a t in
    omega arith

-- the next head of a track in the place of the one before
pub apart-next : (top : TrackHead) (next : Option TrackHead) (rest : List TrackHead) → AreApart (top ∷ rest) → IfSome next (λ h. h.track ≡ top.track) → AreApart (option_to_list next ++ rest)
apart-next top None rest a e = apart-rest top rest a
apart-next top (Some h) rest a e = λ t.
    let old : count_by (λ k. k.track == t) (top ∷ rest) ≡ one t top + count_by (λ k. k.track == t) rest = count-cons t top rest in
    let new : count_by (λ k. k.track == t) (h ∷ rest) ≡ one t h + count_by (λ k. k.track == t) rest = count-cons t h rest in
    let same : one t h ≡ one t top = ap (λ (i : ℕ). cond (i == t) 1 0) e in
    let most : count_by (λ k. k.track == t) (top ∷ rest) ≤ 1 = a t in
    omega arith

pub apart-moved : (xs ys : List TrackHead) → IsPermutation xs ys → AreApart xs → AreApart ys
apart-moved xs ys p a t =
    let same : count_by (λ k. k.track == t) ys ≡ count_by (λ k. k.track == t) xs = sum_by-IsPermutation (one t) xs ys p in
    let most : count_by (λ k. k.track == t) xs ≤ 1 = a t in
    omega arith

-- ---- one head at most is its sums

sum-filter : (p : TrackHead → Bool) (f : TrackHead → ℕ) (hs : List TrackHead) → sum_by f (filter p hs) ≡ sum_by (λ h. cond (p h) (f h) 0) hs
sum-filter p f [] = refl
sum-filter p f (h ∷ hs) =
    go (p h) refl (sum-filter p f hs)
  where
    go : (t : Bool) → p h ≡ t → sum_by f (filter p hs) ≡ sum_by (λ h. cond (p h) (f h) 0) hs → sum_by f (cond (p h) (h ∷ filter p hs) (filter p hs)) ≡ sum_by (λ h. cond (p h) (f h) 0) (h ∷ hs)
    go true is again =
        ap (λ (t : Bool). sum_by f (cond t (h ∷ filter p hs) (filter p hs))) is ∙ sum_by-cons f h (filter p hs) ∙ ap (λ (n : ℕ). f h + n) again
        ∙ ap (λ (t : Bool). cond t (f h) 0 + sum_by (λ h. cond (p h) (f h) 0) hs) (sym is) ∙ sym (sum_by-cons (λ h. cond (p h) (f h) 0) h hs)
    go false is again =
        ap (λ (t : Bool). sum_by f (cond t (h ∷ filter p hs) (filter p hs))) is ∙ again ∙ (let none : sum_by (λ h. cond (p h) (f h) 0) hs ≡ 0 + sum_by (λ h. cond (p h) (f h) 0) hs = omega arith in none)
        ∙ ap (λ (t : Bool). cond t (f h) 0 + sum_by (λ h. cond (p h) (f h) 0) hs) (sym is) ∙ sym (sum_by-cons (λ h. cond (p h) (f h) 0) h hs)

code : Option ℕ → ℕ
code None = 0
code (Some n) = suc n

code-apart : (a b : Option ℕ) → code a ≡ code b → a ≡ b
unfolding code
code-apart None None e = refl
code-apart None (Some n) e = absurd (omega arith)
code-apart (Some n) None e = absurd (omega arith)
code-apart (Some n) (Some m) e = let same : n ≡ m = omega arith in ap Some same

head : ℕ → ℕ → ℕ → Option ℕ → TrackHead
head tick left track running = record { tick = tick; left = left; track = track; running = running }

same-head : (a b : TrackHead) → ((f : TrackHead → ℕ) → f b ≡ f a) → b ≡ a
unfolding head
same-head a b h =
    ap (λ (n : ℕ). head n b.left b.track b.running) (h (λ k. k.tick))
    ∙ ap (λ (n : ℕ). head a.tick n b.track b.running) (h (λ k. k.left))
    ∙ ap (λ (n : ℕ). head a.tick a.left n b.running) (h (λ k. k.track))
    ∙ ap (λ (o : Option ℕ). head a.tick a.left a.track o) (code-apart b.running a.running (h (λ k. code k.running)))

sum-single : (f : TrackHead → ℕ) (h : TrackHead) → sum_by f (h ∷ []) ≡ f h
sum-single f h = let e : sum_by f (h ∷ []) ≡ f h + sum_by f [] = sum_by-cons f h [] in let z : sum_by f [] ≡ 0 = refl in omega arith

single : (xs ys : List TrackHead) → length xs ≤ 1 → length ys ≤ 1 → ((f : TrackHead → ℕ) → sum_by f ys ≡ sum_by f xs) → ys ≡ xs
single [] [] h k e = refl
single [] (y ∷ ys) h k e =
    let bad : sum_by {X = TrackHead} (λ _. 1) (y ∷ ys) ≡ sum_by {X = TrackHead} (λ _. 1) [] = e (λ _. 1) in
    let more : sum_by {X = TrackHead} (λ _. 1) (y ∷ ys) ≡ 1 + sum_by {X = TrackHead} (λ _. 1) ys = sum_by-cons (λ _. 1) y ys in
    let z : sum_by {X = TrackHead} (λ _. 1) [] ≡ 0 = refl in
    absurd (omega arith)
single (x ∷ xs) [] h k e =
    let bad : sum_by {X = TrackHead} (λ _. 1) [] ≡ sum_by {X = TrackHead} (λ _. 1) (x ∷ xs) = e (λ _. 1) in
    let more : sum_by {X = TrackHead} (λ _. 1) (x ∷ xs) ≡ 1 + sum_by {X = TrackHead} (λ _. 1) xs = sum_by-cons (λ _. 1) x xs in
    let z : sum_by {X = TrackHead} (λ _. 1) [] ≡ 0 = refl in
    absurd (omega arith)
single (x ∷ []) (y ∷ []) h k e = ap (λ (z : TrackHead). z ∷ []) (same-head x y (λ f. sym (sum-single f y) ∙ e f ∙ sum-single f x))
single (x ∷ x' ∷ xs) ys h k e = absurd (omega arith)
single (x ∷ []) (y ∷ y' ∷ ys) h k e = absurd (omega arith)

-- a list in another order is the same by track
pub sorted-alike : (xs ys : List TrackHead) → IsPermutation xs ys → AreApart xs → in_order track ys ≡ in_order track xs
sorted-alike xs ys p a =
    one-order track (in_order track ys) (in_order track xs) (order-rises track ys) (order-rises track xs)
    (λ z. order-same track z ys ∙ alike z.track ∙ sym (order-same track z xs))
  where
    few : (t : ℕ) (hs : List TrackHead) → AreApart hs → length (filter (λ h. h.track == t) hs) ≤ 1
    few t hs b =
        let count : length (filter (λ h. h.track == t) hs) ≡ count_by (λ h. h.track == t) hs = length-filter (λ h. h.track == t) hs in
        let most : count_by (λ h. h.track == t) hs ≤ 1 = b t in
        omega arith

    alike : (t : ℕ) → filter (λ h. h.track == t) ys ≡ filter (λ h. h.track == t) xs
    alike t =
        single (filter (λ h. h.track == t) xs) (filter (λ h. h.track == t) ys) (few t xs a) (few t ys (apart-moved xs ys p a))
        (λ f. sum-filter (λ h. h.track == t) f ys ∙ sum_by-IsPermutation (λ h. cond (h.track == t) (f h) 0) xs ys p ∙ sym (sum-filter (λ h. h.track == t) f xs))
