-- Sums over lists, item by item, and over the entries of a front.
use Rattle.std.proofs.Common.{◌≡◌, ℕ, ◌+◌, ◌*◌, ◌<◌, List, [], ◌∷◌, ◌++◌, length, take, get_or, set, refl, sym, ap, ◌∙◌, arith}
use Rattle.std.specs.Prelude.{sum_by}
use Rattle.std.proofs.lemmas.List.{take_more}
use Rattle.std.proofs.lemmas.List.Sums.{sum_by-cons, sum_by_push, sum_by-set}
use Rattle.node_table.specs.declared.number.Addr.{Addr}
use Rattle.seq_sending.specs.declared.front.Entry.{Entry}
use Rattle.seq_sending.specs.Counts.{ways_in}

pub sum_by-more : {X : Type 0} (f : X → ℕ) (xs : List X) (i : ℕ) (x : X) → i < length xs → x ≡ get_or xs i x → sum_by f (take (i + 1) xs) ≡ sum_by f (take i xs) + f x
sum_by-more f xs i x l e = ap (sum_by f) (take_more xs i x l ∙ ap (λ y. take i xs ++ y ∷ []) (sym e)) ∙ sum_by_push f (take i xs) x

pub sum_by-none : {X : Type 0} (f : X → ℕ) → ((x : X) → f x ≡ 0) → (xs : List X) → sum_by f xs ≡ 0
sum_by-none f none [] = refl
sum_by-none f none (x ∷ xs) = omega (arith, sum_by-cons f x xs, none x, sum_by-none f none xs)

pub times : (ways a b c : ℕ) → c ≡ a + b → ways * c ≡ ways * a + ways * b
times ways a b c e = ap (λ k. ways * k) e ∙ go
  where
    go : ways * (a + b) ≡ ways * a + ways * b
    go = omega arith

-- ---- entries

module _ {M : Type 0} (bytes : M → List ℕ) (f : Addr → List ℕ → ℕ) where
  more-ways : (a b n : ℕ) → (a + b) * n ≡ a * n + b * n
  more-ways a b n = omega arith

  pub ways-push : (entries : List (Entry M)) (x : Entry M) (m : List ℕ) → bytes x.message ≡ m → ways_in bytes f (entries ++ x ∷ []) ≡ ways_in bytes f entries + x.ways * f x.node m
  ways-push entries x m e =
      sum_by_push (λ (x : Entry M). x.ways * f x.node (bytes x.message)) entries x ∙ ap (λ k. ways_in bytes f entries + x.ways * f x.node k) e

  pub ways-there : (entries : List (Entry M)) (i : ℕ) (x y : Entry M) (node : Addr) (m : List ℕ) (ways : ℕ) → i < length entries → x ≡ get_or entries i x → y ≡ record x { ways = x.ways + ways } →
      x.node ≡ node → bytes x.message ≡ m → ways_in bytes f (set entries i y) ≡ ways_in bytes f entries + ways * f node m
  ways-there entries i x y node m ways l at e n b =
      let one : Entry M → ℕ = λ x. x.ways * f x.node (bytes x.message) in
      let was : one (get_or entries i x) ≡ one x = ap one (sym at) in
      let h : one y ≡ (x.ways + ways) * f x.node (bytes x.message) = ap one e in
      let k : ways * f x.node (bytes x.message) ≡ ways * f node m = ap (λ a. ways * f a (bytes x.message)) n ∙ ap (λ j. ways * f node j) b in
      omega (arith, sum_by-set one entries i y x l, was, h, k, more-ways x.ways ways (f x.node (bytes x.message)))
