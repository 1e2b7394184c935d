-- Filters of lists.
use Rattle.std.proofs.Common.{◌≡◌, ℕ, ◌≤◌, Bool, List, [], ◌∷◌, map, take, length, refl, ap, ◌∙◌, arith}
use Rattle.std.specs.List.{filter}
use Rattle.std.proofs.Math.Seq.{take-length}

pub filter-map : {X Y : Type 0} (p : Y → Bool) (f : X → Y) (xs : List X) → filter p (map f xs) ≡ map f (filter (λ x. p (f x)) xs)
filter-map p f [] = refl
filter-map p f (x ∷ xs) = grind (arith, filter-map p f xs)

pub take-all : {X : Type 0} (i : ℕ) (xs : List X) → i ≤ length xs → length xs ≤ i → take i xs ≡ xs
take-all i xs l g = ap (λ n. take n xs) (let e : i ≡ length xs = omega arith in e) ∙ take-length xs
