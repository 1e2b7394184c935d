-- Lists in order.
use Rattle.std.proofs.Common.{◌≡◌, ℕ, zero, suc, ◌+◌, ◌<◌, List, [], ◌∷◌, map, length, get_or, refl, arith}
use Rattle.std.specs.Prelude.{IsSorted}
use Rattle.std.specs.declared.cmp.Ordering.{Ordering}
use Rattle.std.proofs.lemmas.List.{length-map}

get_mapped : {X Y : Type 0} (f : X → Y) (xs : List X) (k : ℕ) (d : Y) (x : X) → k < length xs → get_or (map f xs) k d ≡ f (get_or xs k x)
get_mapped f [] k d x h = absurd (omega arith)
get_mapped f (y ∷ xs) zero d x h = refl
get_mapped f (y ∷ xs) (suc k) d x h = get_mapped f xs k d x (omega arith)

-- elements that are in order by a key have their keys in order
pub sorted-map : {X Y : Type 0} (f : X → Y) (cmp : Y → Y → Ordering) (xs : List X) → IsSorted (λ a b. cmp (f a) (f b)) xs → IsSorted cmp (map f xs)
sorted-map f cmp [] h = λ k d low high. absurd (omega arith)
sorted-map f cmp (x ∷ xs) h = λ k d low high.
    let same : length (map f (x ∷ xs)) ≡ length (x ∷ xs) = length-map (x ∷ xs) f in
    let later : k + 1 < length (x ∷ xs) = omega (arith, same, high) in
    let here : k < length (x ∷ xs) = omega arith in
    rw (get_mapped f (x ∷ xs) (k + 1) d x later, get_mapped f (x ∷ xs) k d x here) (h k x low later)
