-- What one more byte does to the places and to the blocks.
use Rattle.std.proofs.Common.{◌≡◌, ℕ, ◌+◌, Bool, true, false, List, [], ◌∷◌, ◌++◌, length, refl, sym, ap, ◌∙◌, arith, append_assoc, add-zero}
use Rattle.std.specs.Prelude.{if◌then◌else◌}
use Rattle.midi_wire.specs.Messages.{is_status, is_real_time}
use Rattle.midi_wire.specs.Readings.{Placed, Block, PlacedMessage, placed_from, without_real_times, real_time, real_times, data_front, blocks}
use Rattle.midi_wire.specs.Messages.{begins}

abbrev pub placed : ℕ → ℕ → Placed
placed n b = record { place = n; byte = b }

pub placed_from-snoc : (n : ℕ) (s : List ℕ) (b : ℕ) → placed_from n (s ++ b ∷ []) ≡ placed_from n s ++ placed (n + length s) b ∷ []
placed_from-snoc n [] b = ap (λ (k : ℕ). placed k b ∷ []) (sym (add-zero n))
placed_from-snoc n (c ∷ s) b = let e : (n + 1) + length s ≡ n + length (c ∷ s) = omega arith in ap (λ (xs : List Placed). placed n c ∷ xs) (placed_from-snoc (n + 1) s b ∙ ap (λ (k : ℕ). placed_from (n + 1) s ++ placed k b ∷ []) e)

pub real_times-append : (xs ys : List Placed) → real_times (xs ++ ys) ≡ real_times xs ++ real_times ys
real_times-append [] ys = refl
real_times-append (x ∷ xs) ys = ap (λ (ts : List PlacedMessage). real_time (begins x.byte) x ++ ts) (real_times-append xs ys) ∙ sym (append_assoc (real_time (begins x.byte) x) (real_times xs) (real_times ys))

pub without-append : (xs ys : List Placed) → without_real_times (xs ++ ys) ≡ without_real_times xs ++ without_real_times ys
without-append [] ys = refl
without-append (x ∷ xs) ys =
    go (is_real_time x.byte) (without-append xs ys)
  where
    go : (t : Bool) → without_real_times (xs ++ ys) ≡ without_real_times xs ++ without_real_times ys → (if t then without_real_times (xs ++ ys) else (x ∷ without_real_times (xs ++ ys))) ≡ (if t then without_real_times xs else (x ∷ without_real_times xs)) ++ without_real_times ys
    go true ih = ih
    go false ih = ap (λ (zs : List Placed). x ∷ zs) ih

abbrev pub block_of : Placed → List Placed → Block
block_of x ds = record { status = x; bytes = ds }

-- the blocks after one more byte
abbrev pub add : List Block → Placed → List Block
add [] x = if is_status x.byte then (block_of x [] ∷ []) else []
add (b ∷ []) x = if is_status x.byte then (b ∷ block_of x [] ∷ []) else (block_of b.status (b.bytes ++ x ∷ []) ∷ [])
add (b ∷ c ∷ bs) x = b ∷ add (c ∷ bs) x

-- the data bytes before the first status, after one more byte
abbrev front_after : List Block → List Placed → Placed → List Placed
front_after [] ds x = if is_status x.byte then ds else (ds ++ x ∷ [])
front_after (c ∷ cs) ds x = ds

front_after-cons : (bs : List Block) (y : Placed) (ds : List Placed) (x : Placed) → y ∷ front_after bs ds x ≡ front_after bs (y ∷ ds) x
front_after-cons [] y ds x =
    go (is_status x.byte)
  where
    go : (t : Bool) → y ∷ (if t then ds else (ds ++ x ∷ [])) ≡ (if t then (y ∷ ds) else (y ∷ ds ++ x ∷ []))
    go true = refl
    go false = refl
front_after-cons (c ∷ cs) y ds x = refl

data_front-snoc : (xs : List Placed) (x : Placed) → data_front (xs ++ x ∷ []) ≡ front_after (blocks xs) (data_front xs) x
data_front-snoc [] x = refl
data_front-snoc (y ∷ xs) x =
    go (is_status y.byte) (data_front-snoc xs x)
  where
    go : (t : Bool) → data_front (xs ++ x ∷ []) ≡ front_after (blocks xs) (data_front xs) x → (if t then [] else (y ∷ data_front (xs ++ x ∷ []))) ≡ front_after (if t then (block_of y (data_front xs) ∷ blocks xs) else blocks xs) (if t then [] else (y ∷ data_front xs)) x
    go true ih = refl
    go false ih = ap (λ (zs : List Placed). y ∷ zs) ih ∙ front_after-cons (blocks xs) y (data_front xs) x

add-cons : (bs : List Block) (y : Placed) (ds : List Placed) (x : Placed) → block_of y (front_after bs ds x) ∷ add bs x ≡ add (block_of y ds ∷ bs) x
add-cons [] y ds x =
    go (is_status x.byte)
  where
    go : (t : Bool) → block_of y (if t then ds else (ds ++ x ∷ [])) ∷ (if t then (block_of x [] ∷ []) else []) ≡ (if t then (block_of y ds ∷ block_of x [] ∷ []) else (block_of y (ds ++ x ∷ []) ∷ []))
    go true = refl
    go false = refl
add-cons (c ∷ cs) y ds x = refl

pub blocks-snoc : (xs : List Placed) (x : Placed) → blocks (xs ++ x ∷ []) ≡ add (blocks xs) x
blocks-snoc [] x = refl
blocks-snoc (y ∷ xs) x =
    go (is_status y.byte) (blocks-snoc xs x)
  where
    go : (t : Bool) → blocks (xs ++ x ∷ []) ≡ add (blocks xs) x → (if t then (block_of y (data_front (xs ++ x ∷ [])) ∷ blocks (xs ++ x ∷ [])) else blocks (xs ++ x ∷ [])) ≡ add (if t then (block_of y (data_front xs) ∷ blocks xs) else blocks xs) x
    go true ih = ap (λ (ds : List Placed). block_of y ds ∷ blocks (xs ++ x ∷ [])) (data_front-snoc xs x) ∙ ap (λ (bs : List Block). block_of y (front_after (blocks xs) (data_front xs) x) ∷ bs) ih ∙ add-cons (blocks xs) y (data_front xs) x
    go false ih = ih
