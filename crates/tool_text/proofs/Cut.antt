-- A list of bytes in pieces.
use Rattle.std.proofs.Common.{◌≡◌, ℕ, zero, suc, ◌*◌, ◌≤◌, List, [], ◌∷◌, ◌++◌, length, take, drop, refl, ap, ◌∙◌, arith, length-drop}
use Rattle.std.specs.List.{concat}
use Rattle.std.specs.Int.{div_ceil}
use Rattle.std.proofs.lemmas.List.{take-append-drop, length-take}
use Rattle.std.proofs.lemmas.Grind.{div_ceil_times}
use Rattle.tool_text.specs.Thru.{most_piece, first_pieces, pieces}

-- none is too long
abbrev pub AreShort : List (List ℕ) → Type 0
AreShort [] = Unit {0}
AreShort (piece ∷ more) = (length piece ≤ most_piece) × AreShort more

first-short : (n : ℕ) (bytes : List ℕ) → AreShort (first_pieces n bytes)
first-short zero bytes = tt
first-short (suc n) bytes = (omega (arith, length-take {A = ℕ} most_piece bytes), first-short n (drop most_piece bytes))

pub pieces-short : (bytes : List ℕ) → AreShort (pieces bytes)
pieces-short bytes = first-short (div_ceil (length bytes) most_piece) bytes

no-bytes : (bytes : List ℕ) → length bytes ≤ 0 → [] ≡ bytes
no-bytes [] h = refl
no-bytes (b ∷ bytes) h = absurd (omega arith)

first-whole : (n : ℕ) (bytes : List ℕ) → length bytes ≤ n * most_piece → concat (first_pieces n bytes) ≡ bytes
first-whole zero bytes h = no-bytes bytes (omega arith)
first-whole (suc n) bytes h =
    let left : length (drop most_piece bytes) ≤ n * most_piece = omega (arith, length-drop most_piece bytes) in
    ap (λ more. take most_piece bytes ++ more) (first-whole n (drop most_piece bytes) left) ∙ take-append-drop most_piece bytes

pub pieces-whole : (bytes : List ℕ) → concat (pieces bytes) ≡ bytes
pieces-whole bytes = first-whole (div_ceil (length bytes) most_piece) bytes (div_ceil_times (length bytes) most_piece (omega arith)).0
