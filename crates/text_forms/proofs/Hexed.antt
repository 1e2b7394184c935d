-- Bytes in hexadecimal: their table, and many of them at a time.
use Rattle.std.proofs.Common.{◌≡◌, ◌≢◌, ◌<◌, ◌≤◌, ℕ, ◌+◌, ◌*◌, ◌/◌, ◌%◌, List, [], ◌∷◌, ◌++◌, length, get_or, set, take, ap, ◌∙◌, sym, append_assoc, length-append, arith}
use Rattle.std.proofs.Math.ListN.{length-set}
use Rattle.std.proofs.Math.Seq.{take-append-add}
use Rattle.std.proofs.lemmas.List.{length-take-le, take-take, take_more, take_more_set, get_or-set_other}
use Rattle.std.proofs.lemmas.List.Concat.{flat_map-append}
use Rattle.text_forms.specs.Hex.{digit, spaced_hex, in_hex}
use Rattle.text_forms.specs.declared.hex.TheConstants.{LINES}
use Rattle.text_forms.proofs.Lines.{AreFour, line_below}

pub LINES_at : (n : ℕ) → n < 256 → AreFour LINES.now n 32 (digit (n / 16)) (digit (n % 16)) 10
LINES_at n h = line_below LINES.now 32 (λ k. digit (k / 16)) (λ k. digit (k % 16)) 10 256 n tt h

-- ---- bytes that are spelled one by one

spaced_more : (xs : List ℕ) (i : ℕ) → i < length xs → spaced_hex (take (i + 1) xs) ≡ spaced_hex (take i xs) ++ spaced_hex (get_or xs i 0 ∷ [])
spaced_more xs i h = ap spaced_hex (take_more xs i 0 h) ∙ simp flat_map-append

module _ (d : List ℕ) (i s t : ℕ) (spaces : (k : ℕ) → 3 * k < length d → get_or d (3 * k) 0 ≡ 32) (room : 3 * i + 2 < length d) where
  abbrev one : List ℕ
  one = set d (3 * i + 1) s

  abbrev two : List ℕ
  two = set one (3 * i + 2) t

  same_length : length two ≡ length d
  same_length = length-set one (3 * i + 2) t ∙ length-set d (3 * i + 1) s

  pub spaces_stay : (k : ℕ) → 3 * k < length two → get_or two (3 * k) 0 ≡ 32
  spaces_stay k h =
      let first : 3 * k ≢ 3 * i + 1 = λ e. omega arith in
      let second : 3 * k ≢ 3 * i + 2 = λ e. omega arith in
      get_or-set_other one (3 * i + 2) (3 * k) t 0 second ∙ get_or-set_other d (3 * i + 1) (3 * k) s 0 first ∙ spaces k (omega (arith, same_length))

  three_more : take (3 * (i + 1)) two ≡ take (3 * i) d ++ 32 ∷ s ∷ t ∷ []
  three_more =
      let n : 3 * (i + 1) ≡ (3 * i + 2) + 1 = omega arith in
      let m : 3 * i + 2 ≡ (3 * i + 1) + 1 = omega arith in
      ap (λ k. take k two) n
      ∙ take_more_set one (3 * i + 2) t (omega (arith, length-set d (3 * i + 1) s))
      ∙ ap (λ k. take k one ++ t ∷ []) m
      ∙ ap (λ xs. xs ++ t ∷ []) (take_more_set d (3 * i + 1) s (omega arith))
      ∙ ap (λ xs. (xs ++ s ∷ []) ++ t ∷ []) (take_more d (3 * i) 0 (omega arith))
      ∙ ap (λ x. ((take (3 * i) d ++ x ∷ []) ++ s ∷ []) ++ t ∷ []) (spaces i (omega arith))
      ∙ simp append_assoc

  pub spelled_more : (xs : List ℕ) → i < length xs → s ∷ t ∷ [] ≡ in_hex (get_or xs i 0 ∷ []) → take (3 * i) d ≡ spaced_hex (take i xs) → take (3 * (i + 1)) two ≡ spaced_hex (take (i + 1) xs)
  spelled_more xs h e was = three_more ∙ ap (λ ys. ys ++ 32 ∷ s ∷ t ∷ []) was ∙ ap (λ ys. spaced_hex (take i xs) ++ 32 ∷ ys) e ∙ sym (spaced_more xs i h)

-- ---- bytes that are spelled group by group

-- a text with one more group is no longer than it will be with all bytes
pub one_more_group : (old text group left rest bytes : List ℕ) → left ≡ group ++ rest → text ++ spaced_hex left ≡ old ++ spaced_hex bytes
    → length text + length (spaced_hex group) ≤ length old + length (spaced_hex bytes)
one_more_group old text group left rest bytes split is =
    let parts : length (spaced_hex left) ≡ length (spaced_hex group) + length (spaced_hex rest) =
    ap (λ xs. length (spaced_hex xs)) split ∙ simp (flat_map-append, length-append) in
    let whole : length text + length (spaced_hex left) ≡ length old + length (spaced_hex bytes) =
    sym (length-append text (spaced_hex left)) ∙ ap length is ∙ length-append old (spaced_hex bytes) in
    omega (arith, parts, whole)

-- ---- bytes that are spelled over others, of which each covers the end of the line before it

pub spelled_over : (text new line front xs : List ℕ) (e i : ℕ) → i < length xs → e ≤ length text
    → take (e + length line) new ≡ take e text ++ line → line ≡ spaced_hex (get_or xs i 0 ∷ []) ++ 10 ∷ []
    → take e text ≡ front ++ spaced_hex (take i xs) → take (e + 3) new ≡ front ++ spaced_hex (take (i + 1) xs)
spelled_over text new line front xs e i more room written is was =
    sym (take-take (e + 3) (e + 4) new (omega arith))
    ∙ ap (take (e + 3)) (ap (λ k. take (e + k) new) (sym (ap length is)) ∙ written)
    ∙ ap (λ k. take (k + 3) (take e text ++ line)) (sym (length-take-le e text room))
    ∙ take-append-add (take e text) line 3
    ∙ ap (λ xs. take e text ++ take 3 xs) is
    ∙ ap (λ ys. ys ++ spaced_hex (get_or xs i 0 ∷ [])) was
    ∙ append_assoc front (spaced_hex (take i xs)) (spaced_hex (get_or xs i 0 ∷ []))
    ∙ ap (λ ys. front ++ ys) (sym (spaced_more xs i more))

-- a pair of digits
pub pair_is : (r : List ℕ) (b : ℕ) → r ≡ in_hex (b ∷ []) → get_or r 0 0 ∷ get_or r 1 0 ∷ [] ≡ in_hex (b ∷ [])
pair_is r b e = ap (λ (xs : List ℕ). get_or xs 0 0 ∷ get_or xs 1 0 ∷ []) e
