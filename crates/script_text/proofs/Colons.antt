-- Words with a colon.
use Rattle.std.proofs.Common.{◌≡◌, ℕ, ◌+◌, ◌-◌, ◌≤◌, ◌<◌, Bool, true, false, List, [], ◌∷◌, length, take, drop, get_or, Some, None, refl, sym, ap, ◌∙◌, arith, add_assoc, inl, inr, ◌⊎◌}
use Rattle.std.specs.List.{slice_split, onto_first, position_or_len}
use Rattle.std.proofs.lemmas.Bool.{cases_lt}
use Rattle.std.proofs.lemmas.List.{drop_more, drop_all}
use Rattle.std.proofs.lemmas.List.Splits.{slice_split-cons_yes, slice_split-cons_no, slice_split_first}
use Rattle.script_text.specs.Words.{is_colon}
use Rattle.script_text.specs.Numbers.{parts, parts_of}
use Rattle.script_text.proofs.Places.{uncut}

two_parts : (c : List ℕ) (ps : List (List ℕ)) → parts_of (c ∷ [] ∷ ps) ≡ None
two_parts c [] = refl
two_parts c (p ∷ ps) = refl

three_parts : (c p q : List ℕ) (ps : List (List ℕ)) (letter : ℕ) → parts_of (c ∷ onto_first letter (p ∷ q ∷ ps)) ≡ None
three_parts c p q ps letter = refl

some_parts : (p : ℕ → Bool) (xs : List ℕ) → (q : List ℕ) × (qs : List (List ℕ)) × (slice_split p xs ≡ q ∷ qs)
some_parts p [] = ([], [], refl)
some_parts p (x ∷ xs) = go (p x) refl (some_parts p xs)
  where
    go : (t : Bool) → p x ≡ t → (q : List ℕ) × (qs : List (List ℕ)) × (slice_split p xs ≡ q ∷ qs) → (q : List ℕ) × (qs : List (List ℕ)) × (slice_split p (x ∷ xs) ≡ q ∷ qs)
    go true e more = ([], slice_split p xs, slice_split-cons_yes p x xs e)
    go false e more = (x ∷ more.0, more.1, slice_split-cons_no p x xs e ∙ ap (onto_first x) more.2)

-- less than a byte behind the colon, or no colon
pub parts_short : (w : List ℕ) (n : ℕ) → n ≡ position_or_len is_colon w → n ≤ length w → length w - n < 2 → parts w ≡ None
parts_short w n e l h = elim (cases_lt n (length w)) [
  | inl k ↦
      ap parts_of (slice_split_first is_colon w 0 (omega arith))
      ∙ ap (λ r. parts_of (take (position_or_len is_colon w) w ∷ slice_split is_colon r)) (drop_all (position_or_len is_colon w + 1) w (omega arith))
  | inr k ↦ ap parts_of (uncut is_colon w (omega arith))
]

-- the word from its colon on
behind : (w : List ℕ) (n : ℕ) → n + 2 ≤ length w → drop (n + 1) w ≡ get_or w (n + 1) 0 ∷ drop (n + 2) w
behind w n l = drop_more w (n + 1) 0 (omega arith) ∙ ap (λ k. get_or w (n + 1) 0 ∷ drop k w) (add_assoc n 1 1)

-- a second colon
pub parts_more : (w number : List ℕ) (n letter : ℕ) → n ≡ position_or_len is_colon w → 2 ≤ length w - n → letter ≡ get_or w (n + 1) 0 → number ≡ drop (n + 2) w → (letter ≡ 58) ⊎ (position_or_len is_colon number < length number) → parts w ≡ None
parts_more w number n letter e l f g h =
    ap parts_of (slice_split_first is_colon w 0 (omega arith))
    ∙ ap (λ k. parts_of (take k w ∷ slice_split is_colon (drop (k + 1) w))) (sym e)
    ∙ ap (λ r. parts_of (take n w ∷ slice_split is_colon r)) (behind w n (omega arith) ∙ ap (λ b. b ∷ drop (n + 2) w) (sym f) ∙ ap (λ r. letter ∷ r) (sym g))
    ∙ elim h [
      | inl s ↦ ap (λ b. parts_of (take n w ∷ slice_split is_colon (b ∷ number))) s ∙ two_parts (take n w) (slice_split is_colon number)
      | inr s ↦ second (is_colon letter) refl s
    ]
  where
    second : (t : Bool) → is_colon letter ≡ t → position_or_len is_colon number < length number → parts_of (take n w ∷ slice_split is_colon (letter ∷ number)) ≡ None
    second true i s = ap (λ ps. parts_of (take n w ∷ ps)) (slice_split-cons_yes is_colon letter number i) ∙ two_parts (take n w) (slice_split is_colon number)
    second false i s =
        let more = some_parts is_colon (drop (position_or_len is_colon number + 1) number) in
        ap (λ ps. parts_of (take n w ∷ ps)) (slice_split-cons_no is_colon letter number i)
        ∙ ap (λ ps. parts_of (take n w ∷ onto_first letter ps)) (slice_split_first is_colon number 0 s)
        ∙ ap (λ ps. parts_of (take n w ∷ onto_first letter (take (position_or_len is_colon number) number ∷ ps))) more.2
        ∙ three_parts (take n w) (take (position_or_len is_colon number) number) more.0 more.1 letter

-- one colon, and a byte behind it
pub parts_one : (w number client : List ℕ) (n letter : ℕ) → n ≡ position_or_len is_colon w → 2 ≤ length w - n → letter ≡ get_or w (n + 1) 0 → number ≡ drop (n + 2) w → client ≡ take n w → is_colon letter ≡ false → position_or_len is_colon number ≡ length number →
    Some (client, (letter, number)) ≡ parts w
parts_one w number client n letter e l f g c i s =
    ap (λ x. Some (x, (letter, number))) c
    ∙ sym (ap parts_of (slice_split_first is_colon w 0 (omega arith))
    ∙ ap (λ k. parts_of (take k w ∷ slice_split is_colon (drop (k + 1) w))) (sym e)
    ∙ ap (λ r. parts_of (take n w ∷ slice_split is_colon r)) (behind w n (omega arith) ∙ ap (λ b. b ∷ drop (n + 2) w) (sym f) ∙ ap (λ r. letter ∷ r) (sym g))
    ∙ ap (λ ps. parts_of (take n w ∷ ps)) (slice_split-cons_no is_colon letter number i ∙ ap (onto_first letter) (uncut is_colon number s)))
