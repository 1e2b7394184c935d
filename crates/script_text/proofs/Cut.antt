-- Words at the front of a line.
use Rattle.std.proofs.Common.{◌≡◌, ℕ, ◌+◌, ◌≤◌, Bool, true, false, not, cond, ltb, List, [], ◌∷◌, length, take, drop, get_or, Some, None, refl, sym, ap, ◌∙◌, arith}
use Rattle.std.specs.Prelude.{nat_le}
use Rattle.std.specs.List.{filter, slice_split, onto_first, position, position_or_len, prefix_len}
use Rattle.std.proofs.lemmas.Bool.{ltb-false}
use Rattle.std.proofs.lemmas.Bool.Decides.{nat_tests}
use Rattle.std.proofs.lemmas.List.Splits.{slice_split-cons_yes, slice_split-cons_no, length-slice_split}
use Rattle.std.proofs.lemmas.List.Sums.{length-filter, count_by-le-length}
use Rattle.script_text.specs.Words.{is_blank, is_empty, words}
use Rattle.script_text.proofs.Places.{one-more}

abbrev parts : List ℕ → List (List ℕ)
parts bytes = slice_split is_blank bytes

some_words : List (List ℕ) → List (List ℕ)
some_words ps = filter (λ w. not (is_empty w)) ps

-- blanks at the front part nothing
pub words-blanks : (bytes : List ℕ) → words bytes ≡ words (drop (prefix_len is_blank bytes) bytes)
words-blanks [] = refl
words-blanks (b ∷ bytes) = go (is_blank b) refl (words-blanks bytes)
  where
    go : (t : Bool) → is_blank b ≡ t → words bytes ≡ words (drop (prefix_len is_blank bytes) bytes) → words (b ∷ bytes) ≡ words (drop (cond t (1 + prefix_len is_blank bytes) 0) (b ∷ bytes))
    go true e more = ap (filter (λ w. not (is_empty w))) (slice_split-cons_yes is_blank b bytes e) ∙ more ∙ ap (λ n. words (drop n (b ∷ bytes))) (sym (one-more (prefix_len is_blank bytes)))
    go false e more = refl

-- what stands after the blanks begins with none
pub after-blanks : (bytes : List ℕ) (c : ℕ) (rest : List ℕ) → drop (prefix_len is_blank bytes) bytes ≡ c ∷ rest → is_blank c ≡ false
after-blanks [] c rest e = cc
after-blanks (b ∷ bytes) c rest e = go (is_blank b) refl e (after-blanks bytes c rest)
  where
    go : (t : Bool) → is_blank b ≡ t → drop (cond t (1 + prefix_len is_blank bytes) 0) (b ∷ bytes) ≡ c ∷ rest → (drop (prefix_len is_blank bytes) bytes ≡ c ∷ rest → is_blank c ≡ false) → is_blank c ≡ false
    go true h e more = more (ap (λ n. drop n (b ∷ bytes)) (sym (one-more (prefix_len is_blank bytes))) ∙ e)
    go false h e more = let same : b ≡ c = cc in ap is_blank (sym same) ∙ h

-- the parts of a line that begins with a word
parts-front : (bytes : List ℕ) → (ps : List (List ℕ)) × (parts bytes ≡ take (position_or_len is_blank bytes) bytes ∷ ps) × (some_words ps ≡ words (drop (position_or_len is_blank bytes) bytes))
unfolding some_words
parts-front [] = ([], refl, refl)
parts-front (b ∷ bytes) = go (is_blank b) refl (parts-front bytes)
  where
    go : (t : Bool) → is_blank b ≡ t →
        (ps : List (List ℕ)) × (parts bytes ≡ take (position_or_len is_blank bytes) bytes ∷ ps) × (some_words ps ≡ words (drop (position_or_len is_blank bytes) bytes)) →
        (ps : List (List ℕ)) × (parts (b ∷ bytes) ≡ take (cond (not t) (1 + position_or_len is_blank bytes) 0) (b ∷ bytes) ∷ ps) × (some_words ps ≡ words (drop (cond (not t) (1 + position_or_len is_blank bytes) 0) (b ∷ bytes)))
    go true e more = (parts bytes, slice_split-cons_yes is_blank b bytes e, sym (ap (filter (λ w. not (is_empty w))) (slice_split-cons_yes is_blank b bytes e)))
    go false e more = (
      more.0,
      slice_split-cons_no is_blank b bytes e ∙ ap (onto_first b) more.1 ∙ ap (λ n. take n (b ∷ bytes) ∷ more.0) (sym (one-more (position_or_len is_blank bytes))),
      more.2 ∙ ap (λ n. words (drop n (b ∷ bytes))) (sym (one-more (position_or_len is_blank bytes))),
    )

-- a line that begins with no blank begins with a word
pub words-word : (bytes : List ℕ) (c : ℕ) (rest : List ℕ) → bytes ≡ c ∷ rest → is_blank c ≡ false → words bytes ≡ take (position_or_len is_blank bytes) bytes ∷ words (drop (position_or_len is_blank bytes) bytes)
unfolding some_words
words-word [] c rest e h = cc
words-word (b ∷ bytes) c rest e h =
    let ps = parts-front (b ∷ bytes) in
    let same : b ≡ c = cc in
    ap (filter (λ w. not (is_empty w))) ps.1
    ∙ ap (λ t. cond (not (is_empty (take (cond (not t) (1 + position_or_len is_blank bytes) 0) (b ∷ bytes)))) (take (position_or_len is_blank (b ∷ bytes)) (b ∷ bytes) ∷ some_words ps.0) (some_words ps.0)) (ap is_blank same ∙ h)
    ∙ ap (λ n. cond (not (is_empty (take n (b ∷ bytes)))) (take (position_or_len is_blank (b ∷ bytes)) (b ∷ bytes) ∷ some_words ps.0) (some_words ps.0)) (one-more (position_or_len is_blank bytes))
    ∙ ap (λ ws. take (position_or_len is_blank (b ∷ bytes)) (b ∷ bytes) ∷ ws) ps.2

-- ---- how many words

pub words-few : (bytes : List ℕ) → length (words bytes) ≤ length bytes + 1
words-few bytes =
    let parts_few : length (parts bytes) ≤ length bytes + 1 = omega (arith, length-slice_split is_blank bytes, count_by-le-length is_blank bytes) in
    let words_fewer : length (words bytes) ≤ length (parts bytes) = omega (arith, length-filter (λ w. not (is_empty w)) (parts bytes), count_by-le-length (λ w. not (is_empty w)) (parts bytes)) in
    omega arith

-- ---- the next word of a cursor

pub no_word : (bytes line : List ℕ) → line ≡ drop (prefix_len is_blank bytes) bytes → length line ≡ 0 → words bytes ≡ []
no_word bytes [] e h = words-blanks bytes ∙ ap words (sym e)
no_word bytes (c ∷ line) e h = absurd (omega arith)

pub next_word : (bytes line word rest : List ℕ) (n : ℕ) → line ≡ drop (prefix_len is_blank bytes) bytes → (length line ≡ 0 → ⊥) → n ≡ position_or_len is_blank line → word ≡ take n line → rest ≡ drop n line → words bytes ≡ word ∷ words rest
next_word bytes [] word rest n e some f g h = absurd (some refl)
next_word bytes (c ∷ line) word rest n e some f g h =
    words-blanks bytes ∙ ap words (sym e)
    ∙ words-word (c ∷ line) c line refl (after-blanks bytes c line (sym e))
    ∙ ap (λ k. take k (c ∷ line) ∷ words (drop k (c ∷ line))) (sym f)
    ∙ ap (λ w. w ∷ words (drop n (c ∷ line))) (sym g)
    ∙ ap (λ r. word ∷ words r) (sym h)

-- ---- the first byte that is not above the blanks

above : (b : ℕ) → nat_le b 32 ≡ false → is_blank b ≡ false
above b e = grind (arith, nat_tests)

low_first : (bytes : List ℕ) → is_blank (get_or bytes (position_or_len (λ b. nat_le b 32) bytes) 0) ≡ true → position_or_len (λ b. nat_le b 32) bytes ≡ position_or_len is_blank bytes
low_first [] h = refl
low_first (b ∷ bytes) h = go (nat_le b 32) refl h (low_first bytes)
  where
    go : (t : Bool) → nat_le b 32 ≡ t → is_blank (get_or (b ∷ bytes) (cond (not t) (1 + position_or_len (λ b. nat_le b 32) bytes) 0) 0) ≡ true →
        (is_blank (get_or bytes (position_or_len (λ b. nat_le b 32) bytes) 0) ≡ true → position_or_len (λ b. nat_le b 32) bytes ≡ position_or_len is_blank bytes) →
        cond (not t) (1 + position_or_len (λ b. nat_le b 32) bytes) 0 ≡ position_or_len is_blank (b ∷ bytes)
    go true e h more = sym (ap (λ t. cond (not t) (1 + position_or_len is_blank bytes) 0) h)
    go false e h more =
        let next : is_blank (get_or bytes (position_or_len (λ b. nat_le b 32) bytes) 0) ≡ true = ap (λ n. is_blank (get_or (b ∷ bytes) n 0)) (sym (one-more (position_or_len (λ b. nat_le b 32) bytes))) ∙ h in
        ap (λ n. 1 + n) (more next) ∙ sym (ap (λ t. cond (not t) (1 + position_or_len is_blank bytes) 0) (above b e))

none_low : (bytes : List ℕ) → length bytes ≤ position_or_len (λ b. nat_le b 32) bytes → length bytes ≡ position_or_len is_blank bytes
none_low [] h = refl
none_low (b ∷ bytes) h = go (nat_le b 32) refl h (none_low bytes)
  where
    go : (t : Bool) → nat_le b 32 ≡ t → length (b ∷ bytes) ≤ cond (not t) (1 + position_or_len (λ b. nat_le b 32) bytes) 0 → (length bytes ≤ position_or_len (λ b. nat_le b 32) bytes → length bytes ≡ position_or_len is_blank bytes) → length (b ∷ bytes) ≡ position_or_len is_blank (b ∷ bytes)
    go true e h more = absurd (omega arith)
    go false e h more =
        let rest : length bytes ≡ position_or_len is_blank bytes = more (omega arith) in
        sym (one-more (length bytes)) ∙ ap (λ n. 1 + n) rest ∙ sym (ap (λ t. cond (not t) (1 + position_or_len is_blank bytes) 0) (above b e))

pub low_place : (bytes : List ℕ) (n : ℕ) → Some n ≡ position (λ b. nat_le b 32) bytes → is_blank (get_or bytes n 0) ≡ true → n ≡ position_or_len is_blank bytes
low_place bytes n e h =
    let same : n ≡ position_or_len (λ b. nat_le b 32) bytes = go (ltb (position_or_len (λ b. nat_le b 32) bytes) (length bytes)) e in
    same ∙ low_first bytes (ap (λ k. is_blank (get_or bytes k 0)) (sym same) ∙ h)
  where
    go : (t : Bool) → Some n ≡ cond t (Some (position_or_len (λ b. nat_le b 32) bytes)) None → n ≡ position_or_len (λ b. nat_le b 32) bytes
    go true e = cc
    go false e = cc

pub no_low : (bytes : List ℕ) → None ≡ position (λ b. nat_le b 32) bytes → length bytes ≡ position_or_len is_blank bytes
no_low bytes e = none_low bytes (go (ltb (position_or_len (λ b. nat_le b 32) bytes) (length bytes)) refl e)
  where
    go : (t : Bool) → ltb (position_or_len (λ b. nat_le b 32) bytes) (length bytes) ≡ t → None ≡ cond t (Some (position_or_len (λ b. nat_le b 32) bytes)) None → length bytes ≤ position_or_len (λ b. nat_le b 32) bytes
    go true l e = cc
    go false l e = ltb-false (position_or_len (λ b. nat_le b 32) bytes) (length bytes) l
