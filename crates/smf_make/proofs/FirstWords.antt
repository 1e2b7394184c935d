-- The first word of a line, and what stands behind it.
use Rattle.std.proofs.Common.{◌≡◌, ℕ, zero, suc, ◌+◌, ◌≤◌, ◌<◌, Bool, true, false, not, cond, List, [], ◌∷◌, length, take, drop, refl, sym, ap, ◌∙◌, arith}
use Rattle.std.specs.Prelude.{◌==◌, if◌then◌else◌, Option, Some, None, IfNone, is_some}
use Rattle.std.specs.Option.{option_map}
use Rattle.std.specs.List.{list_all, position_or_len, prefix_len}
use Rattle.std.proofs.lemmas.Bool.{ne_eqb}
use Rattle.std.proofs.lemmas.Bool.Decides.{nat_tests}
use Rattle.seq_state.proofs.Lists.{both_left}
use Rattle.script_text.specs.Numbers.{is_digit}
use Rattle.script_text.specs.Table.{no_more}
use Rattle.script_text.specs.Words.{is_blank, words}
use Rattle.script_text.proofs.Places.{one-more}
use Rattle.script_text.proofs.Cut.{words-blanks, after-blanks, words-word}
use Rattle.smf_make.specs.SaidEvents.{unindented, from_blank, behind_word}

pub unindented-drop : (line : List ℕ) → unindented line ≡ drop (prefix_len is_blank line) line
unindented-drop [] = refl
unindented-drop (b ∷ bytes) = go (is_blank b) (unindented-drop bytes)
  where
    go : (t : Bool) → unindented bytes ≡ drop (prefix_len is_blank bytes) bytes → (if t then unindented bytes else (b ∷ bytes)) ≡ drop (cond t (1 + prefix_len is_blank bytes) 0) (b ∷ bytes)
    go true h = h ∙ ap (λ n. drop n (b ∷ bytes)) (sym (one-more (prefix_len is_blank bytes)))
    go false h = refl

pub from_blank-drop : (text : List ℕ) → from_blank text ≡ drop (position_or_len is_blank text) text
from_blank-drop [] = refl
from_blank-drop (b ∷ bytes) = go (is_blank b) (from_blank-drop bytes)
  where
    go : (t : Bool) → from_blank bytes ≡ drop (position_or_len is_blank bytes) bytes → (if t then (b ∷ bytes) else from_blank bytes) ≡ drop (cond (not t) (1 + position_or_len is_blank bytes) 0) (b ∷ bytes)
    go true h = refl
    go false h = h ∙ ap (λ n. drop n (b ∷ bytes)) (sym (one-more (position_or_len is_blank bytes)))

-- a word has a byte
pub some-word : (line text : List ℕ) (n : ℕ) → text ≡ unindented line → (length text ≡ 0 → ⊥) → n ≡ position_or_len is_blank text → 0 < n
some-word line [] n e some f = absurd (some refl)
some-word line (c ∷ rest) n e some f =
    let word : is_blank c ≡ false = after-blanks line c rest (sym (unindented-drop line) ∙ sym e) in
    let one : position_or_len is_blank (c ∷ rest) ≡ 1 + position_or_len is_blank rest = ap (λ t. cond (not t) (1 + position_or_len is_blank rest) 0) word in
    omega arith

-- what stands behind digits with which a line begins
pub behind-digits : (line : List ℕ) (n : ℕ) → n ≡ position_or_len is_blank line → 1 ≤ n → list_all is_digit (take n line) ≡ true → drop n line ≡ behind_word line
behind-digits [] n e some digits = ap (λ (k : ℕ). drop k []) e
behind-digits (b ∷ bytes) zero e some digits = absurd (omega arith)
behind-digits (b ∷ bytes) (suc n) e some digits =
    let digit : is_digit b ≡ true = both_left (is_digit b) (list_all is_digit (take n bytes)) digits in
    let word : is_blank b ≡ false = grind (arith, nat_tests) in
    ap (λ (k : ℕ). drop k (b ∷ bytes)) e
    ∙ sym (from_blank-drop (b ∷ bytes))
    ∙ sym (ap (λ (t : Bool). from_blank (if t then unindented bytes else b ∷ bytes)) word)

words-unindented : (text : List ℕ) → words text ≡ words (unindented text)
words-unindented text = words-blanks text ∙ ap words (sym (unindented-drop text))

-- a text has no words where nothing stands behind its blanks
pub none-said : (text left : List ℕ) → left ≡ unindented text → (length left == 0) ≡ no_more (words text)
none-said text [] e = sym (ap no_more (words-unindented text ∙ ap words (sym e)))
none-said text (c ∷ rest) e =
    let word : is_blank c ≡ false = after-blanks text c rest (sym (unindented-drop text) ∙ sym e) in
    ne_eqb (length (c ∷ rest)) 0 (λ h. omega arith)
    ∙ sym (ap no_more (words-unindented text ∙ ap words (sym e) ∙ words-word (c ∷ rest) c rest refl word))

-- what the first word says, and the words behind it
pub said-first : (o : Option ℕ) (n : ℕ) (ws more : List (List ℕ)) → option_map {U = ℕ × List (List ℕ)} (λ x. (x, ws)) o ≡ Some (n, more) → (o ≡ Some n) × (ws ≡ more)
said-first None n ws more e = cc
said-first (Some x) n ws more e =
    let value : Some x ≡ Some n = ap (λ (o : Option (ℕ × List (List ℕ))). option_map (λ p. p.0) o) e in
    let behind : Some ws ≡ Some more = ap (λ (o : Option (ℕ × List (List ℕ))). option_map (λ p. p.1) o) e in
    (value, cc)

-- what holds where nothing was found
pub none-left : {X : Type 0} (o : Option X) (P : Type 0) → IfNone o P → is_some o ≡ false → P
none-left None P h e = h
none-left (Some x) P h e = let bad : ⊥ = cc in absurd bad

pub where-none : {X : Type 0} (o : Option X) (P : Type 0) → P → IfNone o P
where-none None P h = h
where-none (Some x) P h = tt
