-- The first word of a text, and the first line.
use Rattle.std.proofs.Common.{◌≡◌, ℕ, ◌+◌, ◌≤◌, ◌<◌, List, [], ◌∷◌, length, take, drop, refl, sym, ap, ◌∙◌, arith, eqb, Bool, true, false, not, Option, Some, None, Bor}
use Rattle.std.specs.List.{slice_split, position_or_len}
use Rattle.std.specs.Option.{is_none, is_some}
use Rattle.std.proofs.lemmas.List.{take_all, drop_all}
use Rattle.std.proofs.lemmas.List.Splits.{slice_split_first, length-slice_split}
use Rattle.log_forms.specs.Lines.{is_line_feed, without_empty_last, lines, is_space, words, is_none_left}
use Rattle.log_forms.specs.Kept.{words_left}
use Rattle.log_forms.proofs.Places.{uncut}

-- the first part, and what follows it
pub first_part : (p : ℕ → Bool) (text part next : List ℕ) (n : ℕ) → n ≡ position_or_len p text → n < length text → part ≡ take n text → next ≡ drop (n + 1) text → slice_split p text ≡ part ∷ slice_split p next
first_part p text part next n e l f g =
    slice_split_first p text 0 (omega arith)
    ∙ ap (λ k. take k text ∷ slice_split p (drop (k + 1) text)) (sym e)
    ∙ ap (λ x. take n text ∷ slice_split p x) (sym g)
    ∙ ap (λ x. x ∷ slice_split p next) (sym f)

-- the last part
pub last_part : (p : ℕ → Bool) (text part : List ℕ) (n : ℕ) → n ≡ position_or_len p text → n ≤ length text → length text ≤ n → part ≡ take n text → slice_split p text ≡ part ∷ []
last_part p text part n e k l f =
    uncut p text (omega arith)
    ∙ ap (λ x. x ∷ []) (sym (take_all n text l))
    ∙ ap (λ x. x ∷ []) (sym f)

-- ---- lines

pub some_parts : (p : ℕ → Bool) (text : List ℕ) → 0 < length (slice_split p text)
some_parts p text = omega (arith, length-slice_split p text)

pub without_empty_last-cons : (x : List ℕ) (ps : List (List ℕ)) → 0 < length ps → without_empty_last (x ∷ ps) ≡ x ∷ without_empty_last ps
without_empty_last-cons x [] h = absurd (omega arith)
without_empty_last-cons x (y ∷ ps) h = refl

pub first_line : (text line next : List ℕ) (n : ℕ) → n ≡ position_or_len is_line_feed text → n < length text → line ≡ take n text → next ≡ drop (n + 1) text → lines text ≡ line ∷ lines next
first_line text line next n e l f g =
    ap without_empty_last (first_part is_line_feed text line next n e l f g)
    ∙ without_empty_last-cons line (slice_split is_line_feed next) (some_parts is_line_feed next)

some_line : (text line : List ℕ) → 0 < length text → line ≡ text → without_empty_last (line ∷ []) ≡ line ∷ []
some_line [] line h e = absurd (omega arith)
some_line (b ∷ text) line h e = ap (λ l. without_empty_last (l ∷ [])) e ∙ ap (λ l. l ∷ []) (sym e)

pub last_line : (text line next : List ℕ) (n : ℕ) → n ≡ position_or_len is_line_feed text → 0 < length text → n ≤ length text → length text ≤ n → line ≡ take n text → next ≡ drop n text → lines text ≡ line ∷ lines next
last_line text line next n e some k l f g =
    let whole : line ≡ text = f ∙ take_all n text l in
    let none : next ≡ [] = g ∙ drop_all n text l in
    ap without_empty_last (last_part is_line_feed text line n e k l f)
    ∙ some_line text line some whole
    ∙ ap (λ x. line ∷ lines x) (sym none)

-- ---- whether a word is left

pub none_left : (rest : Option (Bor (List ℕ))) → is_none rest ≡ is_none_left (words_left rest)
none_left None = refl
none_left (Some text) = some_left (words text.now) (some_parts is_space text.now)
  where
    some_left : (ws : List (List ℕ)) → 0 < length ws → false ≡ is_none_left ws
    some_left [] h = absurd (omega arith)
    some_left (w ∷ ws) h = refl

pub is_none-left : (rest : Option (Bor (List ℕ))) (b : Bool) → is_some rest ≡ not b → b ≡ is_none_left (words_left rest)
is_none-left None true e = refl
is_none-left None false e = absurd cc
is_none-left (Some text) true e = absurd cc
is_none-left (Some text) false e = none_left (Some text)

pub not_empty : (text : List ℕ) → eqb (length text) 0 ≡ false → 0 < length text
not_empty [] e = absurd cc
not_empty (b ∷ text) e = omega arith
