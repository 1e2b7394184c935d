-- Texts of whole lines: the lines of one and of what follows it.
use Rattle.std.proofs.Common.{◌≡◌, ◌<◌, ℕ, Bool, true, false, List, [], ◌∷◌, ◌++◌, length, refl, ap, ◌∙◌, sym, arith, append_assoc, append-nil, length-append}
use Rattle.std.specs.List.{slice_split, onto_first, flat_map}
use Rattle.std.proofs.lemmas.List.Splits.{slice_split-cons_yes, slice_split-cons_no}
use Rattle.std.proofs.lemmas.List.Concat.{flat_map-append}
use Rattle.std.proofs.lemmas.Bool.{eqb-true}
use Rattle.log_forms.specs.declared.form.LogForm.{LogForm}
use Rattle.log_forms.specs.declared.form.LogForm.TheVariants.{Text, Json, Csv}
use Rattle.log_forms.specs.Csv.{csv_listed}
use Rattle.log_forms.specs.Forms.{log_in, listing_in, json_line, csv_line}
use Rattle.log_forms.specs.Json.{json_listed}
use Rattle.log_forms.specs.Laws.{is_whole}
use Rattle.log_forms.specs.Lines.{is_line_feed, without_empty_last, lines}
use Rattle.log_forms.proofs.Cut.{some_parts, without_empty_last-cons}

onto_first-append : (x : ℕ) (ps qs : List (List ℕ)) → 0 < length ps → onto_first x (ps ++ qs) ≡ onto_first x ps ++ qs
onto_first-append x [] qs h = absurd (omega arith)
onto_first-append x (p ∷ ps) qs h = refl

-- what stands before a separator and behind it is cut alone
pub slice_split-append : (p : ℕ → Bool) (xs : List ℕ) (y : ℕ) (ys : List ℕ) → p y ≡ true → slice_split p (xs ++ y ∷ ys) ≡ slice_split p xs ++ slice_split p ys
slice_split-append p [] y ys e = slice_split-cons_yes p y ys e
slice_split-append p (x ∷ xs) y ys e = go (p x) refl (slice_split-append p xs y ys e)
  where
    go : (t : Bool) → p x ≡ t → slice_split p (xs ++ y ∷ ys) ≡ slice_split p xs ++ slice_split p ys → slice_split p (x ∷ xs ++ y ∷ ys) ≡ slice_split p (x ∷ xs) ++ slice_split p ys
    go true h more =
        slice_split-cons_yes p x (xs ++ y ∷ ys) h ∙ ap (λ ps. [] ∷ ps) more
        ∙ ap (λ ps. ps ++ slice_split p ys) (sym (slice_split-cons_yes p x xs h))
    go false h more =
        slice_split-cons_no p x (xs ++ y ∷ ys) h ∙ ap (onto_first x) more
        ∙ onto_first-append x (slice_split p xs) (slice_split p ys) (some_parts p xs)
        ∙ ap (λ ps. ps ++ slice_split p ys) (sym (slice_split-cons_no p x xs h))

without_empty_last-append : (ps qs : List (List ℕ)) → 0 < length qs → without_empty_last (ps ++ qs) ≡ ps ++ without_empty_last qs
without_empty_last-append [] qs h = refl
without_empty_last-append (p ∷ ps) qs h =
    let some : 0 < length (ps ++ qs) = omega (arith, length-append ps qs) in
    without_empty_last-cons p (ps ++ qs) some ∙ ap (λ rs. p ∷ rs) (without_empty_last-append ps qs h)

-- the lines up to a line feed, and those behind it
lines_cut : (a b : List ℕ) → lines (a ++ 10 ∷ b) ≡ slice_split is_line_feed a ++ lines b
lines_cut a b =
    ap without_empty_last (slice_split-append is_line_feed a 10 b refl)
    ∙ without_empty_last-append (slice_split is_line_feed a) (slice_split is_line_feed b) (some_parts is_line_feed b)

pub lines-line_feed : (a : List ℕ) → lines (a ++ 10 ∷ []) ≡ slice_split is_line_feed a
lines-line_feed a = lines_cut a [] ∙ append-nil (slice_split is_line_feed a)

pub lines-append : (a b : List ℕ) → lines ((a ++ 10 ∷ []) ++ b) ≡ lines (a ++ 10 ∷ []) ++ lines b
lines-append a b =
    ap lines (append_assoc a (10 ∷ []) b) ∙ lines_cut a b
    ∙ ap (λ ls. ls ++ lines b) (sym (lines-line_feed a))

-- ---- whole lines

-- a text of whole lines is nothing, or ends with a line feed
whole_ends : (b : ℕ) (bytes : List ℕ) → is_whole (b ∷ bytes) ≡ true → (a : List ℕ) × (b ∷ bytes ≡ a ++ 10 ∷ [])
whole_ends b [] e = ([], ap (λ x. x ∷ []) (eqb-true b 10 e))
whole_ends b (d ∷ bytes) e =
    let more = whole_ends d bytes e in
    (b ∷ more.0, ap (λ xs. b ∷ xs) more.1)

pub is_whole-line_feed : (a : List ℕ) → is_whole (a ++ 10 ∷ []) ≡ true
is_whole-line_feed [] = refl
is_whole-line_feed (b ∷ []) = refl
is_whole-line_feed (b ∷ d ∷ a) = is_whole-line_feed (d ∷ a)

pub lines-whole : (a b : List ℕ) → is_whole a ≡ true → lines (a ++ b) ≡ lines a ++ lines b
lines-whole [] b e = refl
lines-whole (x ∷ a) b e =
    let ends = whole_ends x a e in
    ap (λ xs. lines (xs ++ b)) ends.1 ∙ lines-append ends.0 b ∙ ap (λ xs. lines xs ++ lines b) (sym ends.1)

-- what is written for the lines of a text, and for those behind it
each_line : (f : List ℕ → List ℕ) (a b : List ℕ) → is_whole a ≡ true → flat_map f (lines (a ++ b)) ≡ flat_map f (lines a) ++ flat_map f (lines b)
each_line f a b e = ap (flat_map f) (lines-whole a b e) ∙ flat_map-append f (lines a) (lines b)

pub log_in-append : (form : LogForm) (client : ℕ) (a b : List ℕ) → is_whole a ≡ true → log_in form client (a ++ b) ≡ log_in form client a ++ log_in form client b
log_in-append Text client a b e = refl
log_in-append Json client a b e = each_line (json_line client) a b e
log_in-append Csv client a b e = each_line (csv_line client) a b e

pub listing_in-append : (form : LogForm) (a b : List ℕ) → is_whole a ≡ true → listing_in form (a ++ b) ≡ listing_in form a ++ listing_in form b
listing_in-append Text a b e = refl
listing_in-append Json a b e = each_line json_listed a b e
listing_in-append Csv a b e = each_line csv_listed a b e

-- a line, and what follows it
pub log_in-line : (form : LogForm) (client : ℕ) (a b : List ℕ) → log_in form client ((a ++ 10 ∷ []) ++ b) ≡ log_in form client (a ++ 10 ∷ []) ++ log_in form client b
log_in-line form client a b = log_in-append form client (a ++ 10 ∷ []) b (is_whole-line_feed a)
