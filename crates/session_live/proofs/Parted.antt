-- The lines of a text to which a part is added.
use Rattle.std.proofs.Common.{◌≡◌, ℕ, zero, suc, ◌+◌, Bool, true, false, cond, ◌<◌, List, [], ◌∷◌, ◌++◌, take, drop, length, Some, None, get_or, refl, ap, ◌∙◌, arith}
use Rattle.std.specs.List.{onto_first}
use Rattle.std.proofs.lemmas.Bool.{eqb-true, false_from_ne_true}
use Rattle.memchr.specs.Find.{IsFirstByte}
use Rattle.std.proofs.lemmas.List.Splits.{length-slice_split}
use Rattle.script_text.specs.Words.{lines, is_line_end}
use Rattle.session_live.specs.Lines.{all_but_last, last_of, whole_lines, open_line}
use Rattle.session_live.specs.Talk.{IsLineEnd}

-- with a part added to the last
abbrev onto_last : List (List ℕ) → List ℕ → List (List ℕ)
onto_last [] part = part ∷ []
onto_last (l ∷ []) part = (l ++ part) ∷ []
onto_last (l ∷ m ∷ ls) part = l ∷ onto_last (m ∷ ls) part

-- a list with a first
abbrev HasFirst : List (List ℕ) → Type 0
HasFirst ls = (l : List ℕ) × (ms : List (List ℕ)) × (ls ≡ l ∷ ms)

some_lines : (text : List ℕ) → HasFirst (lines text)
some_lines text = by _ (lines text) (length-slice_split is_line_end text)
  where
    by : (n : ℕ) (ls : List (List ℕ)) → length ls ≡ n + 1 → HasFirst ls
    by n [] h = absurd (omega arith)
    by n (l ∷ ls) h = (l, ls, refl)

-- ---- a part without a line feed

first_last : (b : ℕ) (ls : List (List ℕ)) (part : List ℕ) → HasFirst ls → onto_first b (onto_last ls part) ≡ onto_last (onto_first b ls) part
first_last b [] part h = cc
first_last b (l ∷ []) part h = refl
first_last b (l ∷ m ∷ ls) part h = refl

empty_last : (ls : List (List ℕ)) (part : List ℕ) → HasFirst ls → [] ∷ onto_last ls part ≡ onto_last ([] ∷ ls) part
empty_last [] part h = cc
empty_last (l ∷ ls) part h = refl

lines-kept : (text part : List ℕ) → lines part ≡ part ∷ [] → lines (text ++ part) ≡ onto_last (lines text) part
lines-kept [] part h = h
lines-kept (b ∷ text) part h = by (is_line_end b) (lines-kept text part h) (some_lines text)
  where
    by : (c : Bool) → lines (text ++ part) ≡ onto_last (lines text) part → HasFirst (lines text) →
        cond c ([] ∷ lines (text ++ part)) (onto_first b (lines (text ++ part))) ≡ onto_last (cond c ([] ∷ lines text) (onto_first b (lines text))) part
    by true e s = ap (λ ls. [] ∷ ls) e ∙ empty_last (lines text) part s
    by false e s = ap (onto_first b) e ∙ first_last b (lines text) part s

some_onto : (ls : List (List ℕ)) (part : List ℕ) → HasFirst (onto_last ls part)
some_onto [] part = (part, [], refl)
some_onto (l ∷ []) part = (l ++ part, [], refl)
some_onto (l ∷ m ∷ ls) part = (l, onto_last (m ∷ ls) part, refl)

more_front : (l : List ℕ) (ls : List (List ℕ)) → HasFirst ls → all_but_last (l ∷ ls) ≡ l ∷ all_but_last ls
more_front l [] h = cc
more_front l (m ∷ ls) h = refl

more_last : (l : List ℕ) (ls : List (List ℕ)) → HasFirst ls → last_of (l ∷ ls) ≡ last_of ls
more_last l [] h = cc
more_last l (m ∷ ls) h = refl

front-kept : (ls : List (List ℕ)) (part : List ℕ) → all_but_last (onto_last ls part) ≡ all_but_last ls
front-kept [] part = refl
front-kept (l ∷ []) part = refl
front-kept (l ∷ m ∷ ls) part = more_front l (onto_last (m ∷ ls) part) (some_onto (m ∷ ls) part) ∙ ap (λ x. l ∷ x) (front-kept (m ∷ ls) part)

last-kept : (ls : List (List ℕ)) (part : List ℕ) → last_of (onto_last ls part) ≡ last_of ls ++ part
last-kept [] part = refl
last-kept (l ∷ []) part = refl
last-kept (l ∷ m ∷ ls) part = more_last l (onto_last (m ∷ ls) part) (some_onto (m ∷ ls) part) ∙ last-kept (m ∷ ls) part

whole-onto : (ls : List (List ℕ)) (part : List ℕ) → onto_last ls part ≡ all_but_last ls ++ (last_of ls ++ part) ∷ []
whole-onto [] part = refl
whole-onto (l ∷ []) part = refl
whole-onto (l ∷ m ∷ ls) part = ap (λ x. l ∷ x) (whole-onto (m ∷ ls) part)

-- ---- a line feed

feed_last : (b : ℕ) (ls : List (List ℕ)) → HasFirst ls → onto_first b (ls ++ [] ∷ []) ≡ onto_first b ls ++ [] ∷ []
feed_last b [] h = cc
feed_last b (l ∷ ls) h = refl

lines-fed : (text : List ℕ) → lines (text ++ 10 ∷ []) ≡ lines text ++ [] ∷ []
lines-fed [] = refl
lines-fed (b ∷ text) = by (is_line_end b) (lines-fed text) (some_lines text)
  where
    by : (c : Bool) → lines (text ++ 10 ∷ []) ≡ lines text ++ [] ∷ [] → HasFirst (lines text) →
        cond c ([] ∷ lines (text ++ 10 ∷ [])) (onto_first b (lines (text ++ 10 ∷ []))) ≡ cond c ([] ∷ lines text) (onto_first b (lines text)) ++ [] ∷ []
    by true e s = ap (λ ls. [] ∷ ls) e
    by false e s = ap (onto_first b) e ∙ feed_last b (lines text) s

front-fed : (ls : List (List ℕ)) → all_but_last (ls ++ [] ∷ []) ≡ ls
front-fed [] = refl
front-fed (l ∷ ls) = more_front l (ls ++ [] ∷ []) (some_feed ls) ∙ ap (λ x. l ∷ x) (front-fed ls)
  where
    some_feed : (ms : List (List ℕ)) → HasFirst (ms ++ [] ∷ [])
    some_feed [] = ([], [], refl)
    some_feed (m ∷ ms) = (m, ms ++ [] ∷ [], refl)

last-fed : (ls : List (List ℕ)) → last_of (ls ++ [] ∷ []) ≡ []
last-fed [] = refl
last-fed (l ∷ []) = refl
last-fed (l ∷ m ∷ ls) = last-fed (m ∷ ls)

-- ---- the lines of a text

pub whole-kept : (text part : List ℕ) → lines part ≡ part ∷ [] → whole_lines (text ++ part) ≡ whole_lines text
whole-kept text part h = ap all_but_last (lines-kept text part h) ∙ front-kept (lines text) part

pub open-kept : (text part : List ℕ) → lines part ≡ part ∷ [] → open_line (text ++ part) ≡ open_line text ++ part
open-kept text part h = ap last_of (lines-kept text part h) ∙ last-kept (lines text) part

pub whole-fed : (text : List ℕ) → whole_lines (text ++ 10 ∷ []) ≡ whole_lines text ++ open_line text ∷ []
whole-fed text = ap all_but_last (lines-fed text) ∙ front-fed (lines text) ∙ by (lines text) (some_lines text)
  where
    by : (ls : List (List ℕ)) → HasFirst ls → ls ≡ all_but_last ls ++ last_of ls ∷ []
    by [] h = cc
    by (l ∷ []) h = refl
    by (l ∷ m ∷ ls) h = ap (λ x. l ∷ x) (by (m ∷ ls) (m, ls, refl))

pub open-fed : (text : List ℕ) → open_line (text ++ 10 ∷ []) ≡ []
open-fed text = ap last_of (lines-fed text) ∙ last-fed (lines text)

-- ---- the first line

cut_here : (text : List ℕ) (n : ℕ) → n < length text → ((k : ℕ) → k < n → is_line_end (get_or text k 0) ≡ false) → is_line_end (get_or text n 0) ≡ true → IsLineEnd text n
cut_here [] n l before here = absurd (omega arith)
cut_here (b ∷ text) zero l before here = record {
  within = l;
  line = refl;
  more = ap (λ c. cond c ([] ∷ lines text) (onto_first b (lines text))) here;
  whole = ap (λ c. c ∷ text) (eqb-true b 10 here);
}
cut_here (b ∷ text) (suc n) l before here =
    let rest = cut_here text n (omega arith) (λ k l. before (suc k) (omega arith)) here in
    let first : is_line_end b ≡ false = before 0 (omega arith) in
    record {
      within = l;
      line = ap (λ c. cond c ([] ∷ lines (take n text)) (onto_first b (lines (take n text)))) first ∙ ap (onto_first b) rest.line;
      more = ap (λ c. cond c ([] ∷ lines text) (onto_first b (lines text))) first ∙ ap (onto_first b) rest.more ∙ ap (λ k. (b ∷ take n text) ∷ lines (drop k (b ∷ text))) more_one;
      whole = ap (λ c. b ∷ c) rest.whole ∙ ap (λ k. b ∷ (take n text ++ 10 ∷ drop k (b ∷ text))) more_one;
    }
  where
    more_one : suc (n + 1) ≡ suc n + 1
    more_one = omega arith

uncut_here : (text : List ℕ) → ((k : ℕ) → k < length text → is_line_end (get_or text k 0) ≡ false) → lines text ≡ text ∷ []
uncut_here [] none = refl
uncut_here (b ∷ text) none =
    let first : is_line_end b ≡ false = none 0 (omega arith) in
    ap (λ c. cond c ([] ∷ lines text) (onto_first b (lines text))) first ∙ ap (onto_first b) (uncut_here text (λ k l. none (suc k) (omega arith)))

pub first-end : (text : List ℕ) (n : ℕ) → IsFirstByte is_line_end text (Some n) → IsLineEnd text n
first-end text n h = cut_here text n h.0.high (λ k l. false_from_ne_true (is_line_end (get_or text k 0)) (h.0.before k (omega arith) l)) h.1

pub no-end : (text : List ℕ) → IsFirstByte is_line_end text None → lines text ≡ text ∷ []
no-end text h = uncut_here text (λ k l. false_from_ne_true (is_line_end (get_or text k 0)) (h k (omega arith) l))

pub whole-first : (text : List ℕ) (n : ℕ) → IsLineEnd text n → whole_lines text ≡ take n text ∷ whole_lines (drop (n + 1) text)
whole-first text n h = ap all_but_last h.more ∙ more_front (take n text) (lines (drop (n + 1) text)) (some_lines (drop (n + 1) text))

pub whole-none : (text : List ℕ) → lines text ≡ text ∷ [] → whole_lines text ≡ []
whole-none text h = ap all_but_last h
