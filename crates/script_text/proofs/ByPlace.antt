-- Rows of the table by their place.
use Rattle.std.proofs.Common.{◌≡◌, ℕ, zero, suc, ◌+◌, ◌≤◌, Bool, true, false, not, cond, List, [], ◌∷◌, length, Option, Some, None, refl, sym, ap, ◌∙◌, arith}
use Rattle.std.specs.List.{position_or_len}
use Rattle.std.specs.Str.{bytes_eq}
use Rattle.seq_state.specs.declared.input.Command.{Command}
use Rattle.script_text.specs.declared.command.TheConstants.{KEYWORDS}
use Rattle.script_text.specs.Numbers.{any}
use Rattle.script_text.specs.Table.{CommandForm, Reads, word_as, table, by_word, command}

-- what a row says
abbrev pub says_at : List CommandForm → ℕ → Reads Command
says_at [] k words = None
says_at (r ∷ rows) zero words = r.says words
says_at (r ∷ rows) (suc k) words = says_at rows k words

place : List CommandForm → List ℕ → ℕ
place rows word = position_or_len (λ r. bytes_eq r.word word) rows

by_place : (rows : List CommandForm) (word : List ℕ) (words : List (List ℕ)) → by_word rows word words ≡ says_at rows (place rows word) words
unfolding place
by_place [] word words = refl
by_place (r ∷ rows) word words = go (bytes_eq r.word word) (by_place rows word words)
  where
    go : (b : Bool) → by_word rows word words ≡ says_at rows (position_or_len (λ r. bytes_eq r.word word) rows) words →
        cond b (r.says words) (by_word rows word words) ≡ says_at (r ∷ rows) (cond (not b) (1 + position_or_len (λ r. bytes_eq r.word word) rows) 0) words
    go true more = refl
    go false more = more ∙ ap (λ k. says_at (r ∷ rows) k words) (one_more (position_or_len (λ r. bytes_eq r.word word) rows))
      where
        one_more : (n : ℕ) → suc n ≡ 1 + n
        one_more n = omega arith

says_past : (rows : List CommandForm) (k : ℕ) (words : List (List ℕ)) → length rows ≤ k → says_at rows k words ≡ None
says_past [] k words l = refl
says_past (r ∷ rows) zero words l = absurd (omega arith)
says_past (r ∷ rows) (suc k) words l = says_past rows k words (omega arith)

all_taken : Option (List ℕ × List (List ℕ)) → List (List ℕ)
all_taken None = []
all_taken (Some p) = p.0 ∷ p.1

word_as-any : (old rest : List (List ℕ)) (w : List ℕ) → word_as any old ≡ Some (w, rest) → old ≡ w ∷ rest
unfolding all_taken
word_as-any [] rest w e = ap all_taken e
word_as-any (x ∷ xs) rest w e = ap all_taken e

same_place : (names : List (List ℕ)) (w : List ℕ) → position_or_len (λ k. bytes_eq k.now w) KEYWORDS ≡ place (table names) w
unfolding place
same_place names w = refl

pub at_row : (names old : List (List ℕ)) (w : List ℕ) (rest : List (List ℕ)) (k i : ℕ) → word_as any old ≡ Some (w, rest) → k ≡ position_or_len (λ k. bytes_eq k.now w) KEYWORDS → k ≡ i → command names old ≡ says_at (table names) i rest
at_row names old w rest k i e f g =
    ap (command names) (word_as-any old rest w e) ∙ by_place (table names) w rest ∙ ap (λ n. says_at (table names) n rest) (sym (same_place names w) ∙ sym f ∙ g)

pub past_rows : (names old : List (List ℕ)) (w : List ℕ) (rest : List (List ℕ)) (k : ℕ) → word_as any old ≡ Some (w, rest) → k ≡ position_or_len (λ k. bytes_eq k.now w) KEYWORDS → 27 ≤ k → command names old ≡ None
past_rows names old w rest k e f l = at_row names old w rest k k e f refl ∙ says_past (table names) k rest l
