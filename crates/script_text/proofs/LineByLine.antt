-- A script read line by line.
use Rattle.std.proofs.Common.{◌≡◌, ℕ, ◌+◌, ◌≤◌, ◌<◌, Bor, map, List, [], ◌∷◌, ◌++◌, length, take, drop, sym, ap, ◌∙◌, arith, add_assoc, append_assoc, append-nil}
use Rattle.std.specs.List.{position_or_len}
use Rattle.std.proofs.lemmas.List.Splits.{slice_split_first}
use Rattle.std.proofs.lemmas.List.{map-append}
use Rattle.seq_state.specs.declared.input.Command.{Command}
use Rattle.script_text.specs.declared.line.Fate.{Fate}
use Rattle.script_text.specs.declared.line.Fate.TheVariants.{PassedOver, Skipped, Taken}
use Rattle.script_text.specs.declared.reading.ScriptInput.{ScriptInput}
use Rattle.script_text.specs.declared.reading.ScriptRead.{ScriptRead}
use Rattle.script_text.specs.declared.reading.Skip.{Skip}
use Rattle.script_text.specs.declared.reading.SkipReason.{SkipReason}
use Rattle.script_text.specs.Parsing.{with_fate, IsLineRead}
use Rattle.script_text.specs.Scripts.{read_from, with_line, fate, latest_after}
use Rattle.script_text.specs.Words.{is_line_end, lines}
use Rattle.script_text.proofs.Places.{uncut}
use Rattle.script_text.proofs.Read.{read_from-client}

-- ---- a text

-- the first line of a text, and what follows it
pub first_of_lines : (text line next : List ℕ) (n : ℕ) → n ≡ position_or_len is_line_end text → n < length text → line ≡ take n text → next ≡ drop (n + 1) text → line ∷ lines next ≡ lines text
first_of_lines text line next n e l f g =
    ap (λ x. x ∷ lines next) f ∙ ap (λ x. take n text ∷ lines x) g
    ∙ ap (λ k. take k text ∷ lines (drop (k + 1) text)) e
    ∙ sym (slice_split_first is_line_end text 0 (omega arith))

-- lines found in a text, and one more
pub one_more_line : (found more : List (Bor (List ℕ))) (line : Bor (List ℕ)) (rest next : List ℕ) (n : ℕ) (whole : List (List ℕ)) → n ≡ position_or_len is_line_end rest → n < length rest → line.now ≡ take n rest → next ≡ drop (n + 1) rest → more ≡ found ++ line ∷ [] →
    map (λ x. x.now) found ++ lines rest ≡ whole → map (λ x. x.now) more ++ lines next ≡ whole
one_more_line found more line rest next n whole e l f g m h =
    ap (λ xs. map (λ x. x.now) xs ++ lines next) m
    ∙ ap (λ xs. xs ++ lines next) (map-append (λ x. x.now) found (line ∷ []))
    ∙ append_assoc (map (λ x. x.now) found) (line.now ∷ []) (lines next)
    ∙ ap (λ xs. map (λ x. x.now) found ++ xs) (first_of_lines rest line.now next n e l f g)
    ∙ h

pub last_of_lines : (found more : List (Bor (List ℕ))) (line : Bor (List ℕ)) (rest : List ℕ) (n : ℕ) (whole : List (List ℕ)) → n ≡ position_or_len is_line_end rest → n ≤ length rest → length rest ≤ n → line.now ≡ rest → more ≡ found ++ line ∷ [] →
    map (λ x. x.now) found ++ lines rest ≡ whole → map (λ x. x.now) more ≡ whole
last_of_lines found more line rest n whole e l k f m h =
    ap (map (λ x. x.now)) m
    ∙ map-append (λ x. x.now) found (line ∷ [])
    ∙ ap (λ x. map (λ y. y.now) found ++ x ∷ []) f
    ∙ ap (λ ls. map (λ x. x.now) found ++ ls) (sym (uncut is_line_end rest (omega arith)))
    ∙ h

-- ---- one line

module _ (client : ℕ) (names : List (List ℕ)) (end : ℕ) (line : List ℕ) (inputs : List ScriptInput) (skips : List Skip) (latest number : ℕ) where
  two_more : number + 1 + 1 ≡ number + 2
  two_more = add_assoc number 1 1

  abbrev rest_from : ℕ → List (List ℕ) → ScriptRead
  rest_from latest' ls = read_from client names end latest' (number + 2) ls

  first_line : (f : Fate) (ls : List (List ℕ)) → f ≡ fate names end latest line → read_from client names end latest (number + 1) (line ∷ ls) ≡ with_line (number + 1) f (rest_from (latest_after latest f) ls)
  first_line f ls e =
      ap (λ g. with_line (number + 1) g (read_from client names end (latest_after latest g) (number + 1 + 1) ls)) (sym e)
      ∙ ap (λ n. with_line (number + 1) f (read_from client names end (latest_after latest f) n ls)) two_more

  pub passed_over : PassedOver ≡ fate names end latest line → IsLineRead client names end line inputs skips latest number inputs skips latest
  passed_over e ls = ap (with_fate inputs skips) (first_line PassedOver ls e)

  pub one_skipped : (why : SkipReason) (skips' : List Skip) → Skipped why ≡ fate names end latest line → skips' ≡ skips ++ record { line = number + 1; why = why } ∷ [] → IsLineRead client names end line inputs skips latest number inputs skips' latest
  one_skipped why skips' e f ls =
      let s : Skip = record { line = number + 1; why = why } in
      let r : ScriptRead = rest_from latest ls in
      ap (with_fate inputs skips) (first_line (Skipped why) ls e)
      ∙ ap (λ (ss : List Skip). let x : ScriptRead = record { client = r.client; inputs = inputs ++ r.inputs; skips = ss } in x) (sym (append_assoc skips (s ∷ []) r.skips) ∙ ap (λ ss. ss ++ r.skips) (sym f))

  pub one_taken : (moment : ℕ) (c : Command) (inputs' : List ScriptInput) → Taken moment c ≡ fate names end latest line → inputs' ≡ inputs ++ record { line = number + 1; input = record { moment = moment; actor = client; command = c } } ∷ [] →
      IsLineRead client names end line inputs skips latest number inputs' skips moment
  one_taken moment c inputs' e f ls =
      let x : ScriptInput = record { line = number + 1; input = record { moment = moment; actor = client; command = c } } in
      let r : ScriptRead = rest_from moment ls in
      ap (with_fate inputs skips) (first_line (Taken moment c) ls e)
      ∙ ap (λ a. let y : ScriptRead = record { client = r.client; inputs = inputs ++ record { line = number + 1; input = record { moment = moment; actor = a; command = c } } ∷ r.inputs; skips = skips ++ r.skips } in y) (read_from-client client names end moment (number + 2) ls)
      ∙ ap (λ (xs : List ScriptInput). let y : ScriptRead = record { client = r.client; inputs = xs; skips = skips ++ r.skips } in y) (sym (append_assoc inputs (x ∷ []) r.inputs) ∙ ap (λ xs. xs ++ r.inputs) (sym f))

-- ---- line after line

module _ (client : ℕ) (names : List (List ℕ)) (end : ℕ) (rest line : List ℕ) (n : ℕ) (inputs inputs' : List ScriptInput) (skips skips' : List Skip) (latest latest' number number' : ℕ) (whole : ScriptRead) where
  pub next_line : (next : List ℕ) → n ≡ position_or_len is_line_end rest → n < length rest → line ≡ take n rest → next ≡ drop (n + 1) rest → number' ≡ number + 1 →
      IsLineRead client names end line inputs skips latest number inputs' skips' latest' →
      with_fate inputs skips (read_from client names end latest (number + 1) (lines rest)) ≡ whole → with_fate inputs' skips' (read_from client names end latest' (number' + 1) (lines next)) ≡ whole
  next_line next e l f g m on h =
      ap (λ k. with_fate inputs' skips' (read_from client names end latest' (k + 1) (lines next))) m
      ∙ ap (λ k. with_fate inputs' skips' (read_from client names end latest' k (lines next))) (add_assoc number 1 1)
      ∙ sym (on (lines next))
      ∙ ap (λ ls. with_fate inputs skips (read_from client names end latest (number + 1) ls)) (first_of_lines rest line next n e l f g)
      ∙ h

  pub last_line : n ≡ position_or_len is_line_end rest → n ≤ length rest → length rest ≤ n → line ≡ rest →
      IsLineRead client names end line inputs skips latest number inputs' skips' latest' →
      with_fate inputs skips (read_from client names end latest (number + 1) (lines rest)) ≡ whole → (let r : ScriptRead = record { client = client; inputs = inputs'; skips = skips' } in r ≡ whole)
  last_line e l k f on h =
      ap (λ xs. let r : ScriptRead = record { client = client; inputs = xs; skips = skips' } in r) (sym (append-nil inputs'))
      ∙ ap (λ ss. let r : ScriptRead = record { client = client; inputs = inputs' ++ []; skips = ss } in r) (sym (append-nil skips'))
      ∙ sym (on [])
      ∙ ap (λ x. with_fate inputs skips (read_from client names end latest (number + 1) (x ∷ []))) f
      ∙ ap (λ ls. with_fate inputs skips (read_from client names end latest (number + 1) ls)) (sym (uncut is_line_end rest (omega arith)))
      ∙ h
