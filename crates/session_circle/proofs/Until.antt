-- Readings until an end, from readings without one.
use Rattle.std.proofs.Common.{◌≡◌, ℕ, ◌+◌, ◌≤◌, Bool, true, false, cond, ◌||◌, List, [], ◌∷◌, length, Option, Some, None, refl, sym, ap, ◌∙◌, arith}
use Rattle.std.specs.Prelude.{nat_le, nat_lt}
use Rattle.std.specs.List.{filter}
use Rattle.std.proofs.lemmas.Bool.{false≢true}
use Rattle.std.proofs.lemmas.Bool.Decides.{nat_tests}
use Rattle.seq_state.specs.declared.input.Command.{Command}
use Rattle.script_text.specs.declared.reading.ScriptInput.{ScriptInput}
use Rattle.script_text.specs.declared.reading.ScriptRead.{ScriptRead}
use Rattle.script_text.specs.declared.script.TheConstants.{MOST_SCRIPT}
use Rattle.script_text.specs.Words.{words, lines, without_return}
use Rattle.script_text.specs.Scripts.{fate, fate_of, fate_in_time, timed_command, is_remark, input_at, latest_after, with_line, read_from, script, too_long_script}
use Rattle.script_text.proofs.Read.{read_from-client, is_within}
use Rattle.session_circle.specs.EveryEnd.{goes_back}

pub or_left : (x y : Bool) → (x || y) ≡ false → x ≡ false
or_left true y h = h
or_left false y h = refl

pub or_right : (x y : Bool) → (x || y) ≡ false → y ≡ false
or_right true y h = absurd (false≢true (sym h))
or_right false y h = h

-- ---- a line

-- A line is read until an end, in r, and until a later one, in s, where nothing goes back in time. What was taken last
-- there is not before what was taken last here, and of what is taken there that is left which is not past the end.
module _ (end far low latest n : ℕ) (r s : ScriptRead) (e : end ≤ far) (l : low ≤ latest) (c : r.client ≡ s.client) where
  abbrev left : ScriptRead → List ScriptInput
  left x = filter (is_within end) x.inputs

  timed-until : (o : Option (ℕ × Command)) → goes_back (with_line n (fate_in_time far latest o) s) ≡ false →
      (latest_after low (fate_in_time end low o) ≤ latest_after latest (fate_in_time far latest o)) × (goes_back s ≡ false)
      × (r.inputs ≡ left s → (with_line n (fate_in_time end low o) r).inputs ≡ left (with_line n (fate_in_time far latest o) s))
  timed-until None = λ h. (l, h, λ i. i)
  timed-until (Some d) = go (nat_lt end d.0) refl (nat_lt d.0 low) refl (nat_lt far d.0) refl (nat_lt d.0 latest) refl
    where
      go : (a : Bool) → nat_lt end d.0 ≡ a → (b : Bool) → nat_lt d.0 low ≡ b → (a' : Bool) → nat_lt far d.0 ≡ a' → (b' : Bool) → nat_lt d.0 latest ≡ b' →
          goes_back (with_line n (fate_in_time far latest (Some d)) s) ≡ false →
          (latest_after low (fate_in_time end low (Some d)) ≤ latest_after latest (fate_in_time far latest (Some d))) × (goes_back s ≡ false)
          × (r.inputs ≡ left s → (with_line n (fate_in_time end low (Some d)) r).inputs ≡ left (with_line n (fate_in_time far latest (Some d)) s))
      go true p b q true p' b' q' = rw (p, p') (λ h. (l, h, λ i. i))
      go false p b q true p' b' q' = absurd (grind (arith, nat_tests))
      go a p b q false p' true q' = rw (p', q') (λ h. absurd (false≢true (sym h)))
      go true p b q false p' false q' =
          let out : nat_le d.0 end ≡ false = grind (arith, nat_tests) in
          let later : latest ≤ d.0 = grind (arith, nat_tests) in
          rw (p, p', q')
          (λ h. (omega arith, h, λ i. i ∙ ap (λ b. cond b (input_at n d.0 s.client d.1 ∷ left s) (left s)) (sym out)))
      go false p true q false p' false q' = absurd (grind (arith, nat_tests))
      go false p false q false p' false q' =
          let within : nat_le d.0 end ≡ true = grind (arith, nat_tests) in
          rw (p, q, p', q')
          (λ h. (
            omega arith,
            h,
            λ i.
                ap (λ k. input_at n d.0 k d.1 ∷ r.inputs) c ∙ ap (λ xs. input_at n d.0 s.client d.1 ∷ xs) i
                ∙ ap (λ b. cond b (input_at n d.0 s.client d.1 ∷ left s) (left s)) (sym within),
          ))

  words-until : (names ws : List (List ℕ)) → goes_back (with_line n (fate_of names far latest ws) s) ≡ false →
      (latest_after low (fate_of names end low ws) ≤ latest_after latest (fate_of names far latest ws)) × (goes_back s ≡ false)
      × (r.inputs ≡ left s → (with_line n (fate_of names end low ws) r).inputs ≡ left (with_line n (fate_of names far latest ws) s))
  words-until names [] = λ h. (l, h, λ i. i)
  words-until names (w ∷ rest) = go (is_remark w) refl
    where
      go : (b : Bool) → is_remark w ≡ b → goes_back (with_line n (fate_of names far latest (w ∷ rest)) s) ≡ false →
          (latest_after low (fate_of names end low (w ∷ rest)) ≤ latest_after latest (fate_of names far latest (w ∷ rest))) × (goes_back s ≡ false)
          × (r.inputs ≡ left s → (with_line n (fate_of names end low (w ∷ rest)) r).inputs ≡ left (with_line n (fate_of names far latest (w ∷ rest)) s))
      go true f = rw f (λ h. (l, h, λ i. i))
      go false f = rw f (timed-until (timed_command names (w ∷ rest)))

-- ---- a script

read_from-until : (client : ℕ) (names : List (List ℕ)) (end far low latest n : ℕ) (ls : List (List ℕ)) → end ≤ far → low ≤ latest → goes_back (read_from client names far latest n ls) ≡ false →
    (read_from client names end low n ls).inputs ≡ filter (is_within end) (read_from client names far latest n ls).inputs
read_from-until client names end far low latest n [] e l h = refl
read_from-until client names end far low latest n (x ∷ ls) e l h =
    let low' : ℕ = latest_after low (fate names end low x) in
    let latest' : ℕ = latest_after latest (fate names far latest x) in
    let r : ScriptRead = read_from client names end low' (n + 1) ls in
    let s : ScriptRead = read_from client names far latest' (n + 1) ls in
    let step = words-until end far low latest n r s e l (read_from-client client names end low' (n + 1) ls ∙ sym (read_from-client client names far latest' (n + 1) ls)) names (words (without_return x)) h in
    step.2 (read_from-until client names end far low' latest' (n + 1) ls e step.0 step.1)

-- where no line goes back in time, the inputs until an end are those until a later one whose moment is not past it
pub script-until : (client : ℕ) (names : List (List ℕ)) (end far : ℕ) (text : List ℕ) → end ≤ far → goes_back (script client names far text) ≡ false →
    (script client names end text).inputs ≡ filter (is_within end) (script client names far text).inputs
script-until client names end far text e = go (nat_le (length text) MOST_SCRIPT)
  where
    go : (b : Bool) → goes_back (cond b (read_from client names far 0 1 (lines text)) (too_long_script client)) ≡ false →
        (cond b (read_from client names end 0 1 (lines text)) (too_long_script client)).inputs ≡ filter (is_within end) (cond b (read_from client names far 0 1 (lines text)) (too_long_script client)).inputs
    go true h = read_from-until client names end far 0 0 1 (lines text) e (omega arith) h
    go false h = refl
