-- What holds of each reading of a script.
use Rattle.std.proofs.Common.{◌≡◌, ℕ, ◌+◌, ◌≤◌, ◌<◌, ◌^◌, Bool, true, false, cond, eqb, ◌&&◌, List, [], ◌∷◌, length, Option, Some, None, refl, ap, ◌∙◌, arith}
use Rattle.std.specs.Prelude.{nat_le, nat_lt}
use Rattle.std.specs.List.{list_all, slice_split, onto_first}
use Rattle.std.proofs.lemmas.Bool.Decides.{nat_tests}
use Rattle.std.proofs.lemmas.Bool.{eq-eqb, leb-true, le-leb}
use Rattle.seq_state.specs.declared.input.Command.{Command}
use Rattle.seq_state.proofs.Lists.{and_both, both_right, list_all-weaker}
use Rattle.script_text.specs.declared.reading.ScriptInput.{ScriptInput}
use Rattle.script_text.specs.declared.reading.ScriptRead.{ScriptRead}
use Rattle.script_text.specs.declared.reading.SkipReason.TheVariants.{PastEnd, Late}
use Rattle.script_text.specs.declared.script.TheConstants.{MOST_SCRIPT}
use Rattle.script_text.specs.Words.{words, lines, is_line_end, without_return}
use Rattle.script_text.specs.declared.line.Fate.{Fate}
use Rattle.script_text.specs.declared.line.Fate.TheVariants.{PassedOver, Skipped, Taken}
use Rattle.script_text.specs.Scripts.{fate, fate_of, fate_in_time, timed_command, is_remark, latest_after, with_line, read_from, script, too_long_script}

-- ---- whose it is

with_line-client : (n : ℕ) (f : Fate) (r : ScriptRead) → (with_line n f r).client ≡ r.client
with_line-client n PassedOver r = refl
with_line-client n (Skipped why) r = refl
with_line-client n (Taken moment c) r = refl

pub read_from-client : (client : ℕ) (names : List (List ℕ)) (end latest n : ℕ) (ls : List (List ℕ)) → (read_from client names end latest n ls).client ≡ client
read_from-client client names end latest n [] = refl
read_from-client client names end latest n (l ∷ ls) =
    let f : Fate = fate names end latest l in
    with_line-client n f (read_from client names end (latest_after latest f) (n + 1) ls) ∙ read_from-client client names end (latest_after latest f) (n + 1) ls

pub script-client : (client : ℕ) (names : List (List ℕ)) (end : ℕ) (text : List ℕ) → (script client names end text).client ≡ client
script-client client names end text = go (nat_le (length text) MOST_SCRIPT)
  where
    go : (b : Bool) → (cond b (read_from client names end 0 1 (lines text)) (too_long_script client)).client ≡ client
    go true = read_from-client client names end 0 1 (lines text)
    go false = refl

-- ---- whose inputs they are

abbrev pub is_by : ℕ → ScriptInput → Bool
is_by client x = eqb x.input.actor client

with_line-by : (client n : ℕ) (f : Fate) (r : ScriptRead) → r.client ≡ client → list_all (is_by client) r.inputs ≡ true → list_all (is_by client) (with_line n f r).inputs ≡ true
with_line-by client n PassedOver r e h = h
with_line-by client n (Skipped why) r e h = h
with_line-by client n (Taken moment c) r e h = and_both (eqb r.client client) (list_all (is_by client) r.inputs) (eq-eqb r.client client e) h

read_from-by : (client : ℕ) (names : List (List ℕ)) (end latest n : ℕ) (ls : List (List ℕ)) → list_all (is_by client) (read_from client names end latest n ls).inputs ≡ true
read_from-by client names end latest n [] = refl
read_from-by client names end latest n (l ∷ ls) =
    let f : Fate = fate names end latest l in
    with_line-by client n f (read_from client names end (latest_after latest f) (n + 1) ls)
    (read_from-client client names end (latest_after latest f) (n + 1) ls) (read_from-by client names end (latest_after latest f) (n + 1) ls)

pub script-by : (client : ℕ) (names : List (List ℕ)) (end : ℕ) (text : List ℕ) → list_all (is_by client) (script client names end text).inputs ≡ true
script-by client names end text = go (nat_le (length text) MOST_SCRIPT)
  where
    go : (b : Bool) → list_all (is_by client) (cond b (read_from client names end 0 1 (lines text)) (too_long_script client)).inputs ≡ true
    go true = read_from-by client names end 0 1 (lines text)
    go false = refl

-- ---- when they are

abbrev pub is_within : ℕ → ScriptInput → Bool
is_within end x = nat_le x.input.moment end

-- a line that is taken is not past the end, and not below the last one
abbrev fits : ℕ → ℕ → Fate → Bool
fits end latest (Taken moment c) = nat_le moment end && nat_le latest moment
fits end latest _ = true

timed-fits : (end latest : ℕ) (s : Option (ℕ × Command)) → fits end latest (fate_in_time end latest s) ≡ true
timed-fits end latest None = refl
timed-fits end latest (Some s) = go (nat_lt end s.0) refl (nat_lt s.0 latest) refl
  where
    go : (a : Bool) → nat_lt end s.0 ≡ a → (b : Bool) → nat_lt s.0 latest ≡ b → fits end latest (cond a (Skipped PastEnd) (cond b (Skipped Late) (Taken s.0 s.1))) ≡ true
    go true e b f = refl
    go false e true f = refl
    go false e false f = grind (arith, nat_tests)

fate-fits : (names : List (List ℕ)) (end latest : ℕ) (line : List ℕ) → fits end latest (fate names end latest line) ≡ true
fate-fits names end latest line = go (words (without_return line))
  where
    go : (ws : List (List ℕ)) → fits end latest (fate_of names end latest ws) ≡ true
    go [] = refl
    go (w ∷ rest) = remark (is_remark w)
      where
        remark : (b : Bool) → fits end latest (cond b PassedOver (fate_in_time end latest (timed_command names (w ∷ rest)))) ≡ true
        remark true = refl
        remark false = timed-fits end latest (timed_command names (w ∷ rest))

with_line-within : (end latest n : ℕ) (f : Fate) (r : ScriptRead) → fits end latest f ≡ true → list_all (is_within end) r.inputs ≡ true → list_all (is_within end) (with_line n f r).inputs ≡ true
with_line-within end latest n PassedOver r e h = h
with_line-within end latest n (Skipped why) r e h = h
with_line-within end latest n (Taken moment c) r e h = grind (arith, nat_tests)

read_from-within : (client : ℕ) (names : List (List ℕ)) (end latest n : ℕ) (ls : List (List ℕ)) → list_all (is_within end) (read_from client names end latest n ls).inputs ≡ true
read_from-within client names end latest n [] = refl
read_from-within client names end latest n (l ∷ ls) =
    let f : Fate = fate names end latest l in
    with_line-within end latest n f (read_from client names end (latest_after latest f) (n + 1) ls) (fate-fits names end latest l) (read_from-within client names end (latest_after latest f) (n + 1) ls)

pub script-within : (client : ℕ) (names : List (List ℕ)) (end : ℕ) (text : List ℕ) → list_all (is_within end) (script client names end text).inputs ≡ true
script-within client names end text = go (nat_le (length text) MOST_SCRIPT)
  where
    go : (b : Bool) → list_all (is_within end) (cond b (read_from client names end 0 1 (lines text)) (too_long_script client)).inputs ≡ true
    go true = read_from-within client names end 0 1 (lines text)
    go false = refl

-- ---- their lines

-- lines rise, from this one on, and stay below a bound
abbrev pub LinesRise : ℕ → ℕ → List ScriptInput → Type 0
LinesRise n bound [] = Unit {0}
LinesRise n bound (x ∷ xs) = (n ≤ x.line) × (x.line < bound) × LinesRise (x.line + 1) bound xs

rise_later : (m n bound : ℕ) (xs : List ScriptInput) → m ≤ n → LinesRise n bound xs → LinesRise m bound xs
rise_later m n bound [] l h = tt
rise_later m n bound (x ∷ xs) l h = let k : n ≤ x.line = h.0 in (omega arith, h.1, h.2)

with_line-rise : (n bound : ℕ) (f : Fate) (r : ScriptRead) → n < bound → LinesRise (n + 1) bound r.inputs → LinesRise n bound (with_line n f r).inputs
with_line-rise n bound PassedOver r l h = rise_later n (n + 1) bound r.inputs (omega arith) h
with_line-rise n bound (Skipped why) r l h = rise_later n (n + 1) bound r.inputs (omega arith) h
with_line-rise n bound (Taken moment c) r l h = (omega arith, l, h)

read_from-rise : (client : ℕ) (names : List (List ℕ)) (end latest n bound : ℕ) (ls : List (List ℕ)) → n + length ls ≤ bound → LinesRise n bound (read_from client names end latest n ls).inputs
read_from-rise client names end latest n bound [] l = tt
read_from-rise client names end latest n bound (x ∷ ls) l =
    let f : Fate = fate names end latest x in
    with_line-rise n bound f (read_from client names end (latest_after latest f) (n + 1) ls) (omega arith) (read_from-rise client names end (latest_after latest f) (n + 1) bound ls (omega arith))

lines-few : (p : ℕ → Bool) (text : List ℕ) → length (slice_split p text) ≤ length text + 1
lines-few p [] = omega arith
lines-few p (b ∷ bytes) = go (p b) (slice_split p bytes) (lines-few p bytes)
  where
    go : (t : Bool) (parts : List (List ℕ)) → length parts ≤ length bytes + 1 → length (cond t ([] ∷ parts) (onto_first b parts)) ≤ length (b ∷ bytes) + 1
    go true parts h = omega arith
    go false [] h = omega arith
    go false (x ∷ parts) h = omega arith

pub script-rise : (client : ℕ) (names : List (List ℕ)) (end : ℕ) (text : List ℕ) → LinesRise 1 (2 ^ 64) (script client names end text).inputs
script-rise client names end text = go (nat_le (length text) MOST_SCRIPT) refl
  where
    go : (b : Bool) → nat_le (length text) MOST_SCRIPT ≡ b → LinesRise 1 (2 ^ 64) (cond b (read_from client names end 0 1 (lines text)) (too_long_script client)).inputs
    go true e =
        let short : length text ≤ 1048576 = leb-true (length text) 1048576 e in
        let few : length (lines text) ≤ length text + 1 = lines-few is_line_end text in
        read_from-rise client names end 0 1 (2 ^ 64) (lines text) (omega arith)
    go false e = tt

-- ---- their order

-- not before this moment, by this client, and not above this line
abbrev pub is_from : ℕ → ℕ → ℕ → ScriptInput → Bool
is_from moment client n x = nat_le moment x.input.moment && (eqb x.input.actor client && nat_le n x.line)

from_later : (m k client n j : ℕ) (xs : List ScriptInput) → m ≤ k → n ≤ j → list_all (is_from k client j) xs ≡ true → list_all (is_from m client n) xs ≡ true
from_later m k client n j xs l h a = list_all-weaker (is_from k client j) (is_from m client n) (λ x e. grind (arith, nat_tests)) xs a

with_line-from : (end latest client n : ℕ) (f : Fate) (r : ScriptRead) → fits end latest f ≡ true → r.client ≡ client → list_all (is_from (latest_after latest f) client (n + 1)) r.inputs ≡ true → list_all (is_from latest client n) (with_line n f r).inputs ≡ true
with_line-from end latest client n PassedOver r e c h = from_later latest latest client n (n + 1) r.inputs (omega arith) (omega arith) h
with_line-from end latest client n (Skipped why) r e c h = from_later latest latest client n (n + 1) r.inputs (omega arith) (omega arith) h
with_line-from end latest client n (Taken moment command) r e c h =
    let x : ScriptInput = record { line = n; input = record { moment = moment; actor = r.client; command = command } } in
    let l : latest ≤ moment = leb-true latest moment (both_right (nat_le moment end) (nat_le latest moment) e) in
    and_both (is_from latest client n x) (list_all (is_from latest client n) r.inputs)
    (and_both (nat_le latest moment) (eqb r.client client && nat_le n n) (both_right (nat_le moment end) (nat_le latest moment) e) (and_both (eqb r.client client) (nat_le n n) (eq-eqb r.client client c) (le-leb n n (omega arith))))
    (from_later latest moment client n (n + 1) r.inputs l (omega arith) h)

pub read_from-from : (client : ℕ) (names : List (List ℕ)) (end latest n : ℕ) (ls : List (List ℕ)) → list_all (is_from latest client n) (read_from client names end latest n ls).inputs ≡ true
read_from-from client names end latest n [] = refl
read_from-from client names end latest n (l ∷ ls) =
    let f : Fate = fate names end latest l in
    with_line-from end latest client n f (read_from client names end (latest_after latest f) (n + 1) ls) (fate-fits names end latest l) (read_from-client client names end (latest_after latest f) (n + 1) ls)
    (read_from-from client names end (latest_after latest f) (n + 1) ls)

-- each input comes before those after it
abbrev pub InOrder : List ScriptInput → Type 0
InOrder [] = Unit {0}
InOrder (x ∷ xs) = (list_all (is_from x.input.moment x.input.actor (x.line + 1)) xs ≡ true) × InOrder xs

with_line-in_order : (client n latest : ℕ) (f : Fate) (r : ScriptRead) → r.client ≡ client → list_all (is_from (latest_after latest f) client (n + 1)) r.inputs ≡ true → InOrder r.inputs → InOrder (with_line n f r).inputs
with_line-in_order client n latest PassedOver r c h s = s
with_line-in_order client n latest (Skipped why) r c h s = s
with_line-in_order client n latest (Taken moment command) r c h s = (ap (λ k. list_all (is_from moment k (n + 1)) r.inputs) c ∙ h, s)

read_from-in_order : (client : ℕ) (names : List (List ℕ)) (end latest n : ℕ) (ls : List (List ℕ)) → InOrder (read_from client names end latest n ls).inputs
read_from-in_order client names end latest n [] = tt
read_from-in_order client names end latest n (l ∷ ls) =
    let f : Fate = fate names end latest l in
    with_line-in_order client n latest f (read_from client names end (latest_after latest f) (n + 1) ls) (read_from-client client names end (latest_after latest f) (n + 1) ls)
    (read_from-from client names end (latest_after latest f) (n + 1) ls) (read_from-in_order client names end (latest_after latest f) (n + 1) ls)

-- a script's inputs stand in their order
pub script-in_order : (client : ℕ) (names : List (List ℕ)) (end : ℕ) (text : List ℕ) → InOrder (script client names end text).inputs
script-in_order client names end text = go (nat_le (length text) MOST_SCRIPT)
  where
    go : (b : Bool) → InOrder (cond b (read_from client names end 0 1 (lines text)) (too_long_script client)).inputs
    go true = read_from-in_order client names end 0 1 (lines text)
    go false = tt
