-- Words in their usual forms, at the front of a line.
use Rattle.std.proofs.Common.{◌≡◌, ℕ, zero, suc, not, ◌+◌, ◌-◌, ◌*◌, ◌≤◌, ◌<◌, Bool, true, false, cond, ◌&&◌, List, [], ◌∷◌, length, take, drop, get_or, Option, Some, None, refl, sym, ap, ◌∙◌, arith, inl, inr, ◌⊎◌}
use Rattle.std.specs.Prelude.{nat_le, ◌==◌}
use Rattle.std.specs.List.{list_all, position_or_len, prefix_len}
use Rattle.std.specs.Option.{option_and_then, option_map}
use Rattle.std.proofs.lemmas.Bool.Decides.{nat_tests}
use Rattle.node_table.specs.declared.number.QueueAddr.{QueueAddr}
use Rattle.seq_state.proofs.Lists.{both_left, both_right}
use Rattle.seq_state.specs.declared.input.DueAt.TheVariants.{Tick, TickAfter, Nanos, NanosAfter}
use Rattle.script_text.specs.Words.{is_blank, is_colon, words, without_return}
use Rattle.script_text.specs.Scripts.{timed_command, fate, fate_of, fate_in_time, is_remark}
use Rattle.script_text.specs.declared.line.Fate.TheVariants.{PassedOver}
use Rattle.script_text.specs.Numbers.{only_if, is_number, read_on, both, is_digit, client_number, queue_number, queue_by, queue, parts, u64, due_by, due_word}
use Rattle.script_text.specs.Table.{word_as, command}
use Rattle.script_text.proofs.Colons.{parts_one}
use Rattle.script_text.proofs.Cut.{next_word}

usual_parts : (t o d : ℕ) → is_colon t ≡ false → is_colon o ≡ false → is_colon d ≡ false → Some (49 ∷ t ∷ o ∷ [], (113, d ∷ [])) ≡ parts (49 ∷ t ∷ o ∷ 58 ∷ 113 ∷ d ∷ [])
usual_parts t o d f g h =
    parts_one (49 ∷ t ∷ o ∷ 58 ∷ 113 ∷ d ∷ []) (d ∷ []) (49 ∷ t ∷ o ∷ []) 3 113 (simp (f, g)) (omega arith) refl refl refl refl (simp h)

usual_client : (t o c : ℕ) → is_digit t ≡ true → is_digit o ≡ true → c ≡ 100 + (t - 48) * 10 + (o - 48) → 128 ≤ c → c ≤ 191 → client_number (49 ∷ t ∷ o ∷ []) ≡ Some c
usual_client t o c f g e l h = grind (arith, nat_tests)

usual_number : (d q : ℕ) → is_digit d ≡ true → q ≡ d - 48 → q ≤ 7 → queue_number (d ∷ []) ≡ Some q
usual_number d q f e l = grind (arith, nat_tests)

abbrev address : ℕ → ℕ → QueueAddr
address c q = record { client = c; queue = q }

usual_queue : (t o d c q : ℕ) → is_digit t ≡ true → is_digit o ≡ true → is_digit d ≡ true → c ≡ 100 + (t - 48) * 10 + (o - 48) → 128 ≤ c → c ≤ 191 → q ≡ d - 48 → q ≤ 7 → queue (49 ∷ t ∷ o ∷ 58 ∷ 113 ∷ d ∷ []) ≡ Some (address c q)
usual_queue t o d c q et eo ed ec l h eq m =
    let ct : is_colon t ≡ false = grind (arith, nat_tests) in
    let co : is_colon o ≡ false = grind (arith, nat_tests) in
    let cd : is_colon d ≡ false = grind (arith, nat_tests) in
    ap (option_and_then (λ p. both address (client_number p.0) (queue_by p.1.0 p.1.1))) (sym (usual_parts t o d ct co cd))
    ∙ ap (λ k. both address k (queue_number (d ∷ []))) (usual_client t o c et eo ec l h)
    ∙ ap (both address (Some c)) (usual_number d q ed eq m)

-- a word of a queue, and the words behind it
queue_first : (t o d c q : ℕ) (rest : List ℕ) → is_digit t ≡ true → is_digit o ≡ true → is_digit d ≡ true → position_or_len is_blank rest ≡ 0 → c ≡ 100 + (t - 48) * 10 + (o - 48) → 128 ≤ c → c ≤ 191 → q ≡ d - 48 → q ≤ 7 →
    word_as queue (words (32 ∷ 49 ∷ t ∷ o ∷ 58 ∷ 113 ∷ d ∷ rest)) ≡ Some (address c q, words rest)
queue_first t o d c q rest et eo ed b ec l h eq m =
    let word : List ℕ = 49 ∷ t ∷ o ∷ 58 ∷ 113 ∷ d ∷ [] in
    let line : List ℕ = 49 ∷ t ∷ o ∷ 58 ∷ 113 ∷ d ∷ rest in
    let bt : is_blank t ≡ false = grind (arith, nat_tests) in
    let bo : is_blank o ≡ false = grind (arith, nat_tests) in
    let bd : is_blank d ≡ false = grind (arith, nat_tests) in
    ap (word_as queue) (next_word (32 ∷ line) line word rest 6 refl (λ e. omega arith) (simp (bt, bo, bd, b)) refl refl)
    ∙ ap (option_map (λ x. (x, words rest))) (usual_queue t o d c q et eo ed ec l h eq m)

blank_next : (rest : List ℕ) → (length rest < 1) ⊎ (get_or rest 0 0 ≡ 32) → position_or_len is_blank rest ≡ 0
blank_next [] h = refl
blank_next (b ∷ rest) (inl e) = absurd (omega arith)
blank_next (b ∷ rest) (inr e) = grind (arith, nat_tests)

pub queue_front : (bytes rest : List ℕ) (c q : ℕ) → 7 ≤ length bytes → rest ≡ drop 7 bytes →
    get_or bytes 0 0 ≡ 32 → get_or bytes 1 0 ≡ 49 → 50 ≤ get_or bytes 2 0 → get_or bytes 2 0 ≤ 57 → 48 ≤ get_or bytes 3 0 → get_or bytes 3 0 ≤ 57 → get_or bytes 4 0 ≡ 58 → get_or bytes 5 0 ≡ 113 → 48 ≤ get_or bytes 6 0 → get_or bytes 6 0 ≤ 55 →
    (length rest < 1) ⊎ (get_or rest 0 0 ≡ 32) →
    c ≡ 100 + (get_or bytes 2 0 - 48) * 10 + (get_or bytes 3 0 - 48) → 128 ≤ c → c ≤ 191 → q ≡ get_or bytes 6 0 - 48 →
    word_as queue (words bytes) ≡ Some (record { client = c; queue = q }, words rest)
queue_front (b0 ∷ b1 ∷ t ∷ o ∷ b4 ∷ b5 ∷ d ∷ bytes) rest c q len er e0 e1 t0 t1 o0 o1 e4 e5 d0 d1 end ec l h eq =
    let et : is_digit t ≡ true = grind (arith, nat_tests) in
    let eo : is_digit o ≡ true = grind (arith, nat_tests) in
    let ed : is_digit d ≡ true = grind (arith, nat_tests) in
    ap (λ b. word_as queue (words (b ∷ b1 ∷ t ∷ o ∷ b4 ∷ b5 ∷ d ∷ bytes))) e0
    ∙ ap (λ b. word_as queue (words (32 ∷ b ∷ t ∷ o ∷ b4 ∷ b5 ∷ d ∷ bytes))) e1
    ∙ ap (λ b. word_as queue (words (32 ∷ 49 ∷ t ∷ o ∷ b ∷ b5 ∷ d ∷ bytes))) e4
    ∙ ap (λ b. word_as queue (words (32 ∷ 49 ∷ t ∷ o ∷ 58 ∷ b ∷ d ∷ bytes))) e5
    ∙ ap (λ r. word_as queue (words (32 ∷ 49 ∷ t ∷ o ∷ 58 ∷ 113 ∷ d ∷ r))) (sym er)
    ∙ queue_first t o d c q rest et eo ed (blank_next rest end) ec l h eq (omega arith)
queue_front _ rest c q len er e0 e1 t0 t1 o0 o1 e4 e5 d0 d1 end ec l h eq = absurd (omega arith)

-- a letter and digits
letter_word : (letter n value : ℕ) (digits : List ℕ) → 1 ≤ n → n ≤ length digits → list_all is_digit (take n digits) ≡ true → u64 (take n digits) ≡ Some value → due_word (letter ∷ take n digits) ≡ due_by letter Tick Nanos (Some value)
letter_word letter n value [] a b d e = absurd (omega arith)
letter_word letter zero value (sign ∷ digits) a b d e = absurd (omega arith)
letter_word letter (suc n) value (sign ∷ digits) a b d e =
    let digit : is_digit sign ≡ true = both_left (is_digit sign) (list_all is_digit (take n digits)) d in
    let plus : (sign == 43) ≡ false = grind (arith, nat_tests) in
    ap (λ t. cond t (due_by letter TickAfter NanosAfter (u64 (take n digits))) (due_by letter Tick Nanos (u64 (sign ∷ take n digits)))) plus
    ∙ ap (due_by letter Tick Nanos) e

pub due_front : (bytes digits rest : List ℕ) (letter n value : ℕ) → 2 ≤ length bytes → get_or bytes 0 0 ≡ 32 → get_or bytes 1 0 ≡ letter → is_blank letter ≡ false → digits ≡ drop 2 bytes →
    n ≡ position_or_len is_blank digits → 1 ≤ n → n ≤ length digits → list_all is_digit (take n digits) ≡ true → u64 (take n digits) ≡ Some value → rest ≡ drop n digits →
    word_as due_word (words bytes) ≡ option_map (λ d. (d, words rest)) (due_by letter Tick Nanos (Some value))
due_front (b0 ∷ b1 ∷ bytes) digits rest letter n value l e0 e1 b ed en a m d v er =
    let front : (bs : List ℕ) → (n ≡ position_or_len is_blank bs) → suc n ≡ 1 + position_or_len is_blank bs = λ bs e. omega arith in
    ap (λ x. word_as due_word (words (x ∷ b1 ∷ bytes))) e0
    ∙ ap (λ x. word_as due_word (words (32 ∷ x ∷ bytes))) e1
    ∙ ap (λ x. word_as due_word (words (32 ∷ letter ∷ x))) (sym ed)
    ∙ ap (word_as due_word) (next_word (32 ∷ letter ∷ digits) (letter ∷ digits) (letter ∷ take n digits) rest (suc n)
    (sym (ap (λ t. drop (1 + cond t (1 + prefix_len is_blank digits) 0) (32 ∷ letter ∷ digits)) b)) (λ e. omega arith)
    (front digits en ∙ sym (ap (λ t. cond (not t) (1 + position_or_len is_blank digits) 0) b)) refl er)
    ∙ ap (option_map (λ d. (d, words rest))) (letter_word letter n value digits a m d v)
due_front _ digits rest letter n value l e0 e1 b ed en a m d v er = absurd (omega arith)

-- ---- the moment of a line

-- digits that a line begins with
pub number_first : (bytes rest : List ℕ) (n value : ℕ) → n ≡ position_or_len is_blank bytes → 1 ≤ n → n ≤ length bytes → list_all is_digit (take n bytes) ≡ true → u64 (take n bytes) ≡ Some value → rest ≡ drop n bytes →
    word_as u64 (words bytes) ≡ Some (value, words rest)
number_first [] rest n value en a l d v er = absurd (omega arith)
number_first (b ∷ bytes) rest zero value en a l d v er = absurd (omega arith)
number_first (b ∷ bytes) rest (suc n) value en a l d v er =
    let digit : is_digit b ≡ true = both_left (is_digit b) (list_all is_digit (take n bytes)) d in
    let unblank : is_blank b ≡ false = grind (arith, nat_tests) in
    ap (word_as u64) (next_word (b ∷ bytes) (b ∷ bytes) (take (suc n) (b ∷ bytes)) rest (suc n) (sym (ap (λ t. drop (cond t (1 + prefix_len is_blank bytes) 0) (b ∷ bytes)) unblank)) (λ e. omega arith) en refl er)
    ∙ ap (option_map (λ x. (x, words rest))) v

number_digits : (w : List ℕ) (m : ℕ) → u64 w ≡ Some m → list_all is_digit w ≡ true
number_digits w m e = both_right (nat_le 1 (length w) && nat_le (length w) 20) (list_all is_digit w) (go (is_number w) e)
  where
    go : (t : Bool) → only_if (λ n. nat_le n 18446744073709551615) (cond t (Some (read_on 0 w)) None) ≡ Some m → t ≡ true
    go true e = refl
    go false e = cc

no_remark : (w : List ℕ) (m : ℕ) → u64 w ≡ Some m → is_remark w ≡ false
no_remark [] m e = refl
no_remark (b ∷ w) m e =
    let digit : is_digit b ≡ true = both_left (is_digit b) (list_all is_digit w) (number_digits (b ∷ w) m e) in
    grind (arith, nat_tests)

said_is : (o : Option ℕ) (m : ℕ) (ws new : List (List ℕ)) → option_map {U = ℕ × List (List ℕ)} (λ x. (x, ws)) o ≡ Some (m, new) → (o ≡ Some m) × (ws ≡ new)
said_is None m ws new e = cc
said_is (Some x) m ws new e =
    let number : Some x ≡ Some m = ap (λ (o : Option (ℕ × List (List ℕ))). option_map (λ p. p.0) o) e in
    let behind : Some ws ≡ Some new = ap (λ (o : Option (ℕ × List (List ℕ))). option_map (λ p. p.1) o) e in
    (number, cc)

timed_words : (names : List (List ℕ)) (end latest m : ℕ) (old new : List (List ℕ)) → word_as u64 old ≡ Some (m, new) → fate_in_time end latest (option_map (λ c. (m, c)) (command names new)) ≡ fate_of names end latest old
timed_words names end latest m [] new e = cc
timed_words names end latest m (w ∷ ws) new e =
    let is = said_is (u64 w) m ws new e in
    sym (ap (λ t. cond t PassedOver (fate_in_time end latest (timed_command names (w ∷ ws)))) (no_remark w m is.0)
    ∙ ap (λ o. fate_in_time end latest (option_and_then (λ m. option_map (λ c. (m, c)) (command names ws)) o)) is.0
    ∙ ap (λ xs. fate_in_time end latest (option_map (λ c. (m, c)) (command names xs))) is.1)

-- a line whose first word is a moment
pub timed_line : (names : List (List ℕ)) (end latest m : ℕ) (line : List ℕ) (old new : List (List ℕ)) → old ≡ words (without_return line) → word_as u64 old ≡ Some (m, new) → fate_in_time end latest (option_map (λ c. (m, c)) (command names new)) ≡ fate names end latest line
timed_line names end latest m line old new f e = timed_words names end latest m old new e ∙ ap (fate_of names end latest) f
