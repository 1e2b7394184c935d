-- The lines that a run writes, and what they are read as.
use Rattle.std.proofs.Common.{◌≡◌, ◌<◌, ◌+◌, ◌*◌, ◌/◌, ◌%◌, ℕ, Bool, true, false, not, cond, ◌&&◌, ◌==◌, nat_lt, List, [], ◌∷◌, ◌++◌, map, Some, None, refl, ap, ◌∙◌, sym, arith, append-nil}
use Rattle.std.specs.Fmt.{decimal}
use Rattle.std.specs.List.{list_all, slice_split, onto_first, join_with_byte, flat_map}
use Rattle.std.specs.Option.{unwrap_or}
use Rattle.std.proofs.lemmas.Bool.{eqb-true}
use Rattle.std.proofs.lemmas.Bool.Decides.{nat_tests}
use Rattle.std.proofs.lemmas.List.Folds.{list_all-append}
use Rattle.std.proofs.lemmas.List.Splits.{slice_split-cons_no}
use Rattle.text_forms.specs.Hex.{digit, spaced_hex}
use Rattle.log_forms.specs.Csv.{csv_entry}
use Rattle.log_forms.specs.Entries.{Entry, Listed, entry_of, words_entry}
use Rattle.log_forms.specs.Forms.{json_line, csv_line}
use Rattle.log_forms.specs.Json.{json_entry}
use Rattle.log_forms.specs.Laws.{IsWrittenAs, is_bytes}
use Rattle.log_forms.specs.Lines.{is_space, lines, words, is_plain_byte, is_plain, is_hex_digit, is_hex_byte, digit_value, byte_of, bytes_of}
use Rattle.log_forms.proofs.Hexed.{and_left, and_right, hex_word}
use Rattle.log_forms.proofs.Numbers.{list_all-more}
use Rattle.log_forms.proofs.Wholes.{slice_split-append, lines-line_feed}

-- ---- texts without a byte

abbrev has_not : ℕ → List ℕ → Bool
has_not c w = list_all (λ b. not (b == c)) w

uncut_by : (c : ℕ) (w : List ℕ) → has_not c w ≡ true → slice_split (λ b. b == c) w ≡ w ∷ []
uncut_by c [] e = refl
uncut_by c (b ∷ w) e =
    slice_split-cons_no (λ x. x == c) b w (not_true (b == c) (and_left (not (b == c)) (has_not c w) e))
    ∙ ap (onto_first b) (uncut_by c w (and_right (not (b == c)) (has_not c w) e))
  where
    not_true : (t : Bool) → not t ≡ true → t ≡ false
    not_true false h = refl
    not_true true h = absurd cc

plain_is_not : (c : ℕ) → is_plain_byte c ≡ false → (b : ℕ) → is_plain_byte b ≡ true → not (b == c) ≡ true
plain_is_not c h b e = go (b == c) refl
  where
    go : (t : Bool) → (b == c) ≡ t → not t ≡ true
    go false q = refl
    go true q =
        let same : b ≡ c = eqb-true b c q in
        let both : true ≡ false = sym e ∙ ap is_plain_byte same ∙ h in
        absurd cc

plain_has_not : (c : ℕ) → is_plain_byte c ≡ false → (w : List ℕ) → is_plain w ≡ true → has_not c w ≡ true
plain_has_not c h w e = list_all-more is_plain_byte (λ b. not (b == c)) (plain_is_not c h) w e

-- ---- plain words between spaces

abbrev pub are_plain : List (List ℕ) → Bool
are_plain ws = list_all is_plain ws

abbrev pub joined : List (List ℕ) → List ℕ
joined ws = join_with_byte 32 ws

joined_has_not : (w : List ℕ) (ws : List (List ℕ)) → are_plain (w ∷ ws) ≡ true → has_not 10 (joined (w ∷ ws)) ≡ true
joined_has_not w [] e = plain_has_not 10 refl w (and_left (is_plain w) true e)
joined_has_not w (v ∷ ws) e =
    list_all-append (λ b. not (b == 10)) w (32 ∷ joined (v ∷ ws))
    ∙ ap (λ t. t && has_not 10 (32 ∷ joined (v ∷ ws))) (plain_has_not 10 refl w (and_left (is_plain w) (are_plain (v ∷ ws)) e))
    ∙ joined_has_not v ws (and_right (is_plain w) (are_plain (v ∷ ws)) e)

words-joined : (w : List ℕ) (ws : List (List ℕ)) → are_plain (w ∷ ws) ≡ true → words (joined (w ∷ ws)) ≡ w ∷ ws
words-joined w [] e = uncut_by 32 w (plain_has_not 32 refl w (and_left (is_plain w) true e))
words-joined w (v ∷ ws) e =
    slice_split-append is_space w 32 (joined (v ∷ ws)) refl
    ∙ ap (λ ps. ps ++ words (joined (v ∷ ws))) (uncut_by 32 w (plain_has_not 32 refl w (and_left (is_plain w) (are_plain (v ∷ ws)) e)))
    ∙ ap (λ ps. w ∷ ps) (words-joined v ws (and_right (is_plain w) (are_plain (v ∷ ws)) e))

-- a line of plain words is written as the entry that the words say
pub written_as : (line w : List ℕ) (ws : List (List ℕ)) (e : Entry) → line ≡ joined (w ∷ ws) ++ 10 ∷ [] → are_plain (w ∷ ws) ≡ true → words_entry (w ∷ ws) ≡ Some e → IsWrittenAs line e
unfolding json_line csv_line
written_as line w ws e l plain says client =
    let text : List ℕ = joined (w ∷ ws) in
    let one : lines line ≡ text ∷ [] = ap lines l ∙ lines-line_feed text ∙ uncut_by 10 text (joined_has_not w ws plain) in
    let entry : entry_of text ≡ e = ap (λ o. unwrap_or o (Listed text)) (ap words_entry (words-joined w ws plain) ∙ says) in (
      ap (flat_map (json_line client)) one ∙ append-nil (json_line client text) ∙ ap (json_entry (decimal client)) entry,
      ap (flat_map (csv_line client)) one ∙ append-nil (csv_line client text) ∙ ap (csv_entry (decimal client)) entry,
    )

-- ---- bytes in hexadecimal

digit_is_hex : (n : ℕ) → n < 16 → is_hex_digit (digit n) ≡ true
digit_is_hex n h = grind (arith, nat_tests)

value_of_digit : (n : ℕ) → n < 16 → digit_value (digit n) ≡ n
value_of_digit n h = grind (arith, nat_tests)

digit_is_plain : (n : ℕ) → n < 16 → is_plain_byte (digit n) ≡ true
digit_is_plain n h = grind (arith, nat_tests)

abbrev all_bytes : List ℕ → Bool
all_bytes m = list_all (λ x. nat_lt x 256) m

is_byte : (b : ℕ) → nat_lt b 256 ≡ true → b < 256
is_byte b e = grind (arith, nat_tests)

byte_of-hex_word : (b : ℕ) → b < 256 → byte_of (hex_word b) ≡ b
byte_of-hex_word b h =
    ap (λ x. x * 16 + digit_value (digit (b % 16))) (value_of_digit (b / 16) (omega arith))
    ∙ ap (λ x. b / 16 * 16 + x) (value_of_digit (b % 16) (omega arith))
    ∙ omega arith

bytes-hex_words : (m : List ℕ) → all_bytes m ≡ true → map byte_of (map hex_word m) ≡ m
bytes-hex_words [] e = refl
bytes-hex_words (b ∷ m) e =
    let here = is_byte b (and_left (nat_lt b 256) (all_bytes m) e) in
    ap (λ x. x ∷ map byte_of (map hex_word m)) (byte_of-hex_word b here)
    ∙ ap (λ xs. b ∷ xs) (bytes-hex_words m (and_right (nat_lt b 256) (all_bytes m) e))

hex_words_are : (m : List ℕ) → all_bytes m ≡ true → list_all is_hex_byte (map hex_word m) ≡ true
hex_words_are [] e = refl
hex_words_are (b ∷ m) e =
    let here = is_byte b (and_left (nat_lt b 256) (all_bytes m) e) in
    ap (λ t. (t && is_hex_digit (digit (b % 16))) && list_all is_hex_byte (map hex_word m)) (digit_is_hex (b / 16) (omega arith))
    ∙ ap (λ t. t && list_all is_hex_byte (map hex_word m)) (digit_is_hex (b % 16) (omega arith))
    ∙ hex_words_are m (and_right (nat_lt b 256) (all_bytes m) e)

hex_words_plain : (m : List ℕ) → all_bytes m ≡ true → are_plain (map hex_word m) ≡ true
hex_words_plain [] e = refl
hex_words_plain (b ∷ m) e =
    let here = is_byte b (and_left (nat_lt b 256) (all_bytes m) e) in
    ap (λ t. (t && (is_plain_byte (digit (b % 16)) && true)) && are_plain (map hex_word m)) (digit_is_plain (b / 16) (omega arith))
    ∙ ap (λ t. (t && true) && are_plain (map hex_word m)) (digit_is_plain (b % 16) (omega arith))
    ∙ hex_words_plain m (and_right (nat_lt b 256) (all_bytes m) e)

spaced_hex-joined : (w : List ℕ) (m : List ℕ) → w ++ spaced_hex m ≡ joined (w ∷ map hex_word m)
spaced_hex-joined w [] = append-nil w
spaced_hex-joined w (b ∷ m) = ap (λ xs. w ++ 32 ∷ xs) (spaced_hex-joined (hex_word b) m)

pub record IsSpelled (m : List ℕ) : Type 0 where
  pub plain : are_plain (map hex_word m) ≡ true
  pub bytes : bytes_of (map hex_word m) ≡ Some m
  pub text : (w : List ℕ) → w ++ spaced_hex m ≡ joined (w ∷ map hex_word m)

pub spelled : (m : List ℕ) → is_bytes m ≡ true → IsSpelled m
spelled [] e = absurd cc
spelled (b ∷ m) e = record {
  plain = hex_words_plain (b ∷ m) e;
  bytes = ap (λ t. cond t (Some (map byte_of (map hex_word (b ∷ m)))) None) (hex_words_are (b ∷ m) e) ∙ ap Some (bytes-hex_words (b ∷ m) e);
  text = λ w. spaced_hex-joined w (b ∷ m);
}
