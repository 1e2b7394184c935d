-- No byte of a file breaks a line.
use Rattle.std.proofs.Common.{◌≡◌, ◌≤◌, ◌<◌, ℕ, zero, suc, ◌+◌, ◌-◌, ◌/◌, ◌%◌, Bool, true, false, List, [], ◌∷◌, ◌++◌, ◌∙◌, length, drop, refl, arith, ap, sym, subst}
use Rattle.std.specs.Prelude.{Option, Some, None, nat_le, nat_lt, ◌==◌, ◌&&◌, ◌||◌, not, if◌then◌else◌, IsTrue, count_by, sum_by, codes}
use Rattle.std.specs.List.{list_all, flat_map}
use Rattle.std.specs.Map.{lookup}
use Rattle.std.specs.Fmt.{decimal, digits, digits_onto, digit_glyph}
use Rattle.std.proofs.lemmas.Bool.Decides.{nat_tests}
use Rattle.std.proofs.lemmas.List.Folds.{list_all-append}
use Rattle.std.proofs.lemmas.List.Sums.{sum_by-cons, sum_by-append}
use Rattle.byteorder.specs.Endian.{big_number}
use Rattle.smf_grammar.specs.Pairs.{TrackEvent, Voice, Exclusive, Escape, Meta, Pair}
use Rattle.smf_grammar.specs.Files.{MidiFile}
use Rattle.smf_grammar.specs.Written.{all_bytes}
use Rattle.text_forms.specs.Hex.{digit, spaced_hex}
use Rattle.tool_text.specs.Dump.{head_line}
use Rattle.smf_text.specs.AllTexts.{Shape, Quoted, Numbers, Key, Bytes, meta_words, quoted_byte, quoted, numbers_text, signed, fits, shape_text, plain_meta, named_meta, event_text, line_text, pair_lines, track_text, track_lines}
use Rattle.smf_text.specs.Laws.{AreLines, LineForEach}
use Rattle.smf_text.proofs.BytesRead.{both, each, AreBytes, HasBytes, AllHaveBytes, TracksHaveBytes, file-read}

abbrev is_plain : ℕ → Bool
is_plain b = nat_le 32 b && nat_le b 126

-- all bytes are visible ASCII characters or spaces
abbrev plain : List ℕ → Bool
plain text = list_all is_plain text

plain-append : (xs ys : List ℕ) → plain xs ≡ true → plain ys ≡ true → plain (xs ++ ys) ≡ true
plain-append xs ys p q = list_all-append is_plain xs ys ∙ both (plain xs) (plain ys) p q

plain-byte : (b : ℕ) (xs : List ℕ) → 32 ≤ b → b ≤ 126 → plain xs ≡ true → plain (b ∷ xs) ≡ true
plain-byte b xs h k p =
    let low : nat_le 32 b ≡ true = grind (arith, nat_tests) in
    let high : nat_le b 126 ≡ true = grind (arith, nat_tests) in
    both (is_plain b) (plain xs) (both (nat_le 32 b) (nat_le b 126) low high) p

plain-either : (b : Bool) (xs ys : List ℕ) → plain xs ≡ true → plain ys ≡ true → plain (if b then xs else ys) ≡ true
plain-either true xs ys p q = p
plain-either false xs ys p q = q

plain-flat : (f : ℕ → List ℕ) → ((b : ℕ) → b < 256 → plain (f b) ≡ true) → (xs : List ℕ) → AreBytes xs → plain (flat_map f xs) ≡ true
plain-flat f h [] k = refl
plain-flat f h (x ∷ xs) k =
    let parts : IsTrue (nat_lt x 256) × AreBytes xs = each (nat_lt x 256) (all_bytes xs) k in
    let low : nat_lt x 256 ≡ true = parts.0 in
    let few : x < 256 = grind (arith, nat_tests) in
    plain-append (f x) (flat_map f xs) (h x few) (plain-flat f h xs parts.1)

-- ---- numbers

pub record IsVisible (b : ℕ) : Type 0 where
  pub low : 32 ≤ b
  pub high : b ≤ 126

glyph-visible : (d : ℕ) → d < 10 → IsVisible (digit_glyph false d)
glyph-visible d h = go (nat_lt d 10)
  where
    go : (b : Bool) → IsVisible (if b then 48 + d else (if false then 55 + d else 87 + d))
    go true = record { low = omega arith; high = omega arith }
    go false = record { low = omega arith; high = omega arith }

plain-onto : (k n : ℕ) (acc : List ℕ) → plain acc ≡ true → plain (digits_onto k 10 false n acc) ≡ true
plain-onto zero n acc p = p
plain-onto (suc k) n acc p =
    let seen : IsVisible (digit_glyph false (n % 10)) = glyph-visible (n % 10) (omega arith) in
    let more : plain (digit_glyph false (n % 10) ∷ acc) ≡ true = plain-byte (digit_glyph false (n % 10)) acc seen.low seen.high p in
    plain-either (n / 10 == 0) (digit_glyph false (n % 10) ∷ acc) (digits_onto k 10 false (n / 10) (digit_glyph false (n % 10) ∷ acc)) more (plain-onto k (n / 10) (digit_glyph false (n % 10) ∷ acc) more)

plain-decimal : (n : ℕ) → plain (decimal n) ≡ true
unfolding digits
plain-decimal n = plain-onto 64 n [] refl

digit-visible : (n : ℕ) → n < 16 → IsVisible (digit n)
digit-visible n h = go (nat_lt n 10)
  where
    go : (b : Bool) → IsVisible (if b then 48 + n else 55 + n)
    go true = record { low = omega arith; high = omega arith }
    go false = record { low = omega arith; high = omega arith }

plain-digits : (b : ℕ) → b < 256 → plain (digit (b / 16) ∷ digit (b % 16) ∷ []) ≡ true
plain-digits b h =
    let first : IsVisible (digit (b / 16)) = digit-visible (b / 16) (omega arith) in
    let second : IsVisible (digit (b % 16)) = digit-visible (b % 16) (omega arith) in
    plain-byte (digit (b / 16)) (digit (b % 16) ∷ []) first.low first.high (plain-byte (digit (b % 16)) [] second.low second.high refl)

plain-spaced : (bytes : List ℕ) → AreBytes bytes → plain (spaced_hex bytes) ≡ true
plain-spaced bytes h = plain-flat (λ b. 32 ∷ digit (b / 16) ∷ digit (b % 16) ∷ []) (λ b few. plain-digits b few) bytes h

-- ---- meta events

plain-quoted_byte : (b : ℕ) → b < 256 → plain (quoted_byte b) ≡ true
plain-quoted_byte b h = either (nat_le 32 b) (nat_lt b 127) (not ((b == 34) || (b == 92))) refl refl
  where
    escaped : plain (92 ∷ 120 ∷ digit (b / 16) ∷ digit (b % 16) ∷ []) ≡ true
    escaped = plain-digits b h

    seen : nat_le 32 b ≡ true → nat_lt b 127 ≡ true → plain (b ∷ []) ≡ true
    seen p q = let low : 32 ≤ b = grind (arith, nat_tests) in let high : b < 127 = grind (arith, nat_tests) in plain-byte b [] low (omega arith) refl

    either : (high low rest : Bool) → nat_le 32 b ≡ high → nat_lt b 127 ≡ low → plain (if (high && low) && rest then b ∷ [] else (92 ∷ 120 ∷ digit (b / 16) ∷ digit (b % 16) ∷ [])) ≡ true
    either true true true p q = seen p q
    either true true false p q = escaped
    either true false rest p q = escaped
    either false low rest p q = escaped

plain-quoted : (bytes : List ℕ) → AreBytes bytes → plain (quoted bytes) ≡ true
plain-quoted bytes h = plain-append (34 ∷ flat_map quoted_byte bytes) (34 ∷ []) (plain-flat quoted_byte plain-quoted_byte bytes h) refl

plain-numbers : (sizes bytes : List ℕ) → plain (numbers_text sizes bytes) ≡ true
plain-numbers [] bytes = refl
plain-numbers (size ∷ sizes) bytes = plain-append (32 ∷ decimal (big_number size bytes)) (numbers_text sizes (drop size bytes)) (plain-decimal (big_number size bytes)) (plain-numbers sizes (drop size bytes))

plain-signed : (b : ℕ) → plain (signed b) ≡ true
plain-signed b = plain-either (nat_lt b 128) (decimal b) (45 ∷ decimal (256 - b)) (plain-decimal b) (plain-decimal (256 - b))

plain-shape : (shape : Shape) (bytes : List ℕ) → AreBytes bytes → plain (shape_text shape bytes) ≡ true
plain-shape Quoted bytes h = plain-quoted bytes h
plain-shape (Numbers sizes) bytes h = plain-numbers sizes bytes
plain-shape Key [] h = refl
plain-shape Key (b ∷ bytes) h = plain-append (32 ∷ signed b) (numbers_text (1 ∷ []) bytes) (plain-signed b) (plain-numbers (1 ∷ []) bytes)
plain-shape Bytes bytes h = plain-spaced bytes h

plain-plain : (kind : ℕ) (bytes : List ℕ) → AreBytes (kind ∷ bytes) → plain (plain_meta kind bytes) ≡ true
plain-plain kind bytes h =
    let parts : IsTrue (nat_lt kind 256) × AreBytes bytes = each (nat_lt kind 256) (all_bytes bytes) h in
    let low : nat_lt kind 256 ≡ true = parts.0 in
    let few : kind < 256 = grind (arith, nat_tests) in
    plain-append (codes "meta " ++ digit (kind / 16) ∷ digit (kind % 16) ∷ []) (spaced_hex bytes) (plain-append (codes "meta ") (digit (kind / 16) ∷ digit (kind % 16) ∷ []) refl (plain-digits kind few)) (plain-spaced bytes parts.1)

-- the name of each word is plain
abbrev is_plain_word : Option (List ℕ × Shape) → Bool
is_plain_word None = true
is_plain_word (Some word) = plain word.0

plain-lookup : (kind : ℕ) (words : List (ℕ × (List ℕ × Shape))) → list_all (λ e. plain e.1.0) words ≡ true → is_plain_word (lookup (λ k. k == kind) words) ≡ true
plain-lookup kind [] h = refl
plain-lookup kind (e ∷ words) h =
    let parts : (plain e.1.0 ≡ true) × (list_all (λ w. plain w.1.0) words ≡ true) = each (plain e.1.0) (list_all (λ w. plain w.1.0) words) h in
    elim (e.0 == kind) as (λ (found : Bool). is_plain_word (if found then Some e.1 else lookup (λ k. k == kind) words) ≡ true) [
      | true ↦ parts.0
      | false ↦ plain-lookup kind words parts.1
    ]

plain-word : (kind : ℕ) → is_plain_word (lookup (λ k. k == kind) meta_words) ≡ true
unfolding meta_words
plain-word kind = plain-lookup kind meta_words refl

plain-named : (kind : ℕ) (bytes : List ℕ) (word : Option (List ℕ × Shape)) → is_plain_word word ≡ true → AreBytes (kind ∷ bytes) → plain (named_meta kind bytes word) ≡ true
plain-named kind bytes None h k = plain-plain kind bytes k
plain-named kind bytes (Some word) h k =
    plain-either (fits word.1 (length bytes)) (word.0 ++ shape_text word.1 bytes) (plain_meta kind bytes) (plain-append word.0 (shape_text word.1 bytes) h (plain-shape word.1 bytes (each (nat_lt kind 256) (all_bytes bytes) k).1)) (plain-plain kind bytes k)

plain-event : (event : TrackEvent) → HasBytes event → plain (event_text event) ≡ true
plain-event (Voice status payload) h = plain-spaced (status ∷ payload) h
plain-event (Exclusive bytes) h = plain-spaced (240 ∷ bytes) h
plain-event (Escape bytes) h = plain-spaced (247 ∷ bytes) h
plain-event (Meta kind bytes) h = plain-named kind bytes (lookup (λ k. k == kind) meta_words) (plain-word kind) h

-- ---- lines

plain-lines : (xs : List ℕ) → plain xs ≡ true → AreLines 0 xs
plain-lines [] p = record { ended = refl; visible = refl }
plain-lines (b ∷ xs) p =
    let parts : (is_plain b ≡ true) × (plain xs ≡ true) = each (is_plain b) (plain xs) p in
    let low : nat_le 32 b ≡ true = (each (nat_le 32 b) (nat_le b 126) parts.0).0 in
    let apart : (b == 10) ≡ false = grind (arith, nat_tests) in
    let more : AreLines 0 xs = plain-lines xs parts.1 in
    record {
      ended = sum_by-cons (λ c. if c == 10 then 1 else 0) b xs ∙ ap (λ (t : Bool). (if t then 1 else 0) + count_by (λ c. c == 10) xs) apart ∙ ap (λ (n : ℕ). 0 + n) more.ended;
      visible = both ((b == 10) || is_plain b) (list_all (λ c. (c == 10) || is_plain c) xs) (rw apart parts.0) more.visible;
    }

lines-append : (m n : ℕ) (xs ys : List ℕ) → AreLines m xs → AreLines n ys → AreLines (m + n) (xs ++ ys)
lines-append m n xs ys v w = record {
  ended = sum_by-append (λ c. if c == 10 then 1 else 0) xs ys ∙ ap (λ (k : ℕ). k + count_by (λ c. c == 10) ys) v.ended ∙ ap (λ (k : ℕ). m + k) w.ended;
  visible = list_all-append (λ c. (c == 10) || is_plain c) xs ys ∙ both (list_all (λ c. (c == 10) || is_plain c) xs) (list_all (λ c. (c == 10) || is_plain c) ys) v.visible w.visible;
}

-- the same, by another number
lines-as : (m n : ℕ) (xs : List ℕ) → m ≡ n → AreLines m xs → AreLines n xs
lines-as m n xs e w = subst (λ (k : ℕ). AreLines k xs) e w

end : AreLines 1 (10 ∷ [])
end = record { ended = refl; visible = refl }

line : (xs : List ℕ) → plain xs ≡ true → AreLines 1 (xs ++ 10 ∷ [])
line xs p = lines-append 0 1 xs (10 ∷ []) (plain-lines xs p) end

event-line : (tick : ℕ) (event : TrackEvent) → HasBytes event → AreLines 1 (line_text tick event)
event-line tick event h = line (decimal tick ++ event_text event) (plain-append (decimal tick) (event_text event) (plain-decimal tick) (plain-event event h))

pairs-lines : (tick : ℕ) (ps : List Pair) → AllHaveBytes ps → AreLines (length ps) (pair_lines tick ps)
pairs-lines tick [] h = record { ended = refl; visible = refl }
pairs-lines tick (p ∷ ps) h =
    lines-as (1 + length ps) (suc (length ps)) (pair_lines tick (p ∷ ps)) (omega arith) (lines-append 1 (length ps) (line_text (tick + p.delta) p.event) (pair_lines (tick + p.delta) ps) (event-line (tick + p.delta) p.event h.0) (pairs-lines (tick + p.delta) ps h.1))

track-lines : (track : ℕ) (ps : List Pair) → AllHaveBytes ps → AreLines (1 + length ps) (track_text track ps)
track-lines track ps h =
    let number : AreLines 0 (codes "track " ++ decimal track) = plain-lines (codes "track " ++ decimal track) (plain-append (codes "track ") (decimal track) refl (plain-decimal track)) in
    let lines : AreLines (1 + length ps) (10 ∷ pair_lines 0 ps) = lines-append 1 (length ps) (10 ∷ []) (pair_lines 0 ps) end (pairs-lines 0 ps h) in
    lines-as (0 + (1 + length ps)) (1 + length ps) (track_text track ps) (omega arith) (lines-append 0 (1 + length ps) (codes "track " ++ decimal track) (10 ∷ pair_lines 0 ps) number lines)

tracks-lines : (track : ℕ) (tracks : List (List Pair)) → TracksHaveBytes tracks → AreLines (sum_by (λ ps. 1 + length ps) tracks) (track_lines track tracks)
tracks-lines track [] h = record { ended = refl; visible = refl }
tracks-lines track (ps ∷ tracks) h =
    lines-as (1 + length ps + sum_by (λ qs. 1 + length qs) tracks) (sum_by (λ qs. 1 + length qs) (ps ∷ tracks)) (track_lines track (ps ∷ tracks)) (sym (sum_by-cons (λ qs. 1 + length qs) ps tracks))
    (lines-append (1 + length ps) (sum_by (λ qs. 1 + length qs) tracks) (track_text track ps) (track_lines (suc track) tracks) (track-lines track ps h.0) (tracks-lines (suc track) tracks h.1))

head-lines : (f : MidiFile) → AreLines 1 (head_line f)
head-lines f =
    let format : plain (codes "format " ++ decimal f.format) ≡ true = plain-append (codes "format ") (decimal f.format) refl (plain-decimal f.format) in
    let tracks : plain (codes "format " ++ decimal f.format ++ codes " tracks " ++ decimal (length f.tracks)) ≡ true =
    plain-append (codes "format " ++ decimal f.format ++ codes " tracks ") (decimal (length f.tracks)) (plain-append (codes "format " ++ decimal f.format) (codes " tracks ") format refl) (plain-decimal (length f.tracks)) in
    line (codes "format " ++ decimal f.format ++ codes " tracks " ++ decimal (length f.tracks) ++ codes " division " ++ decimal f.division)
    (plain-append (codes "format " ++ decimal f.format ++ codes " tracks " ++ decimal (length f.tracks) ++ codes " division ") (decimal f.division)
    (plain-append (codes "format " ++ decimal f.format ++ codes " tracks " ++ decimal (length f.tracks)) (codes " division ") tracks refl) (plain-decimal f.division))

pub line-for-each : LineForEach
line-for-each bytes f h w = lines-append 1 (sum_by (λ ps. 1 + length ps) f.tracks) (head_line f) (track_lines 0 f.tracks) (head-lines f) (tracks-lines 0 f.tracks (file-read bytes f w h))
