-- Meta events that are written, read back.
use Rattle.std.proofs.Common.{◌≡◌, ◌≤◌, ◌<◌, ℕ, ◌+◌, ◌-◌, ◌*◌, ◌%◌, ◌^◌, Bool, true, false, List, [], ◌∷◌, ◌++◌, length, map, refl, sym, ap, ◌∙◌, subst, arith}
use Rattle.std.specs.Prelude.{if◌then◌else◌, nat_lt, ◌==◌, Option, Some, None, is_some, codes}
use Rattle.std.specs.Fmt.{decimal}
use Rattle.std.specs.List.{AllByRecursion}
use Rattle.std.specs.Map.{lookup}
use Rattle.std.specs.Option.{option_map, option_and_then}
use Rattle.std.specs.Str.{bytes_eq}
use Rattle.std.proofs.lemmas.Bool.{eqb-true, ne_eqb}
use Rattle.std.proofs.lemmas.Bool.Decides.{nat_tests}
use Rattle.script_text.specs.Words.{words}
use Rattle.script_text.specs.Numbers.{both, up_to, hex_byte, hex_bytes}
use Rattle.smf_grammar.specs.Pairs.{Meta}
use Rattle.text_forms.specs.Hex.{spaced_hex}
use Rattle.smf_text.specs.AllTexts.{Shape, Quoted, Numbers, Key, Bytes, meta_words, hex_of, numbers_text, sum_of, signed, key_text, fits, shape_text, plain_meta, named_meta, meta_text}
use Rattle.smf_make.specs.SaidEvents.{behind_word, signed_said, key_said, shape_said, type_named, named_meta_said, plain_meta_said, event_of_bytes, event_by}
use Rattle.smf_make.proofs.SpelledWords.{AreFree, IsWord, IsSpaced, words-blank, words-then, behind-then}
use Rattle.smf_make.proofs.SpelledNumbers.{is_break, up-to-decimal, word-decimal, solid-decimal, FirstDigit, decimal-first, solid-hex, word-hex, hex-byte}
use Rattle.smf_make.proofs.SpelledBytes.{AreBytes, FirstByte, first-byte, free-append, spaced-spaced, spaced-words, hex-read, spaced-unbroken, quoted-read, quoted-unbroken, AreSizes, numbers-spaced, numbers-read, numbers-unbroken}

-- ---- keys

signed-digits : (w : List ℕ) → FirstDigit w → signed_said w ≡ up_to 127 w
signed-digits w d =
    let low : 48 ≤ d.first = d.low in
    ap signed_said d.is
    ∙ ap (λ (t : Bool). if t then option_map (λ n. (256 - n) % 256) (up_to 128 d.more) else up_to 127 (d.first ∷ d.more)) (ne_eqb d.first 45 (λ (e : d.first ≡ 45). omega arith))
    ∙ ap (up_to 127) (sym d.is)

signed-read : (b : ℕ) → b < 256 → signed_said (signed b) ≡ Some b
signed-read b h = go (nat_lt b 128) refl
  where
    go : (t : Bool) → nat_lt b 128 ≡ t → signed_said (if t then decimal b else (45 ∷ decimal (256 - b))) ≡ Some b
    go true e = let low : b ≤ 127 = grind (arith, nat_tests) in signed-digits (decimal b) (decimal-first b (omega arith)) ∙ up-to-decimal 127 b (omega arith) low
    go false e =
        let high : 128 ≤ b = grind (arith, nat_tests) in
        let same : (256 - (256 - b)) % 256 ≡ b = omega arith in
        ap (option_map (λ n. (256 - n) % 256)) (up-to-decimal 128 (256 - b) (omega arith) (omega arith)) ∙ ap (λ (x : ℕ). Some x) same

record IsSolid (w : List ℕ) : Type 0 where
  word : IsWord w
  unbroken : AreFree is_break w

signed-solid : (b : ℕ) → b < 256 → IsSolid (signed b)
signed-solid b h = go (nat_lt b 128)
  where
    go : (t : Bool) → IsSolid (if t then decimal b else (45 ∷ decimal (256 - b)))
    go true = record { word = word-decimal b (omega arith); unbroken = (solid-decimal b (omega arith)).unbroken }
    go false =
        let is : IsWord (decimal (256 - b)) = word-decimal (256 - b) (omega arith) in
        record { word = record { some = refl; solid = (refl, is.solid) }; unbroken = (refl, (solid-decimal (256 - b) (omega arith)).unbroken) }

key-words : (a b : ℕ) → a < 256 → b < 256 → words (key_text (a ∷ b ∷ [])) ≡ signed a ∷ decimal b ∷ []
key-words a b h k =
    let same : b * 256 ^ 0 + 0 ≡ b = omega arith in
    let last : words (numbers_text (1 ∷ []) (b ∷ [])) ≡ decimal b ∷ [] =
    words-blank 32 (decimal (b * 256 ^ 0 + 0) ++ []) refl ∙ ap (λ (n : ℕ). words (decimal n ++ [])) same ∙ words-then (decimal b) [] (word-decimal b (omega arith)) tt in
    words-blank 32 (signed a ++ numbers_text (1 ∷ []) (b ∷ [])) refl
    ∙ words-then (signed a) (numbers_text (1 ∷ []) (b ∷ [])) (signed-solid a h).word refl
    ∙ ap (λ (ws : List (List ℕ)). signed a ∷ ws) last

-- ---- shapes

pub record FitsBytes (shape : Shape) (bytes : List ℕ) : Type 0 where
  pub spaced : IsSpaced (shape_text shape bytes)
  pub read : shape_said shape (shape_text shape bytes) ≡ Some bytes
  pub unbroken : AreFree is_break (shape_text shape bytes)

abbrev pub HasSizes : Shape → Type 0
HasSizes Quoted = Unit {0}
HasSizes (Numbers sizes) = AreSizes sizes
HasSizes Key = Unit {0}
HasSizes Bytes = Unit {0}

one-size : AreSizes (1 ∷ [])
one-size = ((omega arith, omega arith), tt)

pub shape-fits : (shape : Shape) (bytes : List ℕ) → HasSizes shape → fits shape (length bytes) ≡ true → AreBytes bytes → FitsBytes shape bytes
shape-fits Quoted bytes s f h = record { spaced = refl; read = quoted-read bytes h; unbroken = (refl, quoted-unbroken bytes) }
shape-fits (Numbers sizes) bytes s f h =
    let sum : length bytes ≡ sum_of sizes = eqb-true (length bytes) (sum_of sizes) f in
    record { spaced = numbers-spaced sizes bytes; read = numbers-read sizes bytes s h sum; unbroken = numbers-unbroken sizes bytes s h sum }
shape-fits Key [] s f h = let bad : ⊥ = cc in absurd bad
shape-fits Key (a ∷ []) s f h = let bad : ⊥ = cc in absurd bad
shape-fits Key (a ∷ b ∷ []) s f h =
    let p : FirstByte a (b ∷ []) = first-byte a (b ∷ []) h in
    let q : FirstByte b [] = first-byte b [] p.more in
    record {
      spaced = refl;
      read = ap key_said (key-words a b p.first q.first)
          ∙ ap (λ (o : Option ℕ). both (λ x y. x ∷ y ∷ []) o (up_to 255 (decimal b))) (signed-read a p.first)
          ∙ ap (λ (o : Option ℕ). both (λ x y. x ∷ y ∷ []) (Some a) o) (up-to-decimal 255 b (let low : b < 256 = q.first in omega arith) (let low : b < 256 = q.first in omega arith));
      unbroken = (refl, free-append is_break (signed a) (numbers_text (1 ∷ []) (b ∷ [])) (signed-solid a p.first).unbroken (numbers-unbroken (1 ∷ []) (b ∷ []) one-size p.more refl));
    }
shape-fits Key (a ∷ b ∷ c ∷ bytes) s f h =
    let two : length (a ∷ b ∷ c ∷ bytes) ≡ 2 = eqb-true (length (a ∷ b ∷ c ∷ bytes)) 2 f in absurd (omega arith)
shape-fits Bytes bytes s f h = record { spaced = spaced-spaced bytes; read = ap hex_bytes (spaced-words bytes) ∙ hex-read bytes h; unbroken = spaced-unbroken bytes }

-- ---- the words of types

record IsGoodRow (row : ℕ × (List ℕ × Shape)) : Type 0 where
  word : IsWord row.1.0
  unbroken : AreFree is_break row.1.0
  no_hex : is_some (hex_byte row.1.0) ≡ false
  no_meta : bytes_eq row.1.0 (codes "meta") ≡ false
  named : type_named row.1.0 ≡ Some (row.0, row.1.1)
  sizes : HasSizes row.1.1

one : (1 ≤ 1) × (1 ≤ 3)
one = (omega arith, omega arith)

two : (1 ≤ 2) × (2 ≤ 3)
two = (omega arith, omega arith)

three : (1 ≤ 3) × (3 ≤ 3)
three = (omega arith, omega arith)

good-rows : AllByRecursion IsGoodRow meta_words
unfolding meta_words
good-rows = (
  record { word = record { some = refl; solid = (refl, (refl, (refl, (refl, (refl, (refl, (refl, (refl, tt)))))))) }; unbroken = (refl, (refl, (refl, (refl, (refl, (refl, (refl, (refl, tt)))))))); no_hex = refl; no_meta = refl; named = refl; sizes = (two, tt) },
  (
    record { word = record { some = refl; solid = (refl, (refl, (refl, (refl, tt)))) }; unbroken = (refl, (refl, (refl, (refl, tt)))); no_hex = refl; no_meta = refl; named = refl; sizes = tt },
    (
      record { word = record { some = refl; solid = (refl, (refl, (refl, (refl, (refl, (refl, (refl, (refl, (refl, tt))))))))) }; unbroken = (refl, (refl, (refl, (refl, (refl, (refl, (refl, (refl, (refl, tt))))))))); no_hex = refl; no_meta = refl; named = refl; sizes = tt },
      (
        record { word = record { some = refl; solid = (refl, (refl, (refl, (refl, tt)))) }; unbroken = (refl, (refl, (refl, (refl, tt)))); no_hex = refl; no_meta = refl; named = refl; sizes = tt },
        (
          record { word = record { some = refl; solid = (refl, (refl, (refl, (refl, (refl, (refl, (refl, (refl, (refl, (refl, tt)))))))))) }; unbroken = (refl, (refl, (refl, (refl, (refl, (refl, (refl, (refl, (refl, (refl, tt)))))))))); no_hex = refl; no_meta = refl; named = refl; sizes = tt },
          (
            record { word = record { some = refl; solid = (refl, (refl, (refl, (refl, (refl, tt))))) }; unbroken = (refl, (refl, (refl, (refl, (refl, tt))))); no_hex = refl; no_meta = refl; named = refl; sizes = tt },
            (
              record { word = record { some = refl; solid = (refl, (refl, (refl, (refl, (refl, (refl, tt)))))) }; unbroken = (refl, (refl, (refl, (refl, (refl, (refl, tt)))))); no_hex = refl; no_meta = refl; named = refl; sizes = tt },
              (
                record { word = record { some = refl; solid = (refl, (refl, (refl, tt))) }; unbroken = (refl, (refl, (refl, tt))); no_hex = refl; no_meta = refl; named = refl; sizes = tt },
                (
                  record { word = record { some = refl; solid = (refl, (refl, (refl, (refl, (refl, (refl, (refl, tt))))))) }; unbroken = (refl, (refl, (refl, (refl, (refl, (refl, (refl, tt))))))); no_hex = refl; no_meta = refl; named = refl; sizes = tt },
                  (
                    record { word = record { some = refl; solid = (refl, (refl, (refl, (refl, (refl, (refl, tt)))))) }; unbroken = (refl, (refl, (refl, (refl, (refl, (refl, tt)))))); no_hex = refl; no_meta = refl; named = refl; sizes = tt },
                    (
                      record { word = record { some = refl; solid = (refl, (refl, (refl, (refl, (refl, (refl, (refl, tt))))))) }; unbroken = (refl, (refl, (refl, (refl, (refl, (refl, (refl, tt))))))); no_hex = refl; no_meta = refl; named = refl; sizes = (one, tt) },
                      (
                        record { word = record { some = refl; solid = (refl, (refl, (refl, (refl, tt)))) }; unbroken = (refl, (refl, (refl, (refl, tt)))); no_hex = refl; no_meta = refl; named = refl; sizes = (one, tt) },
                        (
                          record { word = record { some = refl; solid = (refl, (refl, (refl, tt))) }; unbroken = (refl, (refl, (refl, tt))); no_hex = refl; no_meta = refl; named = refl; sizes = tt },
                          (
                            record { word = record { some = refl; solid = (refl, (refl, (refl, (refl, (refl, tt))))) }; unbroken = (refl, (refl, (refl, (refl, (refl, tt))))); no_hex = refl; no_meta = refl; named = refl; sizes = (three, tt) },
                            (
                              record { word = record { some = refl; solid = (refl, (refl, (refl, (refl, (refl, tt))))) }; unbroken = (refl, (refl, (refl, (refl, (refl, tt))))); no_hex = refl; no_meta = refl; named = refl; sizes = (one, (one, (one, (one, (one, tt))))) },
                              (
                                record { word = record { some = refl; solid = (refl, (refl, (refl, (refl, tt)))) }; unbroken = (refl, (refl, (refl, (refl, tt)))); no_hex = refl; no_meta = refl; named = refl; sizes = (one, (one, (one, (one, tt)))) },
                                (
                                  record { word = record { some = refl; solid = (refl, (refl, (refl, tt))) }; unbroken = (refl, (refl, (refl, tt))); no_hex = refl; no_meta = refl; named = refl; sizes = tt },
                                  (
                                    record { word = record { some = refl; solid = (refl, (refl, (refl, (refl, (refl, (refl, (refl, (refl, (refl, tt))))))))) }; unbroken = (refl, (refl, (refl, (refl, (refl, (refl, (refl, (refl, (refl, tt))))))))); no_hex = refl; no_meta = refl; named = refl; sizes = tt },
                                    tt,
                                  ),
                                ),
                              ),
                            ),
                          ),
                        ),
                      ),
                    ),
                  ),
                ),
              ),
            ),
          ),
        ),
      ),
    ),
  ),
)

row-found : (kind : ℕ) (rows : List (ℕ × (List ℕ × Shape))) (v : List ℕ × Shape) → AllByRecursion IsGoodRow rows → lookup (λ k. k == kind) rows ≡ Some v → IsGoodRow (kind, v)
row-found kind [] v good e = let bad : ⊥ = cc in absurd bad
row-found kind (row ∷ rows) v good e = go (row.0 == kind) refl e (row-found kind rows v good.1)
  where
    go : (t : Bool) → (row.0 == kind) ≡ t → (if t then Some row.1 else lookup (λ k. k == kind) rows) ≡ Some v → (lookup (λ k. k == kind) rows ≡ Some v → IsGoodRow (kind, v)) → IsGoodRow (kind, v)
    go true is found later =
        let same : row.1 ≡ v = cc in
        subst (λ (x : List ℕ × Shape). IsGoodRow (kind, x)) same (subst (λ (k : ℕ). IsGoodRow (k, row.1)) (eqb-true row.0 kind is) good.0)
    go false is found later = later found

-- ---- meta events

pub record MetaReads (kind : ℕ) (bytes text : List ℕ) : Type 0 where
  pub read : event_by (words text) (behind_word text) ≡ Some (Meta kind bytes)
  pub unbroken : AreFree is_break text

meta-word : IsWord (codes "meta")
meta-word = record { some = refl; solid = (refl, (refl, (refl, (refl, tt)))) }

plain-reads : (kind : ℕ) (bytes : List ℕ) → kind < 256 → AreBytes bytes → MetaReads kind bytes (plain_meta kind bytes)
plain-reads kind bytes h k =
    let rest : List ℕ = 32 ∷ (hex_of kind ++ spaced_hex bytes) in
    let inner : words (32 ∷ (hex_of kind ++ spaced_hex bytes)) ≡ hex_of kind ∷ map hex_of bytes =
    words-blank 32 (hex_of kind ++ spaced_hex bytes) refl ∙ words-then (hex_of kind) (spaced_hex bytes) (word-hex kind) (spaced-spaced bytes) ∙ ap (λ (ws : List (List ℕ)). hex_of kind ∷ ws) (spaced-words bytes) in
    let all : words (plain_meta kind bytes) ≡ codes "meta" ∷ hex_of kind ∷ map hex_of bytes =
    words-then (codes "meta") (32 ∷ (hex_of kind ++ spaced_hex bytes)) meta-word refl ∙ ap (λ (ws : List (List ℕ)). codes "meta" ∷ ws) inner in
    record {
      read = ap (λ (ws : List (List ℕ)). event_by ws (behind_word (plain_meta kind bytes))) all
          ∙ ap (λ (o : Option ℕ). both Meta o (hex_bytes (map hex_of bytes))) (hex-byte kind h)
          ∙ ap (both Meta (Some kind)) (hex-read bytes k);
      unbroken = free-append is_break (codes "meta ") (hex_of kind ++ spaced_hex bytes) (refl, (refl, (refl, (refl, (refl, tt))))) (free-append is_break (hex_of kind) (spaced_hex bytes) (solid-hex kind).unbroken (spaced-unbroken bytes));
    }

named-reads : (kind : ℕ) (bytes : List ℕ) (word : List ℕ × Shape) → IsGoodRow (kind, word) → fits word.1 (length bytes) ≡ true → AreBytes bytes → MetaReads kind bytes (word.0 ++ shape_text word.1 bytes)
named-reads kind bytes word good f h =
    let shape : FitsBytes word.1 bytes = shape-fits word.1 bytes good.sizes f h in
    record {
      read = ap (λ (ws : List (List ℕ)). event_by ws (behind_word (word.0 ++ shape_text word.1 bytes))) (words-then word.0 (shape_text word.1 bytes) good.word shape.spaced)
          ∙ ap (event_by (word.0 ∷ words (shape_text word.1 bytes))) (behind-then word.0 (shape_text word.1 bytes) good.word shape.spaced)
          ∙ ap (λ (t : Bool). if t then option_and_then event_of_bytes (hex_bytes (word.0 ∷ words (shape_text word.1 bytes))) else (if bytes_eq word.0 (codes "meta") then plain_meta_said (words (shape_text word.1 bytes)) else named_meta_said (type_named word.0) (shape_text word.1 bytes))) good.no_hex
          ∙ ap (λ (t : Bool). if t then plain_meta_said (words (shape_text word.1 bytes)) else named_meta_said (type_named word.0) (shape_text word.1 bytes)) good.no_meta
          ∙ ap (λ (o : Option (ℕ × Shape)). named_meta_said o (shape_text word.1 bytes)) good.named
          ∙ ap (option_map (Meta kind)) shape.read;
      unbroken = free-append is_break word.0 (shape_text word.1 bytes) good.unbroken shape.unbroken;
    }

pub meta-reads : (kind : ℕ) (bytes : List ℕ) → kind < 256 → AreBytes bytes → MetaReads kind bytes (meta_text kind bytes)
meta-reads kind bytes h k = go (lookup (λ x. x == kind) meta_words) refl
  where
    either : (word : List ℕ × Shape) (t : Bool) → fits word.1 (length bytes) ≡ t → IsGoodRow (kind, word) → MetaReads kind bytes (if t then (word.0 ++ shape_text word.1 bytes) else plain_meta kind bytes)
    either word true f good = named-reads kind bytes word good f k
    either word false f good = plain-reads kind bytes h k

    go : (o : Option (List ℕ × Shape)) → lookup (λ x. x == kind) meta_words ≡ o → MetaReads kind bytes (named_meta kind bytes o)
    go None e = plain-reads kind bytes h k
    go (Some word) e = either word (fits word.1 (length bytes)) refl (row-found kind meta_words word good-rows e)
