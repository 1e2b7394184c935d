-- Bytes between quotation marks, one after another.
use Rattle.std.proofs.Common.{◌≡◌, ℕ, ◌+◌, ◌<◌, ◌≤◌, ◌*◌, Bool, true, false, List, [], ◌∷◌, length, take, drop, get_or, refl, sym, ap, ◌∙◌, subst, arith}
use Rattle.std.specs.Prelude.{if◌then◌else◌, ◌==◌, Option, Some, None, IfSome, IfNone}
use Rattle.std.specs.Option.{option_map, option_and_then}
use Rattle.std.proofs.lemmas.Bool.{ne_eqb}
use Rattle.script_text.specs.Numbers.{both, hex_digit, hex_byte}
use Rattle.script_text.specs.Words.{is_blank, is_empty}
use Rattle.smf_make.specs.SaidEvents.{Whole, Escaping, Digits, Closed, quoted_from, unindented}
use Rattle.smf_make.specs.Words.{closes, mark_closed}

mark_closed-is : (text : List ℕ) → quoted_from Closed text ≡ (if closes text then Some [] else None)
unfolding quoted_from
mark_closed-is [] = refl
mark_closed-is (b ∷ text) = go (is_blank b) (mark_closed-is text)
  where
    go : (t : Bool) → quoted_from Closed text ≡ (if closes text then Some [] else None) → (if t then quoted_from Closed text else None) ≡ (if is_empty (if t then unindented text else (b ∷ text)) then Some [] else None)
    go true h = h
    go false h = refl

-- ---- what stands first

pub mark-first : (text : List ℕ) → (length text == 0) ≡ false → get_or text 0 0 ≡ 34 → quoted_from Whole text ≡ mark_closed text
unfolding quoted_from
mark-first [] some e = let bad : ⊥ = cc in absurd bad
mark-first (b ∷ text) some e = subst (λ (x : ℕ). quoted_from Whole (x ∷ text) ≡ mark_closed (x ∷ text)) (sym e) (mark_closed-is text)

pub nothing-first : (text : List ℕ) → length text ≡ 0 → quoted_from Whole text ≡ mark_closed text
unfolding quoted_from
nothing-first [] e = refl
nothing-first (b ∷ text) e = absurd (omega arith)

pub backslash-first : (text : List ℕ) → (length text == 0) ≡ false → get_or text 0 0 ≡ 92 → quoted_from Whole text ≡ quoted_from Escaping (drop 1 text)
unfolding quoted_from
backslash-first [] some e = let bad : ⊥ = cc in absurd bad
backslash-first (b ∷ text) some e = subst (λ (x : ℕ). quoted_from Whole (x ∷ text) ≡ quoted_from Escaping text) (sym e) refl

pub plain-first : (text : List ℕ) → (length text == 0) ≡ false → (get_or text 0 0 ≡ 34 → ⊥) → (get_or text 0 0 ≡ 92 → ⊥) → quoted_from Whole text ≡ option_map (λ more. get_or text 0 0 ∷ more) (quoted_from Whole (drop 1 text))
unfolding quoted_from
plain-first [] some e h = let bad : ⊥ = cc in absurd bad
plain-first (b ∷ text) some e h = go (b == 34) (b == 92) (ne_eqb b 34 e) (ne_eqb b 92 h)
  where
    go : (t u : Bool) → t ≡ false → u ≡ false → (if t then quoted_from Closed text else (if u then quoted_from Escaping text else option_map (λ more. b ∷ more) (quoted_from Whole text))) ≡ option_map (λ more. b ∷ more) (quoted_from Whole text)
    go false false e h = refl
    go false true e h = let bad : ⊥ = cc in absurd bad
    go true u e h = let bad : ⊥ = cc in absurd bad

-- ---- behind a backslash

pub short-escape : (text : List ℕ) → length text < 3 → quoted_from Escaping text ≡ None
unfolding quoted_from
short-escape [] h = refl
short-escape (b ∷ []) h = go (b == 120)
  where
    go : (t : Bool) → ◌≡◌ {A = Option (List ℕ)} (if t then None else None) None
    go true = refl
    go false = refl
short-escape (b ∷ c ∷ []) h = go (b == 120) (hex_digit c)
  where
    go : (t : Bool) (o : Option ℕ) → ◌≡◌ {A = Option (List ℕ)} (if t then option_and_then (λ high. None) o else None) None
    go true (Some high) = refl
    go true None = refl
    go false o = refl
short-escape (b ∷ c ∷ d ∷ text) h = absurd (omega arith)

pub other-escape : (text : List ℕ) → 3 ≤ length text → (get_or text 0 0 ≡ 120 → ⊥) → quoted_from Escaping text ≡ None
unfolding quoted_from
other-escape [] some e = absurd (omega arith)
other-escape (b ∷ text) some e = ap (λ (t : Bool). if t then quoted_from Digits text else None) (ne_eqb b 120 e)

digits : (high low : Option ℕ) (rest : Option (List ℕ)) → option_and_then (λ h. both (λ l bytes. (h * 16 + l) ∷ bytes) low rest) high ≡ option_and_then (λ b. option_map (λ bytes. b ∷ bytes) rest) (both (λ h l. h * 16 + l) high low)
digits None low rest = refl
digits (Some h) None rest = refl
digits (Some h) (Some l) rest = refl

pub hex-escape : (text : List ℕ) → 3 ≤ length text → get_or text 0 0 ≡ 120 → quoted_from Escaping text ≡ option_and_then (λ b. option_map (λ more. b ∷ more) (quoted_from Whole (drop 3 text))) (hex_byte (take 2 (drop 1 text)))
unfolding quoted_from
hex-escape [] some e = absurd (omega arith)
hex-escape (b ∷ []) some e = absurd (omega arith)
hex-escape (b ∷ c ∷ []) some e = absurd (omega arith)
hex-escape (b ∷ c ∷ d ∷ text) some e =
    subst (λ (x : ℕ). quoted_from Escaping (x ∷ c ∷ d ∷ text) ≡ option_and_then (λ y. option_map (λ more. y ∷ more) (quoted_from Whole text)) (hex_byte (c ∷ d ∷ []))) (sym e)
    (digits (hex_digit c) (hex_digit d) (quoted_from Whole text))

-- ---- what was found

pub found-behind : {X : Type 0} (o : Option X) (whole rest : Option (List ℕ)) (f : X → Option (List ℕ)) → whole ≡ rest → IfSome o (λ b. rest ≡ f b) → IfSome o (λ b. whole ≡ f b)
found-behind None whole rest f e h = h
found-behind (Some b) whole rest f e h = e ∙ h

pub nothing-behind : {X : Type 0} (o : Option X) (whole rest end : Option (List ℕ)) → whole ≡ rest → None ≡ end → IfNone o (rest ≡ None) → IfNone o (whole ≡ end)
nothing-behind None whole rest end e f h = e ∙ h ∙ f
nothing-behind (Some b) whole rest end e f h = h

pub no-mark : (text : List ℕ) → get_or text 0 0 ≡ 92 → None ≡ mark_closed text
no-mark [] e = refl
no-mark (b ∷ text) e = subst (λ (x : ℕ). None ≡ mark_closed (x ∷ text)) (sym e) refl
