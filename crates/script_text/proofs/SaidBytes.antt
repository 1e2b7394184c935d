-- What bytes words say, taken one by one.
use Rattle.std.proofs.Common.{◌≡◌, ℕ, ◌+◌, ◌-◌, Bool, true, false, cond, ◌&&◌, List, [], ◌∷◌, length, Option, Some, None, refl, sym, ap, ◌∙◌, arith}
use Rattle.std.specs.Prelude.{nat_le, nat_lt, ◌==◌}
use Rattle.std.specs.Option.{is_some, option_map}
use Rattle.std.proofs.lemmas.Bool.{ne_eqb}
use Rattle.std.proofs.lemmas.Bool.Decides.{nat_tests}
use Rattle.midi_wire.specs.Messages.{all_data, ends_data}
use Rattle.script_text.specs.Numbers.{only_if, both, hex_byte, hex_bytes}

-- words say bytes that pass a test
abbrev pub is_said : (List ℕ → Bool) → List (List ℕ) → Bool
is_said test words = is_some (only_if test (hex_bytes words))

-- so many data bytes
abbrev pub are_data : ℕ → List ℕ → Bool
are_data count bytes = (length bytes == count) && all_data bytes

-- at most so many data bytes, and then F7
abbrev pub end_exclusive : ℕ → List ℕ → Bool
end_exclusive most bytes = nat_le (length bytes) (most + 1) && ends_data bytes

-- ---- one more word

said-front : (test : List ℕ → Bool) (b : ℕ) (o : Option (List ℕ)) → is_some (only_if test (option_map (λ bytes. b ∷ bytes) o)) ≡ is_some (only_if (λ t. test (b ∷ t)) o)
said-front test b None = refl
said-front test b (Some t) = go (test (b ∷ t))
  where
    go : (x : Bool) → is_some (cond x (Some (b ∷ t)) None) ≡ is_some (cond x (Some t) None)
    go true = refl
    go false = refl

said-more : (test : List ℕ → Bool) (w : List ℕ) (ws : List (List ℕ)) (b : ℕ) → hex_byte w ≡ Some b → is_said test (w ∷ ws) ≡ is_said (λ t. test (b ∷ t)) ws
said-more test w ws b e = ap (λ o. is_some (only_if test (both (λ b bytes. b ∷ bytes) o (hex_bytes ws)))) e ∙ said-front test b (hex_bytes ws)

said-same : (p q : List ℕ → Bool) → ((t : List ℕ) → p t ≡ q t) → (ws : List (List ℕ)) → is_said p ws ≡ is_said q ws
said-same p q h ws = go (hex_bytes ws)
  where
    go : (o : Option (List ℕ)) → is_some (only_if p o) ≡ is_some (only_if q o)
    go None = refl
    go (Some t) = ap (λ x. is_some (cond x (Some t) None)) (h t)

-- ---- the data of an exclusive message

ends_later : (left b : ℕ) → (b ≡ 247 → ⊥) → (left ≡ 0 → ⊥) → nat_lt b 128 ≡ true → (t : List ℕ) → end_exclusive left (b ∷ t) ≡ end_exclusive (left - 1) t
ends_later left b e z d [] = ap (λ x. nat_le 1 (left + 1) && x) (ne_eqb b 247 e) ∙ never (nat_le 1 (left + 1)) ∙ sym (never (nat_le 0 (left - 1 + 1)))
  where
    never : (x : Bool) → (x && false) ≡ false
    never true = refl
    never false = refl
ends_later left b e z d (c ∷ t) =
    let fewer : nat_le (length (b ∷ c ∷ t)) (left + 1) ≡ nat_le (length (c ∷ t)) (left - 1 + 1) = grind (arith, nat_tests) in
    ap (λ x. nat_le (length (b ∷ c ∷ t)) (left + 1) && (x && ends_data (c ∷ t))) d ∙ ap (λ x. x && ends_data (c ∷ t)) fewer

pub exclusive_more : (left b : ℕ) (w : List ℕ) (ws : List (List ℕ)) → hex_byte w ≡ Some b → (b ≡ 247 → ⊥) → (left ≡ 0 → ⊥) → nat_lt b 128 ≡ true → is_said (end_exclusive (left - 1)) ws ≡ is_said (end_exclusive left) (w ∷ ws)
exclusive_more left b w ws h e z d = sym (said-more (end_exclusive left) w ws b h ∙ said-same (λ t. end_exclusive left (b ∷ t)) (end_exclusive (left - 1)) (ends_later left b e z d) ws)
