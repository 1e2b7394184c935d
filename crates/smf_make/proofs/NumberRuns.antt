-- Numbers of a byte each, one after another.
use Rattle.std.proofs.Common.{◌≡◌, ℕ, suc, ◌+◌, ◌-◌, ◌<◌, ◌≤◌, Bool, true, false, List, [], ◌∷◌, ◌++◌, append_assoc, refl, sym, ap, ◌∙◌, subst, arith}
use Rattle.std.specs.Prelude.{Option, Some, None, replicate, if◌then◌else◌, nat_le, ◌%◌}
use Rattle.std.proofs.lemmas.Bool.Decides.{nat_tests}
use Rattle.script_text.specs.Numbers.{only_if, both, number, up_to}
use Rattle.script_text.proofs.Gathered.{after}
use Rattle.byteorder.specs.Endian.{big_bytes}
use Rattle.smf_make.specs.SaidEvents.{numbers_said}

one-more : (n i : ℕ) → i < n → n - i ≡ suc (n - (i + 1))
one-more n i h = omega arith

one-byte : (b : ℕ) → b ≤ 255 → big_bytes 1 b ≡ b ∷ []
one-byte b small = let e : b % 256 ≡ b = omega arith in ap (λ (x : ℕ). x ∷ []) e

pub up-to-within : (most n : ℕ) (word : List ℕ) → Some n ≡ up_to most word → n ≤ most
up-to-within most n word e = go (number word) e
  where
    kept : (x : ℕ) (t : Bool) → nat_le x most ≡ t → Some n ≡ (if t then Some x else None) → n ≤ most
    kept x true small h = let same : n ≡ x = cc in let low : x ≤ most = grind (arith, nat_tests) in rw same low
    kept x false small h = let bad : ⊥ = cc in absurd bad

    go : (o : Option ℕ) → Some n ≡ only_if (λ x. nat_le x most) o → n ≤ most
    go None h = let bad : ⊥ = cc in absurd bad
    go (Some x) h = kept x (nat_le x most) refl h

abbrev each : ℕ → List (List ℕ) → Option (List ℕ)
each n ws = numbers_said (replicate n 1) ws

after-one : (bytes first : List ℕ) (rest : Option (List ℕ)) → after (bytes ++ first) rest ≡ after bytes (both (λ (x : ℕ) more. first ++ more) (Some 0) rest)
after-one bytes first None = refl
after-one bytes first (Some rest) = ap (λ (xs : List ℕ). Some xs) (append_assoc bytes first rest)

module _ (n i : ℕ) (h : i < n) (bytes : List ℕ) (ws : List (List ℕ)) (all : Option (List ℕ)) (so_far : after bytes (each (n - i) ws) ≡ all) where
  next : after bytes (each (suc (n - (i + 1))) ws) ≡ all
  next = subst (λ (k : ℕ). after bytes (each k ws) ≡ all) (one-more n i h) so_far

  pub each-cut : ws ≡ [] → all ≡ None
  each-cut e = sym next ∙ ap (λ (xs : List (List ℕ)). after bytes (each (suc (n - (i + 1))) xs)) e

  module _ (w : List ℕ) (vs : List (List ℕ)) (e : ws ≡ w ∷ vs) where
    first : after bytes (both (λ x more. big_bytes 1 x ++ more) (up_to 255 w) (each (n - (i + 1)) vs)) ≡ all
    first = subst (λ (xs : List (List ℕ)). after bytes (each (suc (n - (i + 1))) xs) ≡ all) e next

    pub each-bad : None ≡ up_to 255 w → all ≡ None
    each-bad f = sym first ∙ sym (ap (λ (o : Option ℕ). after bytes (both (λ x more. big_bytes 1 x ++ more) o (each (n - (i + 1)) vs))) f)

    pub each-more : (b : ℕ) → Some b ≡ up_to 255 w → b ≤ 255 → after (bytes ++ b ∷ []) (each (n - (i + 1)) vs) ≡ all
    each-more b f small =
        ap (λ (xs : List ℕ). after (bytes ++ xs) (each (n - (i + 1)) vs)) (sym (one-byte b small))
        ∙ after-one bytes (big_bytes 1 b) (each (n - (i + 1)) vs)
        ∙ ap (λ (o : Option ℕ). after bytes (both (λ x more. big_bytes 1 x ++ more) o (each (n - (i + 1)) vs))) f ∙ first
