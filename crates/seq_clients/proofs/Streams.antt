-- A stream that is fed nothing, and one that was fed.
use Rattle.std.proofs.Common.{◌≡◌, ◌∙◌, ℕ, List, [], ◌∷◌, ◌++◌, true, false, refl, ap, sym, subst, arith}
use Rattle.std.specs.Prelude.{length, ◌==◌}
use Rattle.std.proofs.lemmas.Bool.{eqb-true}
use Rattle.std.proofs.lemmas.List.{append-nil}
use Rattle.midi_wire.specs.Parsing.{Parsing}
use Rattle.midi_wire.specs.Readings.{reading, rest}
use Rattle.midi_wire.proofs.Machine.{held-silent, rest-again}
use Rattle.midi_wire.proofs.Settled.{rest-none}

no_bytes : (bytes : List ℕ) → (length bytes == 0) ≡ true → bytes ≡ []
no_bytes [] e = refl
no_bytes (b ∷ bs) e = let none : length (b ∷ bs) ≡ 0 = eqb-true _ _ e in absurd (omega (arith, none))

-- nothing is read of no bytes
pub silent : (kept was bytes : List ℕ) → rest kept ≡ kept → kept ≡ was → (length bytes == 0) ≡ true → [] ≡ reading (was ++ bytes)
silent kept was bytes settled view none =
    sym (ap (λ (s : List ℕ). reading (was ++ s)) (no_bytes bytes none) ∙ ap (λ (s : List ℕ). reading s) (append-nil was)
    ∙ held-silent was (subst (λ (s : List ℕ). rest s ≡ s) view settled))

-- a parser that was fed has not failed, and is settled
pub fed-kept : (p : Parsing) (s : List ℕ) → p ≡ record { rest = rest s; failed = false } → (p.failed ≡ false) × (rest p.rest ≡ p.rest)
fed-kept p s e = (ap (λ (q : Parsing). q.failed) e, ap (λ (q : Parsing). rest q.rest) e ∙ rest-again s ∙ sym (ap (λ (q : Parsing). q.rest) e))

-- nor has one that begins
pub new-kept : (p : Parsing) → p ≡ record { rest = []; failed = false } → (p.failed ≡ false) × (rest p.rest ≡ p.rest)
new-kept p e = (ap (λ (q : Parsing). q.failed) e, ap (λ (q : Parsing). rest q.rest) e ∙ rest-none ∙ sym (ap (λ (q : Parsing). q.rest) e))
