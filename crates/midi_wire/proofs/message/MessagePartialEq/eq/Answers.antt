use Rattle.std.proofs.Common.{◌≡◌, ◌<◌, ℕ, suc, List, [], ◌∷◌, length, Some, refl, sym, ap, ◌∙◌, arith}
use Rattle.std.specs.Prelude.{slice_get, unwrap_or}
use Rattle.std.proofs.lemmas.Slice.Eq.{bytes_eq-Decides}
use Rattle.midi_wire.proofs.message.MessagePartialEq.eq.Goals as goal

-- lists of one length with the same byte at each place are the same
same-bytes : (a b : List ℕ) → length b ≡ length a → ((k : ℕ) → k < length a → slice_get a k ≡ slice_get b k) → a ≡ b
same-bytes [] [] e h = refl
same-bytes [] (y ∷ b) e h = absurd (omega (arith, e))
same-bytes (x ∷ a) [] e h = absurd (omega (arith, e))
same-bytes (x ∷ a) (y ∷ b) e h =
    let first : Some x ≡ Some y = h 0 (omega arith) in
    let head : x ≡ y = ap (λ o. unwrap_or o 0) first in
    ap (λ (n : ℕ). n ∷ a) head ∙ ap (λ (xs : List ℕ). y ∷ xs) (same-bytes a b (omega (arith, e)) (λ k l. h (suc k) (omega arith)))

pub returns : goal.returns
returns c =
    let all : c.loop-i.i ≡ length c.args.self.now = omega arith in
    let same : length c.args.other.now ≡ length c.args.self.now = sym c.len.ensures ∙ c.if-len-count.false ∙ c.len-count.ensures in
    sym ((bytes_eq-Decides c.args.self.now c.args.other.now).1 (same-bytes c.args.self.now c.args.other.now same (λ k l. c.loop-i.invariant k (omega arith))))
