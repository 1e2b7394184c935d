-- Which addresses are one, and their places.
use Rattle.std.proofs.Common.{◌≡◌, ℕ, ◌+◌, ◌*◌, ◌<◌, Bool, true, false, eqb, refl, ap, sym, subst, ◌∙◌, arith}
use Rattle.std.proofs.lemmas.Bool.Decides.{nat_tests}
use Rattle.std.proofs.lemmas.Bool.{false≢true, eqb-true}
use Rattle.node_table.specs.Addresses.{same, same_node}
use Rattle.node_table.specs.Kept.{IsPlace, place_in, is_small}
use Rattle.node_table.specs.declared.number.Addr.{Addr}
use Rattle.node_table.specs.declared.number.Node.{Node}
use Rattle.node_table.specs.declared.number.Node.TheVariants.{Port, Filter}
use Rattle.node_table.specs.contracts.number.AddrPartialEq.TheImpl.{eq-value as addr_value}
use Rattle.patch_graph.proofs.Lists.{both_left, both_right, and_both, refuted}

same_node-is : (m n : Node) → same_node m n ≡ true → m ≡ n
same_node-is (Port m) (Port n) h = ap Port (eqb-true m n h)
same_node-is (Filter m) (Filter n) h = ap Filter (eqb-true m n h)
same_node-is (Port m) (Filter n) h = absurd (false≢true h)
same_node-is (Filter m) (Port n) h = absurd (false≢true h)

same_node-refl : (n : Node) → same_node n n ≡ true
same_node-refl (Port n) = grind (arith, nat_tests)
same_node-refl (Filter n) = grind (arith, nat_tests)

eqb-refl : (n : ℕ) → eqb n n ≡ true
eqb-refl n = grind (arith, nat_tests)

pub same-is : (a b : Addr) → same a b ≡ true → a ≡ b
same-is a b h =
    let client : a.client ≡ b.client = eqb-true a.client b.client (both_left (eqb a.client b.client) (same_node a.node b.node) h) in
    let node : a.node ≡ b.node = same_node-is a.node b.node (both_right (eqb a.client b.client) (same_node a.node b.node) h) in
    λ j. record { client = client j; node = node j }

pub same-refl : (a : Addr) → same a a ≡ true
same-refl a = and_both (eqb a.client a.client) (same_node a.node a.node) (eqb-refl a.client) (same_node-refl a.node)

pub same-from : (a b : Addr) → a ≡ b → same a b ≡ true
same-from a b e = subst (λ x. same a x ≡ true) e (same-refl a)

pub same-swap : (a b : Addr) → same a b ≡ true → same b a ≡ true
same-swap a b h = same-from b a (sym (same-is a b h))

pub differ : (a b : Addr) → (a ≡ b → ⊥) → same a b ≡ false
differ a b n = refuted (same a b) (λ h. n (same-is a b h))

pub same-sym : (a b : Addr) → same a b ≡ same b a
same-sym a b = by (same a b) refl (same b a) refl
  where
    by : (x : Bool) → same a b ≡ x → (y : Bool) → same b a ≡ y → x ≡ y
    by true e true f = refl
    by false e false f = refl
    by true e false f = absurd (false≢true (sym f ∙ same-swap a b e))
    by false e true f = absurd (false≢true (sym e ∙ same-swap b a f))

-- ---- places

same_place : (m n : Node) (r s : ℕ) → is_small m → is_small n → r * 32 + place_in m ≡ s * 32 + place_in n → (r ≡ s) × (m ≡ n)
same_place (Port m) (Port n) r s h k e = (omega arith, ap Port (omega arith))
same_place (Filter m) (Filter n) r s h k e = (omega arith, ap Filter (omega arith))
same_place (Port m) (Filter n) r s h k e = absurd (omega arith)
same_place (Filter m) (Port n) r s h k e = absurd (omega arith)

pub place-is : (a b : Addr) (r s p : ℕ) → IsPlace a r p → IsPlace b s p → a ≡ b
place-is a b r s p h k =
    let both : (r ≡ s) × (a.node ≡ b.node) = same_place a.node b.node r s h.small k.small (sym h.is ∙ k.is) in
    let client : a.client ≡ b.client = h.client ∙ ap (λ n. 128 + n) both.0 ∙ sym k.client in
    λ j. record { client = client j; node = both.1 j }

place_same : (n : Node) (r s : ℕ) → 128 + r ≡ 128 + s → r * 32 + place_in n ≡ s * 32 + place_in n
place_same n r s e = omega arith

pub is-place : (a b : Addr) (r s p q : ℕ) → IsPlace a r p → IsPlace b s q → a ≡ b → p ≡ q
is-place a b r s p q h k e =
    let rows : 128 + r ≡ 128 + s = sym h.client ∙ ap (λ x. x.client) e ∙ k.client in
    h.is ∙ place_same a.node r s rows ∙ ap (λ x. s * 32 + place_in x.node) e ∙ sym k.is

place_low : (n : Node) (r : ℕ) → is_small n → r < 64 → r * 32 + place_in n < 2048
place_low (Port n) r h k = omega arith
place_low (Filter n) r h k = omega arith

pub place-below : (a : Addr) (r p : ℕ) → IsPlace a r p → p < 2048
place-below a r p h = subst (λ n. n < 2048) (sym h.is) (place_low a.node r h.small h.below)

-- ---- what `==` tests

addr_eq-nodes : (a b : ℕ) (m n : Node) → addr_value.it (record { client = a; node = m }) (record { client = b; node = n }) ≡ same (record { client = a; node = m }) (record { client = b; node = n })
addr_eq-nodes a b (Port m) (Port n) = refl
addr_eq-nodes a b (Filter m) (Filter n) = refl
addr_eq-nodes a b (Port m) (Filter n) = refl
addr_eq-nodes a b (Filter m) (Port n) = refl

pub addr_eq : (a b : Addr) → addr_value.it a b ≡ same a b
addr_eq a b = addr_eq-nodes a.client b.client a.node b.node
