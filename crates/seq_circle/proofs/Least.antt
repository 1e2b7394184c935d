-- What the least circle rests on.
use Rattle.std.proofs.Common.{◌≡◌, ℕ, zero, suc, Bool, true, false, not, cond, eqb, ◌||◌, List, [], ◌∷◌, ◌++◌, Some, None, refl, sym, ap, subst, ◌∙◌, arith, append-nil, append_assoc}
use Rattle.std.specs.Prelude.{slice_get}
use Rattle.std.specs.List.{filter, list_all, list_any}
use Rattle.std.proofs.lemmas.Bool.{false≢true, eqb-true, eq-eqb}
use Rattle.node_table.specs.declared.number.Addr.{Addr}
use Rattle.node_table.specs.declared.number.Node.{Node}
use Rattle.node_table.specs.declared.number.Node.TheVariants.{Port, Filter}
use Rattle.seq_state.specs.declared.input.Command.{Command}
use Rattle.seq_state.specs.declared.input.Command.TheVariants.{Connect, Disconnect}
use Rattle.seq_state.specs.declared.input.Input.{Input}
use Rattle.seq_state.specs.Circle.{only, is_inner, inner_node}
use Rattle.seq_state.proofs.Lists.{both_left, both_right, and_both}
use Rattle.seq_state.proofs.Effects.{none_some}
use Rattle.seq_circle.specs.declared.members.Joined.{Joined}
use Rattle.seq_circle.specs.Shut.{joined_client, asked_client, is_met, stays_within, is_whole_circle}
use Rattle.seq_circle.specs.Least.{is_member, IsAsked, AreAsked, IsLeastCircle}

-- ---- a larger circle asks for no less

module _ (owner : ℕ) (member other : ℕ → Bool) (below : (c : ℕ) → member c ≡ true → other c ≡ true) where
  inner_more : (a : Addr) → is_inner owner member a ≡ true → is_inner owner other a ≡ true
  inner_more a h = go a.node h
    where
      go : (n : Node) → inner_node owner member a.client n ≡ true → inner_node owner other a.client n ≡ true
      go (Port n) h = h
      go (Filter n) h = below a.client h

  joined_more : (source target : Addr) (c : ℕ) → joined_client owner member source target ≡ Some c → joined_client owner other source target ≡ Some c
  joined_more source target c e = go (is_inner owner member target) refl e
    where
      go : (b : Bool) → is_inner owner member target ≡ b → cond b (Some source.client) None ≡ Some c → joined_client owner other source target ≡ Some c
      go true h e = ap (λ b. cond b (Some source.client) None) (inner_more target h) ∙ e
      go false h e = absurd (none_some c e)

  asks_more : (command : Command) (c : ℕ) → asked_client owner member command ≡ Some c → asked_client owner other command ≡ Some c
  asks_more (Connect source target) c e = joined_more source target c e
  asks_more (Disconnect source target) c e = joined_more source target c e
  asks_more command c e = e

-- ---- lists

at_place : (p q : Input → Bool) (inputs : List Input) (k : ℕ) (i : Input) → list_all q (filter p inputs) ≡ true → slice_get inputs k ≡ Some i → p i ≡ true → q i ≡ true
at_place p q [] k i h e m = absurd (none_some i e)
at_place p q (x ∷ xs) zero i h e m = let s : x ≡ i = cc in subst (λ y. q y ≡ true) s (go (p x) (ap p s ∙ m) h)
  where
    go : (b : Bool) → b ≡ true → list_all q (cond b (x ∷ filter p xs) (filter p xs)) ≡ true → q x ≡ true
    go true t k = both_left (q x) (list_all q (filter p xs)) k
    go false t k = absurd (false≢true t)
at_place p q (x ∷ xs) (suc k) i h e m = at_place p q xs k i (go (p x) h) e m
  where
    go : (b : Bool) → list_all q (cond b (x ∷ filter p xs) (filter p xs)) ≡ true → list_all q (filter p xs) ≡ true
    go true k = both_right (q x) (list_all q (filter p xs)) k
    go false k = k

-- those that pass the one test pass the other
pub filter_passes : (p q : Input → Bool) (xs : List Input) → list_all (λ x. not (p x) || q x) xs ≡ true → list_all q (filter p xs) ≡ true
filter_passes p q [] h = refl
filter_passes p q (x ∷ xs) h = grind (arith, filter_passes p q xs)

-- ---- who is there

pub one_more : (owner : ℕ) (seen : List Joined) (j : Joined) (c : ℕ) → is_member owner (seen ++ j ∷ []) c ≡ (is_member owner seen c || eqb j.client c)
one_more owner [] j c = grind arith
one_more owner (x ∷ seen) j c = grind (arith, one_more owner seen j c)

-- what is asked for by members, each by those before, is in each circle that is whole
module _ (owner : ℕ) (inputs : List Input) (other : ℕ → Bool) (whole : is_whole_circle owner other inputs ≡ true) where
  asked_in : (seen : List Joined) (j : Joined) → ((c : ℕ) → is_member owner seen c ≡ true → other c ≡ true) → IsAsked owner inputs seen j → other j.client ≡ true
  asked_in seen j below a =
      let met : is_met other (asked_client owner other a.input.command) ≡ true =
      at_place (λ i. other i.actor) (stays_within owner other) inputs j.place a.input (both_right (other owner) (list_all (stays_within owner other) (only other inputs)) whole) a.there (below a.input.actor a.of_member) in
      sym (ap (is_met other) (asks_more owner (is_member owner seen) other below a.input.command j.client a.asks)) ∙ met

  all_in : (js seen : List Joined) → ((c : ℕ) → is_member owner seen c ≡ true → other c ≡ true) → AreAsked owner inputs seen js → (c : ℕ) → is_member owner (seen ++ js) c ≡ true → other c ≡ true
  all_in [] seen below a c m = below c (subst (λ xs. is_member owner xs c ≡ true) (append-nil seen) m)
  all_in (j ∷ js) seen below a c m =
      all_in js (seen ++ j ∷ []) (λ d k. go d (is_member owner seen d) refl (sym (one_more owner seen j d) ∙ k)) a.1 c
      (subst (λ xs. is_member owner xs c ≡ true) (sym (append_assoc seen (j ∷ []) js)) m)
    where
      go : (d : ℕ) (b : Bool) → is_member owner seen d ≡ b → (b || eqb j.client d) ≡ true → other d ≡ true
      go d true h k = below d h
      go d false h k = subst (λ x. other x ≡ true) (eqb-true j.client d k) (asked_in seen j below a.0)

  pub least_in : (joined : List Joined) → AreAsked owner inputs [] joined → (c : ℕ) → is_member owner joined c ≡ true → other c ≡ true
  least_in joined a c m =
      all_in joined [] (λ d k. subst (λ x. other x ≡ true) (sym (eqb-true d owner (first d k))) (both_left (other owner) (list_all (stays_within owner other) (only other inputs)) whole)) a c m
    where
      first : (d : ℕ) → (eqb d owner || false) ≡ true → eqb d owner ≡ true
      first d h = grind arith

pub asked_push : (owner : ℕ) (inputs : List Input) (xs seen : List Joined) (j : Joined) → AreAsked owner inputs seen xs → IsAsked owner inputs (seen ++ xs) j → AreAsked owner inputs seen (xs ++ j ∷ [])
asked_push owner inputs [] seen j a k = (subst (λ ys. IsAsked owner inputs ys j) (append-nil seen) k, tt)
asked_push owner inputs (x ∷ xs) seen j a k =
    (a.0, asked_push owner inputs xs (seen ++ x ∷ []) j a.1 (subst (λ ys. IsAsked owner inputs ys j) (sym (append_assoc seen (x ∷ []) xs)) k))

pub owner_in : (owner : ℕ) (joined : List Joined) → is_member owner joined owner ≡ true
owner_in owner joined = ap (λ b. b || list_any (λ j. eqb j.client owner) joined) (eq-eqb owner owner refl)

-- ---- what the code answers

pub whole_when : (owner : ℕ) (joined : List Joined) (inputs : List Input) →
    list_all (λ i. not (is_member owner joined i.actor) || stays_within owner (is_member owner joined) i) inputs ≡ true → is_whole_circle owner (is_member owner joined) inputs ≡ true
whole_when owner joined inputs h =
    let m : ℕ → Bool = is_member owner joined in
    and_both (m owner) (list_all (stays_within owner m) (only m inputs)) (owner_in owner joined) (filter_passes (λ i. m i.actor) (stays_within owner m) inputs h)

pub least_when : (owner : ℕ) (inputs : List Input) (joined : List Joined) → AreAsked owner inputs [] joined → is_whole_circle owner (is_member owner joined) inputs ≡ true → IsLeastCircle owner inputs joined
least_when owner inputs joined a w = record { asked = a; whole = w; least = λ other h c m. least_in owner inputs other h joined a c m }
