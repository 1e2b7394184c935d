-- Fates, found way by way.
use Rattle.std.proofs.Common.{◌≡◌, ℕ, zero, suc, ◌+◌, ◌-◌, ◌<◌, ◌≤◌, Bool, cond, List, [], ◌∷◌, ◌++◌, take, Some, None, refl, sym, ap, ◌∙◌, arith, append-nil, append_assoc}
use Rattle.std.specs.Prelude.{nat_lt, is_some, unwrap_or, slice_index}
use Rattle.std.specs.Ordering.{nat_cmp}
use Rattle.std.specs.FinMap.{FinMap, get}
use Rattle.node_table.specs.declared.number.Addr.{Addr}
use Rattle.node_table.specs.declared.number.PortAddr.{PortAddr}
use Rattle.patch_graph.specs.Cursor.{at_port}
use Rattle.seq_state.specs.State.{Client}
use Rattle.seq_clients.specs.Roster.{input_size}
use Rattle.way_fates.specs.Fates.{stopped_at}
use Rattle.way_fates.specs.Kept.{one_less, end_client, fate_with, fate_by, rooms_past, fates_by}
use Rattle.way_fates.specs.declared.fate.Fate.{Fate}
use Rattle.way_fates.specs.declared.fate.Fate.TheVariants.{Arrives, Lost}
use Rattle.way_fates.specs.declared.fate.WayFate.{WayFate}

end-last : (front : List Addr) (a : Addr) → end_client (front ++ a ∷ []) ≡ a.client
end-last [] a = refl
end-last (x ∷ []) a = refl
end-last (x ∷ y ∷ rest) a = end-last (y ∷ rest) a

-- a way ends at the client of its last node
pub end-is : (route front : List Addr) (last : PortAddr) → route ≡ front ++ at_port last ∷ [] → end_client route ≡ last.client
end-is route front last e = ap end_client e ∙ end-last front (at_port last)

module _ (clients : FinMap nat_cmp Client) (message : List ℕ) where
  pub stopped-fate : (rooms : List ℕ) (route : List Addr) (fate : Fate) → Some fate ≡ stopped_at clients route message → fate ≡ fate_by clients message rooms route
  stopped-fate rooms route fate e = ap (λ o. unwrap_or o (fate_with clients message rooms (end_client route))) e

  pub stopped-rooms : (rooms : List ℕ) (route : List Addr) (fate : Fate) → Some fate ≡ stopped_at clients route message → rooms ≡ rooms_past clients message rooms route
  stopped-rooms rooms route fate e = ap (λ o. cond (is_some o) rooms (one_less rooms (end_client route))) e

  pub ended-fate : (rooms : List ℕ) (route : List Addr) (client : ℕ) (b : Bool) → None ≡ stopped_at clients route message → end_client route ≡ client → b ≡ nat_lt 0 (slice_index rooms client) →
      cond b Arrives (Lost (input_size (get clients client))) ≡ fate_by clients message rooms route
  ended-fate rooms route client b e at is =
      ap (λ x. cond x Arrives (Lost (input_size (get clients client)))) is
      ∙ ap (λ k. fate_with clients message rooms k) (sym at)
      ∙ ap (λ o. unwrap_or o (fate_with clients message rooms (end_client route))) e

  pub ended-rooms : (rooms : List ℕ) (route : List Addr) (client : ℕ) → None ≡ stopped_at clients route message → end_client route ≡ client → one_less rooms client ≡ rooms_past clients message rooms route
  ended-rooms rooms route client e at = ap (one_less rooms) (sym at) ∙ ap (λ o. cond (is_some o) rooms (one_less rooms (end_client route))) e

  -- ---- one way after another

  -- what was told of the ways so far, with what is to come of the others, is all
  abbrev pub AreFated : ℕ → ℕ → List WayFate → List ℕ → List (List Addr) → List WayFate → Type 0
  AreFated most turn ways rooms left all = ways ++ take (most - turn) (fates_by clients message rooms left) ≡ take most all

  pub fated-first : (most : ℕ) (ways : List WayFate) (rooms : List ℕ) (left all : List (List Addr)) → ways ≡ [] → left ≡ all → AreFated most 0 ways rooms left (fates_by clients message rooms all)
  fated-first most ways rooms left all e f =
      let k : most - 0 ≡ most = omega arith in
      ap (λ ws. ws ++ take (most - 0) (fates_by clients message rooms left)) e ∙ ap (λ n. take n (fates_by clients message rooms left)) k ∙ ap (λ rs. take most (fates_by clients message rooms rs)) f

  pub fated-more : (most turn : ℕ) (ways ways' : List WayFate) (rooms rooms' : List ℕ) (left left' : List (List Addr)) (route : List Addr) (fate : Fate) (all : List WayFate) → turn < most →
      left ≡ route ∷ left' → fate ≡ fate_by clients message rooms route → rooms' ≡ rooms_past clients message rooms route → (let way : WayFate = record { route = route; fate = fate } in ways' ≡ ways ++ way ∷ []) →
      AreFated most turn ways rooms left all → AreFated most (turn + 1) ways' rooms' left' all
  fated-more most turn ways ways' rooms rooms' left left' route fate all below is fated past pushed so =
      let n : ℕ = most - (turn + 1) in
      let k : most - turn ≡ suc n = omega arith in
      let way : WayFate = record { route = route; fate = fate } in
      ap (λ ws. ws ++ take n (fates_by clients message rooms' left')) pushed
      ∙ append_assoc ways (way ∷ []) (take n (fates_by clients message rooms' left'))
      ∙ ap (λ f. ways ++ (record { route = route; fate = f }) ∷ take n (fates_by clients message rooms' left')) fated
      ∙ ap (λ r. ways ++ (record { route = route; fate = fate_by clients message rooms route }) ∷ take n (fates_by clients message r left')) past
      ∙ ap (λ j. ways ++ take j (fates_by clients message rooms (route ∷ left'))) (sym k)
      ∙ ap (λ rs. ways ++ take (most - turn) (fates_by clients message rooms rs)) (sym is)
      ∙ so

  take-none : (n : ℕ) → (let nil : List WayFate = [] in take n nil ≡ nil)
  take-none zero = refl
  take-none (suc n) = refl

  pub fated-none : (most turn : ℕ) (ways : List WayFate) (rooms : List ℕ) (left : List (List Addr)) (all : List WayFate) → left ≡ [] → AreFated most turn ways rooms left all → ways ≡ take most all
  fated-none most turn ways rooms left all none so =
      sym (append-nil ways) ∙ ap (λ ws. ways ++ ws) (sym (take-none (most - turn))) ∙ ap (λ rs. ways ++ take (most - turn) (fates_by clients message rooms rs)) (sym none) ∙ so

  pub fated-all : (most turn : ℕ) (ways : List WayFate) (rooms : List ℕ) (left : List (List Addr)) (all : List WayFate) → most ≤ turn → AreFated most turn ways rooms left all → ways ≡ take most all
  fated-all most turn ways rooms left all end so =
      let k : most - turn ≡ 0 = omega arith in
      sym (append-nil ways) ∙ ap (λ n. ways ++ take n (fates_by clients message rooms left)) (sym k) ∙ so
