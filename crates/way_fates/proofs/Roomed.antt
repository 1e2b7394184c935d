-- Fates by the rooms that are left are the fates by the pools.
use Rattle.std.proofs.Common.{◌≡◌, ℕ, ◌-◌, ◌≤◌, inl, inr, Bool, true, false, cond, ◌&&◌, eqb, List, [], ◌∷◌, length, map, take, Option, Some, None, refl, sym, ap, subst, ◌∙◌, arith}
use Rattle.std.specs.Prelude.{nat_lt, is_some, is_none, unwrap_or, slice_index}
use Rattle.std.specs.Option.{option_and_then, option_map, option_or, option_to_list}
use Rattle.std.specs.List.{filter}
use Rattle.std.specs.Ordering.{nat_cmp}
use Rattle.std.specs.FinMap.{FinMap, get}
use Rattle.std.proofs.lemmas.Bool.{eqb-true, eq-eqb}
use Rattle.std.proofs.lemmas.Bool.Decides.{leb_tells}
use Rattle.std.proofs.lemmas.List.{get_or_past, get_or-set_same, get_or-set_other, length-set}
use Rattle.node_table.specs.declared.number.Addr.{Addr}
use Rattle.node_table.specs.declared.number.Node.{Node}
use Rattle.node_table.specs.declared.number.Node.TheVariants.{Port, Filter}
use Rattle.node_table.specs.Addresses.{same, is_filter, is_filter_node}
use Rattle.patch_graph.specs.declared.edge.Edge.{Edge}
use Rattle.patch_graph.specs.Paths.{chains, is_last, is_path, hops, paths, end_of, nodes_of, routes}
use Rattle.seq_state.specs.declared.log.Delivery.{Delivery}
use Rattle.seq_state.specs.State.{Client, ClientPool, FilterInfo}
use Rattle.seq_state.specs.Copies.{filter_at, passed_by, copy_on_path, copy}
use Rattle.seq_state.specs.Step.{pool_has_room, pools_after}
use Rattle.seq_state.proofs.Lists.{both_right}
use Rattle.seq_clients.specs.Roster.{Roster, input_size, room_of}
use Rattle.seq_sending.proofs.Rooms.{has-room, room-left}
use Rattle.route_filter.specs.Passing.{rule_output}
use Rattle.way_fates.specs.Stops.{stop_by}
use Rattle.way_fates.specs.Fates.{stop_at, stopped_at, fate_at, fate_on, past_path, fates_on, fates}
use Rattle.way_fates.specs.Kept.{AreRooms, one_less, end_client, fate_with, fate_by, rooms_past, fates_by}
use Rattle.way_fates.specs.declared.stop.Stop.{Stop}
use Rattle.way_fates.specs.declared.fate.Fate.{Fate}
use Rattle.way_fates.specs.declared.fate.Fate.TheVariants.{Stopped, Arrives, Lost}
use Rattle.way_fates.specs.declared.fate.WayFate.{WayFate}
use Rattle.way_fates.proofs.Stopping.{passes-untested}

abbrev Pools : Type 0
Pools = FinMap nat_cmp ClientPool

-- ---- where a path ends

end-port : (a : Addr) (p : List Edge) → is_path a p ≡ true → is_filter (end_of a p) ≡ false
end-port a [] h = absurd (let f : false ≡ true = h in cc)
end-port a (e ∷ es) h = go (λ k. end-port e.target es k) (is_filter e.target) refl (both_right (same a e.source) (cond (is_filter e.target) (is_path e.target es) (is_last es)) h)
  where
    last : (fs : List Edge) → is_last fs ≡ true → is_filter e.target ≡ false → is_filter (end_of e.target fs) ≡ false
    last [] l f = f
    last (x ∷ xs) l f = absurd (let k : false ≡ true = l in cc)

    go : (is_path e.target es ≡ true → is_filter (end_of e.target es) ≡ false) → (b : Bool) → is_filter e.target ≡ b → cond b (is_path e.target es) (is_last es) ≡ true → is_filter (end_of e.target es) ≡ false
    go further true f k = further k
    go further false f k = last es k f

end-of-nodes : (a : Addr) (e : Edge) (es : List Edge) → end_client (nodes_of (e ∷ es)) ≡ (end_of a (e ∷ es)).client
end-of-nodes a e [] = refl
end-of-nodes a e (f ∷ fs) = end-of-nodes e.target f fs

end-is-last : (a : Addr) (p : List Edge) → is_path a p ≡ true → end_client (nodes_of p) ≡ (end_of a p).client
end-is-last a [] h = absurd (let f : false ≡ true = h in cc)
end-is-last a (e ∷ es) h = end-of-nodes a e es

-- ---- a message is stopped where no copy comes to the end

pub stopped-copy : (clients : FinMap nat_cmp Client) (p : List Edge) (m : List ℕ) → is_some (stopped_at clients (nodes_of p) m) ≡ is_none (copy_on_path clients p m)
stopped-copy clients [] m = refl
stopped-copy clients (e ∷ es) m = go (λ x. stopped-copy clients es x) (filter_at clients e.target.client e.target.node)
  where
    Further : Type 0
    Further = (x : List ℕ) → is_some (stopped_at clients (nodes_of es) x) ≡ is_none (copy_on_path clients es x)

    rest : Further → (o : Option Stop) (out : Option (List ℕ)) → is_none o ≡ is_some out →
        is_some (option_or (option_map (Stopped e.target) o) (option_and_then (stopped_at clients (nodes_of es)) out)) ≡ is_none (option_and_then (copy_on_path clients es) out)
    rest further None None h = absurd (let f : true ≡ false = h in cc)
    rest further None (Some passed) h = further passed
    rest further (Some why) None h = refl
    rest further (Some why) (Some passed) h = absurd (let f : false ≡ true = h in cc)

    go : Further → (f : Option FilterInfo) → is_some (option_or (option_map (Stopped e.target) (stop_at f m)) (option_and_then (stopped_at clients (nodes_of es)) (passed_by f m))) ≡ is_none (option_and_then (copy_on_path clients es) (passed_by f m))
    go further None = further m
    go further (Some f) = rest further (stop_by f.rule m) (rule_output f.rule m) (passes-untested f.rule m)

-- ---- one room less

module _ (rooms : List ℕ) (k : ℕ) where
  same-less : (c : ℕ) → k ≡ c → slice_index (one_less rooms k) c ≡ slice_index rooms c - 1
  same-less c e = ap (slice_index (one_less rooms k)) (sym e) ∙ here ∙ ap (λ i. slice_index rooms i - 1) e
    where
      here : slice_index (one_less rooms k) k ≡ slice_index rooms k - 1
      here = elim (leb_tells (length rooms) k) [
        | inl h ↦
            let past : length (one_less rooms k) ≤ k = omega (arith, h.1, length-set rooms k (slice_index rooms k - 1)) in
            let none : slice_index rooms k ≡ 0 = get_or_past rooms k 0 h.1 in
            get_or_past (one_less rooms k) k 0 past ∙ omega (arith, none)
        | inr h ↦ get_or-set_same rooms k (slice_index rooms k - 1) 0 h.1
      ]

  other-less : (c : ℕ) → (k ≡ c → ⊥) → slice_index (one_less rooms k) c ≡ slice_index rooms c
  other-less c ne = get_or-set_other rooms k c (slice_index rooms k - 1) 0 (λ e. ne (sym e))

-- ---- way by way

module _ (moment : ℕ) where
  one-copy : (pools : Pools) (d : Delivery) (c : ℕ) → d.moment ≡ moment → room_of moment (get (pools_after pools (d ∷ [])) c) ≡ cond (eqb d.target.client c) (room_of moment (get pools c) - 1) (room_of moment (get pools c))
  one-copy pools d c at =
      room-left moment c (d ∷ []) pools (ap (λ b. b && true) (eq-eqb d.moment moment at))
      ∙ go (eqb d.target.client c)
    where
      go : (b : Bool) → (let few : List Delivery = cond b (d ∷ []) [] in room_of moment (get pools c) - length few ≡ cond b (room_of moment (get pools c) - 1) (room_of moment (get pools c)))
      go true = omega arith
      go false = omega arith

  -- a copy takes the room of one message at its client
  less-room : (pools : Pools) (rooms : List ℕ) (d : Delivery) → d.moment ≡ moment → AreRooms moment pools rooms → AreRooms moment (pools_after pools (d ∷ [])) (one_less rooms d.target.client)
  less-room pools rooms d at are c = go (eqb d.target.client c) refl
    where
      k : ℕ
      k = d.target.client

      go : (b : Bool) → eqb k c ≡ b → slice_index (one_less rooms k) c ≡ room_of moment (get (pools_after pools (d ∷ [])) c)
      go true e =
          same-less rooms k c (eqb-true k c e) ∙ ap (λ n. n - 1) (are c)
          ∙ sym (one-copy pools d c at ∙ ap (λ b. cond b (room_of moment (get pools c) - 1) (room_of moment (get pools c))) e)
      go false e =
          other-less rooms k c (λ f. let h : true ≡ false = sym (eq-eqb k c f) ∙ e in cc) ∙ are c
          ∙ sym (one-copy pools d c at ∙ ap (λ b. cond b (room_of moment (get pools c) - 1) (room_of moment (get pools c))) e)

  -- whether a client has room
  same-fate : (roster : Roster) (message rooms : List ℕ) (client : ℕ) → AreRooms moment roster.pools rooms → fate_with roster.clients message rooms client ≡ fate_at roster moment client
  same-fate roster message rooms client are =
      let e : nat_lt 0 (slice_index rooms client) ≡ pool_has_room moment (get roster.pools client) = ap (nat_lt 0) (are client) ∙ sym (has-room moment (get roster.pools client)) in
      ap (λ b. cond b Arrives (Lost (input_size (get roster.clients client)))) e

  module _ (source : Addr) (message : List ℕ) where
    -- what is left once a copy came to a port
    past-port : (roster : Roster) (rooms m : List ℕ) (client : ℕ) (node : Node) → is_filter_node node ≡ false → AreRooms moment roster.pools rooms →
        AreRooms moment (pools_after roster.pools (option_to_list (copy moment (record { client = client; node = node }) (Some m)))) (one_less rooms client)
    past-port roster rooms m client (Port n) e are = less-room roster.pools rooms (record { moment = moment; target = record { client = client; port = n }; message = m }) refl are
    past-port roster rooms m client (Filter n) e are = absurd (let h : true ≡ false = e in cc)

    past-end : (roster : Roster) (rooms : List ℕ) (p : List Edge) (s : Bool) (o : Option (List ℕ)) → s ≡ is_none o → is_path source p ≡ true → AreRooms moment roster.pools rooms →
        AreRooms moment (pools_after roster.pools (option_to_list (copy moment (end_of source p) o))) (cond s rooms (one_less rooms (end_client (nodes_of p))))
    past-end roster rooms p true None e path are = are
    past-end roster rooms p true (Some m) e path are = absurd (let h : true ≡ false = e in cc)
    past-end roster rooms p false None e path are = absurd (let h : false ≡ true = e in cc)
    past-end roster rooms p false (Some m) e path are =
        subst (λ k. AreRooms moment (pools_after roster.pools (option_to_list (copy moment (end_of source p) (Some m)))) (one_less rooms k)) (sym (end-is-last source p path))
        (past-port roster rooms m (end_of source p).client (end_of source p).node (end-port source p path) are)

    past-way : (roster : Roster) (rooms : List ℕ) (p : List Edge) → is_path source p ≡ true → AreRooms moment roster.pools rooms →
        AreRooms moment (past_path roster moment source message p).pools (rooms_past roster.clients message rooms (nodes_of p))
    past-way roster rooms p path are =
        past-end roster rooms p (is_some (stopped_at roster.clients (nodes_of p) message)) (copy_on_path roster.clients p message) (stopped-copy roster.clients p message) path are

    way-fate : (roster : Roster) (rooms : List ℕ) (p : List Edge) → is_path source p ≡ true → AreRooms moment roster.pools rooms →
        fate_by roster.clients message rooms (nodes_of p) ≡ fate_on roster moment source message p
    way-fate roster rooms p path are =
        ap (unwrap_or (stopped_at roster.clients (nodes_of p) message))
        (ap (fate_with roster.clients message rooms) (end-is-last source p path) ∙ same-fate roster message rooms (end_of source p).client are)

    abbrev Same : List (List Edge) → Type 0
    Same qs =
        (now : Roster) (rooms : List ℕ) → AreRooms moment now.pools rooms →
        fates_by now.clients message rooms (map nodes_of qs) ≡ fates_on now moment source message qs

    same-fates : (qs : List (List Edge)) → Same (filter (is_path source) qs)
    same-fates [] = λ now rooms are. refl
    same-fates (q ∷ qs) = go (same-fates qs) (is_path source q) refl
      where
        go : Same (filter (is_path source) qs) → (b : Bool) → is_path source q ≡ b → Same (cond b (q ∷ filter (is_path source) qs) (filter (is_path source) qs))
        go further true e now rooms are =
            let one : Fate → WayFate = λ fate. record { route = nodes_of q; fate = fate } in
            ap (λ fate. one fate ∷ fates_by now.clients message (rooms_past now.clients message rooms (nodes_of q)) (map nodes_of (filter (is_path source) qs))) (way-fate now rooms q e are)
            ∙ ap (λ ways. one (fate_on now moment source message q) ∷ ways)
            (further (past_path now moment source message q) (rooms_past now.clients message rooms (nodes_of q)) (past-way now rooms q e are))
        go further false e now rooms are = further now rooms are

    -- the first ways
    pub first-fates : (roster : Roster) (edges : List Edge) (rooms : List ℕ) (most : ℕ) → AreRooms moment roster.pools rooms →
        take most (fates_by roster.clients message rooms (routes edges source)) ≡ take most (fates roster edges moment source message)
    unfolding paths
    first-fates roster edges rooms most are = ap (take most) (same-fates (chains hops edges) roster rooms are)
