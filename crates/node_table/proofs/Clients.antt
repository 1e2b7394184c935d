-- The clients' map after a change of a name or of a node.
use Rattle.std.proofs.Common.{◌≡◌, ◌≢◌, ◌<◌, ◌≤◌, ◌+◌, ◌*◌, ◌⊎◌, ◌∙◌, ℕ, List, Option, Some, None, is_some, refl, ap, sym, inl, inr, arith}
use Rattle.std.specs.Option.{option_map}
use Rattle.std.specs.Ordering.{nat_cmp}
use Rattle.std.specs.FinMap as map
use Rattle.std.specs.Cmp.{nat_cmp_total}
use Rattle.std.specs.FinMap.{FinMap, get, get-empty, same_map, nat_cmp-IsAntisymmetric}
use Rattle.std.proofs.lemmas.Bool.{cases_eq}
use Rattle.std.proofs.lemmas.Bool.Decides.{leb_tells}
use Rattle.node_table.specs.declared.number.Node.{Node}
use Rattle.node_table.specs.declared.number.Node.TheVariants.{Port, Filter}
use Rattle.node_table.specs.Nodes.{NodeSeen, ClientNodes, empty_client, node_in, put_node, drop_node, put_client, name_of}
use Rattle.node_table.specs.Kept.{numbered_map, place_in, is_small, client_kept, clients_kept}
use Rattle.node_table.proofs.Numbered.{get-numbered, get-from_zero, insert-from_zero, remove-from_zero, numbered_same, numbered_none, numbered_insert, numbered_remove, remove_absent, get-insert_same, get-insert_other}

pub small_place : (nd : Node) → is_small nd → place_in nd < 32
small_place (Port n) l = omega arith
small_place (Filter n) l = omega arith

pub some_or_none : {A : Type 0} (o : Option A) → ((x : A) × (o ≡ Some x)) ⊎ (o ≡ None)
some_or_none None = inr refl
some_or_none (Some x) = inl (x, refl)

module _ {P : Type 0} where
  pub get-clients : (name : ℕ → Option (List ℕ)) (node : ℕ → Option (NodeSeen P)) (row : ℕ) → row < 64 → get (clients_kept name node) (128 + row) ≡ option_map (client_kept node row) (name row)
  get-clients name node row l = get-numbered 128 64 row _ l

  pub is_some-client : (node : ℕ → Option (NodeSeen P)) (row : ℕ) (name : Option (List ℕ)) → is_some (option_map (client_kept node row) name) ≡ is_some name
  is_some-client node row None = refl
  is_some-client node row (Some nm) = refl

  pub name_of-client : (node : ℕ → Option (NodeSeen P)) (row : ℕ) (name : Option (List ℕ)) → name_of (option_map (client_kept node row) name) ≡ name
  name_of-client node row None = refl
  name_of-client node row (Some nm) = refl

  -- a client whose places are as they were
  client_same : (node node' : ℕ → Option (NodeSeen P)) (row : ℕ) (name : Option (List ℕ)) → ((p : ℕ) → p < 32 → node' (row * 32 + p) ≡ node (row * 32 + p)) → option_map (client_kept node' row) name ≡ option_map (client_kept node row) name
  client_same node node' row None h = refl
  client_same node node' row (Some nm) h =
      let ports : numbered_map 0 16 (λ n. node' (row * 32 + n)) ≡ numbered_map 0 16 (λ n. node (row * 32 + n)) = numbered_same 0 16 _ _ (λ i l. h i (omega arith)) in
      let filters : numbered_map 0 16 (λ n. node' (row * 32 + (16 + n))) ≡ numbered_map 0 16 (λ n. node (row * 32 + (16 + n))) = numbered_same 0 16 _ _ (λ i l. h (16 + i) (omega arith)) in
      ap (λ (m : FinMap nat_cmp (NodeSeen P)). Some (record { name = nm; ports = m; filters = numbered_map 0 16 (λ n. node' (row * 32 + (16 + n))) })) ports
      ∙ ap (λ (m : FinMap nat_cmp (NodeSeen P)). Some (record { name = nm; ports = numbered_map 0 16 (λ n. node (row * 32 + n)); filters = m })) filters

  -- nothing changed
  pub same_clients : (name name' : ℕ → Option (List ℕ)) (node node' : ℕ → Option (NodeSeen P)) → ((row : ℕ) → row < 64 → name' row ≡ name row) → ((i : ℕ) → node' i ≡ node i) → clients_kept name' node' ≡ clients_kept name node
  same_clients name name' node node' n h =
      numbered_same 128 64 _ _ (λ row l. ap (option_map (client_kept node' row)) (n row l) ∙ client_same node node' row (name row) (λ p _. h (row * 32 + p)))

  -- a node of a client that is there
  node_kept : (node : ℕ → Option (NodeSeen P)) (row : ℕ) (nm : List ℕ) (nd : Node) → is_small nd → node_in (Some (client_kept node row nm)) nd ≡ node (row * 32 + place_in nd)
  node_kept node row nm (Port n) l = get-from_zero 16 n (λ k. node (row * 32 + k)) l
  node_kept node row nm (Filter n) l = get-from_zero 16 n (λ k. node (row * 32 + (16 + k))) l

  no_node : (nd : Node) → node_in {P = P} None nd ≡ None
  no_node (Port n) = get-empty nat_cmp n
  no_node (Filter n) = get-empty nat_cmp n

  found_by : (node : ℕ → Option (NodeSeen P)) (row : ℕ) (name : Option (List ℕ)) (nd : Node) → is_small nd → (name ≡ None → node (row * 32 + place_in nd) ≡ None) → node_in (option_map (client_kept node row) name) nd ≡ node (row * 32 + place_in nd)
  found_by node row None nd l h = no_node nd ∙ sym (h refl)
  found_by node row (Some nm) nd l h = node_kept node row nm nd l

  -- the node at an address
  pub found : (name : ℕ → Option (List ℕ)) (node : ℕ → Option (NodeSeen P)) (row : ℕ) (nd : Node) → row < 64 → is_small nd → (name row ≡ None → node (row * 32 + place_in nd) ≡ None) → node_in (get (clients_kept name node) (128 + row)) nd ≡ node (row * 32 + place_in nd)
  found name node row nd b l h = ap (λ c. node_in c nd) (get-clients name node row b) ∙ found_by node row (name row) nd l h

  client_put : (node node' : ℕ → Option (NodeSeen P)) (row : ℕ) (nm : List ℕ) (nd : Node) (x : NodeSeen P) → is_small nd → node' (row * 32 + place_in nd) ≡ Some x → ((i : ℕ) → i ≢ row * 32 + place_in nd → node' i ≡ node i) → client_kept node' row nm ≡ put_node nd x (client_kept node row nm)
  client_put node node' row nm (Port n) x l e h =
      let ports : numbered_map 0 16 (λ k. node' (row * 32 + k)) ≡ map.insert (numbered_map 0 16 (λ k. node (row * 32 + k))) n x = insert-from_zero 16 n _ _ x l e (λ j s ne. h (row * 32 + j) (omega arith)) in
      let filters : numbered_map 0 16 (λ k. node' (row * 32 + (16 + k))) ≡ numbered_map 0 16 (λ k. node (row * 32 + (16 + k))) = numbered_same 0 16 _ _ (λ j s. h (row * 32 + (16 + j)) (omega arith)) in
      ap (λ (m : FinMap nat_cmp (NodeSeen P)). record { name = nm; ports = m; filters = numbered_map 0 16 (λ k. node' (row * 32 + (16 + k))) }) ports
      ∙ ap (λ (m : FinMap nat_cmp (NodeSeen P)). record { name = nm; ports = map.insert (numbered_map 0 16 (λ k. node (row * 32 + k))) n x; filters = m }) filters
  client_put node node' row nm (Filter n) x l e h =
      let ports : numbered_map 0 16 (λ k. node' (row * 32 + k)) ≡ numbered_map 0 16 (λ k. node (row * 32 + k)) = numbered_same 0 16 _ _ (λ j s. h (row * 32 + j) (omega arith)) in
      let filters : numbered_map 0 16 (λ k. node' (row * 32 + (16 + k))) ≡ map.insert (numbered_map 0 16 (λ k. node (row * 32 + (16 + k)))) n x = insert-from_zero 16 n _ _ x l e (λ j s ne. h (row * 32 + (16 + j)) (omega arith)) in
      ap (λ (m : FinMap nat_cmp (NodeSeen P)). record { name = nm; ports = m; filters = numbered_map 0 16 (λ k. node' (row * 32 + (16 + k))) }) ports
      ∙ ap (λ (m : FinMap nat_cmp (NodeSeen P)). record { name = nm; ports = numbered_map 0 16 (λ k. node (row * 32 + k)); filters = m }) filters

  client_drop : (node node' : ℕ → Option (NodeSeen P)) (row : ℕ) (nm : List ℕ) (nd : Node) → is_small nd → node' (row * 32 + place_in nd) ≡ None → ((i : ℕ) → i ≢ row * 32 + place_in nd → node' i ≡ node i) → client_kept node' row nm ≡ drop_node nd (client_kept node row nm)
  client_drop node node' row nm (Port n) l e h =
      let ports : numbered_map 0 16 (λ k. node' (row * 32 + k)) ≡ map.remove (numbered_map 0 16 (λ k. node (row * 32 + k))) n = remove-from_zero 16 n _ _ l e (λ j s ne. h (row * 32 + j) (omega arith)) in
      let filters : numbered_map 0 16 (λ k. node' (row * 32 + (16 + k))) ≡ numbered_map 0 16 (λ k. node (row * 32 + (16 + k))) = numbered_same 0 16 _ _ (λ j s. h (row * 32 + (16 + j)) (omega arith)) in
      ap (λ (m : FinMap nat_cmp (NodeSeen P)). record { name = nm; ports = m; filters = numbered_map 0 16 (λ k. node' (row * 32 + (16 + k))) }) ports
      ∙ ap (λ (m : FinMap nat_cmp (NodeSeen P)). record { name = nm; ports = map.remove (numbered_map 0 16 (λ k. node (row * 32 + k))) n; filters = m }) filters
  client_drop node node' row nm (Filter n) l e h =
      let ports : numbered_map 0 16 (λ k. node' (row * 32 + k)) ≡ numbered_map 0 16 (λ k. node (row * 32 + k)) = numbered_same 0 16 _ _ (λ j s. h (row * 32 + j) (omega arith)) in
      let filters : numbered_map 0 16 (λ k. node' (row * 32 + (16 + k))) ≡ map.remove (numbered_map 0 16 (λ k. node (row * 32 + (16 + k)))) n = remove-from_zero 16 n _ _ l e (λ j s ne. h (row * 32 + (16 + j)) (omega arith)) in
      ap (λ (m : FinMap nat_cmp (NodeSeen P)). record { name = nm; ports = m; filters = numbered_map 0 16 (λ k. node' (row * 32 + (16 + k))) }) ports
      ∙ ap (λ (m : FinMap nat_cmp (NodeSeen P)). record { name = nm; ports = numbered_map 0 16 (λ k. node (row * 32 + k)); filters = m }) filters

  -- the clients after one of them changed
  changed_by : (name name' : ℕ → Option (List ℕ)) (node node' : ℕ → Option (NodeSeen P)) (row : ℕ) (f : ClientNodes P → ClientNodes P) (nm : List ℕ) → row < 64 → name row ≡ Some nm → name' row ≡ Some nm → client_kept node' row nm ≡ f (client_kept node row nm) →
      ((r : ℕ) → r < 64 → r ≢ row → name' r ≡ name r) → ((r p : ℕ) → r ≢ row → p < 32 → node' (r * 32 + p) ≡ node (r * 32 + p)) →
      clients_kept name' node' ≡ put_client (clients_kept name node) (128 + row) (option_map f (get (clients_kept name node) (128 + row)))
  changed_by name name' node node' row f nm b is is' e n h =
      let there : get (clients_kept name node) (128 + row) ≡ Some (client_kept node row nm) = get-clients name node row b ∙ ap (option_map (client_kept node row)) is in
      numbered_insert 128 64 row (λ r. option_map (client_kept node r) (name r)) _ (f (client_kept node row nm)) b (ap (option_map (client_kept node' row)) is' ∙ ap Some e)
      (λ r l ne. ap (option_map (client_kept node' r)) (n r l ne) ∙ client_same node node' r (name r) (λ p s. h r p ne s))
      ∙ ap (λ c. put_client (clients_kept name node) (128 + row) (option_map f c)) (sym there)

  elsewhere : (node node' : ℕ → Option (NodeSeen P)) (row : ℕ) (nd : Node) → is_small nd → ((i : ℕ) → i ≢ row * 32 + place_in nd → node' i ≡ node i) → (r p : ℕ) → r ≢ row → p < 32 → node' (r * 32 + p) ≡ node (r * 32 + p)
  elsewhere node node' row nd l h r p ne s = let t : place_in nd < 32 = small_place nd l in h (r * 32 + p) (omega arith)

  -- a node was put
  pub put_kept : (name name' : ℕ → Option (List ℕ)) (node node' : ℕ → Option (NodeSeen P)) (row : ℕ) (nd : Node) (x : NodeSeen P) → row < 64 → is_small nd → name row ≢ None → ((r : ℕ) → name' r ≡ name r) → node' (row * 32 + place_in nd) ≡ Some x → ((i : ℕ) → i ≢ row * 32 + place_in nd → node' i ≡ node i) →
      clients_kept name' node' ≡ put_client (clients_kept name node) (128 + row) (option_map (put_node nd x) (get (clients_kept name node) (128 + row)))
  put_kept name name' node node' row nd x b l opens n e h = elim (some_or_none (name row)) [
    | inr none ↦ absurd (opens none)
    | inl o ↦ changed_by name name' node node' row (put_node nd x) o.0 b o.1 (n row ∙ o.1) (client_put node node' row o.0 nd x l e h) (λ r _ _. n r) (elsewhere node node' row nd l h)
  ]

  -- a node was dropped
  pub drop_kept : (name name' : ℕ → Option (List ℕ)) (node node' : ℕ → Option (NodeSeen P)) (row : ℕ) (nd : Node) → row < 64 → is_small nd → name row ≢ None → ((r : ℕ) → name' r ≡ name r) → node' (row * 32 + place_in nd) ≡ None → ((i : ℕ) → i ≢ row * 32 + place_in nd → node' i ≡ node i) →
      clients_kept name' node' ≡ put_client (clients_kept name node) (128 + row) (option_map (drop_node nd) (get (clients_kept name node) (128 + row)))
  drop_kept name name' node node' row nd b l opens n e h = elim (some_or_none (name row)) [
    | inr none ↦ absurd (opens none)
    | inl o ↦ changed_by name name' node node' row (drop_node nd) o.0 b o.1 (n row ∙ o.1) (client_drop node node' row o.0 nd l e h) (λ r _ _. n r) (elsewhere node node' row nd l h)
  ]

  drop_none : (c : ClientNodes P) (nd : Node) → node_in (Some c) nd ≡ None → drop_node nd c ≡ c
  drop_none c (Port n) e = ap (λ (m : FinMap nat_cmp (NodeSeen P)). record c { ports = m }) (remove_absent c.ports n e)
  drop_none c (Filter n) e = ap (λ (m : FinMap nat_cmp (NodeSeen P)). record c { filters = m }) (remove_absent c.filters n e)

  put_same : (m : FinMap nat_cmp (ClientNodes P)) (k : ℕ) (c : ClientNodes P) → get m k ≡ Some c → map.insert m k c ≡ m
  put_same m k c e = same_map nat_cmp_total nat_cmp-IsAntisymmetric _ _ (λ q. elim (cases_eq q k) [
    | inl same ↦ rw same (get-insert_same m k c ∙ sym e)
    | inr ne ↦ get-insert_other m k c q ne
  ])

  -- a client without a node that it has not
  pub without_none : (m : FinMap nat_cmp (ClientNodes P)) (client : ℕ) (o : Option (ClientNodes P)) (nd : Node) → get m client ≡ o → node_in o nd ≡ None → m ≡ put_client m client (option_map (drop_node nd) o)
  without_none m client None nd is e = refl
  without_none m client (Some c) nd is e = sym (ap (map.insert m client) (drop_none c nd e) ∙ put_same m client c is)

  -- a client was opened
  pub open_kept : (name name' : ℕ → Option (List ℕ)) (node : ℕ → Option (NodeSeen P)) (row : ℕ) (nm : List ℕ) → row < 64 → name' row ≡ Some nm → ((r : ℕ) → r ≢ row → name' r ≡ name r) → ((p : ℕ) → p < 32 → node (row * 32 + p) ≡ None) →
      clients_kept name' node ≡ map.insert (clients_kept name node) (128 + row) (empty_client nm)
  open_kept name name' node row nm b is n none =
      let ports : numbered_map 0 16 (λ k. node (row * 32 + k)) ≡ map.empty = numbered_none 0 16 _ (λ i l. none i (omega arith)) in
      let filters : numbered_map 0 16 (λ k. node (row * 32 + (16 + k))) ≡ map.empty = numbered_none 0 16 _ (λ i l. none (16 + i) (omega arith)) in
      let new : client_kept node row nm ≡ empty_client nm = ap (λ (m : FinMap nat_cmp (NodeSeen P)). record { name = nm; ports = m; filters = numbered_map 0 16 (λ k. node (row * 32 + (16 + k))) }) ports
      ∙ ap (λ (m : FinMap nat_cmp (NodeSeen P)). record { name = nm; ports = map.empty; filters = m }) filters in
      numbered_insert 128 64 row _ _ (empty_client nm) b (ap (option_map (client_kept node row)) is ∙ ap Some new)
      (λ r l ne. ap (option_map (client_kept node r)) (n r ne))

  -- a client was closed
  pub close_kept : (name name' : ℕ → Option (List ℕ)) (node node' : ℕ → Option (NodeSeen P)) (row : ℕ) → row < 64 → name' row ≡ None → ((r : ℕ) → r ≢ row → name' r ≡ name r) → ((i : ℕ) → i < row * 32 → node' i ≡ node i) → ((i : ℕ) → row * 32 + 32 ≤ i → node' i ≡ node i) →
      clients_kept name' node' ≡ map.remove (clients_kept name node) (128 + row)
  close_kept name name' node node' row b is n low high =
      numbered_remove 128 64 row _ _ b (ap (option_map (client_kept node' row)) is)
      (λ r l ne. ap (option_map (client_kept node' r)) (n r ne) ∙ client_same node node' r (name r) (λ p s. outside r p ne s))
    where
      outside : (r p : ℕ) → r ≢ row → p < 32 → node' (r * 32 + p) ≡ node (r * 32 + p)
      outside r p ne s = elim (leb_tells (row * 32) (r * 32 + p)) [
        | inl above ↦ high (r * 32 + p) (omega (arith, above.1))
        | inr below ↦ low (r * 32 + p) below.1
      ]
