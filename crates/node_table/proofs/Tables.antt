-- What a table shows, and what it shows after a change.
use Rattle.std.proofs.Common.{◌≡◌, ◌≢◌, ◌<◌, ◌≤◌, ◌+◌, ◌*◌, ◌∙◌, ℕ, List, length, get_or, set, Option, Some, None, is_some, true, false, refl, ap, sym, subst, inl, inr, arith}
use Rattle.std.specs.Prelude.{IsSome, IfSome}
use Rattle.std.specs.Option.{option_map}
use Rattle.std.specs.Ordering.{nat_cmp}
use Rattle.std.specs.FinMap as map
use Rattle.std.specs.FinMap.{FinMap, get, get-empty}
use Rattle.std.proofs.lemmas.Bool.Decides.{leb_tells}
use Rattle.std.proofs.lemmas.List.{get_or-set_same, get_or-set_other}
use Rattle.slab.proofs.SlabLemmas.{ContainsKey-within}
use Rattle.node_table.specs.declared.number.Addr.{Addr}
use Rattle.node_table.specs.declared.number.Node.TheVariants.{Port, Filter}
use Rattle.node_table.specs.Listing.{IsNext, NoneFrom}
use Rattle.node_table.proofs.Numbered.{get-above, numbered_none}
use Rattle.node_table.specs.Nodes.{NodeSeen, ClientNodes, ports_in, filters_in, empty_client, name_of, is_open, node_in, node_at, put_node, drop_node, put_client, with_node, without_node, with_body, with_its_body, put_seen}
use Rattle.node_table.specs.Kept.{under, at_place, place_in, IsPlace, IsTable, ReadsAs, AreNodesKept, client_kept, clients_kept}
use Rattle.node_table.proofs.Clients.{get-clients, is_some-client, name_of-client, found, small_place, put_kept, drop_kept, without_none, open_kept, close_kept, same_clients}
use Rattle.node_table.proofs.Places.{get_within, some_is, no_some, not_both, key_within, put-here, put-elsewhere, put-kept, drop-here, drop-elsewhere, write-here, write-elsewhere}
use Rattle.node_table.proofs.Clearing.{none_if_not}

pub is_some-map : {A B : Type 0} (f : A → B) (o : Option A) → is_some (option_map f o) ≡ is_some o
is_some-map f None = refl
is_some-map f (Some x) = refl

map_none : {A B : Type 0} (f : A → B) (o : Option A) → option_map f o ≡ None → o ≡ None
map_none f None e = refl
map_none f (Some x) e = cc

-- who is not open is not there
pub closed_get : {P : Type 0} (m : FinMap nat_cmp (ClientNodes P)) (client : ℕ) → is_open m client ≡ false → get m client ≡ None
closed_get {P} m client e = by (get m client) e
  where
    by : (o : Option (ClientNodes P)) → is_some o ≡ false → o ≡ None
    by None h = refl
    by (Some c) h = cc

-- what names, keys and slots show
abbrev pub shown : {V P : Type 0} → (V → List ℕ) → List (Option V) → List (Option ℕ) → List (Option (NodeSeen P)) → FinMap nat_cmp (ClientNodes P)
shown items names keys slots = clients_kept (λ row. option_map items (get_or names row None)) (at_place keys slots)

module _ {V P : Type 0} (items : V → List ℕ) (names : List (Option V)) (keys : List (Option ℕ)) (slots : List (Option (NodeSeen P))) (m : FinMap nat_cmp (ClientNodes P)) (kept : AreNodesKept names keys slots) (view : shown items names keys slots ≡ m) where
  pub get_is : (client row : ℕ) → client ≡ 128 + row → row < 64 → get m client ≡ option_map (client_kept (at_place keys slots) row) (option_map items (get_or names row None))
  get_is client row at l = ap (get m) at ∙ ap (λ n. get n (128 + row)) (sym view) ∙ get-clients _ (at_place keys slots) row l

  -- whether a client is open
  pub open_is : (client row : ℕ) (d : Option V) → client ≡ 128 + row → row < 64 → is_some (get_or names row d) ≡ is_open m client
  open_is client row d at l =
      ap is_some (get_within names row d None (omega (arith, kept.rows))) ∙ sym (is_some-map items _) ∙ sym (is_some-client (at_place keys slots) row _) ∙ sym (ap is_some (get_is client row at l))

  -- its name
  pub name_is : (client row : ℕ) (d : Option V) → client ≡ 128 + row → row < 64 → option_map items (get_or names row d) ≡ name_of (get m client)
  name_is client row d at l =
      ap (option_map items) (get_within names row d None (omega (arith, kept.rows))) ∙ sym (name_of-client (at_place keys slots) row _) ∙ sym (ap name_of (get_is client row at l))

  pub closed_row : (client row : ℕ) → client ≡ 128 + row → row < 64 → is_open m client ≡ false → get_or names row None ≡ None
  closed_row client row at l e = by (get_or names row None) (open_is client row None at l ∙ e)
    where
      by : (o : Option V) → is_some o ≡ false → o ≡ None
      by None h = refl
      by (Some v) h = cc

  pub open_row : (client row : ℕ) → client ≡ 128 + row → row < 64 → is_open m client ≡ true → get_or names row None ≢ None
  open_row client row at l e none = let yes : is_some (get_or names row None) ≡ true = open_is client row None at l ∙ e in
      let no : is_some (get_or names row None) ≡ false = ap is_some none in cc

  -- who is not open has nothing at any place
  pub nothing : (row p : ℕ) → p < 32 → get_or names row None ≡ None → at_place keys slots (row * 32 + p) ≡ None
  nothing row p l e = ap (under slots) (kept.closed row p l e)

  -- the node at an address
  pub node_is : (addr : Addr) (row place : ℕ) → IsPlace addr row place → node_at m addr ≡ at_place keys slots place
  node_is addr row place at =
      ap (λ n. node_in (get n addr.client) addr.node) (sym view) ∙ ap (λ k. node_in (get (shown items names keys slots) k) addr.node) at.client
      ∙ found _ (at_place keys slots) row addr.node at.below at.small (λ e. nothing row (place_in addr.node) (small_place addr.node at.small) (map_none items _ e)) ∙ ap (at_place keys slots) (sym at.is)

  within_slots : (key : ℕ) (x : NodeSeen P) → get_or slots key None ≡ Some x → key < length slots
  within_slots key x e = ContainsKey-within (record { slots = slots; vacant_key = 0; capacity = 0 }) key (some_is _ x e)

  place_in_range : length keys ≡ 2048 → (addr : Addr) (row place : ℕ) → IsPlace addr row place → place < length keys
  place_in_range whole addr row place at = let small : place_in addr.node < 32 = small_place addr.node at.small in omega (arith, whole, at.below, at.is)

  -- where there is a key the client is open
  pub opens : (addr : Addr) (row place key : ℕ) → IsPlace addr row place → get_or keys place None ≡ Some key → get_or names row None ≢ None
  opens addr row place key at e none =
      no_some key (sym e ∙ ap (λ i. get_or keys i None) at.is ∙ kept.closed row (place_in addr.node) (small_place addr.node at.small) none)

  module _ (addr : Addr) (row place : ℕ) (at : IsPlace addr row place) where
    -- a node was put there
    pub put_is : (x : NodeSeen P) (keys' : List (Option ℕ)) (slots' : List (Option (NodeSeen P))) → get_or names row None ≢ None → at_place keys' slots' place ≡ Some x → ((i : ℕ) → i ≢ place → at_place keys' slots' i ≡ at_place keys slots i) → shown items names keys' slots' ≡ with_node m addr x
    put_is x keys' slots' open_now here elsewhere =
        put_kept _ _ (at_place keys slots) (at_place keys' slots') row addr.node x at.below at.small (λ e. open_now (map_none items _ e)) (λ r. refl) (ap (at_place keys' slots') (sym at.is) ∙ here) (λ i ne. elsewhere i (λ e. ne (e ∙ at.is)))
        ∙ ap (λ k. put_client (shown items names keys slots) k (option_map (put_node addr.node x) (get (shown items names keys slots) k))) (sym at.client)
        ∙ ap (λ n. put_client n addr.client (option_map (put_node addr.node x) (get n addr.client))) view

    -- a new node
    pub created : length keys ≡ 2048 → (key : ℕ) (x : NodeSeen P) (slots' : List (Option (NodeSeen P))) → get_or names row None ≢ None → get_or slots key None ≡ None → get_or slots' key None ≡ Some x → ((k : ℕ) → k ≢ key → get_or slots' k None ≡ get_or slots k None) → shown items names (set keys place (Some key)) slots' ≡ with_node m addr x
    created whole key x slots' open_now vacant changed others =
        let inside : place < length keys = place_in_range whole addr row place at in
        put_is x _ slots' open_now (put-here names keys slots slots' kept place key x inside vacant changed others) (put-elsewhere names keys slots slots' kept place key x inside vacant changed others)

    pub created-kept : length keys ≡ 2048 → (key : ℕ) (x : NodeSeen P) (slots' : List (Option (NodeSeen P))) → get_or names row None ≢ None → get_or keys place None ≡ None → get_or slots key None ≡ None → get_or slots' key None ≡ Some x → ((k : ℕ) → k ≢ key → get_or slots' k None ≡ get_or slots k None) → AreNodesKept names (set keys place (Some key)) slots'
    created-kept whole key x slots' open_now free vacant changed others =
        put-kept names keys slots slots' kept place key x (place_in_range whole addr row place at) vacant changed others row (place_in addr.node) at.is (small_place addr.node at.small) open_now free

    -- a node that is there
    pub there : (key : ℕ) → get_or keys place None ≡ Some key → node_at m addr ≡ get_or slots key None
    there key e = node_is addr row place at ∙ ap (under slots) e

    -- where there is no node there is no key
    pub no_key : node_at m addr ≡ None → get_or keys place None ≡ None
    no_key none = none_if_not _ (λ k e. not_both _ (kept.full place k e) (sym (there k e) ∙ none))

    -- a node with another body
    pub written : (key : ℕ) (x : NodeSeen P) (w : P) (slots' : List (Option (NodeSeen P))) → get_or keys place None ≡ Some key → get_or slots key None ≡ Some x → get_or slots' key None ≡ Some (with_its_body w x) → ((k : ℕ) → k ≢ key → get_or slots' k None ≡ get_or slots k None) → shown items names keys slots' ≡ with_body m addr w
    written key x w slots' e was changed others =
        put_is (with_its_body w x) keys slots' (opens addr row place key at e) (write-here names keys slots slots' kept place key (with_its_body w x) e changed others) (write-elsewhere names keys slots slots' kept place key (with_its_body w x) e changed others)
        ∙ ap (λ o. put_seen m addr (option_map (with_its_body w) o)) (sym (there key e ∙ was))

    pub written_one : (key : ℕ) (x : NodeSeen P) (w : P) → get_or keys place None ≡ Some key → get_or slots key None ≡ Some x → shown items names keys (set slots key (Some (with_its_body w x))) ≡ with_body m addr w
    written_one key x w e was =
        let inside : key < length slots = within_slots key x was in
        written key x w (set slots key (Some (with_its_body w x))) e was (get_or-set_same slots key (Some (with_its_body w x)) None inside) (λ k ne. get_or-set_other slots key k (Some (with_its_body w x)) None ne)

    -- where there is a node there is a key
    pub key_there : IsSome (node_at m addr) → IsSome (get_or keys place None)
    key_there h = by (get_or keys place None) (subst IsSome (node_is addr row place at) h)
      where
        by : (o : Option ℕ) → IsSome (under slots o) → IsSome o
        by None h = h
        by (Some k) h = some_is (Some k) k refl

    -- a node was deleted
    pub deleted : (key : ℕ) (slots' : List (Option (NodeSeen P))) → get_or keys place None ≡ Some key → ((k : ℕ) → k ≢ key → get_or slots' k None ≡ get_or slots k None) → shown items names (set keys place None) slots' ≡ without_node m addr
    deleted key slots' e others =
        let inside : place < length keys = key_within keys place key e in
        drop_kept _ _ (at_place keys slots) (at_place (set keys place None) slots') row addr.node at.below at.small (λ o. opens addr row place key at e (map_none items _ o)) (λ r. refl)
        (ap (at_place (set keys place None) slots') (sym at.is) ∙ drop-here names keys slots slots' kept place key inside e others) (λ i ne. drop-elsewhere names keys slots slots' kept place key inside e others i (λ s. ne (s ∙ at.is)))
        ∙ ap (λ k. put_client (shown items names keys slots) k (option_map (drop_node addr.node) (get (shown items names keys slots) k))) (sym at.client)
        ∙ ap (λ n. put_client n addr.client (option_map (drop_node addr.node) (get n addr.client))) view

    -- there was no node to delete
    pub no_node : get_or keys place None ≡ None → node_at m addr ≡ None
    no_node e = node_is addr row place at ∙ ap (under slots) e

    pub without_it : node_at m addr ≡ None → m ≡ without_node m addr
    without_it e = without_none m addr.client (get m addr.client) addr.node refl e

  -- a table with places shows the same
  pub read_is : (keys' : List (Option ℕ)) → ReadsAs None keys' keys → shown items names keys' slots ≡ m
  read_is keys' same = same_clients _ _ (at_place keys slots) (at_place keys' slots) (λ row l. refl) (λ i. ap (under slots) (same i)) ∙ view

  -- a client was opened
  pub opened_is : (client row : ℕ) (v : V) → client ≡ 128 + row → row < 64 → get_or names row None ≡ None → shown items (set names row (Some v)) keys slots ≡ map.insert m client (empty_client (items v))
  opened_is client row v at l none =
      let inside : row < length names = omega (arith, kept.rows) in
      open_kept (λ r. option_map items (get_or names r None)) (λ r. option_map items (get_or (set names row (Some v)) r None)) (at_place keys slots) row (items v) l (ap (option_map items) (get_or-set_same names row (Some v) None inside))
      (λ r ne. ap (option_map items) (get_or-set_other names row r (Some v) None ne)) (λ p s. nothing row p s none)
      ∙ ap (λ n. map.insert n (128 + row) (empty_client (items v))) view ∙ ap (λ k. map.insert m k (empty_client (items v))) (sym at)

  -- a client was closed
  pub closed_is : (client row : ℕ) (keys' : List (Option ℕ)) (slots' : List (Option (NodeSeen P))) → client ≡ 128 + row → row < 64 → ((i : ℕ) → i < row * 32 → at_place keys' slots' i ≡ at_place keys slots i) → ((i : ℕ) → row * 32 + 32 ≤ i → at_place keys' slots' i ≡ at_place keys slots i) → shown items (set names row None) keys' slots' ≡ map.remove m client
  closed_is client row keys' slots' at l low high =
      let inside : row < length names = omega (arith, kept.rows) in
      close_kept (λ r. option_map items (get_or names r None)) (λ r. option_map items (get_or (set names row None) r None)) (at_place keys slots) (at_place keys' slots') row l (ap (option_map items) (get_or-set_same names row None None inside))
      (λ r ne. ap (option_map items) (get_or-set_other names row r None None ne)) low high
      ∙ ap (λ n. map.remove n (128 + row)) view ∙ ap (map.remove m) (sym at)

  module _ (client row : ℕ) (at : client ≡ 128 + row) (l : row < 64) (from : ℕ) where
    port_at : (n : ℕ) → n < 16 → get (ports_in (get m client)) n ≡ at_place keys slots (row * 32 + n)
    port_at n s = node_is (record { client = client; node = Port n }) row (row * 32 + n) (record { client = at; below = l; small = s; is = refl })

    filter_at : (n : ℕ) → n < 16 → get (filters_in (get m client)) n ≡ at_place keys slots (row * 32 + 16 + n)
    filter_at n s = node_is (record { client = client; node = Filter n }) row (row * 32 + 16 + n) (record { client = at; below = l; small = s; is = omega arith })

    no_port : (n : ℕ) → 16 ≤ n → get (ports_in (get m client)) n ≡ None
    no_port n h = ap (λ c. get (ports_in c) n) (get_is client row at l) ∙ by (option_map items (get_or names row None))
      where
        by : (o : Option (List ℕ)) → get (ports_in (option_map (client_kept (at_place keys slots) row) o)) n ≡ None
        by None = get-empty nat_cmp n
        by (Some nm) = get-above 0 16 n _ (omega arith)

    no_filter : (n : ℕ) → 16 ≤ n → get (filters_in (get m client)) n ≡ None
    no_filter n h = ap (λ c. get (filters_in c) n) (get_is client row at l) ∙ by (option_map items (get_or names row None))
      where
        by : (o : Option (List ℕ)) → get (filters_in (option_map (client_kept (at_place keys slots) row) o)) n ≡ None
        by None = get-empty nat_cmp n
        by (Some nm) = get-above 0 16 n _ (omega arith)

    -- the next port, where there was none before it
    pub next_port : (number key : ℕ) (x : NodeSeen P) → from ≤ number → number < 16 → get_or keys (row * 32 + number) None ≡ Some key → get_or slots key None ≡ Some x → ((n : ℕ) → from ≤ n → n < number → get_or keys (row * 32 + n) None ≡ None) → IsNext (ports_in (get m client)) from number x
    next_port number key x h s e is none =
        record {
          after = h;
          there = port_at number s ∙ ap (under slots) e ∙ is;
          least = λ n a b. port_at n (omega arith) ∙ ap (under slots) (none n a b);
        }

    pub no_more_ports : ((n : ℕ) → from ≤ n → n < 16 → get_or keys (row * 32 + n) None ≡ None) → NoneFrom (ports_in (get m client)) from
    no_more_ports none n a = elim (leb_tells 16 n) [
      | inl past ↦ no_port n past.1
      | inr below ↦ port_at n below.1 ∙ ap (under slots) (none n a below.1)
    ]

    -- the next filter, where there was none before it
    pub next_filter : (number key : ℕ) (x : NodeSeen P) → from ≤ number → number < 16 → get_or keys (row * 32 + 16 + number) None ≡ Some key → get_or slots key None ≡ Some x → ((n : ℕ) → from ≤ n → n < number → get_or keys (row * 32 + 16 + n) None ≡ None) → IsNext (filters_in (get m client)) from number x
    next_filter number key x h s e is none =
        record {
          after = h;
          there = filter_at number s ∙ ap (under slots) e ∙ is;
          least = λ n a b. filter_at n (omega arith) ∙ ap (under slots) (none n a b);
        }

    pub no_more_filters : ((n : ℕ) → from ≤ n → n < 16 → get_or keys (row * 32 + 16 + n) None ≡ None) → NoneFrom (filters_in (get m client)) from
    no_more_filters none n a = elim (leb_tells 16 n) [
      | inl past ↦ no_filter n past.1
      | inr below ↦ filter_at n below.1 ∙ ap (under slots) (none n a below.1)
    ]

-- a table in which nothing is yet
module _ {V P : Type 0} (items : V → List ℕ) (names : List (Option V)) (keys : List (Option ℕ)) (slots : List (Option (NodeSeen P))) (no_names : (i : ℕ) → get_or names i None ≡ None) (no_keys : (i : ℕ) → get_or keys i None ≡ None) where
  pub new-kept : length names ≡ 64 → IsTable keys → ((k : ℕ) → get_or slots k None ≡ None) → AreNodesKept names keys slots
  new-kept l s vacant =
      record {
        rows = l;
        places = s;
        full = λ i k e. absurd (no_some k (sym e ∙ no_keys i));
        no_leak = λ k s. absurd (not_both _ s (vacant k));
        apart = λ i j k e f. absurd (no_some k (sym e ∙ no_keys i));
        closed = λ row p h e. no_keys (row * 32 + p);
      }

  pub new-shown : shown items names keys slots ≡ map.empty
  new-shown = numbered_none 128 64 _ (λ row h. ap (λ o. option_map (client_kept (at_place keys slots) row) (option_map items o)) (no_names row))

-- a name for a number that is another's
pub next_as : {X : Type 0} (m : FinMap nat_cmp X) (from a b : ℕ) (x : X) (o : Option ℕ) → o ≡ Some b → IfSome o (λ n. n ≡ a) → IsNext m from a x → IsNext m from b x
next_as m from a b x o e same h = let at : b ≡ a = rw e at same in subst (λ n. IsNext m from n x) (sym at) h
