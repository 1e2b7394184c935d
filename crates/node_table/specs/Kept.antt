-- Representation: How a table keeps clients and nodes, and the map that this stands for. Each
-- client has a row of places, its ports before its filters.
use Rattle.std.specs.Prelude.{◌≡◌, ℕ, zero, suc, ◌+◌, ◌*◌, ◌<◌, List, length, Option, Some, None, IsSome, slice_index_or}
use Rattle.std.specs.Option.{option_map}
use Rattle.std.specs.Ordering.{nat_cmp}
use Rattle.std.specs.FinMap
use Rattle.std.specs.FinMap.{FinMap}
use Rattle.node_table.specs.Nodes.{NodeSeen, ClientNodes}
use Rattle.node_table.specs.Numbers.{first_client, most_ports, most_filters, most_clients, client_places, places}
use Rattle.node_table.specs.declared.number.Addr.{Addr}
use Rattle.node_table.specs.declared.number.Node.{Node}
use Rattle.node_table.specs.declared.number.Node.TheVariants.{Port, Filter}

module _ {X : Type 0} where
  abbrev pub put_some : FinMap nat_cmp X → ℕ → Option X → FinMap nat_cmp X
  put_some m k None = m
  put_some m k (Some x) = FinMap.insert m k x

  -- of the numbers from `base` on, the first n, each with what f has for it
  unfoldable pub numbered_map : ℕ → ℕ → (ℕ → Option X) → FinMap nat_cmp X
  numbered_map base zero f = FinMap.empty
  numbered_map base (suc n) f = put_some (numbered_map base n f) (base + n) (f n)

  -- what stands under a key that may be there
  abbrev pub under : List (Option X) → Option ℕ → Option X
  under slots None = None
  under slots (Some key) = slice_index_or slots key None

  -- what stands at a place
  abbrev pub at_place : List (Option ℕ) → List (Option X) → ℕ → Option X
  at_place keys slots place = under slots (slice_index_or keys place None)

-- where a node stands among those of its client
abbrev pub place_in : Node → ℕ
place_in (Port n) = n
place_in (Filter n) = most_ports + n

abbrev pub is_small : Node → Type 0
is_small (Port n) = n < most_ports
is_small (Filter n) = n < most_filters

-- the place of an address
pub record IsPlace (addr : Addr) (row place : ℕ) : Type 0 where
  pub client : addr.client ≡ first_client + row
  pub below : row < most_clients
  pub small : is_small addr.node
  pub is : place ≡ row * client_places + place_in addr.node

module _ {P : Type 0} where
  abbrev pub client_kept : (ℕ → Option (NodeSeen P)) → ℕ → List ℕ → ClientNodes P
  client_kept node row name = record {
    name = name;
    ports = numbered_map 0 most_ports (λ n. node (row * client_places + n));
    filters = numbered_map 0 most_filters (λ n. node (row * client_places + (most_ports + n)));
  }

  -- the clients, of a name for each row and a node for each place
  abbrev pub clients_kept : (ℕ → Option (List ℕ)) → (ℕ → Option (NodeSeen P))
      → FinMap nat_cmp (ClientNodes P)
  clients_kept name node =
      numbered_map first_client most_clients (λ row. option_map (client_kept node row) (name row))

-- empty, or with each place
abbrev pub IsTable : {X : Type 0} → List X → Type 0
IsTable xs = 0 < length xs → length xs ≡ places

-- the same at each place, where x stands for what is past a list
abbrev pub ReadsAs : {X : Type 0} → X → List X → List X → Type 0
ReadsAs x new old = (i : ℕ) → slice_index_or new i x ≡ slice_index_or old i x

-- some place has the key
abbrev pub IsSomewhere : List (Option ℕ) → ℕ → Type 0
IsSomewhere keys key = (i : ℕ) × (slice_index_or keys i None ≡ Some key)

-- No key stands at two places, and who is not open has none. Something stands under each key that
-- stands at a place, and nothing under any other.
pub record AreNodesKept {V X : Type 0} (names : List (Option V)) (keys : List (Option ℕ))
    (slots : List (Option X)) : Type 0 where
  pub rows : length names ≡ most_clients
  pub places : IsTable keys
  pub full : (i key : ℕ) → slice_index_or keys i None ≡ Some key
      → IsSome (slice_index_or slots key None)
  pub no_leak : (key : ℕ) → IsSome (slice_index_or slots key None) → IsSomewhere keys key
  pub apart : (i j key : ℕ) → slice_index_or keys i None ≡ Some key
      → slice_index_or keys j None ≡ Some key → i ≡ j
  pub closed : (row p : ℕ) → p < client_places → slice_index_or names row None ≡ None
      → slice_index_or keys (row * client_places + p) None ≡ None
