-- Representation: How a store keeps its cells, and what this stands for.
use Rattle.std.specs.Prelude.{◌≡◌, ℕ, ◌+◌, ◌<◌, ◌≤◌, List, length, Option, Some, None, slice_index_or}
use Rattle.std.specs.Option.{option_map}
use Rattle.node_table.specs.Numbers.{first_client, most_clients}
use Rattle.node_table.specs.Kept.{numbered_map}
use Rattle.cell_pools.specs.Cells.{Clients, Cells, keys_in, StandsAt}
use Rattle.cell_pools.specs.declared.store.Cell.{Cell}

-- the number of a client
abbrev pub IsClient : ℕ → Type 0
IsClient n = (first_client ≤ n) × (n < first_client + most_clients)

module _ {T : Type 0} where
  -- what a cell shows: its client and its value
  abbrev pub cell_content : Cell T → ℕ × T
  cell_content c = (c.client, c.value)

  abbrev pub slot : List (Option (Cell T)) → ℕ → Option (Cell T)
  slot slots key = slice_index_or slots key None

  -- the cells under their keys
  abbrev pub cells_kept : List (Option (Cell T)) → Cells T
  cells_kept slots = numbered_map 0 (length slots) (λ key. option_map cell_content (slot slots key))

  -- under the key is a cell of this client and place
  abbrev pub HasCell : List (Option (Cell T)) → ℕ → ℕ → ℕ → Type 0
  HasCell slots key client i =
      (x : T) × (slot slots key ≡ Some (record { client = client; index = i; value = x }))

  -- A key stands in the list of a client exactly where its cell says so.
  pub record AreCellsKept (clients : Clients) (slots : List (Option (Cell T))) : Type 0 where
    pub listed : (client i key : ℕ) → StandsAt (keys_in clients client) i key →
        HasCell slots key client i
    pub placed : (key : ℕ) (c : Cell T) → slot slots key ≡ Some c →
        StandsAt (keys_in clients c.client) c.index key
    pub known : (key : ℕ) (c : Cell T) → slot slots key ≡ Some c → IsClient c.client
