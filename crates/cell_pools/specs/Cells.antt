-- Definition: What a store holds: the cells of all clients, and of each client its size and its
-- keys.
use Rattle.std.specs.Prelude.{◌≡◌, ◌≤◌, ℕ, Bool, false, ◌==◌, List, [], ◌∷◌, ◌++◌, take, Option, Some, None, IsSome, unwrap_or, slice_get, refl}
use Rattle.std.specs.Option.{option_map}
use Rattle.std.specs.Ordering.{nat_cmp}
use Rattle.std.specs.Coded.{Coded, code_by, coded×, coded_list, coded_ℕ}
use Rattle.std.specs.FinMap
use Rattle.std.specs.FinMap.{FinMap}

-- how many cells a client may have, and the keys of those that it has
pub record Holding : Type 0 where
  pub size : ℕ
  pub keys : List ℕ

-- what each client holds
abbrev pub Clients : Type 0
Clients = FinMap nat_cmp Holding

-- what is pending under each key, with its client
abbrev pub Cells : Type 0 → Type 0
Cells T = FinMap nat_cmp (ℕ × T)

pub record Store (T : Type 0) : Type 0 where
  pub cells : Cells T
  pub clients : Clients

abbrev pub coded_holding : Coded Holding
coded_holding =
    code_by (ℕ × List ℕ) (coded× coded_ℕ (coded_list coded_ℕ)) (λ h. (h.size, h.keys))
    (λ p. record { size = p.0; keys = p.1 }) (λ _. refl)

abbrev pub coded_clients : Coded Clients
coded_clients = FinMap.code coded_ℕ coded_holding

abbrev pub coded_cells : {T : Type 0} → Coded T → Coded (Cells T)
coded_cells value = FinMap.code coded_ℕ (coded× coded_ℕ value)

abbrev pub coded_store : {T : Type 0} → Coded T → Coded (Store T)
coded_store {T} value =
    code_by (Cells T × Clients) (coded× (coded_cells value) coded_clients)
    (λ s. (s.cells, s.clients)) (λ p. record { cells = p.0; clients = p.1 }) (λ _. refl)

-- ---- lists of keys

-- the key stands at this place of the list
abbrev pub StandsAt : List ℕ → ℕ → ℕ → Type 0
StandsAt keys i key = slice_get keys i ≡ Some key

-- the lists have the same keys before this place
abbrev pub SameBefore : ℕ → List ℕ → List ℕ → Type 0
SameBefore i old new = take i new ≡ take i old

-- A list has the keys of a map, each once.
pub record AreKeys {X : Type 0} (m : FinMap nat_cmp X) (keys : List ℕ) : Type 0 where
  pub there : (i key : ℕ) → StandsAt keys i key → IsSome (FinMap.get m key)
  pub all : (key : ℕ) → IsSome (FinMap.get m key) → (i : ℕ) × StandsAt keys i key
  pub once : (i j key : ℕ) → StandsAt keys i key → StandsAt keys j key → i ≡ j

-- ---- what a client holds

-- a client whose size is not set
abbrev pub no_cells : Holding
no_cells = record { size = 0; keys = [] }

abbrev pub holding_of : Clients → ℕ → Holding
holding_of clients client = unwrap_or (FinMap.get clients client) no_cells

abbrev pub keys_in : Clients → ℕ → List ℕ
keys_in clients client = (holding_of clients client).keys

-- the clients with another size of one of them
abbrev pub with_its_size : Clients → ℕ → ℕ → Clients
with_its_size clients client size =
    FinMap.insert clients client (record { size = size; keys = keys_in clients client })

-- the clients with another list of keys of one of them
abbrev pub with_its_keys : Clients → ℕ → List ℕ → Clients
with_its_keys clients client keys =
    FinMap.insert clients client (record { size = (holding_of clients client).size; keys = keys })

module _ {T : Type 0} where
  abbrev pub size_of : Store T → ℕ → ℕ
  size_of s client = (holding_of s.clients client).size

  -- the keys of a client's cells
  abbrev pub keys_of : Store T → ℕ → List ℕ
  keys_of s client = keys_in s.clients client

  -- ---- what is under a key

  abbrev pub value_at : Store T → ℕ → Option T
  value_at s key = option_map (λ c. c.1) (FinMap.get s.cells key)

  abbrev pub client_at : Store T → ℕ → Option ℕ
  client_at s key = option_map (λ c. c.0) (FinMap.get s.cells key)

  -- ---- whose a cell is

  -- what may be under a key is a cell of the client
  abbrev pub is_of : ℕ → Option (ℕ × T) → Bool
  is_of client None = false
  is_of client (Some c) = c.0 == client

  -- the cells of a client
  abbrev pub cells_of : Cells T → ℕ → Cells T
  cells_of cells client = FinMap.retain_keys cells (λ key. is_of client (FinMap.get cells key))

  -- how many cells a client has
  abbrev pub used_by : Cells T → ℕ → ℕ
  used_by cells client = FinMap.len (cells_of cells client)

  -- a client may have no cell more
  abbrev pub IsFull : Store T → ℕ → Type 0
  IsFull s client = size_of s client ≤ used_by s.cells client

  -- ---- changes

  abbrev pub with_size : Store T → ℕ → ℕ → Store T
  with_size s client size = record s { clients = with_its_size s.clients client size }

  -- the store with a cell more, the last of its client's
  abbrev pub with_cell : Store T → ℕ → ℕ → T → Store T
  with_cell s client key x =
      record {
        cells = FinMap.insert s.cells key (client, x);
        clients = with_its_keys s.clients client (keys_of s client ++ key ∷ []);
      }

  abbrev pub put_value : Cells T → ℕ → T → Option (ℕ × T) → Cells T
  put_value cells key x None = cells
  put_value cells key x (Some c) = FinMap.insert cells key (c.0, x)

  -- the store with another value under a key, where something is there
  abbrev pub with_value : Store T → ℕ → T → Store T
  with_value s key x = record s { cells = put_value s.cells key x (FinMap.get s.cells key) }

  -- whether the cell under a key is a client's
  abbrev pub owns : Store T → ℕ → ℕ → Bool
  owns s client key = is_of client (FinMap.get s.cells key)

  -- The store without a key. Each list of keys is as it was, its client's up to the key.
  pub record IsTaken (old new : Store T) (key : ℕ) : Type 0 where
    pub cells : new.cells ≡ FinMap.remove old.cells key
    pub sizes : (client : ℕ) → size_of new client ≡ size_of old client
    pub before : (client i : ℕ) → StandsAt (keys_of old client) i key →
        SameBefore i (keys_of old client) (keys_of new client)
    pub others : (client : ℕ) → owns old client key ≡ false →
        keys_of new client ≡ keys_of old client
