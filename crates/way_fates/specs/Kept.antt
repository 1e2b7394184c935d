-- Representation: The room that is left for each client, and the fates of a message by it.
use Rattle.std.specs.Prelude.{◌≡◌, ℕ, ◌-◌, nat_lt, if◌then◌else◌, List, [], ◌∷◌, is_some, slice_index, slice_set, unwrap_or}
use Rattle.std.specs.Ordering.{nat_cmp}
use Rattle.std.specs.FinMap
use Rattle.std.specs.FinMap.{FinMap}
use Rattle.node_table.specs.declared.number.Addr.{Addr}
use Rattle.seq_state.specs.State.{Client, ClientPool}
use Rattle.seq_clients.specs.Roster.{input_size, room_of}
use Rattle.way_fates.specs.Fates.{stopped_at}
use Rattle.way_fates.specs.declared.fate.Fate.{Fate}
use Rattle.way_fates.specs.declared.fate.Fate.TheVariants.{Arrives, Lost}
use Rattle.way_fates.specs.declared.fate.WayFate.{WayFate}

-- ---- the room for each client, by its number

-- the room of each at a moment
abbrev pub AreRooms : ℕ → FinMap nat_cmp ClientPool → List ℕ → Type 0
AreRooms moment pools rooms =
    (c : ℕ) → slice_index rooms c ≡ room_of moment (FinMap.get pools c)

-- with room for one message less at a client
abbrev pub one_less : List ℕ → ℕ → List ℕ
one_less rooms client = slice_set rooms client (slice_index rooms client - 1)

-- ---- the fates of a message by these rooms

-- the client at the end of a way
abbrev pub end_client : List Addr → ℕ
end_client [] = 0
end_client (node ∷ []) = node.client
end_client (node ∷ next ∷ nodes) = end_client (next ∷ nodes)

module _ (clients : FinMap nat_cmp Client) (message : List ℕ) where
  -- of one that comes to a client
  abbrev pub fate_with : List ℕ → ℕ → Fate
  fate_with rooms client = if nat_lt 0 (slice_index rooms client)
      then Arrives else Lost (input_size (FinMap.get clients client))

  abbrev pub fate_by : List ℕ → List Addr → Fate
  fate_by rooms route =
      unwrap_or (stopped_at clients route message) (fate_with rooms (end_client route))

  abbrev pub rooms_past : List ℕ → List Addr → List ℕ
  rooms_past rooms route = if is_some (stopped_at clients route message)
      then rooms else one_less rooms (end_client route)

  abbrev pub fates_by : List ℕ → List (List Addr) → List WayFate
  fates_by rooms [] = []
  fates_by rooms (route ∷ routes) =
      record { route = route; fate = fate_by rooms route }
      ∷ fates_by (rooms_past rooms route) routes
