-- Law: Copies that find no room need only be counted, and messages of one class have one count.
use Rattle.std.specs.Prelude.{◌≡◌, ℕ, List, [], ◌++◌, take}
use Rattle.std.specs.Ordering.{nat_cmp}
use Rattle.std.specs.FinMap
use Rattle.std.specs.FinMap.{FinMap}
use Rattle.node_table.specs.declared.number.Addr.{Addr}
use Rattle.patch_graph.specs.declared.edge.Edge.{Edge}
use Rattle.seq_state.specs.declared.log.Delivery.{Delivery}
use Rattle.seq_state.specs.State.{Client, ClientPool}
use Rattle.seq_state.specs.Step.{pools_after, copies_with_room}
use Rattle.seq_clients.specs.Roster.{room_of}
use Rattle.seq_sending.specs.Carrying.{copies_onward}
use Rattle.seq_sending.specs.Rooms.{AreAt, for_client, copies_for, pool_after, with_losses}
use Rattle.seq_sending.specs.Counts.{ways_for}
use Rattle.seq_sending.specs.Classes.{way_class}

-- each client's pool is as if its copies of a moment alone were offered to it, the first that find
-- room kept and the others counted
abbrev pub EachPoolLaw : Type 0
EachPoolLaw =
    (pools : FinMap nat_cmp ClientPool) (moment : ℕ) (ds : List Delivery) (c : ℕ) →
    AreAt moment ds →
    FinMap.get (pools_after pools ds) c
    ≡ pool_after moment (FinMap.get pools c) (for_client c ds)

-- of each client's copies of a moment the first that find room are delivered
abbrev pub FirstLaw : Type 0
FirstLaw =
    (pools : FinMap nat_cmp ClientPool) (moment : ℕ) (ds : List Delivery) (c : ℕ) →
    AreAt moment ds →
    for_client c (copies_with_room pools ds)
    ≡ take (room_of moment (FinMap.get pools c)) (for_client c ds)

-- where the lost copies of each client were counted before, those that are delivered are all that
-- need be offered
abbrev pub LossesLaw : Type 0
LossesLaw =
    (pools counted : FinMap nat_cmp ClientPool) (moment : ℕ) (ds : List Delivery) →
    AreAt moment ds →
    ((c : ℕ) → FinMap.get counted c ≡ with_losses moment (copies_for c ds) (FinMap.get pools c)) →
    (pools_after counted (copies_with_room counted ds) ≡ pools_after pools ds)
    × (copies_with_room counted ds ≡ copies_with_room pools ds)

-- where nothing of some copies finds room, nothing does after more was offered at their moment
abbrev pub CutLaw : Type 0
CutLaw =
    (pools : FinMap nat_cmp ClientPool) (moment : ℕ) (ds more : List Delivery) →
    AreAt moment ds → AreAt moment more →
    copies_with_room pools ds ≡ [] → copies_with_room (pools_after pools more) ds ≡ []

-- what was delivered of some copies, offered alone, leaves the same room for others of their moment
-- as all of them
abbrev pub OnwardLaw : Type 0
OnwardLaw =
    (pools : FinMap nat_cmp ClientPool) (moment : ℕ) (ds more : List Delivery) →
    AreAt moment ds → AreAt moment more →
    let kept = pools_after pools (copies_with_room pools ds) in
    (pools_after pools (copies_with_room pools (ds ++ more))
    ≡ pools_after kept (copies_with_room kept more))
    × (copies_with_room pools (ds ++ more)
    ≡ copies_with_room pools ds ++ copies_with_room kept more)

-- the number of copies for a client, found by counting alone
abbrev pub CountLaw : Type 0
CountLaw =
    (clients : FinMap nat_cmp Client) (edges : List Edge) (moment c n : ℕ) (targets : List Addr)
    (message : List ℕ) →
    copies_for c (copies_onward clients edges moment n targets message)
    ≡ ways_for clients edges c n targets message

-- messages of one class go the same ways
abbrev pub ClassLaw : Type 0
ClassLaw =
    (clients : FinMap nat_cmp Client) (edges : List Edge) (c n : ℕ) (targets : List Addr)
    (message other : List ℕ) → way_class message ≡ way_class other →
    ways_for clients edges c n targets message ≡ ways_for clients edges c n targets other
