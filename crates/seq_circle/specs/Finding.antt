-- Representation: How the members of a circle are found, pass by pass, and kept in a table.
use Rattle.std.specs.Prelude.{◌≡◌, ℕ, zero, suc, ◌+◌, ◌<◌, Bool, false, not, if◌then◌else◌, List, [], ◌∷◌, ◌++◌, length, Option, Some, None, slice_index_or}
use Rattle.std.specs.List.{filter}
use Rattle.node_table.specs.Numbers.{first_client, most_clients}
use Rattle.seq_state.specs.declared.input.Input.{Input}
use Rattle.seq_circle.specs.declared.members.Joined.{Joined}
use Rattle.seq_circle.specs.Shut.{asked_client}
use Rattle.seq_circle.specs.Least.{is_member}

-- a client that is not there
abbrev pub unless_member : (ℕ → Bool) → Option ℕ → Option ℕ
unless_member member None = None
unless_member member (Some client) = if member client then None else Some client

-- the client that an input asks for, where a member says it and that client is not there
abbrev pub missing_client : ℕ → List Joined → Input → Option ℕ
missing_client owner joined i =
    let member = is_member owner joined in
    if member i.actor then unless_member member (asked_client owner member i.command) else None

abbrev pub with_joined : List Joined → ℕ → Option ℕ → List Joined
with_joined joined place None = joined
with_joined joined place (Some client) = joined ++ record { client = client; place = place } ∷ []

-- who is there after the input at a place
abbrev pub found_after : ℕ → List Joined → ℕ → Input → List Joined
found_after owner joined place i = with_joined joined place (missing_client owner joined i)

-- who is there after the inputs, the first of which has this place
abbrev pub found_after_all : ℕ → List Joined → ℕ → List Input → List Joined
found_after_all owner joined place [] = joined
found_after_all owner joined place (i ∷ inputs) =
    found_after_all owner (found_after owner joined place i) (place + 1) inputs

unfoldable pub clients_from : ℕ → ℕ → List ℕ
clients_from base zero = []
clients_from base (suc n) = base ∷ clients_from (base + 1) n

-- how many clients are not there
unfoldable pub absent_count : ℕ → List Joined → ℕ
absent_count owner joined =
    length (filter (λ c. not (is_member owner joined c)) (clients_from first_client most_clients))

-- a table has the members by the rows of their clients
abbrev pub AreSeats : ℕ → List Joined → List Bool → Type 0
AreSeats owner joined seats =
    (row : ℕ) → row < most_clients
    → slice_index_or seats row false ≡ is_member owner joined (first_client + row)
