-- Definition: Who is open, and what waits for each client: what the calls of `Clients` change.
use Rattle.std.specs.Prelude.{◌≡◌, ℕ, Bool, true, false, [], length, Option, Some, None, refl}
use Rattle.std.specs.Ordering.{nat_cmp}
use Rattle.std.specs.Coded.{Coded, code_by, coded×, coded_ℕ}
use Rattle.std.specs.FinMap
use Rattle.std.specs.FinMap.{FinMap}
use Rattle.cell_pools.specs.Pools.{coded_pool, is_listening, room_in}
use Rattle.seq_state.specs.State.{Client, ClientPool, PortInfo, Queue, with_entry}
use Rattle.seq_state.specs.Codes.{coded_client, coded_arrival}

-- the open clients, and their input pools
pub record Roster : Type 0 where
  pub clients : FinMap nat_cmp Client
  pub pools : FinMap nat_cmp ClientPool

-- nobody is open
abbrev pub nobody : Roster
nobody = record { clients = FinMap.empty; pools = FinMap.empty }

-- with this under the client's number, or with no such client
abbrev pub with_client : Roster → ℕ → Option Client → Roster
with_client r n c = record r { clients = with_entry r.clients n c }

-- the same of its input pool
abbrev pub with_pool : Roster → ℕ → Option ClientPool → Roster
with_pool r n p = record r { pools = with_entry r.pools n p }

-- a port whose stream begins anew
abbrev pub port_begun : Option PortInfo → Option PortInfo
port_begun None = None
port_begun (Some p) = Some (record p { fed = [] })

abbrev pub coded_roster : Coded Roster
coded_roster =
    code_by (FinMap nat_cmp Client × FinMap nat_cmp ClientPool)
    (coded× (FinMap.code coded_ℕ coded_client) (FinMap.code coded_ℕ (coded_pool coded_arrival)))
    (λ r. (r.clients, r.pools)) (λ p. record { clients = p.0; pools = p.1 }) (λ _. refl)

-- ---- what is told of a client that may be open, 0 where it is not

abbrev pub input_size : Option Client → ℕ
input_size None = 0
input_size (Some c) = c.in_size

-- how many messages wait in its input pool
abbrev pub waiting : Option ClientPool → ℕ
waiting None = 0
waiting (Some p) = length p.waiting

-- how many messages of a moment it has room for beside them
abbrev pub room_of : ℕ → Option ClientPool → ℕ
room_of moment None = 0
room_of moment (Some p) = room_in moment p

-- how many found no room there
abbrev pub lost_count : Option ClientPool → ℕ
lost_count None = 0
lost_count (Some p) = p.lost

-- whether it listens
abbrev pub listens : Option ClientPool → Bool
listens None = false
listens (Some p) = is_listening p

-- ---- queues that others may use

-- none of these is shared
abbrev pub NoneShared : FinMap nat_cmp Queue → Type 0
NoneShared queues = (n : ℕ) (q : Queue) → FinMap.get queues n ≡ Some q → q.shared ≡ false

-- one of these is shared
abbrev pub SomeShared : FinMap nat_cmp Queue → Type 0
SomeShared queues = (n : ℕ) × (q : Queue) × (FinMap.get queues n ≡ Some q) × (q.shared ≡ true)
