-- Definition: Which copies of one moment find room, and how many are lost, client by client.
use Rattle.std.specs.Prelude.{◌≡◌, ℕ, zero, suc, ◌+◌, ◌-◌, ◌==◌, true, List, ◌++◌, map, length, take, Option, Some, None}
use Rattle.std.specs.Option.{option_map}
use Rattle.std.specs.List.{filter, list_all}
use Rattle.cell_pools.specs.Pools.{came_at, room_in, after_losses, after_losses_of}
use Rattle.cell_pools.specs.declared.listening.Listening.{Listening}
use Rattle.seq_state.specs.declared.log.Arrival.{Arrival}
use Rattle.seq_state.specs.declared.log.Delivery.{Delivery}
use Rattle.seq_state.specs.State.{ClientPool}
use Rattle.seq_state.specs.Step.{arrival}

-- all of them come at a moment
abbrev pub AreAt : ℕ → List Delivery → Type 0
AreAt moment ds = list_all (λ d. d.moment == moment) ds ≡ true

-- the copies for a client
abbrev pub for_client : ℕ → List Delivery → List Delivery
for_client c ds = filter (λ d. d.target.client == c) ds

-- and how many they are
abbrev pub copies_for : ℕ → List Delivery → ℕ
copies_for c ds = length (for_client c ds)

-- of what has come to a pool that listens, when so many more came at a moment
abbrev pub so_many_more : ℕ → ℕ → Listening → Listening
so_many_more moment zero l = l
so_many_more moment (suc n) l = record { moment = moment; count = came_at moment l + suc n }

-- a pool with these more: they wait, or are counted where it listens
abbrev pub with_arrivals : ℕ → List Arrival → ClientPool → Option Listening → ClientPool
with_arrivals moment xs p None = record p { waiting = p.waiting ++ xs }
with_arrivals moment xs p (Some l) =
    record p { listening = Some (so_many_more moment (length xs) l) }

-- a pool after copies were offered to it at a moment: the first for which it has room are taken,
-- the others are lost
abbrev pub after_all : ℕ → ClientPool → ℕ → List Delivery → ClientPool
after_all moment p room ds =
    after_losses (length ds - room)
    (with_arrivals moment (map arrival (take room ds)) p p.listening)

-- the same of a client's input pool that may be there
abbrev pub pool_after : ℕ → Option ClientPool → List Delivery → Option ClientPool
pool_after moment None ds = None
pool_after moment (Some p) ds = Some (after_all moment p (room_in moment p) ds)

-- a client's input pool at which those of so many copies of a moment are lost for which it has no
-- room
abbrev pub with_losses : ℕ → ℕ → Option ClientPool → Option ClientPool
with_losses moment copies pool = option_map (after_losses_of moment copies) pool
