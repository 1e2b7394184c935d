-- Copies that find room in the input pool of the second client, which does not listen.
use Rattle.std.proofs.Common.{◌≡◌, ℕ, ◌+◌, ◌≤◌, ◌<◌, true, List, [], ◌∷◌, ◌++◌, map, length, min, None, Some, refl, sym, ap, ◌∙◌, arith, append-nil, append_assoc, length-append}
use Rattle.std.specs.Prelude.{nat_lt, if◌then◌else◌}
use Rattle.std.specs.Ordering.{nat_cmp}
use Rattle.std.specs.FinMap
use Rattle.std.specs.FinMap.{FinMap}
use Rattle.std.proofs.lemmas.Bool.{lt-ltb}
use Rattle.cell_pools.specs.Pools as pools
use Rattle.seq_state.specs.declared.log.Arrival.{Arrival}
use Rattle.seq_state.specs.declared.log.Delivery.{Delivery}
use Rattle.seq_state.specs.State.{ClientPool, with_entry}
use Rattle.seq_state.specs.Step.{arrival, pool_has_room, offer, pools_after, copies_with_room}
use Rattle.seq_state.proofs.Effects.{get-put}

-- a message as it comes to the port of the second client
abbrev pub came : List ℕ → Delivery
came message = record { moment = 0; target = record { client = 129; port = 0 }; message = message }

-- and as it waits there
abbrev pub waits : List ℕ → Arrival
waits message = arrival (came message)

-- these wait too
abbrev pub with_more : ClientPool → List Arrival → ClientPool
with_more p as_well = record p { waiting = p.waiting ++ as_well }

module _ (m : FinMap nat_cmp ClientPool) (p : ClientPool) (message : List ℕ) (here : FinMap.get m 129 ≡ Some p) (quiet : p.listening ≡ None) (room : length p.waiting < p.size) where
  one-offered : offer (FinMap.get m 129) (came message) ≡ Some (with_more p (waits message ∷ []))
  one-offered =
      let lost : ClientPool = record p { lost = min (p.lost + 1) pools.most_lost } in
      ap (λ o. offer o (came message)) here
      ∙ ap (λ o. Some (if nat_lt (pools.taken_up 0 (length p.waiting) o) p.size then pools.with_item 0 (waits message) p o else lost)) quiet
      ∙ ap (λ b. Some (if b then with_more p (waits message ∷ []) else lost)) (lt-ltb (length p.waiting) p.size room)

  one-found : pool_has_room 0 (FinMap.get m 129) ≡ true
  one-found = ap (pool_has_room 0) here ∙ ap (λ o. nat_lt (pools.taken_up 0 (length p.waiting) o) p.size) quiet ∙ lt-ltb (length p.waiting) p.size room

  abbrev after_one : FinMap nat_cmp ClientPool
  after_one = with_entry m 129 (offer (FinMap.get m 129) (came message))

  after-here : FinMap.get after_one 129 ≡ Some (with_more p (waits message ∷ []))
  after-here = get-put m 129 (offer (FinMap.get m 129) (came message)) 129 ∙ one-offered

  room-left : (n : ℕ) → length p.waiting + (1 + n) ≤ p.size → length (p.waiting ++ waits message ∷ []) + n ≤ p.size
  room-left n h = omega (arith, length-append p.waiting (waits message ∷ []))

has-room : (waiting size n : ℕ) → waiting + (1 + n) ≤ size → waiting < size
has-room waiting size n h = omega arith

-- where there is room for all, all are delivered
pub all-delivered : (ms : List (List ℕ)) (m : FinMap nat_cmp ClientPool) (p : ClientPool) → FinMap.get m 129 ≡ Some p → p.listening ≡ None → length p.waiting + length ms ≤ p.size → copies_with_room m (map came ms) ≡ map came ms
all-delivered [] m p here quiet fits = refl
all-delivered (c ∷ ms) m p here quiet fits =
    let fits_more : length p.waiting + (1 + length ms) ≤ p.size = omega (arith, fits) in
    let room : length p.waiting < p.size = has-room (length p.waiting) p.size (length ms) fits_more in
    let ds : List Delivery = copies_with_room (after_one m p c here quiet room) (map came ms) in
    ap (λ b. if b then came c ∷ ds else ds) (one-found m p c here quiet room)
    ∙ ap (λ es. came c ∷ es) (all-delivered ms (after_one m p c here quiet room) (with_more p (waits c ∷ [])) (after-here m p c here quiet room) quiet (room-left m p c here quiet room (length ms) fits_more))

-- and wait
pub all-wait : (ms : List (List ℕ)) (m : FinMap nat_cmp ClientPool) (p : ClientPool) → FinMap.get m 129 ≡ Some p → p.listening ≡ None → length p.waiting + length ms ≤ p.size → FinMap.get (pools_after m (map came ms)) 129 ≡ Some (with_more p (map waits ms))
all-wait [] m p here quiet fits = here ∙ ap (λ as_well. let q : ClientPool = record p { waiting = as_well } in Some q) (sym (append-nil p.waiting))
all-wait (c ∷ ms) m p here quiet fits =
    let fits_more : length p.waiting + (1 + length ms) ≤ p.size = omega (arith, fits) in
    let room : length p.waiting < p.size = has-room (length p.waiting) p.size (length ms) fits_more in
    all-wait ms (after_one m p c here quiet room) (with_more p (waits c ∷ [])) (after-here m p c here quiet room) quiet (room-left m p c here quiet room (length ms) fits_more)
    ∙ ap (λ as_well. let q : ClientPool = record p { waiting = as_well } in Some q) (append_assoc p.waiting (waits c ∷ []) (map waits ms))
