-- Definition: What waits in a bounded place: the oldest is taken first, and what finds no room is
-- counted. A pool may listen: then what comes is taken at once, of each moment as much as may wait.
use Rattle.std.specs.Prelude.{ℕ, zero, suc, ◌≤◌, ◌+◌, ◌-◌, ◌^◌, ◌==◌, Bool, ◌&&◌, nat_le, nat_lt, min, if◌then◌else◌, List, [], ◌∷◌, ◌++◌, length, take, drop, Option, Some, None, is_some, refl}
use Rattle.std.specs.Coded.{Coded, code_by, coded×, coded_list, coded_option, coded_ℕ}
use Rattle.cell_pools.specs.declared.listening.Listening.{Listening}

-- how many items may wait, those that wait, the oldest first, how many found no room, and where the
-- pool listens, what it has taken of the last moment
pub record Pool (A : Type 0) : Type 0 where
  pub size : ℕ
  pub waiting : List A
  pub lost : ℕ
  pub listening : Option Listening

abbrev pub coded_listening : Coded Listening
coded_listening = code_by (ℕ × ℕ) (coded× coded_ℕ coded_ℕ) (λ l. (l.moment, l.count))
    (λ c. record { moment = c.0; count = c.1 }) (λ _. refl)

abbrev pub coded_pool : {A : Type 0} → Coded A → Coded (Pool A)
coded_pool {A} item =
    code_by (ℕ × (List A × (ℕ × Option Listening)))
    (coded× coded_ℕ (coded× (coded_list item) (coded× coded_ℕ (coded_option coded_listening))))
    (λ p. (p.size, (p.waiting, (p.lost, p.listening))))
    (λ c. record { size = c.0; waiting = c.1.0; lost = c.1.1.0; listening = c.1.1.1 }) (λ _. refl)

-- at which the count of lost items stays
abbrev pub most_lost : ℕ
most_lost = 2 ^ 64 - 1

-- how many items a pool may hold at most
abbrev pub most_waiting : ℕ
most_waiting = 2000

-- the size of a pool
abbrev pub is_size : ℕ → Bool
is_size n = nat_le 1 n && nat_le n most_waiting

-- what holds of the size of a pool, and of how many items wait in it
pub record IsBounded (size waiting : ℕ) : Type 0 where
  pub least : 1 ≤ size
  pub most : size ≤ most_waiting
  pub within : waiting ≤ size

-- how much of a moment has come to a pool that listens
abbrev pub came_at : ℕ → Listening → ℕ
came_at moment l = if l.moment == moment then l.count else 0

-- of which one more has come at a moment
abbrev pub one_more : ℕ → Listening → Listening
one_more moment l = record { moment = moment; count = came_at moment l + 1 }

-- nothing has come yet
abbrev pub nothing_came : Listening
nothing_came = record { moment = 0; count = 0 }

-- how many places are taken at a moment: by what waits, or by what came at it where a pool listens
abbrev pub taken_up : ℕ → ℕ → Option Listening → ℕ
taken_up moment waiting None = waiting
taken_up moment waiting (Some l) = came_at moment l

module _ {A : Type 0} where
  abbrev pub empty_pool : ℕ → Pool A
  empty_pool size = record { size = size; waiting = []; lost = 0; listening = None }

  abbrev pub is_listening : Pool A → Bool
  is_listening p = is_some p.listening

  abbrev pub taken_at : ℕ → Pool A → ℕ
  taken_at moment p = taken_up moment (length p.waiting) p.listening

  abbrev pub has_room : ℕ → Pool A → Bool
  has_room moment p = nat_lt (taken_at moment p) p.size

  -- how many items more it has room for at a moment
  abbrev pub room_in : ℕ → Pool A → ℕ
  room_in moment p = p.size - taken_at moment p

  -- a pool at which so many items were lost
  abbrev pub after_losses : ℕ → Pool A → Pool A
  after_losses zero p = p
  after_losses (suc n) p = record p { lost = min (p.lost + suc n) most_lost }

  -- a pool at which all for which it has no room are lost, before any of so many is offered
  abbrev pub after_losses_of : ℕ → ℕ → Pool A → Pool A
  after_losses_of moment count p = after_losses (count - room_in moment p) p

  -- a pool with one item more: it waits, or is counted where the pool listens
  abbrev pub with_item : ℕ → A → Pool A → Option Listening → Pool A
  with_item moment x p None = record p { waiting = p.waiting ++ x ∷ [] }
  with_item moment x p (Some l) = record p { listening = Some (one_more moment l) }

  -- the pool after an item was offered at a moment: it is taken where there is room, and else it is
  -- lost
  abbrev pub after_offer : ℕ → Pool A → A → Pool A
  after_offer moment p x =
      if has_room moment p then with_item moment x p p.listening
      else record p { lost = min (p.lost + 1) most_lost }

  -- from now on it listens, or it does no longer; what waits still waits
  abbrev pub listening_on : Pool A → Pool A
  listening_on p = record p { listening = Some nothing_came }

  abbrev pub not_listening : Pool A → Pool A
  not_listening p = record p { listening = None }

  -- what a take of so many gives: the oldest, or all where there are fewer
  abbrev pub oldest_items : ℕ → Pool A → List A
  oldest_items max p = take max p.waiting

  -- what it leaves
  abbrev pub after_take : ℕ → Pool A → Pool A
  after_take max p = record p { waiting = drop max p.waiting }
