-- Representation: Filters that a search has found, each once, in the order in which they were
-- found, and their places.
use Rattle.std.specs.Prelude.{◌≡◌, ◌≤◌, ◌<◌, ℕ, ◌+◌, ◌-◌, ◌/◌, ◌%◌, nat_lt, Bool, true, false, cond, if◌then◌else◌, List, [], ◌∷◌, ◌++◌, map, length, take, slice_index, slice_index_or}
use Rattle.std.specs.List.{list_any, fold}
use Rattle.node_table.specs.Addresses.{same, is_filter}
use Rattle.node_table.specs.Kept.{IsPlace}
use Rattle.node_table.specs.Numbers.{first_client, most_ports, client_places, places}
use Rattle.node_table.specs.declared.number.Addr.{Addr}
use Rattle.node_table.specs.declared.number.Node.TheVariants.{Port, Filter}

abbrev pub with_found : List Addr → Addr → List Addr
with_found xs a = if list_any (same a) xs then xs else xs ++ a ∷ []

-- with those of the addresses that are filters
abbrev pub with_filters : List Addr → List Addr → List Addr
with_filters xs ts = fold (λ ys t. if is_filter t then with_found ys t else ys) xs ts

-- the address that has a place
abbrev pub addr_of : ℕ → Addr
addr_of place = record {
  client = first_client + place / client_places;
  node = if nat_lt (place % client_places) most_ports then Port (place % client_places)
      else Filter (place % client_places - most_ports);
}

-- how many are true
abbrev pub marks : List Bool → ℕ
marks [] = 0
marks (b ∷ bs) = cond b 1 0 + marks bs

-- The filters whose places are listed are marked, and no other filter is. Ports may be marked too.
pub record IsFound (marked : List Bool) (listed : List ℕ) (count : ℕ) : Type 0 where
  pub mark_places : length marked ≡ places
  pub list_places : length listed ≡ places
  pub small : (i : ℕ) → slice_index listed i < places
  pub counted : count ≤ marks marked
  pub by_place : (a : Addr) (row place : ℕ) → IsPlace a row place → is_filter a ≡ true
      → slice_index_or marked place false ≡ list_any (same a) (map addr_of (take count listed))
