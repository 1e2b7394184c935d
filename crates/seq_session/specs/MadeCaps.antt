-- Representation: A table of the capabilities with which nodes were made.
use Rattle.std.specs.Prelude.{◌≡◌, ℕ, List, Option, None, slice_index_or}
use Rattle.node_table.specs.Kept.{IsPlace}
use Rattle.node_table.specs.declared.caps.Caps.{Caps}
use Rattle.node_table.specs.declared.number.Addr.{Addr}

-- those of each node stand at its place
abbrev pub AreAtPlaces : (Addr → Option Caps) → List (Option Caps) → Type 0
AreAtPlaces made table =
    (node : Addr) (row place : ℕ) → IsPlace node row place →
    slice_index_or table place None ≡ made node
