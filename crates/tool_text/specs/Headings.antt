-- Representation: What a heading keeps, to be copied.
use Rattle.std.specs.Prelude.{◌≡◌, ◌≤◌, ◌+◌, ℕ, List, length, take}
use Rattle.tool_text.specs.declared.heading.TheConstants.{BLOCK, ROOM}

-- a text stands in the first so many bytes, and behind it there is room for the rest of a line
pub record IsRoomy (len : ℕ) (text bytes : List ℕ) : Type 0 where
  pub front : take len bytes ≡ text
  pub room : len + ROOM ≤ length bytes

-- the same of bytes that are copied at once
pub record IsBlock (len : ℕ) (text bytes : List ℕ) : Type 0 where
  pub whole : length bytes ≡ BLOCK
  pub roomy : IsRoomy len text bytes
