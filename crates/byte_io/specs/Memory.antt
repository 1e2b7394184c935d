-- Definition: The devices over memory, as contracts see them.
use Rattle.std.specs.Prelude.{◌≡◌, ◌+◌, ◌-◌, ◌^◌, ◌⊎◌, ℕ, Bool, List, Option, Some, None, true, min, nat_lt}

-- a source: the bytes that are left, the reads so far, the read that is to fail, and the mark
pub record MemInput : Type 0 where
  pub left : List ℕ
  pub reads : ℕ
  pub fail_at : Option ℕ
  pub broken : Bool

-- a sink: the bytes taken, how many need no growth, the most that a write takes, the writes so far,
-- the write that is to fail, and the mark
pub record MemOutput : Type 0 where
  pub taken : List ℕ
  pub room : ℕ
  pub piece : Option ℕ
  pub writes : ℕ
  pub fail_at : Option ℕ
  pub broken : Bool

-- the next call's number; the count stops at the greatest u64
abbrev pub one_more : ℕ → ℕ
one_more calls = min (calls + 1) (2 ^ 64 - 1)

-- the source has failed, or its next read is the one that is to fail
abbrev pub ReadFails : MemInput → Type 0
ReadFails s = (s.broken ≡ true) ⊎ (s.fail_at ≡ Some s.reads)

-- the sink has failed, or its next write is the one that is to fail
abbrev pub WriteFails : MemOutput → Type 0
WriteFails s = (s.broken ≡ true) ⊎ (s.fail_at ≡ Some s.writes)

-- how many of the given bytes one write takes, where a piece may bound it
abbrev pub takes_at_once : Option ℕ → ℕ → ℕ
takes_at_once None given = given
takes_at_once (Some piece) given = min piece given

-- a piece of no bytes takes none
abbrev pub may_take : Option ℕ → Bool
may_take None = true
may_take (Some piece) = nat_lt 0 piece
