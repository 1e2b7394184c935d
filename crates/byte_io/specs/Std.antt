-- Definition: The devices over the standard library, as contracts see them.
use Rattle.std.specs.Prelude.{◌≡◌, ℕ, Bool, List, Option, Some, None}
use Rattle.std.specs.Io.KnownBytes.{Keeps}

-- a source: the reader that it was given, and the mark
pub record StdInput (R : Type 0) : Type 0 where
  pub reader : R
  pub broken : Bool

-- a sink: the writer that it was given, and the mark
pub record StdOutput (W : Type 0) : Type 0 where
  pub writer : W
  pub broken : Bool

-- the bytes that a reader has left, or that a writer holds, where they are known
abbrev pub Known : Type 0 → Type 0
Known D = D → Option (List ℕ)

-- these bytes, where any are known
abbrev pub MayBe : Option (List ℕ) → List ℕ → Type 0
MayBe None bytes = Unit {0}
MayBe (Some known) bytes = known ≡ bytes

-- bytes are known, and are these
abbrev pub IsKnownAs : Option (List ℕ) → List ℕ → Type 0
IsKnownAs None bytes = ⊥
IsKnownAs (Some known) bytes = known ≡ bytes

-- its reader has these bytes left, where it is known what that has
abbrev pub HasUnread : {R : Type 0} → Known R → StdInput R → List ℕ → Type 0
HasUnread known s rest = MayBe (known s.reader) rest

-- its writer holds these bytes, as is known of it
abbrev pub HasWritten : {W : Type 0} → Known W → StdOutput W → List ℕ → Type 0
HasWritten known s bytes = IsKnownAs (known s.writer) bytes

-- its writer holds the bytes that it held
abbrev pub KeepsBytes : {W : Type 0} → Known W → StdOutput W → StdOutput W → Type 0
KeepsBytes known old new = Keeps (known old.writer) (known new.writer)
