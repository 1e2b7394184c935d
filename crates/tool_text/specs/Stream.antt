-- Definition: A stream that comes in pieces and is printed as it comes.
use Rattle.std.specs.Prelude.{◌≡◌, ◌+◌, ◌≤◌, ℕ, List, [], ◌++◌, length}
use Rattle.std.specs.List.{flat_map}
use Rattle.byte_io.specs.Moved.{Gave, Took}
use Rattle.midi_wire.specs.Readings.{reading}
use Rattle.smf_grammar.specs.Chunks.{most_bytes}

-- a line for each message of a stream
abbrev pub message_lines : (List ℕ → List ℕ) → List ℕ → List ℕ
message_lines line bytes = flat_map line (reading bytes)

-- a printer was fed bytes, and with this piece they are no more than a stream may have
abbrev pub HasRoom : ℕ → (List ℕ → Type 0) → List ℕ → Type 0
HasRoom most WasFed piece = (read : List ℕ) × WasFed read × (length read + length piece ≤ most)

-- A source was read to its end, which came after no more bytes than that, and a sink took the text
-- for what the reads gave.
pub record IsRenderedUpTo {R W : Type 0} (most : ℕ) (HasLeft : R → List ℕ → Type 0)
    (HasTaken : W → List ℕ → Type 0)
    (text : List ℕ → List ℕ) (before after : R) (old new : W) : Type 0 where
  pub read : List ℕ
  pub gave : Gave HasLeft before read after
  pub ended : HasLeft after []
  pub bounded : length read ≤ most
  pub took : Took HasTaken old (text read) new

-- the same of a stream that has at most as many bytes as a file
abbrev pub IsRendered : {R W : Type 0} → (R → List ℕ → Type 0) → (W → List ℕ → Type 0)
    → (List ℕ → List ℕ) → R → R → W → W → Type 0
IsRendered HasLeft HasTaken text before after old new =
    IsRenderedUpTo most_bytes HasLeft HasTaken text before after old new

-- A stream was rendered so, and what prints it was fed just these bytes.
pub record IsPassed {R W : Type 0} (most : ℕ) (HasLeft : R → List ℕ → Type 0)
    (HasTaken : W → List ℕ → Type 0)
    (WasFed : List ℕ → Type 0) (text : List ℕ → List ℕ) (before after : R)
    (old new : W) : Type 0 where
  pub rendered : IsRenderedUpTo most HasLeft HasTaken text before after old new
  pub fed : WasFed rendered.read

-- Of a text that was to be written for what the reads gave, the first part was written: of the text
-- for all of it, or for what came before the last piece.
pub record IsRenderedInPart {R W : Type 0} (HasLeft : R → List ℕ → Type 0)
    (HasTaken : W → List ℕ → Type 0)
    (text : List ℕ → List ℕ) (before after : R) (old new : W) : Type 0 where
  pub read : List ℕ
  pub last : List ℕ
  pub gave : Gave HasLeft before (read ++ last) after
  pub written : List ℕ
  pub missing : List ℕ
  pub took : Took HasTaken old written new
  pub front : text read ≡ written ++ missing

-- All that the reads gave was rendered, though the end did not come.
pub record IsRenderedSoFar {R W : Type 0} (HasLeft : R → List ℕ → Type 0)
    (HasTaken : W → List ℕ → Type 0)
    (text : List ℕ → List ℕ) (before after : R) (old new : W) : Type 0 where
  pub read : List ℕ
  pub gave : Gave HasLeft before read after
  pub took : Took HasTaken old (text read) new

-- The reads gave one byte more than that.
pub record GaveMoreThan {R : Type 0} (most : ℕ) (HasLeft : R → List ℕ → Type 0)
    (before after : R) : Type 0 where
  pub given : List ℕ
  pub gave : Gave HasLeft before given after
  pub more : length given ≡ most + 1

-- the reads gave one byte more than a file may have
abbrev pub GaveTooMany : {R : Type 0} → (R → List ℕ → Type 0) → R → R → Type 0
GaveTooMany HasLeft before after = GaveMoreThan most_bytes HasLeft before after
