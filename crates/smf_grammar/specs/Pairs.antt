-- Definition: The pairs of a track: a delta time and an event (Standard MIDI Files 1.0, "Track
-- Chunks").
--
-- Each definition reads one item at the front of what is left of a content, by the tests of the
-- format in their order, and gives the item with what is left after it, or the first test that
-- fails.
use Rattle.std.specs.Prelude.{ℕ, Bool, false, List, [], ◌∷◌, length, take, drop, Option, Some, None, Result, Ok, Err, nat_lt, nat_le, ◌==◌, if◌then◌else◌}
use Rattle.midi_wire.specs.declared.status.Width.{Width}
use Rattle.midi_wire.specs.declared.status.Width.TheVariants.{One, Two}
use Rattle.midi_wire.specs.declared.status.StatusClass.{StatusClass}
use Rattle.midi_wire.specs.Messages.{begins, is_status}
use Rattle.midi_wire.specs.declared.status.StatusClass.TheVariants as wire
use Rattle.smf_grammar.specs.Outcomes.{◌>>=◌, fault_unless}
use Rattle.smf_grammar.specs.Quantities.{quantity}
use Rattle.smf_grammar.specs.declared.fault.QuantityFault.{QuantityFault}
use Rattle.smf_grammar.specs.declared.fault.QuantityFault.TheVariants.{Short, Long}
use Rattle.smf_grammar.specs.declared.fault.PairFault.{PairFault}
use Rattle.smf_grammar.specs.declared.fault.PairFault.TheVariants.{NoPair, Truncated, LongQuantity, NoStatus, BadStatus, BadData}

-- an event of a track
pub data TrackEvent : Type 0 where
  -- a message of a channel: its status, which the bytes may leave out, and its data
  Voice : ℕ → List ℕ → TrackEvent
  -- F0 and so many bytes
  Exclusive : List ℕ → TrackEvent
  -- F7 and so many bytes
  Escape : List ℕ → TrackEvent
  -- FF, a type, and so many bytes
  Meta : ℕ → List ℕ → TrackEvent

-- a delta time and an event
pub record Pair : Type 0 where
  pub delta : ℕ
  pub event : TrackEvent

-- FF 2F, whatever its bytes
abbrev pub is_end : TrackEvent → Bool
is_end (Voice status payload) = false
is_end (Exclusive bytes) = false
is_end (Escape bytes) = false
is_end (Meta kind bytes) = kind == 47

-- the running status after an event: that of a message of a channel; all other events leave none
abbrev pub running_after : TrackEvent → Option ℕ
running_after (Voice status payload) = Some status
running_after (Exclusive bytes) = None
running_after (Escape bytes) = None
running_after (Meta kind bytes) = None

-- a quantity that ends before its last byte is cut
abbrev pub cut_or_long : QuantityFault → PairFault
cut_or_long Short = Truncated
cut_or_long Long = LongQuantity

-- a quantity by what stands first
abbrev pub quantity_by : Result (ℕ × ℕ) QuantityFault → List ℕ → Result (ℕ × List ℕ) PairFault
quantity_by (Ok found) left = Ok (found.0, drop found.1 left)
quantity_by (Err fault) left = Err (cut_or_long fault)

-- a quantity, and what is left
abbrev pub quantity_at : List ℕ → Result (ℕ × List ℕ) PairFault
quantity_at left = quantity_by (quantity left) left

-- a data byte: first it must be there, then have bit 7 clear
abbrev pub data_byte_at : List ℕ → Result (ℕ × List ℕ) PairFault
data_byte_at [] = Err Truncated
data_byte_at (b ∷ left) = if is_status b then Err BadData else Ok (b, left)

-- the data bytes of a message, one after another
unfoldable pub group_at : Width → List ℕ → Result (List ℕ × List ℕ) PairFault
group_at One left = do
  first ← data_byte_at left
  Ok (first.0 ∷ [], first.1)
group_at Two left = do
  first ← data_byte_at left
  second ← data_byte_at first.1
  Ok (first.0 ∷ second.0 ∷ [], second.1)

-- a message of a channel, by what its status begins
abbrev pub voice_by : StatusClass → ℕ → List ℕ → Result (TrackEvent × List ℕ) PairFault
voice_by (wire.Channel width) status left = do
  group ← group_at width left
  Ok (Voice status group.0, group.1)
voice_by _ status left = Err BadStatus

unfoldable pub voice_at : ℕ → List ℕ → Result (TrackEvent × List ℕ) PairFault
voice_at status left = voice_by (begins status) status left

-- data where the running status stands for its own
abbrev pub running_at : Option ℕ → List ℕ → Result (TrackEvent × List ℕ) PairFault
running_at None left = Err NoStatus
running_at (Some status) left = voice_at status left

-- a quantity and so many bytes
unfoldable pub sized_at : List ℕ → Result (List ℕ × List ℕ) PairFault
sized_at left = do
  size ← quantity_at left
  fault_unless (nat_le size.0 (length size.1)) Truncated
      (Ok (take size.0 size.1, drop size.0 size.1))

-- a type, a quantity and so many bytes
unfoldable pub meta_at : List ℕ → Result (TrackEvent × List ℕ) PairFault
meta_at [] = Err Truncated
meta_at (kind ∷ left) = do
  bytes ← sized_at left
  Ok (Meta kind bytes.0, bytes.1)

-- an event, by its first byte
unfoldable pub event_at : Option ℕ → List ℕ → Result (TrackEvent × List ℕ) PairFault
event_at running [] = Err Truncated
event_at running (b ∷ left) =
    if nat_lt b 128 then running_at running (b ∷ left) else
    (if nat_lt b 240 then voice_at b left else
    (if b == 240 then (sized_at left >>= λ bytes. Ok (Exclusive bytes.0, bytes.1)) else
    (if b == 247 then (sized_at left >>= λ bytes. Ok (Escape bytes.0, bytes.1)) else
    (if b == 255 then meta_at left else Err BadStatus))))

-- a delta time and an event; where nothing is left, there is no pair and so no end of the track
unfoldable pub pair_at : Option ℕ → List ℕ → Result (Pair × List ℕ) PairFault
pair_at running [] = Err NoPair
pair_at running (b ∷ left) = do
  delta ← quantity_at (b ∷ left)
  event ← event_at running delta.1
  Ok (record { delta = delta.0; event = event.0 }, event.1)
