-- Definition: The messages of a stream, and what of its end still matters.
--
-- F8 to FF are taken out, and F8, FA, FB, FC, FE and FF are messages at their places. A block is a
-- status and the data that follows it in what is left, and gives messages by what its status
-- begins: of a channel, one for each whole group of data bytes; F1, F2, F3 and F6, one for their
-- first group; F0, one with its data and F7, where a later status ends it and the data is not too
-- long; F4, F5 and F7, none. A message stands at the place of its last byte, an exclusive one at
-- that of the status that ends it and before what stands there too. The reading lists them by
-- place.
use Rattle.std.specs.Prelude.{ℕ, ◌+◌, List, [], ◌∷◌, ◌++◌, length, Option, Some, None, ◌==◌, nat_le, if◌then◌else◌, replicate}
use Rattle.midi_wire.specs.Messages.{Width, One, Two, StatusClass, Channel, Common, TuneRequest, Exclusive, RealTime, Nothing, begins, is_status, is_real_time, most_data, exclusive_message}

-- a byte and its place in the stream
pub record Placed : Type 0 where
  pub place : ℕ
  pub byte : ℕ

-- a status with the data bytes up to the next status
pub record Block : Type 0 where
  pub status : Placed
  pub bytes : List Placed

-- a message and its place
pub record PlacedMessage : Type 0 where
  pub place : ℕ
  pub message : List ℕ

-- the bytes with their places, the first of which is n
abbrev pub placed_from : ℕ → List ℕ → List Placed
placed_from n [] = []
placed_from n (b ∷ s) = record { place = n; byte = b } ∷ placed_from (n + 1) s

-- a message of real time
abbrev pub real_time : StatusClass → Placed → List PlacedMessage
real_time RealTime x = record { place = x.place; message = x.byte ∷ [] } ∷ []
real_time _ x = []

-- the messages of real time, each at its place
abbrev pub real_times : List Placed → List PlacedMessage
real_times [] = []
real_times (x ∷ xs) = real_time (begins x.byte) x ++ real_times xs

-- what is left when F8 to FF are taken out
abbrev pub without_real_times : List Placed → List Placed
without_real_times [] = []
without_real_times (x ∷ xs) =
    if is_real_time x.byte then without_real_times xs else (x ∷ without_real_times xs)

-- the data bytes up to the next status
abbrev pub data_front : List Placed → List Placed
data_front [] = []
data_front (x ∷ xs) = if is_status x.byte then [] else (x ∷ data_front xs)

-- a block for each status; data before the first status is in none
abbrev pub blocks : List Placed → List Block
blocks [] = []
blocks (x ∷ xs) = if is_status x.byte
    then (record { status = x; bytes = data_front xs } ∷ blocks xs) else blocks xs

-- a message for each whole group, at the place of its last byte
abbrev pub groups : Width → ℕ → List Placed → List PlacedMessage
groups One s [] = []
groups One s (a ∷ more) = record { place = a.place; message = s ∷ a.byte ∷ [] } ∷ groups One s more
groups Two s [] = []
groups Two s (a ∷ []) = []
groups Two s (a ∷ b ∷ more) =
    record { place = b.place; message = s ∷ a.byte ∷ b.byte ∷ [] } ∷ groups Two s more

-- the first message, if there is one
abbrev pub first_message : List PlacedMessage → List PlacedMessage
first_message [] = []
first_message (t ∷ ts) = t ∷ []

-- the bytes without their places
abbrev pub bytes_of : List Placed → List ℕ
bytes_of [] = []
bytes_of (x ∷ xs) = x.byte ∷ bytes_of xs

-- one exclusive message at the place of the status that ends it, where one does and the data is not
-- too long
abbrev pub exclusive : List Placed → Option Placed → List PlacedMessage
exclusive bytes None = []
exclusive bytes (Some end) = if nat_le (length bytes) most_data
    then (record { place = end.place; message = exclusive_message (bytes_of bytes) } ∷ []) else []

-- the messages of a block, by its status and the next one
abbrev pub given_by : StatusClass → Placed → List Placed → Option Placed → List PlacedMessage
given_by (Channel width) status bytes next = groups width status.byte bytes
given_by (Common width) status bytes next = first_message (groups width status.byte bytes)
given_by TuneRequest status bytes next =
    record { place = status.place; message = status.byte ∷ [] } ∷ []
given_by Exclusive status bytes next = exclusive bytes next
given_by RealTime status bytes next = []
given_by Nothing status bytes next = []

abbrev pub block_messages : Block → Option Placed → List PlacedMessage
block_messages block next = given_by (begins block.status.byte) block.status block.bytes next

-- the messages of all blocks; a block ends where the next one begins
abbrev pub all_given : List Block → List PlacedMessage
all_given [] = []
all_given (block ∷ []) = block_messages block None
all_given (block ∷ next ∷ more) = block_messages block (Some next.status) ++ all_given (next ∷ more)

-- the blocks of a stream
abbrev pub stream_blocks : List ℕ → List Block
stream_blocks s = blocks (without_real_times (placed_from 0 s))

-- all messages of a stream, each with its place
abbrev pub placed_messages : List ℕ → List PlacedMessage
placed_messages s = all_given (stream_blocks s) ++ real_times (placed_from 0 s)

-- those at one place, in their order
abbrev pub messages_at : ℕ → List PlacedMessage → List (List ℕ)
messages_at place [] = []
messages_at place (t ∷ ts) =
    if t.place == place then (t.message ∷ messages_at place ts) else messages_at place ts

-- at each place in turn, the messages of that place
abbrev pub by_place : List Placed → List PlacedMessage → List (List ℕ)
by_place [] ts = []
by_place (x ∷ xs) ts = messages_at x.place ts ++ by_place xs ts

-- the messages of a stream, in the order of their places
unfoldable pub reading : List ℕ → List (List ℕ)
reading s = by_place (placed_from 0 s) (placed_messages s)

-- the data bytes after the last whole group
abbrev pub incomplete : Width → List ℕ → List ℕ
incomplete One bytes = []
incomplete Two [] = []
incomplete Two (a ∷ []) = a ∷ []
incomplete Two (a ∷ b ∷ more) = incomplete Two more

-- the status with its data while the first group is incomplete
abbrev pub while_incomplete : Width → ℕ → List ℕ → List ℕ
while_incomplete One s [] = s ∷ []
while_incomplete One s (a ∷ more) = []
while_incomplete Two s [] = s ∷ []
while_incomplete Two s (a ∷ []) = s ∷ a ∷ []
while_incomplete Two s (a ∷ b ∷ more) = []

-- what stands for data that is too long
unfoldable pub too_long : List ℕ
too_long = replicate 65537 0

-- what of a block still matters
abbrev pub matters_by : StatusClass → ℕ → List ℕ → List ℕ
matters_by (Channel width) s bytes = s ∷ incomplete width bytes
matters_by (Common width) s bytes = while_incomplete width s bytes
matters_by Exclusive s bytes = s ∷ (if nat_le (length bytes) most_data then bytes else too_long)
matters_by TuneRequest s bytes = []
matters_by RealTime s bytes = []
matters_by Nothing s bytes = []

-- what of the last block still matters
abbrev pub last_matters : List Block → List ℕ
last_matters [] = []
last_matters (block ∷ []) =
    matters_by (begins block.status.byte) block.status.byte (bytes_of block.bytes)
last_matters (block ∷ next ∷ more) = last_matters (next ∷ more)

-- what of a stream still matters: it decides what further bytes give
unfoldable pub rest : List ℕ → List ℕ
rest s = last_matters (stream_blocks s)
