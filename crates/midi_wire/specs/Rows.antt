-- Worked rows: Worked streams.
use Rattle.std.specs.Prelude.{◌≡◌, [], ◌∷◌}
use Rattle.midi_wire.specs.Readings.{reading, rest}
use Rattle.midi_wire.specs.Writings.{wire_bytes}

-- running status, with real time between and inside messages: 90 3C 40 F8 3E F8 40
abbrev pub RunningStatus : Type 0
RunningStatus = reading (0x90 ∷ 0x3C ∷ 0x40 ∷ 0xF8 ∷ 0x3E ∷ 0xF8 ∷ 0x40 ∷ [])
    ≡ (0x90 ∷ 0x3C ∷ 0x40 ∷ []) ∷ (0xF8 ∷ []) ∷ (0xF8 ∷ []) ∷ (0x90 ∷ 0x3E ∷ 0x40 ∷ []) ∷ []

-- real time inside an exclusive message comes first: F0 7D 01 FE 02 F7
abbrev pub RealTimeInside : Type 0
RealTimeInside = reading (0xF0 ∷ 0x7D ∷ 0x01 ∷ 0xFE ∷ 0x02 ∷ 0xF7 ∷ [])
    ≡ (0xFE ∷ []) ∷ (0xF0 ∷ 0x7D ∷ 0x01 ∷ 0x02 ∷ 0xF7 ∷ []) ∷ []

-- another status ends an exclusive message: F0 7D 01 90 3C 40
abbrev pub EndedByAnother : Type 0
EndedByAnother = reading (0xF0 ∷ 0x7D ∷ 0x01 ∷ 0x90 ∷ 0x3C ∷ 0x40 ∷ [])
    ≡ (0xF0 ∷ 0x7D ∷ 0x01 ∷ 0xF7 ∷ []) ∷ (0x90 ∷ 0x3C ∷ 0x40 ∷ []) ∷ []

-- it stands before the message that the status itself is: F0 7D F6
abbrev pub EndedByTune : Type 0
EndedByTune = reading (0xF0 ∷ 0x7D ∷ 0xF6 ∷ []) ≡ (0xF0 ∷ 0x7D ∷ 0xF7 ∷ []) ∷ (0xF6 ∷ []) ∷ []

-- F6 ends running status: 90 3C 40 F6 3C 40
abbrev pub TuneEndsRunning : Type 0
TuneEndsRunning = reading (0x90 ∷ 0x3C ∷ 0x40 ∷ 0xF6 ∷ 0x3C ∷ 0x40 ∷ [])
    ≡ (0x90 ∷ 0x3C ∷ 0x40 ∷ []) ∷ (0xF6 ∷ []) ∷ []

-- F4 gives nothing and ends running status: 90 3C 40 F4 3C 40
abbrev pub UnusedEndsRunning : Type 0
UnusedEndsRunning =
    reading (0x90 ∷ 0x3C ∷ 0x40 ∷ 0xF4 ∷ 0x3C ∷ 0x40 ∷ []) ≡ (0x90 ∷ 0x3C ∷ 0x40 ∷ []) ∷ []

-- what still matters: 90 3C 40 F8 3E, and F0 7D FE 01, and F2 01, and F2 01 02
abbrev pub StillMatters : Type 0
StillMatters =
    (rest (0x90 ∷ 0x3C ∷ 0x40 ∷ 0xF8 ∷ 0x3E ∷ []) ≡ 0x90 ∷ 0x3E ∷ [])
    × (rest (0xF0 ∷ 0x7D ∷ 0xFE ∷ 0x01 ∷ []) ≡ 0xF0 ∷ 0x7D ∷ 0x01 ∷ [])
    × (rest (0xF2 ∷ 0x01 ∷ []) ≡ 0xF2 ∷ 0x01 ∷ [])
    × (rest (0xF2 ∷ 0x01 ∷ 0x02 ∷ []) ≡ [])

-- the messages of the first stream are written with running status, which real time does not end
abbrev pub RunningStatusWritten : Type 0
RunningStatusWritten = wire_bytes
    ((0x90 ∷ 0x3C ∷ 0x40 ∷ []) ∷ (0xF8 ∷ []) ∷ (0xF8 ∷ []) ∷ (0x90 ∷ 0x3E ∷ 0x40 ∷ []) ∷ [])
    ≡ 0x90 ∷ 0x3C ∷ 0x40 ∷ 0xF8 ∷ 0xF8 ∷ 0x3E ∷ 0x40 ∷ []

-- after F6 the status is written again: 90 3C 40 F6 90 3C 40 is read and written back unchanged
abbrev pub WrittenBack : Type 0
WrittenBack = wire_bytes (reading (0x90 ∷ 0x3C ∷ 0x40 ∷ 0xF6 ∷ 0x90 ∷ 0x3C ∷ 0x40 ∷ []))
    ≡ 0x90 ∷ 0x3C ∷ 0x40 ∷ 0xF6 ∷ 0x90 ∷ 0x3C ∷ 0x40 ∷ []

-- another status is written: B0 07 7F, and 90 3C 40
abbrev pub TwoStatusesWritten : Type 0
TwoStatusesWritten = wire_bytes ((0xB0 ∷ 0x07 ∷ 0x7F ∷ []) ∷ (0x90 ∷ 0x3C ∷ 0x40 ∷ []) ∷ [])
    ≡ 0xB0 ∷ 0x07 ∷ 0x7F ∷ 0x90 ∷ 0x3C ∷ 0x40 ∷ []
