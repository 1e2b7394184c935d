-- Definition: By which ticks a file counts, as words say it.
use Rattle.std.specs.Prelude.{◌≡◌, ◌⊎◌, ◌+◌, ◌/◌, ℕ, Bool, nat_le, ◌&&◌, List, [], ◌∷◌, Option, Some, None}
use Rattle.std.specs.Option.{option_map}
use Rattle.script_text.specs.Numbers.{both, only_if, u64}
use Rattle.smf_grammar.specs.Chunks.{most_bytes}
use Rattle.smf_grammar.specs.Contents.{entries_of}
use Rattle.smf_grammar.specs.Files.{MidiFile, IsFile, Fault}
use Rattle.smf_grammar.specs.declared.fault.SmfFault.{SmfFault}
use Rattle.tempo_clock.specs.Entries.{is_ppq}
use Rattle.tempo_clock.specs.Ticks.{Tempos}
use Rattle.program_tasks.specs.Faults.{IsOfMemory}
use Rattle.folder_files.specs.Contents.{IsOfFile, IsUnreadable}
use Rattle.program_tasks.specs.declared.grid.GridWords.{GridWords}
use Rattle.program_tasks.specs.declared.grid.GridWords.TheVariants.{Said, Like}
use Rattle.program_tasks.specs.declared.program_fault.ProgramFault.{ProgramFault}
use Rattle.program_tasks.specs.declared.program_fault.ProgramFault.TheVariants.{OutOfMemory, NotAPpq, NotABpm, CannotRead, Smf}

-- ---- words that say it

-- quarter notes a minute whose length in microseconds a file can hold
abbrev pub is_bpm : ℕ → Bool
is_bpm bpm = nat_le 4 bpm && nat_le bpm 60000000

-- the ticks per quarter note that a word says, and 480 without one
abbrev pub ppq_said : Option (List ℕ) → Option ℕ
ppq_said None = Some 480
ppq_said (Some word) = only_if is_ppq (u64 word)

-- the quarter notes a minute that a word says, and 120 without one
abbrev pub bpm_said : Option (List ℕ) → Option ℕ
bpm_said None = Some 120
bpm_said (Some word) = only_if is_bpm (u64 word)

-- microseconds per quarter note, rounded down
abbrev pub tempo_of : ℕ → ℕ
tempo_of bpm = 60000000 / bpm

-- one tempo from the beginning on
abbrev pub one_tempo : ℕ → ℕ → Tempos
one_tempo ppq tempo =
    record { division = ppq; entries = record { tick = 0; tempo = tempo } ∷ [] }

abbrev pub grid_said : Option (List ℕ) → Option (List ℕ) → Option Tempos
grid_said ppq bpm = both (λ p b. one_tempo p (tempo_of b)) (ppq_said ppq) (bpm_said bpm)

-- the word says no ticks per quarter note
abbrev pub IsNoPpq : Option (List ℕ) → ProgramFault → Type 0
IsNoPpq ppq (NotAPpq word) = (ppq ≡ Some word.now) × (ppq_said ppq ≡ None)
IsNoPpq ppq _ = ⊥

-- the word says no quarter notes a minute
abbrev pub IsNoBpm : Option (List ℕ) → ProgramFault → Type 0
IsNoBpm bpm (NotABpm word) = (bpm ≡ Some word.now) × (bpm_said bpm ≡ None)
IsNoBpm bpm _ = ⊥

-- out of memory, or one of the words says none
abbrev pub IsNoGrid : Option (List ℕ) → Option (List ℕ) → ProgramFault → Type 0
IsNoGrid ppq bpm fault = IsOfMemory fault ⊎ (IsNoPpq ppq fault ⊎ IsNoBpm bpm fault)

-- ---- a file that has it

module _ {R : Type 0} (IsOpened : List ℕ → R → Type 0) (HasLeft : R → List ℕ → Type 0) where
  -- The file at the path was read: it counts by these ticks, and has these tempos.
  pub record IsGridOf (path : List ℕ) (grid : Tempos) : Type 0 where
    pub bytes : List ℕ
    pub read : IsOfFile IsOpened HasLeft (most_bytes + 1) path bytes
    pub file : MidiFile
    pub is : IsFile bytes file
    pub plays : grid ≡ record { division = file.division; entries = entries_of file }

  -- What was read of the file at the path has this fault.
  pub record IsDamaged (path : List ℕ) (fault : SmfFault) : Type 0 where
    pub bytes : List ℕ
    pub read : IsOfFile IsOpened HasLeft (most_bytes + 1) path bytes
    pub has : Fault bytes fault

  -- the ticks that words give: those that they say, or those of a file
  abbrev pub IsGrid : GridWords → Tempos → Type 0
  IsGrid (Said ppq bpm) grid =
      Some grid ≡ grid_said (option_map (λ w. w.now) ppq) (option_map (λ w. w.now) bpm)
  IsGrid (Like path) grid = IsGridOf path.now grid

  module _ (CannotOpen : List ℕ → Type 0) (failed : R → Bool) where
    -- the file at the path could not be read, or is no MIDI file; or out of memory
    abbrev pub IsNoGridOf : List ℕ → ProgramFault → Type 0
    IsNoGridOf path OutOfMemory = Unit {0}
    IsNoGridOf path (CannotRead told) =
        (told.now ≡ path) × IsUnreadable IsOpened HasLeft CannotOpen failed path
    IsNoGridOf path (Smf fault) = IsDamaged path fault
    IsNoGridOf path _ = ⊥

    -- the words give no ticks
    abbrev pub IsOfGrid : GridWords → ProgramFault → Type 0
    IsOfGrid (Said ppq bpm) fault =
        IsNoGrid (option_map (λ w. w.now) ppq) (option_map (λ w. w.now) bpm) fault
    IsOfGrid (Like path) fault = IsNoGridOf path.now fault
