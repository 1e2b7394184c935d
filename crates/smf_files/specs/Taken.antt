-- Representation: What was taken from a track that was read through.
use Rattle.std.specs.Prelude.{◌≡◌, ◌≢◌, ℕ, Bool, List, ◌++◌, if◌then◌else◌}
use Rattle.tempo_clock.specs.declared.entry.TempoEntry.{TempoEntry}
use Rattle.smf_grammar.specs.declared.fault.SmfFault.{SmfFault}
use Rattle.smf_grammar.specs.declared.fault.SmfFault.TheVariants.{OutOfMemory}
use Rattle.smf_grammar.specs.Pairs.{Pair}
use Rattle.smf_grammar.specs.Files.{IsTrack}
use Rattle.smf_grammar.specs.Contents.{tempos_from, skipped_in}

-- the tempos of these pairs join a list, where tempo counts
abbrev pub with_tempos : Bool → List TempoEntry → List Pair → List TempoEntry
with_tempos metrical tempos pairs = if metrical then (tempos ++ tempos_from 0 pairs) else tempos

-- a content is a track; its tempos joined the list, and so many events are skipped
pub record TrackTaken (metrical : Bool) (content : List ℕ) (old new : List TempoEntry)
    (skipped : ℕ) : Type 0 where
  pub pairs : List Pair
  pub track : IsTrack content pairs
  pub tempos : new ≡ with_tempos metrical old pairs
  pub counted : skipped ≡ skipped_in metrical pairs

-- a fault is reported, or memory was refused
abbrev pub Faulty : (SmfFault → Type 0) → SmfFault → Type 0
Faulty P x = x ≢ OutOfMemory → P x
