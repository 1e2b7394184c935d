-- A file that was read up to one byte more than it may have.
use Rattle.std.proofs.Common.{◌≡◌, ◌≢◌, ◌+◌, ◌≤◌, ◌<◌, ℕ, false, List, [], ◌⊎◌, inl, inr, length, refl, arith, sym, subst}
use Rattle.std.specs.Prelude.{Result, Ok, Err, IfErr, nat_le}
use Rattle.std.proofs.lemmas.Bool.{cases_lt}
use Rattle.std.proofs.lemmas.Bool.Decides.{nat_tests}
use Rattle.byte_io.specs.Moved.{GaveAll, Took}
use Rattle.smf_grammar.specs.declared.fault.SmfFault.{SmfFault}
use Rattle.smf_grammar.specs.declared.fault.SmfFault.TheVariants as smf
use Rattle.smf_grammar.specs.Chunks.{header_at, most_bytes}
use Rattle.smf_grammar.specs.Files.{MidiFile, IsFile, Fault}
use Rattle.smf_grammar.proofs.Whole.{not-both}
use Rattle.tool_text.specs.declared.fault.ToolFault.{ToolFault}
use Rattle.tool_text.specs.Dump.{dump_of, IsDumped, IsFileDumpedInPart, IsAccepted, TellsFault}
use Rattle.tool_text.specs.Faults.{tool_fault, IsOutput}
use Rattle.tool_text.specs.Gathered.{TookFirst}

too-large : (bytes : List ℕ) → most_bytes < length bytes → header_at bytes ≡ Err smf.TooLarge
unfolding header_at
too-large bytes h =
    let f : nat_le (length bytes) most_bytes ≡ false = grind (arith, nat_tests) in
    rw f refl

-- a file has no byte too many
file-bounded : (bytes : List ℕ) (f : MidiFile) → IsFile bytes f → length bytes ≤ most_bytes
file-bounded bytes f w = go (cases_lt most_bytes (length bytes))
  where
    go : (most_bytes < length bytes) ⊎ (length bytes ≤ most_bytes) → length bytes ≤ most_bytes
    go (inl h) = absurd (not-both bytes f smf.TooLarge w (inl (too-large bytes h)))
    go (inr h) = h

module _ {R : Type 0} (HasLeft : R → List ℕ → Type 0) (before after : R) (read : List ℕ) (all : GaveAll HasLeft (most_bytes + 1) before read after) where
  -- ---- where the bytes are a file

  module _ (f : MidiFile) (file : IsFile read f) where
    -- so the source was read to its end
    file-ended : HasLeft after []
    file-ended = go all.ended
      where
        go : HasLeft after [] ⊎ (length read ≡ most_bytes + 1) → HasLeft after []
        go (inl h) = h
        go (inr e) = absurd (omega (arith, file-bounded read f file))

    pub file-dumped : {W : Type 0} (HasTaken : W → List ℕ → Type 0) (old new : W) → Took HasTaken old (dump_of f) new → IsDumped HasLeft HasTaken before after old new
    file-dumped HasTaken old new k = record { read = read; gave = all.gave; ended = file-ended; bounded = file-bounded read f file; f = f; file = file; took = k }

    pub file-stops : {W : Type 0} (HasTaken : W → List ℕ → Type 0) (old new : W) → TookFirst HasTaken old (dump_of f) new → IsFileDumpedInPart HasLeft HasTaken before after old new
    file-stops HasTaken old new k = record { read = read; gave = all.gave; ended = file-ended; f = f; file = file; stopped = k }

    -- printing tells no fault of a file
    pub file-told : (r : Result (Unit {0}) ToolFault) → IfErr r IsOutput → IfErr r (TellsFault HasLeft before after)
    file-told (Ok done) only = tt
    file-told (Err e) (inl memory) = subst (TellsFault HasLeft before after) (sym memory) tt
    file-told (Err e) (inr write) =
        let accepted : IsAccepted HasLeft before after = record { read = read; all = all; f = f; file = file } in
        subst (TellsFault HasLeft before after) (sym write) accepted

  -- ---- where they are none

  pub fault-told : (x : SmfFault) (r : ToolFault) → r ≡ tool_fault x → (x ≢ smf.OutOfMemory → Fault read x) → TellsFault HasLeft before after r
  fault-told x r e h = subst (TellsFault HasLeft before after) (sym e) (go x h)
    where
      go : (x : SmfFault) → (x ≢ smf.OutOfMemory → Fault read x) → TellsFault HasLeft before after (tool_fault x)
      go smf.OutOfMemory h = tt
      go x h = record { read = read; all = all; fault = h (λ same. let bad : ⊥ = cc in bad) }
