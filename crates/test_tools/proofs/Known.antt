-- Where the bytes of a source and of a sink are known, what was printed is the text of just these.
use Rattle.std.proofs.Common.{◌≡◌, ◌<◌, ◌≤◌, ◌+◌, ◌⊎◌, inl, inr, ℕ, true, false, List, [], ◌++◌, ◌∙◌, length, refl, sym, ap, subst, append-nil, length-append, arith}
use Rattle.std.specs.Prelude.{Err, nat_le}
use Rattle.std.proofs.lemmas.Bool.{false≢true}
use Rattle.std.proofs.lemmas.Bool.Decides.{nat_tests}
use Rattle.byte_io.specs.Memory.{MemInput, MemOutput}
use Rattle.byte_io.specs.Moved.{GaveAll}
use Rattle.smf_grammar.specs.declared.fault.SmfFault.{SmfFault}
use Rattle.smf_grammar.specs.declared.fault.SmfFault.TheVariants as smf
use Rattle.smf_grammar.specs.Chunks.{header_at, most_bytes}
use Rattle.smf_grammar.specs.Files.{MidiFile, IsFile, Fault}
use Rattle.smf_grammar.proofs.Whole.{not-both, one-fault}
use Rattle.program_tasks.specs.declared.choice.Tool.{Tool}
use Rattle.program_tasks.specs.declared.choice.Tool.TheVariants.{Thru, Wire, Dump, DumpAll, DumpPlaces}
use Rattle.program_tasks.specs.declared.choice.Grammar.TheVariants.{Strict, Lenient}
use Rattle.tool_text.specs.declared.fault.ToolFault.{ToolFault}
use Rattle.tool_text.specs.declared.fault.ToolFault.TheVariants.{OutOfMemory, Read, Write, Smf}
use Rattle.tool_text.specs.Thru.{thru_text}
use Rattle.tool_text.specs.Wire.{wire_text}
use Rattle.tool_text.specs.Stream.{IsRendered}
use Rattle.program_tasks.specs.Tools.{IsPrinted, MayTell}
use Rattle.smf_mend.specs.Unwrapping.{IsRefusedIn}
use Rattle.tool_text.specs.Dump.{dump_of, TellsFault}
use Rattle.smf_text.specs.AllTexts.{all_text}
use Rattle.lenient_text.specs.LenientDumped.{IsDumpedLeniently, HasLenientFault, TellsLenientFault}
use Rattle.test_tools.specs.Texts.{IsTextOf, IsLenientTextOf, reads_file, IsFaultOf, IsFileFault}

-- as the devices over memory say it
abbrev pub Left : MemInput → List ℕ → Type 0
Left s rest = s.left ≡ rest

abbrev pub Taken : MemOutput → List ℕ → Type 0
Taken s bytes = s.taken ≡ bytes

too-large : (bytes : List ℕ) → most_bytes < length bytes → header_at bytes ≡ Err smf.TooLarge
unfolding header_at
too-large bytes h =
    let f : nat_le (length bytes) most_bytes ≡ false = grind (arith, nat_tests) in
    rw f refl

module _ (before after : MemInput) (old new : MemOutput) (bytes : List ℕ) (whole : before.left ≡ bytes) (none : old.taken ≡ []) where
  all_read : (read : List ℕ) → before.left ≡ read ++ [] → read ≡ bytes
  all_read read e = sym (append-nil read) ∙ sym e ∙ whole

  rendered : (text : List ℕ → List ℕ) → IsRendered Left Taken text before after old new → new.taken ≡ text bytes
  rendered text r = r.took [] none ∙ ap text (all_read r.read (r.gave [] r.ended))

  lenient : (text_of : MidiFile → List ℕ) → IsDumpedLeniently text_of Left Taken before after old new → IsLenientTextOf text_of bytes new.taken
  lenient text_of r = subst (λ (b : List ℕ). IsLenientTextOf text_of b new.taken) (all_read r.read (r.gave [] r.ended)) (r.m, r.mended, r.took [] none)

  pub known_text : (tool : Tool) → IsPrinted Left Taken tool before after old new → IsTextOf tool bytes new.taken
  known_text Thru r = rendered thru_text r
  known_text Wire r = rendered wire_text r
  known_text (Dump Strict) r = subst (λ (b : List ℕ). IsTextOf (Dump Strict) b new.taken) (all_read r.read (r.gave [] r.ended)) (r.f, r.file, r.took [] none)
  known_text (Dump Lenient) r = lenient dump_of r
  known_text (DumpAll Strict) r = subst (λ (b : List ℕ). IsTextOf (DumpAll Strict) b new.taken) (all_read r.read (r.gave [] r.ended)) (r.f, r.file, r.took [] none)
  known_text (DumpAll Lenient) r = lenient all_text r
  known_text DumpPlaces r = subst (λ (b : List ℕ). IsTextOf DumpPlaces b new.taken) (all_read r.read (r.gave [] r.ended)) (r.f, r.file, r.took [] none)

  no_fault : (read : List ℕ) (f : MidiFile) (x : SmfFault) → before.left ≡ read ++ [] → IsFile read f → Fault bytes x → ⊥
  no_fault read f x gave file fault = not-both bytes f x (subst (λ (b : List ℕ). IsFile b f) (all_read read gave) file) fault

  -- bytes that have a fault are not dumped
  pub not_dumped : (tool : Tool) → IsPrinted Left Taken tool before after old new → reads_file tool ≡ true → (x : SmfFault) → Fault bytes x → ⊥
  not_dumped Thru r e x f = absurd (false≢true e)
  not_dumped Wire r e x f = absurd (false≢true e)
  not_dumped (Dump Strict) r e x f = no_fault r.read r.f x (r.gave [] r.ended) r.file f
  not_dumped (Dump Lenient) r e x f = absurd (false≢true e)
  not_dumped (DumpAll Strict) r e x f = no_fault r.read r.f x (r.gave [] r.ended) r.file f
  not_dumped (DumpAll Lenient) r e x f = absurd (false≢true e)
  not_dumped DumpPlaces r e x f = no_fault r.read r.f x (r.gave [] r.ended) r.file f

  bounded_by : (read : List ℕ) → before.left ≡ read ++ [] → length read ≤ most_bytes → length bytes ≤ most_bytes
  bounded_by read gave bounded = subst (λ (b : List ℕ). length b ≤ most_bytes) (all_read read gave) bounded

  pub known_bound : (tool : Tool) → IsPrinted Left Taken tool before after old new → length bytes ≤ most_bytes
  known_bound Thru r = bounded_by r.read (r.gave [] r.ended) r.bounded
  known_bound Wire r = bounded_by r.read (r.gave [] r.ended) r.bounded
  known_bound (Dump Strict) r = bounded_by r.read (r.gave [] r.ended) r.bounded
  known_bound (Dump Lenient) r = bounded_by r.read (r.gave [] r.ended) r.mended.bounded
  known_bound (DumpAll Strict) r = bounded_by r.read (r.gave [] r.ended) r.bounded
  known_bound (DumpAll Lenient) r = bounded_by r.read (r.gave [] r.ended) r.mended.bounded
  known_bound DumpPlaces r = bounded_by r.read (r.gave [] r.ended) r.bounded

  too_many : (read : List ℕ) → length read ≡ most_bytes + 1 → before.left ≡ read ++ after.left → most_bytes < length bytes
  too_many read n gave =
      let split : bytes ≡ read ++ after.left = sym whole ∙ gave in
      let more : length bytes ≡ length read + length after.left = ap length split ∙ length-append read after.left in
      omega (arith, more, n)

  -- what has one byte too many has the fault of all that is too large
  whole_fault : (read : List ℕ) (x : SmfFault) → GaveAll Left (most_bytes + 1) before read after → Fault read x → Fault bytes x
  whole_fault read x all fault = go all.ended
    where
      go : (after.left ≡ []) ⊎ (length read ≡ most_bytes + 1) → Fault bytes x
      go (inl e) = subst (λ (b : List ℕ). Fault b x) (all_read read (all.gave [] e)) fault
      go (inr n) =
          let same : smf.TooLarge ≡ x = one-fault read smf.TooLarge x (inl (too-large read (omega (arith, n)))) fault in
          subst (Fault bytes) same (inl (too-large bytes (too_many read n (all.gave after.left refl))))

  strict_fault : (fault : ToolFault) → TellsFault Left before after fault → IsFileFault (Fault bytes) fault
  strict_fault (Smf x) h = whole_fault h.read x h.all h.fault
  strict_fault OutOfMemory h = tt
  strict_fault Read h = tt
  strict_fault Write h = tt

  whole_lenient_fault : (x : SmfFault) → HasLenientFault Left before after x → IsRefusedIn bytes x
  whole_lenient_fault x h = go h.all.ended h.fault
    where
      go : (after.left ≡ []) ⊎ (length h.read ≡ most_bytes + 1) → IsRefusedIn h.read x → IsRefusedIn bytes x
      go (inl e) fault = subst (λ (b : List ℕ). IsRefusedIn b x) (all_read h.read (h.all.gave [] e)) fault
      go (inr n) (inl fault) = inl (fault.0, too_many h.read n (h.all.gave after.left refl))
      go (inr n) (inr fault) = absurd (omega (arith, n, fault.0))

  lenient_fault : (fault : ToolFault) → TellsLenientFault Left before after fault → IsFileFault (IsRefusedIn bytes) fault
  lenient_fault (Smf x) h = whole_lenient_fault x h
  lenient_fault OutOfMemory h = tt
  lenient_fault Read h = tt
  lenient_fault Write h = tt

  pub known_fault : (tool : Tool) (fault : ToolFault) → MayTell Left tool before after fault → IsFaultOf tool bytes fault
  known_fault Thru fault h = h
  known_fault Wire fault h = h
  known_fault (Dump Strict) fault h = strict_fault fault h
  known_fault (Dump Lenient) fault h = lenient_fault fault h
  known_fault (DumpAll Strict) fault h = strict_fault fault h
  known_fault (DumpAll Lenient) fault h = lenient_fault fault h
  known_fault DumpPlaces fault h = strict_fault fault h
