-- What was read of a file and mended, printed whole or in part.
use Rattle.std.proofs.Common.{◌≡◌, ◌≢◌, ◌+◌, ℕ, List, [], ◌++◌, ◌∙◌, ◌⊎◌, inl, inr, length, refl, arith, ap, sym, subst, append_assoc}
use Rattle.std.specs.Prelude.{Result, Ok, Err, IfErr, IsErrAnd}
use Rattle.byte_io.specs.Moved.{GaveAll, Took}
use Rattle.byte_io.proofs.Moved.{took_more}
use Rattle.smf_grammar.specs.declared.fault.SmfFault.{SmfFault}
use Rattle.smf_grammar.specs.declared.fault.SmfFault.TheVariants as smf
use Rattle.smf_grammar.specs.Chunks.{most_bytes}
use Rattle.smf_grammar.specs.Files.{MidiFile, IsFile, Fault}
use Rattle.smf_grammar.proofs.Whole.{one-file, not-both}
use Rattle.smf_mend.specs.declared.forgiven.Mended.{Mended}
use Rattle.smf_mend.specs.Unwrapping.{IsRefusedIn}
use Rattle.tool_text.specs.declared.fault.ToolFault.{ToolFault}
use Rattle.tool_text.specs.declared.fault.ToolFault.TheVariants as tool
use Rattle.tool_text.specs.Faults.{tool_fault, IsOutput}
use Rattle.tool_text.specs.Gathered.{TookFirst}
use Rattle.lenient_text.specs.LenientDumped.{forgiven_lines, IsDumpedLeniently, IsFileDumpedLenientlyInPart, IsLenientlyAccepted, TellsLenientFault}
use Rattle.lenient_text.specs.LenientlyRead.{IsReadLeniently}

-- ---- where bytes are a strict file

-- only memory is refused
pub memory-only : (bytes : List ℕ) (f : MidiFile) → IsFile bytes f → (x : SmfFault) (r : ToolFault) → r ≡ tool_fault x → (x ≢ smf.OutOfMemory → Fault bytes x) → r ≡ tool.OutOfMemory
memory-only bytes f file x r e h = e ∙ go x h
  where
    go : (x : SmfFault) → (x ≢ smf.OutOfMemory → Fault bytes x) → tool_fault x ≡ tool.OutOfMemory
    go smf.OutOfMemory h = refl
    go x h = absurd (not-both bytes f x file (h (λ same. let bad : ⊥ = cc in bad)))

-- ---- where what was read is a file

module _ {R : Type 0} (HasLeft : R → List ℕ → Type 0) (before after : R) (m : Mended) (r : IsReadLeniently HasLeft before after m) where
  -- so the source was read to its end
  read-ended : HasLeft after []
  read-ended = go r.all.ended
    where
      go : HasLeft after [] ⊎ (length r.read ≡ most_bytes + 1) → HasLeft after []
      go (inl h) = h
      go (inr e) = absurd (omega (arith, r.mended.bounded))

  -- printing tells no fault of a file
  pub output-told : (x : ToolFault) → IsOutput x → TellsLenientFault HasLeft before after x
  output-told x (inl memory) = subst (TellsLenientFault HasLeft before after) (sym memory) tt
  output-told x (inr write) =
      let accepted : IsLenientlyAccepted HasLeft before after = record { read = r.read; all = r.all; m = m; mended = r.mended } in
      subst (TellsLenientFault HasLeft before after) (sym write) accepted

  pub stopped-told : {T : Type 0} (x : Result T ToolFault) (e : ToolFault) → IsErrAnd x (λ y. y ≡ e) → IsOutput e → IfErr x (TellsLenientFault HasLeft before after)
  stopped-told (Ok done) e same only = tt
  stopped-told (Err y) e same only = subst (TellsLenientFault HasLeft before after) (sym same) (output-told e only)

  pub outcome-told : (x : Result (Unit {0}) ToolFault) → IfErr x IsOutput → IfErr x (TellsLenientFault HasLeft before after)
  outcome-told (Ok done) only = tt
  outcome-told (Err x) only = output-told x only

  module _ (f : MidiFile) (file : IsFile m.bytes.items f) where
    -- it is printed of just this file
    same-file : f ≡ r.mended.mended.f
    same-file = one-file m.bytes.items f r.mended.mended.f file r.mended.mended.strict

    module _ {W : Type 0} (HasTaken : W → List ℕ → Type 0) (text : MidiFile → List ℕ) where
      pub dumped : (old mid new : W) → Took HasTaken old (text f) mid → Took HasTaken mid (forgiven_lines m) new → IsDumpedLeniently text HasLeft HasTaken before after old new
      dumped old mid new k l = record {
        read = r.read;
        gave = r.all.gave;
        ended = read-ended;
        m = m;
        mended = r.mended;
        took = took_more HasTaken old mid new (text r.mended.mended.f) (forgiven_lines m) (subst (λ (g : MidiFile). Took HasTaken old (text g) mid) same-file k) l;
      }

      -- within the text of the file
      pub text-stops : (old new : W) → TookFirst HasTaken old (text f) new → IsFileDumpedLenientlyInPart text HasLeft HasTaken before after old new
      text-stops old new k = record {
        read = r.read;
        gave = r.all.gave;
        ended = read-ended;
        m = m;
        mended = r.mended;
        stopped = record {
          gained = k.gained;
          missing = k.missing ++ forgiven_lines m;
          took = k.took;
          whole = ap (λ (xs : List ℕ). xs ++ forgiven_lines m) (ap text (sym same-file) ∙ k.whole) ∙ append_assoc k.gained k.missing (forgiven_lines m);
        };
      }

      -- behind it
      pub lines-stop : (old mid new : W) → Took HasTaken old (text f) mid → TookFirst HasTaken mid (forgiven_lines m) new → IsFileDumpedLenientlyInPart text HasLeft HasTaken before after old new
      lines-stop old mid new k l = record {
        read = r.read;
        gave = r.all.gave;
        ended = read-ended;
        m = m;
        mended = r.mended;
        stopped = record {
          gained = text r.mended.mended.f ++ l.gained;
          missing = l.missing;
          took = took_more HasTaken old mid new (text r.mended.mended.f) l.gained (subst (λ (g : MidiFile). Took HasTaken old (text g) mid) same-file k) l.took;
          whole = ap (λ (xs : List ℕ). text r.mended.mended.f ++ xs) l.whole ∙ sym (append_assoc (text r.mended.mended.f) l.gained l.missing);
        };
      }

-- ---- where it is none

module _ {R : Type 0} (HasLeft : R → List ℕ → Type 0) (before after : R) (read : List ℕ) (all : GaveAll HasLeft (most_bytes + 1) before read after) where
  pub fault-told : (x : SmfFault) (r : ToolFault) → r ≡ tool_fault x → (x ≢ smf.OutOfMemory → IsRefusedIn read x) → TellsLenientFault HasLeft before after r
  fault-told x r e h = subst (TellsLenientFault HasLeft before after) (sym e) (go x h)
    where
      go : (x : SmfFault) → (x ≢ smf.OutOfMemory → IsRefusedIn read x) → TellsLenientFault HasLeft before after (tool_fault x)
      go smf.OutOfMemory h = tt
      go x h = record { read = read; all = all; fault = h (λ same. let bad : ⊥ = cc in bad) }
