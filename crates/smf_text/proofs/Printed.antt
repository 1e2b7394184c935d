-- All that a file says, printed whole or in part.
use Rattle.std.proofs.Common.{◌≡◌, ◌+◌, ◌≤◌, ◌<◌, ℕ, Bool, true, false, List, [], ◌++◌, ◌∙◌, ◌⊎◌, inl, inr, length, refl, arith, ap, sym, subst, append-nil}
use Rattle.std.specs.Prelude.{Err, nat_le}
use Rattle.std.proofs.lemmas.Bool.{cases_lt}
use Rattle.std.proofs.lemmas.Bool.Decides.{nat_tests}
use Rattle.byte_io.specs.Moved.{GaveAll, Took}
use Rattle.smf_grammar.specs.declared.fault.SmfFault.TheVariants as smf
use Rattle.smf_grammar.specs.Chunks.{header_at, most_bytes}
use Rattle.smf_grammar.specs.Files.{MidiFile, IsFile}
use Rattle.smf_grammar.proofs.Whole.{not-both}
use Rattle.tool_text.specs.Gathered.{IsGathered, TookFirst}
use Rattle.tool_text.proofs.Pieces.{goes-all, stops-all}
use Rattle.smf_text.specs.PlacedTexts.{placed_text}
use Rattle.smf_text.specs.AllDumped.{IsAllDumped, IsAllDumpedInPart}
use Rattle.smf_text.specs.PlacesDumped.{IsPlacesDumped, IsPlacesDumpedInPart}
use Rattle.smf_text.specs.Walking.{IsFileRead}
use Rattle.smf_text.proofs.Placed.{same-without-places}

-- ---- a head and lines

headed : (none front pushed place head lines : List ℕ) → none ≡ [] → front ≡ none ++ place → pushed ≡ front ++ head → pushed ++ lines ≡ place ++ head ++ lines
headed none front pushed place head lines e f h = ap (λ (xs : List ℕ). xs ++ lines) (h ∙ ap (λ (xs : List ℕ). xs ++ head) (f ∙ ap (λ (xs : List ℕ). xs ++ place) e))

module _ {W : Type 0} (HasTaken : W → List ℕ → Type 0) (old mid new : W) (none front pushed gathered place head lines : List ℕ) (e : none ≡ []) (f : front ≡ none ++ place) (h : pushed ≡ front ++ head) (g : IsGathered HasTaken old mid gathered [] (pushed ++ lines)) where
  all-gathered : IsGathered HasTaken old mid gathered [] (place ++ head ++ lines)
  all-gathered = subst (IsGathered HasTaken old mid gathered []) (headed none front pushed place head lines e f h) g

  pub all-printed : Took HasTaken mid gathered new → Took HasTaken old (place ++ head ++ lines) new
  all-printed k = goes-all HasTaken old mid new gathered [] gathered (place ++ head ++ lines) all-gathered (sym (append-nil gathered)) k

  pub all-stop : TookFirst HasTaken mid gathered new → TookFirst HasTaken old (place ++ head ++ lines) new
  all-stop k = stops-all HasTaken old mid new gathered [] gathered (place ++ head ++ lines) all-gathered (sym (append-nil gathered)) k

-- ---- a file that was read up to one byte more than it may have

too-large : (bytes : List ℕ) → most_bytes < length bytes → header_at bytes ≡ Err smf.TooLarge
unfolding header_at
too-large bytes h =
    let f : nat_le (length bytes) most_bytes ≡ false = grind (arith, nat_tests) in
    rw f refl

file-bounded : (bytes : List ℕ) (f : MidiFile) → IsFile bytes f → length bytes ≤ most_bytes
file-bounded bytes f w = go (cases_lt most_bytes (length bytes))
  where
    go : (most_bytes < length bytes) ⊎ (length bytes ≤ most_bytes) → length bytes ≤ most_bytes
    go (inl h) = absurd (not-both bytes f smf.TooLarge w (inl (too-large bytes h)))
    go (inr h) = h

module _ {R : Type 0} (HasLeft : R → List ℕ → Type 0) (before after : R) (read : List ℕ) (all : GaveAll HasLeft (most_bytes + 1) before read after) (f : MidiFile) (file : IsFile read f) where
  file-ended : HasLeft after []
  file-ended = go all.ended
    where
      go : HasLeft after [] ⊎ (length read ≡ most_bytes + 1) → HasLeft after []
      go (inl h) = h
      go (inr e) = absurd (omega (arith, file-bounded read f file))

  pub file-printed : (placed : Bool) (IsPrinted : List ℕ → Type 0) → IsPrinted (placed_text placed read file) → IsFileRead HasLeft before after placed IsPrinted
  file-printed placed IsPrinted k = record { read = read; gave = all.gave; ended = file-ended; bounded = file-bounded read f file; f = f; file = file; printed = k }

-- ---- what was printed of it

module _ {R W : Type 0} (HasLeft : R → List ℕ → Type 0) (HasTaken : W → List ℕ → Type 0) (before after : R) (old new : W) where
  pub all-dumped : IsFileRead HasLeft before after false (λ text. Took HasTaken old text new) → IsAllDumped HasLeft HasTaken before after old new
  all-dumped w = record {
    read = w.read;
    gave = w.gave;
    ended = w.ended;
    bounded = w.bounded;
    f = w.f;
    file = w.file;
    took = subst (λ (text : List ℕ). Took HasTaken old text new) (same-without-places w.read w.f w.file) w.printed;
  }

  pub all-dump-stops : Took HasTaken old [] new ⊎ IsFileRead HasLeft before after false (λ text. TookFirst HasTaken old text new) → IsAllDumpedInPart HasLeft HasTaken before after old new
  all-dump-stops (inl k) = inl k
  all-dump-stops (inr w) = inr (record { read = w.read; gave = w.gave; ended = w.ended; f = w.f; file = w.file; stopped = subst (λ (text : List ℕ). TookFirst HasTaken old text new) (same-without-places w.read w.f w.file) w.printed })

  pub places-dumped : IsFileRead HasLeft before after true (λ text. Took HasTaken old text new) → IsPlacesDumped HasLeft HasTaken before after old new
  places-dumped w = record { read = w.read; gave = w.gave; ended = w.ended; bounded = w.bounded; f = w.f; file = w.file; took = w.printed }

  pub places-dump-stops : Took HasTaken old [] new ⊎ IsFileRead HasLeft before after true (λ text. TookFirst HasTaken old text new) → IsPlacesDumpedInPart HasLeft HasTaken before after old new
  places-dump-stops (inl k) = inl k
  places-dump-stops (inr w) = inr (record { read = w.read; gave = w.gave; ended = w.ended; f = w.f; file = w.file; stopped = w.printed })
