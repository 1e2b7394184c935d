-- What a Standard MIDI File says, gathered and written piece by piece.
use Rattle.std.proofs.Common.{◌≡◌, ℕ, List, [], ◌∷◌, ◌++◌, ◌∙◌, ap, sym, subst, append_assoc}
use Rattle.std.specs.List.{flat_map}
use Rattle.byte_io.specs.Moved.{Took}
use Rattle.smf_grammar.specs.Files.{MidiFile}
use Rattle.smf_grammar.specs.declared.event.Event.{Event}
use Rattle.tempo_clock.specs.declared.entry.TempoEntry.{TempoEntry}
use Rattle.smf_grammar.specs.Contents.{entries_of, events_of, skipped_of}
use Rattle.tool_text.specs.Dump.{head_line, tempo_line, event_line, skipped_line, dump_of}
use Rattle.tool_text.specs.Gathered.{IsGathered, TookFirst}
use Rattle.tool_text.proofs.Pieces.{goes-none, goes-more, stops-more, goes-all, stops-all}

-- ---- the parts of a dump

abbrev tempos : MidiFile → List ℕ
tempos f = flat_map tempo_line (entries_of f)

abbrev events : MidiFile → List ℕ
events f = flat_map event_line (events_of f)

abbrev last : MidiFile → List ℕ
last f = skipped_line (skipped_of f)

regroup : (a b c d : List ℕ) → a ++ (b ++ (c ++ d)) ≡ ((a ++ b) ++ c) ++ d
regroup a b c d = sym (append_assoc a b (c ++ d)) ∙ sym (append_assoc (a ++ b) c d)

module _ {W : Type 0} (HasTaken : W → List ℕ → Type 0) where
  -- ---- one more event

  pub goes-event : (e : Event) (es es' : List Event) (old mid new : W) (text pushed left all : List ℕ) → es ≡ e ∷ es' → IsGathered HasTaken old mid text (flat_map event_line es) all →
      pushed ≡ text ++ event_line e → IsGathered HasTaken mid new left [] pushed → IsGathered HasTaken old new left (flat_map event_line es') all
  goes-event e es es' old mid new text pushed left all is g p k =
      goes-more HasTaken old mid new text pushed left (event_line e) (flat_map event_line es') all (subst (λ (xs : List Event). IsGathered HasTaken old mid text (flat_map event_line xs) all) is g) p k

  pub stops-event : (e : Event) (es es' : List Event) (old mid new : W) (text pushed all : List ℕ) → es ≡ e ∷ es' → IsGathered HasTaken old mid text (flat_map event_line es) all →
      pushed ≡ text ++ event_line e → TookFirst HasTaken mid pushed new → TookFirst HasTaken old all new
  stops-event e es es' old mid new text pushed all is g p k =
      stops-more HasTaken old mid new text pushed (event_line e) (flat_map event_line es') all (subst (λ (xs : List Event). IsGathered HasTaken old mid text (flat_map event_line xs) all) is g) p k

  -- ---- one part after another

  module _ (f : MidiFile) where
    pub head-printed : (old : W) (none text : List ℕ) → none ≡ [] → text ≡ none ++ head_line f → IsGathered HasTaken old old text (tempos f ++ (events f ++ last f)) (dump_of f)
    head-printed old none text e h =
        let whole : text ++ (tempos f ++ (events f ++ last f)) ≡ dump_of f =
        ap (λ (xs : List ℕ). xs ++ (tempos f ++ (events f ++ last f))) (h ∙ ap (λ (xs : List ℕ). xs ++ head_line f) e) ∙ regroup (head_line f) (tempos f) (events f) (last f) in
        subst (IsGathered HasTaken old old text (tempos f ++ (events f ++ last f))) whole (goes-none HasTaken old text (tempos f ++ (events f ++ last f)))

    pub tempos-printed : (old mid new : W) (text left : List ℕ) (entries : List TempoEntry) → IsGathered HasTaken old mid text (tempos f ++ (events f ++ last f)) (dump_of f) → entries ≡ entries_of f →
        IsGathered HasTaken mid new left [] (text ++ flat_map tempo_line entries) → IsGathered HasTaken old new left (events f ++ last f) (dump_of f)
    tempos-printed old mid new text left entries g e h =
        goes-more HasTaken old mid new text (text ++ flat_map tempo_line entries) left (tempos f) (events f ++ last f) (dump_of f) g (ap (λ (xs : List TempoEntry). text ++ flat_map tempo_line xs) e) h

    pub tempos-stop : (old mid new : W) (text : List ℕ) (entries : List TempoEntry) → IsGathered HasTaken old mid text (tempos f ++ (events f ++ last f)) (dump_of f) → entries ≡ entries_of f →
        TookFirst HasTaken mid (text ++ flat_map tempo_line entries) new → TookFirst HasTaken old (dump_of f) new
    tempos-stop old mid new text entries g e h =
        stops-more HasTaken old mid new text (text ++ flat_map tempo_line entries) (tempos f) (events f ++ last f) (dump_of f) g (ap (λ (xs : List TempoEntry). text ++ flat_map tempo_line xs) e) h

    pub events-printed : (old mid new : W) (text left : List ℕ) (es : List Event) → IsGathered HasTaken old mid text (events f ++ last f) (dump_of f) → es ≡ events_of f →
        IsGathered HasTaken mid new left [] (text ++ flat_map event_line es) → IsGathered HasTaken old new left (last f) (dump_of f)
    events-printed old mid new text left es g e h =
        goes-more HasTaken old mid new text (text ++ flat_map event_line es) left (events f) (last f) (dump_of f) g (ap (λ (xs : List Event). text ++ flat_map event_line xs) e) h

    pub events-stop : (old mid new : W) (text : List ℕ) (es : List Event) → IsGathered HasTaken old mid text (events f ++ last f) (dump_of f) → es ≡ events_of f →
        TookFirst HasTaken mid (text ++ flat_map event_line es) new → TookFirst HasTaken old (dump_of f) new
    events-stop old mid new text es g e h =
        stops-more HasTaken old mid new text (text ++ flat_map event_line es) (events f) (last f) (dump_of f) g (ap (λ (xs : List Event). text ++ flat_map event_line xs) e) h

    pub all-printed : (old mid new : W) (text whole : List ℕ) (skipped : ℕ) → IsGathered HasTaken old mid text (last f) (dump_of f) → skipped ≡ skipped_of f → whole ≡ text ++ skipped_line skipped →
        Took HasTaken mid whole new → Took HasTaken old (dump_of f) new
    all-printed old mid new text whole skipped g e h k = goes-all HasTaken old mid new text (last f) whole (dump_of f) g (h ∙ ap (λ (n : ℕ). text ++ skipped_line n) e) k

    pub all-stop : (old mid new : W) (text whole : List ℕ) (skipped : ℕ) → IsGathered HasTaken old mid text (last f) (dump_of f) → skipped ≡ skipped_of f → whole ≡ text ++ skipped_line skipped →
        TookFirst HasTaken mid whole new → TookFirst HasTaken old (dump_of f) new
    all-stop old mid new text whole skipped g e h k = stops-all HasTaken old mid new text (last f) whole (dump_of f) g (h ∙ ap (λ (n : ℕ). text ++ skipped_line n) e) k
