-- What lines say can stand in a file.
use Rattle.std.proofs.Common.{◌≡◌, ℕ, Bool, true, false, List, [], ◌∷◌, refl, sym, ap, ◌∙◌}
use Rattle.std.specs.Prelude.{if◌then◌else◌, ◌==◌, ◌&&◌, Option, Some, None, is_some, codes}
use Rattle.std.specs.Option.{option_map, option_and_then}
use Rattle.std.specs.Str.{bytes_eq}
use Rattle.script_text.specs.Numbers.{only_if, both, u16, u64, hex_byte, hex_bytes}
use Rattle.script_text.specs.Words.{words}
use Rattle.smf_grammar.specs.Chunks.{Header}
use Rattle.smf_grammar.specs.Pairs.{TrackEvent, Voice, Exclusive, Escape, Meta}
use Rattle.smf_grammar.specs.Seen.{is_event_sound}
use Rattle.smf_grammar.specs.Written.{has_bytes}
use Rattle.smf_text.specs.AllTexts.{Shape}
use Rattle.smf_make.specs.SaidEvents.{behind_word, shape_said, type_named, named_meta_said, plain_meta_said, event_of_bytes, event_by, event_said, timed_by, timed_event, can_head, header_of_three, header_by, header_said}

-- ---- what passes a test

pub record Passes {A : Type 0} (test : A → Bool) (o : Option A) (x : A) : Type 0 where
  pub is : o ≡ Some x
  pub passes : test x ≡ true

pub passes-test : {A : Type 0} (test : A → Bool) (o : Option A) (x : A) → only_if test o ≡ Some x → Passes test o x
passes-test test None x e = let bad : ⊥ = cc in absurd bad
passes-test test (Some y) x e = go (test y) refl e
  where
    go : (t : Bool) → test y ≡ t → (if t then Some y else None) ≡ Some x → Passes test (Some y) x
    go true is found = let same : y ≡ x = cc in record { is = found; passes = sym (ap test same) ∙ is }
    go false is found = let bad : ⊥ = cc in absurd bad

-- ---- events

abbrev AllSound : Option TrackEvent → Type 0
AllSound o = (e : TrackEvent) → o ≡ Some e → is_event_sound e ≡ true

sound-none : AllSound None
sound-none e is = let bad : ⊥ = cc in absurd bad

sound-some : (x : TrackEvent) → is_event_sound x ≡ true → AllSound (Some x)
sound-some x h e is = let same : x ≡ e = cc in sym (ap is_event_sound same) ∙ h

sound-if : (t : Bool) (a b : Option TrackEvent) → AllSound a → AllSound b → AllSound (if t then a else b)
sound-if true a b h k = h
sound-if false a b h k = k

sound-then : {A : Type 0} (f : A → Option TrackEvent) (o : Option A) → ((x : A) → AllSound (f x)) → AllSound (option_and_then f o)
sound-then f None h = sound-none
sound-then f (Some x) h = h x

sound-meta : (kind : ℕ) (o : Option (List ℕ)) → AllSound (option_map (Meta kind) o)
sound-meta kind None = sound-none
sound-meta kind (Some bytes) = sound-some (Meta kind bytes) refl

sound-plain : (kind : Option ℕ) (o : Option (List ℕ)) → AllSound (both Meta kind o)
sound-plain None o = sound-none
sound-plain (Some kind) o = sound-meta kind o

sound-of : (bytes : List ℕ) → AllSound (event_of_bytes bytes)
sound-of [] = sound-none
sound-of (b ∷ bytes) =
    sound-if (b == 240) _ _ (sound-some (Exclusive bytes) refl)
    (sound-if (b == 247) _ _ (sound-some (Escape bytes) refl) (λ e is. (passes-test is_event_sound (Some (Voice b bytes)) e is).passes))

sound-named : (found : Option (ℕ × Shape)) (text : List ℕ) → AllSound (named_meta_said found text)
sound-named None text = sound-none
sound-named (Some found) text = sound-meta found.0 (shape_said found.1 text)

sound-words : (ws : List (List ℕ)) → AllSound (plain_meta_said ws)
sound-words [] = sound-none
sound-words (w ∷ ws) = sound-plain (hex_byte w) (hex_bytes ws)

sound-by : (ws : List (List ℕ)) (text : List ℕ) → AllSound (event_by ws text)
sound-by [] text = sound-none
sound-by (w ∷ ws) text =
    sound-if (is_some (hex_byte w)) _ _ (sound-then event_of_bytes (hex_bytes (w ∷ ws)) sound-of)
    (sound-if (bytes_eq w (codes "meta")) _ _ (sound-words ws) (sound-named (type_named w) text))

pub record CanBeWritten (e : TrackEvent) : Type 0 where
  pub sound : is_event_sound e ≡ true
  pub counted : has_bytes e ≡ true

pub timed-sound : (line : List ℕ) (tick : ℕ) (e : TrackEvent) → timed_event line ≡ Some (tick, e) → CanBeWritten e
unfolding timed_event
timed-sound line tick e h = go (words line) h
  where
    said : (text : List ℕ) → event_said text ≡ Some e → CanBeWritten e
    said text k = let p : Passes has_bytes (event_by (words text) (behind_word text)) e = passes-test has_bytes (event_by (words text) (behind_word text)) e k in record { sound = sound-by (words text) (behind_word text) e p.is; counted = p.passes }

    timed : (t : Option ℕ) (o : Option TrackEvent) → both {C = ℕ × TrackEvent} (λ x y. (x, y)) t o ≡ Some (tick, e) → o ≡ Some e
    timed None o k = let bad : ⊥ = cc in absurd bad
    timed (Some x) None k = let bad : ⊥ = cc in absurd bad
    timed (Some x) (Some y) k = let pair : ◌≡◌ {A = ℕ × TrackEvent} (x, y) (tick, e) = cc in ap (λ (z : ℕ × TrackEvent). Some z.1) pair

    go : (ws : List (List ℕ)) → timed_by ws (behind_word line) ≡ Some (tick, e) → CanBeWritten e
    go [] k = let bad : ⊥ = cc in absurd bad
    go (w ∷ ws) k = said (behind_word line) (timed (u64 w) (event_said (behind_word line)) k)

-- ---- headers

head-by : (ws : List (List ℕ)) (h : Header) → header_by ws ≡ Some h → can_head h ≡ true
head-by [] h e = let bad : ⊥ = cc in absurd bad
head-by (a ∷ []) h e = let bad : ⊥ = cc in absurd bad
head-by (a ∷ b ∷ []) h e = let bad : ⊥ = cc in absurd bad
head-by (a ∷ b ∷ c ∷ []) h e = let bad : ⊥ = cc in absurd bad
head-by (a ∷ b ∷ c ∷ d ∷ []) h e = let bad : ⊥ = cc in absurd bad
head-by (a ∷ b ∷ c ∷ d ∷ f ∷ []) h e = let bad : ⊥ = cc in absurd bad
head-by (a ∷ b ∷ c ∷ d ∷ f ∷ g ∷ []) h e = go (bytes_eq a (codes "format") && (bytes_eq c (codes "tracks") && bytes_eq f (codes "division"))) e
  where
    go : (t : Bool) → (if t then only_if can_head (header_of_three (u16 b) (u16 d) (u16 g)) else None) ≡ Some h → can_head h ≡ true
    go true k = (passes-test can_head (header_of_three (u16 b) (u16 d) (u16 g)) h k).passes
    go false k = let bad : ⊥ = cc in absurd bad
head-by (a ∷ b ∷ c ∷ d ∷ f ∷ g ∷ i ∷ ws) h e = let bad : ⊥ = cc in absurd bad

pub said-head : (line : List ℕ) (h : Header) → header_said line ≡ Some h → can_head h ≡ true
unfolding header_said
said-head line h e = head-by (words line) h e
