-- The bytes of a message of a channel, word by word.
use Rattle.std.proofs.Common.{◌≡◌, ℕ, ◌∙◌, true, false, List, [], ◌∷◌, refl, sym, ap, arith}
use Rattle.std.specs.Prelude.{if◌then◌else◌, Option, Some, None, is_some, codes}
use Rattle.std.specs.Option.{option_map, option_and_then}
use Rattle.std.specs.Str.{bytes_eq}
use Rattle.script_text.specs.Numbers.{only_if, both, hex_byte, hex_bytes}
use Rattle.script_text.specs.Table.{word_as, no_more}
use Rattle.smf_grammar.specs.Pairs.{TrackEvent, Voice}
use Rattle.smf_grammar.specs.Seen.{is_event_sound}
use Rattle.smf_make.specs.Events.{of_bytes}
use Rattle.smf_make.specs.SaidEvents.{event_of_bytes, event_by, plain_meta_said, named_meta_said, type_named}
use Rattle.smf_make.proofs.FirstWords.{said-first}
use Rattle.smf_make.proofs.VoiceEvents.{no-voice}

-- the message with this status and those data bytes
abbrev pub voice_by : ℕ → Option (List ℕ) → Option TrackEvent
voice_by status said = option_and_then (λ data_bytes. only_if is_event_sound (Some (Voice status data_bytes))) said

-- ---- one word

none_said : (o : Option ℕ) (ws : List (List ℕ)) → option_map {U = ℕ × List (List ℕ)} (λ x. (x, ws)) o ≡ None → o ≡ None
none_said None ws e = refl
none_said (Some x) ws e = cc

bytes-first : (ws more : List (List ℕ)) (b : ℕ) → word_as hex_byte ws ≡ Some (b, more) → hex_bytes ws ≡ option_map (λ bytes. b ∷ bytes) (hex_bytes more)
bytes-first [] more b e = cc
bytes-first (w ∷ ws) more b e =
    let is = said-first (hex_byte w) b ws more e in
    ap (λ (o : Option ℕ). both (λ b bytes. b ∷ bytes) o (hex_bytes ws)) is.0
    ∙ ap (λ (vs : List (List ℕ)). option_map (λ bytes. b ∷ bytes) (hex_bytes vs)) is.1

no-bytes : (ws : List (List ℕ)) → word_as hex_byte ws ≡ None → no_more ws ≡ false → hex_bytes ws ≡ None
no-bytes [] e some = cc
no-bytes (w ∷ ws) e some = ap (λ (o : Option ℕ). both (λ b bytes. b ∷ bytes) o (hex_bytes ws)) (none_said (hex_byte w) ws e)

-- ---- the data bytes

pub no-first : (status : ℕ) (ws : List (List ℕ)) → word_as hex_byte ws ≡ None → None ≡ voice_by status (hex_bytes ws)
no-first status [] e = no-voice status [] (λ h. omega arith) (λ h. omega arith)
no-first status (w ∷ ws) e = sym (ap (voice_by status) (no-bytes (w ∷ ws) e refl))

too-many : (status first second : ℕ) (o : Option ℕ) (os : Option (List ℕ)) → None ≡ voice_by status (option_map (λ bytes. first ∷ bytes) (option_map (λ bytes. second ∷ bytes) (both (λ b bytes. b ∷ bytes) o os)))
too-many status first second None os = refl
too-many status first second (Some b) None = refl
too-many status first second (Some b) (Some bytes) = no-voice status (first ∷ second ∷ b ∷ bytes) (λ h. omega arith) (λ h. omega arith)

-- a first byte, and then a second
module _ (status first second : ℕ) (ws more rest : List (List ℕ)) (e : word_as hex_byte ws ≡ Some (first, more)) (f : word_as hex_byte more ≡ Some (second, rest)) where
  from-second : voice_by status (hex_bytes ws) ≡ voice_by status (option_map (λ bytes. first ∷ bytes) (option_map (λ bytes. second ∷ bytes) (hex_bytes rest)))
  from-second = ap (voice_by status) (bytes-first ws more first e ∙ ap (option_map (λ bytes. first ∷ bytes)) (bytes-first more rest second f))

  pub two-bytes : no_more rest ≡ true → only_if is_event_sound (Some (Voice status (first ∷ second ∷ []))) ≡ voice_by status (hex_bytes ws)
  two-bytes none = sym (from-second ∙ go rest none)
    where
      go : (rest : List (List ℕ)) → no_more rest ≡ true → voice_by status (option_map (λ bytes. first ∷ bytes) (option_map (λ bytes. second ∷ bytes) (hex_bytes rest))) ≡ only_if is_event_sound (Some (Voice status (first ∷ second ∷ [])))
      go [] none = refl
      go (w ∷ rest) none = cc

  pub three-bytes : no_more rest ≡ false → None ≡ voice_by status (hex_bytes ws)
  three-bytes some = go rest some ∙ sym from-second
    where
      go : (rest : List (List ℕ)) → no_more rest ≡ false → None ≡ voice_by status (option_map (λ bytes. first ∷ bytes) (option_map (λ bytes. second ∷ bytes) (hex_bytes rest)))
      go [] some = cc
      go (w ∷ rest) some = too-many status first second (hex_byte w) (hex_bytes rest)

-- ---- an event that begins with a byte

pub by-byte : (ws more : List (List ℕ)) (text : List ℕ) (first : ℕ) → word_as hex_byte ws ≡ Some (first, more) → event_by ws text ≡ of_bytes first (hex_bytes more)
by-byte [] more text first e = cc
by-byte (w ∷ ws) more text first e =
    let is = said-first (hex_byte w) first ws more e in
    ap (λ (o : Option ℕ). if is_some o then option_and_then event_of_bytes (both (λ b bytes. b ∷ bytes) o (hex_bytes ws)) else other) is.0
    ∙ ap (λ (vs : List (List ℕ)). option_and_then event_of_bytes (option_map (λ bytes. first ∷ bytes) (hex_bytes vs))) is.1
    ∙ go (hex_bytes more)
  where
    other : Option TrackEvent
    other = if bytes_eq w (codes "meta") then plain_meta_said ws else named_meta_said (type_named w) text

    go : (o : Option (List ℕ)) → option_and_then event_of_bytes (option_map (λ bytes. first ∷ bytes) o) ≡ of_bytes first o
    go None = refl
    go (Some bytes) = refl
