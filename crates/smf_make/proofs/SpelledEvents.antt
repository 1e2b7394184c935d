-- Lines that are printed, read back.
use Rattle.std.proofs.Common.{◌≡◌, ◌≤◌, ◌<◌, ℕ, ◌^◌, Bool, true, false, List, [], ◌∷◌, ◌++◌, append_assoc, length, map, refl, sym, ap, ◌∙◌, arith}
use Rattle.std.specs.Prelude.{if◌then◌else◌, nat_le, nat_lt, ◌==◌, ◌&&◌, Option, Some, None, is_some, codes}
use Rattle.std.specs.Fmt.{decimal}
use Rattle.std.specs.Option.{option_and_then}
use Rattle.std.specs.Str.{bytes_eq}
use Rattle.std.proofs.lemmas.Bool.{ne_eqb}
use Rattle.std.proofs.lemmas.Bool.Decides.{nat_tests}
use Rattle.midi_wire.specs.declared.status.Width.{Width}
use Rattle.midi_wire.specs.declared.status.Width.TheVariants.{One, Two}
use Rattle.midi_wire.specs.declared.status.StatusClass.{StatusClass}
use Rattle.midi_wire.specs.Messages.{is_group, is_tail, is_message, all_data}
use Rattle.midi_wire.proofs.Written.{and_true}
use Rattle.script_text.specs.Words.{words}
use Rattle.script_text.specs.Numbers.{only_if, both, u16, u64, hex_bytes}
use Rattle.script_text.specs.Scripts.{is_remark}
use Rattle.smf_grammar.specs.Chunks.{Header}
use Rattle.smf_grammar.specs.Pairs.{TrackEvent, Voice, Exclusive, Escape, Meta}
use Rattle.smf_grammar.specs.Seen.{is_voice, is_event_sound}
use Rattle.smf_grammar.specs.Written.{is_quantity, all_bytes, are_bytes, has_bytes}
use Rattle.smf_grammar.proofs.WrittenFile.{channel-begins}
use Rattle.text_forms.specs.Hex.{spaced_hex}
use Rattle.smf_text.specs.AllTexts.{hex_of, meta_text, event_text}
use Rattle.smf_make.specs.SaidEvents.{behind_word, passed_over, is_passed_over, event_of_bytes, event_by, plain_meta_said, type_named, named_meta_said, event_said, timed_by, timed_event, track_said_by, track_said, can_head, header_of_three, header_by, header_said}
use Rattle.smf_make.proofs.SpelledWords.{AreFree, IsWord, IsSpaced, words-blank, words-then, words-only, behind-then}
use Rattle.smf_make.proofs.SpelledNumbers.{is_break, up-to-decimal, word-decimal, solid-decimal, FirstDigit, decimal-first, hex-byte}
use Rattle.smf_make.proofs.SpelledBytes.{AreBytes, first-byte, free-append, spaced-words, hex-read, spaced-unbroken}
use Rattle.smf_make.proofs.SpelledMetas.{MetaReads, meta-reads}

-- ---- bytes of events

data-are-bytes : (data_bytes : List ℕ) → all_data data_bytes ≡ true → AreBytes data_bytes
data-are-bytes [] h = refl
data-are-bytes (b ∷ data_bytes) h =
    let parts = and_true (nat_lt b 128) (all_data data_bytes) h in
    let low : nat_lt b 128 ≡ true = parts.0 in
    let few : nat_lt b 256 ≡ true = grind (arith, nat_tests) in
    ap (λ (t : Bool). t && all_bytes data_bytes) few ∙ data-are-bytes data_bytes parts.1

group-bytes : (w : Width) (data_bytes : List ℕ) → is_group w data_bytes ≡ true → AreBytes data_bytes
group-bytes One data_bytes h = data-are-bytes data_bytes (and_true (length data_bytes == 1) (all_data data_bytes) h).1
group-bytes Two data_bytes h = data-are-bytes data_bytes (and_true (length data_bytes == 2) (all_data data_bytes) h).1

record VoiceBytes (status : ℕ) (payload : List ℕ) : Type 0 where
  high : 128 ≤ status
  low : status < 240
  all : AreBytes (status ∷ payload)

voice-bytes : (status : ℕ) (payload : List ℕ) → is_event_sound (Voice status payload) ≡ true → VoiceBytes status payload
voice-bytes status payload h =
    let parts = and_true (is_voice status) (is_message (status ∷ payload)) h in
    let range = and_true (nat_le 128 status) (nat_lt status 240) parts.0 in
    let high_is : nat_le 128 status ≡ true = range.0 in
    let low_is : nat_lt status 240 ≡ true = range.1 in
    let high : 128 ≤ status = grind (arith, nat_tests) in
    let low : status < 240 = grind (arith, nat_tests) in
    let few : nat_lt status 256 ≡ true = grind (arith, nat_tests) in
    let begun = channel-begins status parts.0 in
    let group : is_group begun.0 payload ≡ true = sym (ap (λ (c : StatusClass). is_tail c payload) begun.1) ∙ parts.1 in
    record { high = high; low = low; all = ap (λ (t : Bool). t && all_bytes payload) few ∙ group-bytes begun.0 payload group }

counted-bytes : (bytes : List ℕ) → are_bytes bytes ≡ true → AreBytes bytes
counted-bytes bytes h = (and_true (is_quantity (length bytes)) (all_bytes bytes) h).1

-- ---- events

-- the text of an event behind its tick
record EventReads (e : TrackEvent) : Type 0 where
  spaced : IsSpaced (event_text e)
  read : event_by (words (event_text e)) (behind_word (event_text e)) ≡ Some e
  unbroken : AreFree is_break (event_text e)

-- by its bytes
spelled-reads : (b : ℕ) (bytes : List ℕ) (e : TrackEvent) → event_of_bytes (b ∷ bytes) ≡ Some e → AreBytes (b ∷ bytes) → event_by (words (spaced_hex (b ∷ bytes))) (behind_word (spaced_hex (b ∷ bytes))) ≡ Some e
spelled-reads b bytes e of h =
    ap (λ (ws : List (List ℕ)). event_by ws (behind_word (spaced_hex (b ∷ bytes)))) (spaced-words (b ∷ bytes))
    ∙ ap (λ (o : Option ℕ). if is_some o then option_and_then event_of_bytes (hex_bytes (map hex_of (b ∷ bytes))) else (if bytes_eq (hex_of b) (codes "meta") then plain_meta_said (map hex_of bytes) else named_meta_said (type_named (hex_of b)) (behind_word (spaced_hex (b ∷ bytes))))) (hex-byte b (first-byte b bytes h).first)
    ∙ ap (option_and_then event_of_bytes) (hex-read (b ∷ bytes) h) ∙ of

voice-of : (status : ℕ) (payload : List ℕ) → is_event_sound (Voice status payload) ≡ true → status < 240 → event_of_bytes (status ∷ payload) ≡ Some (Voice status payload)
voice-of status payload h low =
    ap (λ (t : Bool). if t then Some (Exclusive payload) else (if status == 247 then Some (Escape payload) else only_if is_event_sound (Some (Voice status payload)))) (ne_eqb status 240 (λ (e : status ≡ 240). omega arith))
    ∙ ap (λ (t : Bool). if t then Some (Escape payload) else only_if is_event_sound (Some (Voice status payload))) (ne_eqb status 247 (λ (e : status ≡ 247). omega arith))
    ∙ ap (λ (t : Bool). if t then Some (Voice status payload) else None) h

event-reads : (e : TrackEvent) → is_event_sound e ≡ true → has_bytes e ≡ true → EventReads e
event-reads (Voice status payload) sound h =
    let v : VoiceBytes status payload = voice-bytes status payload sound in
    record { spaced = refl; read = spelled-reads status payload (Voice status payload) (voice-of status payload sound v.low) v.all; unbroken = spaced-unbroken (status ∷ payload) }
event-reads (Exclusive bytes) sound h = record { spaced = refl; read = spelled-reads 240 bytes (Exclusive bytes) refl (counted-bytes bytes h); unbroken = spaced-unbroken (240 ∷ bytes) }
event-reads (Escape bytes) sound h = record { spaced = refl; read = spelled-reads 247 bytes (Escape bytes) refl (counted-bytes bytes h); unbroken = spaced-unbroken (247 ∷ bytes) }
event-reads (Meta kind bytes) sound h =
    let parts = and_true (nat_lt kind 256) (are_bytes bytes) h in
    let few : nat_lt kind 256 ≡ true = parts.0 in
    let low : kind < 256 = grind (arith, nat_tests) in
    let m : MetaReads kind bytes (meta_text kind bytes) = meta-reads kind bytes low (counted-bytes bytes parts.1) in
    record {
      spaced = refl;
      read = ap (λ (ws : List (List ℕ)). event_by ws (behind_word (meta_text kind bytes))) (words-blank 32 (meta_text kind bytes) refl) ∙ m.read;
      unbroken = (refl, m.unbroken);
    }

-- ---- lines

-- a line of one's own: it is not passed over, and no byte breaks it
pub record IsLine (line : List ℕ) : Type 0 where
  pub says : is_passed_over line ≡ false
  pub unbroken : AreFree is_break line

no-remark : (w : List ℕ) → FirstDigit w → is_remark w ≡ false
no-remark w d = let low : 48 ≤ d.first = d.low in ap is_remark d.is ∙ ne_eqb d.first 35 (λ (e : d.first ≡ 35). omega arith)

pub record EventLine (tick : ℕ) (e : TrackEvent) : Type 0 where
  pub line : IsLine (decimal tick ++ event_text e)
  pub read : timed_event (decimal tick ++ event_text e) ≡ Some (tick, e)

pub event-line : (tick : ℕ) (e : TrackEvent) → tick < 2 ^ 64 → is_event_sound e ≡ true → has_bytes e ≡ true → EventLine tick e
unfolding timed_event
event-line tick e small sound h =
    let r : EventReads e = event-reads e sound h in
    let all : words (decimal tick ++ event_text e) ≡ decimal tick ∷ words (event_text e) = words-then (decimal tick) (event_text e) (word-decimal tick small) r.spaced in
    let said : event_said (event_text e) ≡ Some e = ap (only_if has_bytes) r.read ∙ ap (λ (t : Bool). if t then Some e else None) h in
    record {
      line = record {
        says = ap passed_over all ∙ no-remark (decimal tick) (decimal-first tick small);
        unbroken = free-append is_break (decimal tick) (event_text e) (solid-decimal tick small).unbroken r.unbroken;
      };
      read = ap (λ (ws : List (List ℕ)). timed_by ws (behind_word (decimal tick ++ event_text e))) all
          ∙ ap (λ (xs : List ℕ). both (λ t x. (t, x)) (u64 (decimal tick)) (event_said xs)) (behind-then (decimal tick) (event_text e) (word-decimal tick small) r.spaced)
          ∙ ap (λ (o : Option ℕ). both (λ t x. (t, x)) o (event_said (event_text e))) (up-to-decimal 18446744073709551615 tick small (omega arith))
          ∙ ap (both (λ t x. (t, x)) (Some tick)) said;
    }

-- ---- the line of a track

pub record TrackLine (k : ℕ) : Type 0 where
  pub line : IsLine (codes "track " ++ decimal k)
  pub read : track_said (codes "track " ++ decimal k) ≡ Some k

word-behind : (name rest : List ℕ) → IsWord name → words (name ++ 32 ∷ rest) ≡ name ∷ words rest
word-behind name rest is = words-then name (32 ∷ rest) is refl ∙ ap (λ (ws : List (List ℕ)). name ∷ ws) (words-blank 32 rest refl)

pub track-line : (k : ℕ) → k ≤ 65535 → TrackLine k
unfolding track_said
track-line k few =
    let small : k < 2 ^ 64 = omega arith in
    let is : IsWord (codes "track") = record { some = refl; solid = (refl, (refl, (refl, (refl, (refl, tt))))) } in
    let all : words (codes "track " ++ decimal k) ≡ codes "track" ∷ decimal k ∷ [] = word-behind (codes "track") (decimal k) is ∙ ap (λ (ws : List (List ℕ)). codes "track" ∷ ws) (words-only (decimal k) (word-decimal k small)) in
    record {
      line = record { says = ap passed_over all; unbroken = (refl, (refl, (refl, (refl, (refl, (refl, (solid-decimal k small).unbroken)))))) };
      read = ap track_said_by all ∙ up-to-decimal 65535 k small few;
    }

-- ---- the line of the header

abbrev pub header_line : Header → List ℕ
header_line h = codes "format " ++ decimal h.format ++ codes " tracks " ++ decimal h.tracks ++ codes " division " ++ decimal h.division

pub record HeaderLine (h : Header) : Type 0 where
  pub line : IsLine (header_line h)
  pub read : header_said (header_line h) ≡ Some h

header-words : (f t d : ℕ) → f < 2 ^ 64 → t < 2 ^ 64 → d < 2 ^ 64 → words (codes "format " ++ decimal f ++ codes " tracks " ++ decimal t ++ codes " division " ++ decimal d) ≡ codes "format" ∷ decimal f ∷ codes "tracks" ∷ decimal t ∷ codes "division" ∷ decimal d ∷ []
header-words f t d a b c =
    let format_word : IsWord (codes "format") = record { some = refl; solid = (refl, (refl, (refl, (refl, (refl, (refl, tt)))))) } in
    let tracks_word : IsWord (codes "tracks") = record { some = refl; solid = (refl, (refl, (refl, (refl, (refl, (refl, tt)))))) } in
    let division_word : IsWord (codes "division") = record { some = refl; solid = (refl, (refl, (refl, (refl, (refl, (refl, (refl, (refl, tt)))))))) } in
    let last : words (codes "division" ++ 32 ∷ decimal d) ≡ codes "division" ∷ decimal d ∷ [] = word-behind (codes "division") (decimal d) division_word ∙ ap (λ (ws : List (List ℕ)). codes "division" ∷ ws) (words-only (decimal d) (word-decimal d c)) in
    let second : words (codes "tracks" ++ 32 ∷ (decimal t ++ 32 ∷ (codes "division" ++ 32 ∷ decimal d))) ≡ codes "tracks" ∷ decimal t ∷ codes "division" ∷ decimal d ∷ [] =
    word-behind (codes "tracks") (decimal t ++ 32 ∷ (codes "division" ++ 32 ∷ decimal d)) tracks_word
    ∙ ap (λ (ws : List (List ℕ)). codes "tracks" ∷ ws) (word-behind (decimal t) (codes "division" ++ 32 ∷ decimal d) (word-decimal t b) ∙ ap (λ (ws : List (List ℕ)). decimal t ∷ ws) last) in
    let first : words (codes "format" ++ 32 ∷ (decimal f ++ 32 ∷ (codes "tracks" ++ 32 ∷ (decimal t ++ 32 ∷ (codes "division" ++ 32 ∷ decimal d))))) ≡ codes "format" ∷ decimal f ∷ codes "tracks" ∷ decimal t ∷ codes "division" ∷ decimal d ∷ [] =
    word-behind (codes "format") (decimal f ++ 32 ∷ (codes "tracks" ++ 32 ∷ (decimal t ++ 32 ∷ (codes "division" ++ 32 ∷ decimal d)))) format_word
    ∙ ap (λ (ws : List (List ℕ)). codes "format" ∷ ws) (word-behind (decimal f) (codes "tracks" ++ 32 ∷ (decimal t ++ 32 ∷ (codes "division" ++ 32 ∷ decimal d))) (word-decimal f a) ∙ ap (λ (ws : List (List ℕ)). decimal f ∷ ws) second) in
    ap words (append_assoc (codes "format " ++ decimal f ++ codes " tracks " ++ decimal t) (codes " division ") (decimal d)
    ∙ append_assoc (codes "format " ++ decimal f ++ codes " tracks ") (decimal t) (codes " division " ++ decimal d)
    ∙ append_assoc (codes "format " ++ decimal f) (codes " tracks ") (decimal t ++ (codes " division " ++ decimal d))
    ∙ append_assoc (codes "format ") (decimal f) (codes " tracks " ++ (decimal t ++ (codes " division " ++ decimal d)))) ∙ first

pub header-line : (h : Header) → h.format ≤ 65535 → h.tracks ≤ 65535 → h.division ≤ 65535 → can_head h ≡ true → HeaderLine h
unfolding header_said
header-line h a b c can =
    let f : ℕ = h.format in
    let small : (n : ℕ) → n ≤ 65535 → n < 2 ^ 64 = λ n few. omega arith in
    let all = header-words h.format h.tracks h.division (small h.format a) (small h.tracks b) (small h.division c) in
    let first : AreFree is_break (codes "format " ++ decimal h.format) = (refl, (refl, (refl, (refl, (refl, (refl, (refl, (solid-decimal h.format (small h.format a)).unbroken))))))) in
    let second : AreFree is_break (codes "format " ++ decimal h.format ++ codes " tracks ") = free-append is_break (codes "format " ++ decimal h.format) (codes " tracks ") first (refl, (refl, (refl, (refl, (refl, (refl, (refl, (refl, tt)))))))) in
    let third : AreFree is_break (codes "format " ++ decimal h.format ++ codes " tracks " ++ decimal h.tracks) = free-append is_break (codes "format " ++ decimal h.format ++ codes " tracks ") (decimal h.tracks) second (solid-decimal h.tracks (small h.tracks b)).unbroken in
    let fourth : AreFree is_break (codes "format " ++ decimal h.format ++ codes " tracks " ++ decimal h.tracks ++ codes " division ") = free-append is_break (codes "format " ++ decimal h.format ++ codes " tracks " ++ decimal h.tracks) (codes " division ") third (refl, (refl, (refl, (refl, (refl, (refl, (refl, (refl, (refl, (refl, tt)))))))))) in
    record {
      line = record { says = ap passed_over all; unbroken = free-append is_break (codes "format " ++ decimal h.format ++ codes " tracks " ++ decimal h.tracks ++ codes " division ") (decimal h.division) fourth (solid-decimal h.division (small h.division c)).unbroken };
      read = ap header_by all
          ∙ ap (λ (o : Option ℕ). only_if can_head (header_of_three o (u16 (decimal h.tracks)) (u16 (decimal h.division)))) (up-to-decimal 65535 h.format (small h.format a) a)
          ∙ ap (λ (o : Option ℕ). only_if can_head (header_of_three (Some h.format) o (u16 (decimal h.division)))) (up-to-decimal 65535 h.tracks (small h.tracks b) b)
          ∙ ap (λ (o : Option ℕ). only_if can_head (header_of_three (Some h.format) (Some h.tracks) o)) (up-to-decimal 65535 h.division (small h.division c) c)
          ∙ ap (λ (t : Bool). if t then Some h else None) can;
    }
