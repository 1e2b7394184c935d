-- A stream that is read and written back in pieces.
use Rattle.std.proofs.Common.{◌≡◌, ℕ, ◌+◌, ◌<◌, ◌++◌, ◌∙◌, false, List, [], ◌∷◌, length, take, get_or, Option, None, refl, sym, ap, subst, append_assoc}
use Rattle.std.specs.Prelude.{codes}
use Rattle.std.proofs.lemmas.List.{take_more}
use Rattle.byte_io.specs.Moved.{Took}
use Rattle.midi_wire.specs.Parsing.{Parsing}
use Rattle.midi_wire.specs.Readings.{reading, rest}
use Rattle.midi_wire.specs.Writings.{wire_bytes, written_after, status_after, status_after_all, status_in_force}
use Rattle.midi_wire.proofs.Settled.{reads-in-two, rests-in-two}
use Rattle.midi_wire.proofs.WrittenInTwo.{writes-in-two, status_after_all-snoc}
use Rattle.text_forms.specs.Hex.{spaced_hex, hex_line}
use Rattle.tool_text.specs.Gathered.{IsGathered, TookFirst}
use Rattle.tool_text.specs.Stream.{message_lines, IsRendered, IsRenderedInPart}
use Rattle.tool_text.specs.Wire.{written_line, wire_ending, wire_text, IsCopied}
use Rattle.tool_text.proofs.Passed.{rendered_behind, stops_behind}
use Rattle.tool_text.proofs.Pieces.{goes-none}

-- ---- messages written one by one

next_taken : (ms : List (List ℕ)) (i : ℕ) (m : List ℕ) → i < length ms → m ≡ get_or ms i m → take (i + 1) ms ≡ take i ms ++ m ∷ []
next_taken ms i m l e = take_more ms i m l ∙ ap (λ x. take i ms ++ x ∷ []) (sym e)

pub next_written : (q s : Option ℕ) (ms : List (List ℕ)) (i : ℕ) (m : List ℕ) (old mid new : List ℕ) → i < length ms → m ≡ get_or ms i m → mid ≡ old ++ written_after q (take i ms) → s ≡ status_after_all q (take i ms) →
    new ≡ mid ++ written_after s (m ∷ []) → new ≡ old ++ written_after q (take (i + 1) ms)
next_written q s ms i m old mid new l e b f g =
    g
    ∙ ap (λ xs. xs ++ written_after s (m ∷ [])) b
    ∙ append_assoc old (written_after q (take i ms)) (written_after s (m ∷ []))
    ∙ ap (λ r. old ++ (written_after q (take i ms) ++ written_after r (m ∷ []))) f
    ∙ ap (λ xs. old ++ xs) (sym (writes-in-two q (take i ms) (m ∷ [])))
    ∙ ap (λ ns. old ++ written_after q ns) (sym (next_taken ms i m l e))

pub next_status : (q s s' : Option ℕ) (ms : List (List ℕ)) (i : ℕ) (m : List ℕ) → i < length ms → m ≡ get_or ms i m → s ≡ status_after_all q (take i ms) → s' ≡ status_after s m → s' ≡ status_after_all q (take (i + 1) ms)
next_status q s s' ms i m l e f g = g ∙ ap (λ r. status_after r m) f ∙ sym (status_after_all-snoc q (take i ms) m) ∙ ap (status_after_all q) (sym (next_taken ms i m l e))

-- ---- a stream in pieces

status_after_all-append : (q : Option ℕ) (ms ns : List (List ℕ)) → status_after_all q (ms ++ ns) ≡ status_after_all (status_after_all q ms) ns
status_after_all-append q [] ns = refl
status_after_all-append q (m ∷ ms) ns = status_after_all-append (status_after q m) ms ns

pub nothing_copied : (parsing : Parsing) (status : Option ℕ) (back : List ℕ) → parsing ≡ record { rest = []; failed = false } → status ≡ None → back ≡ [] → IsCopied parsing status back []
unfolding reading rest
nothing_copied parsing status back p s b = record { parsed = p; in_force = s; written_back = b }

pub one_more_copied : (parsing parsing' : Parsing) (status status' : Option ℕ) (back back' read piece : List ℕ) → IsCopied parsing status back read →
    parsing' ≡ record { rest = rest (parsing.rest ++ piece); failed = false } → status' ≡ status_after_all status (reading (parsing.rest ++ piece)) → back' ≡ back ++ written_after status (reading (parsing.rest ++ piece)) →
    IsCopied parsing' status' back' (read ++ piece)
one_more_copied parsing parsing' status status' back back' read piece c p s b =
    let before : parsing.rest ≡ rest read = ap (λ (x : Parsing). x.rest) c.parsed in
    let more : List (List ℕ) = reading (parsing.rest ++ piece) in
    let whole : reading (read ++ piece) ≡ reading read ++ more = reads-in-two read piece ∙ ap (λ r. reading read ++ reading (r ++ piece)) (sym before) in
    let parsing_at : List ℕ → Parsing = λ r. record { rest = r; failed = false } in
    record {
      parsed = p ∙ ap (λ r. parsing_at (rest (r ++ piece))) before ∙ ap parsing_at (sym (rests-in-two read piece));
      in_force = s ∙ ap (λ q. status_after_all q more) c.in_force ∙ sym (status_after_all-append None (reading read) more) ∙ ap status_in_force (sym whole);
      written_back = b ∙ ap (λ xs. xs ++ written_after status more) c.written_back ∙ ap (λ q. wire_bytes (reading read) ++ written_after q more) c.in_force ∙ sym (writes-in-two None (reading read) more) ∙ ap wire_bytes (sym whole);
    }

-- ---- the last line

-- the line is begun
pub line_begun : {W : Type 0} (HasTaken : W → List ℕ → Type 0) (written : List ℕ) (old : W) (none text : List ℕ) → none ≡ [] → text ≡ none ++ codes "written" → IsGathered HasTaken old old text (spaced_hex written ++ 10 ∷ []) (written_line written)
line_begun HasTaken written old none text e h =
    let whole : text ++ (spaced_hex written ++ 10 ∷ []) ≡ written_line written =
    ap (λ xs. xs ++ (spaced_hex written ++ 10 ∷ [])) (h ∙ ap (λ xs. xs ++ codes "written") e) ∙ sym (append_assoc (codes "written") (spaced_hex written) (10 ∷ [])) in
    subst (IsGathered HasTaken old old text (spaced_hex written ++ 10 ∷ [])) whole (goes-none HasTaken old text (spaced_hex written ++ 10 ∷ []))

-- it stands behind the lines of the messages
module _ {R W : Type 0} (HasLeft : R → List ℕ → Type 0) (HasTaken : W → List ℕ → Type 0) (before after : R) (old mid new : W) (back : List ℕ) (i : IsRendered HasLeft HasTaken (message_lines hex_line) before after old mid) (b : back ≡ wire_bytes (reading i.read)) where
  pub all_copied : Took HasTaken mid (written_line back) new → IsRendered HasLeft HasTaken wire_text before after old new
  all_copied k = rendered_behind HasLeft HasTaken (message_lines hex_line) wire_ending before after old mid new i (subst (λ (xs : List ℕ). Took HasTaken mid (written_line xs) new) b k)

  pub copied_short : TookFirst HasTaken mid (written_line back) new → IsRenderedInPart HasLeft HasTaken wire_text before after old new
  copied_short s = stops_behind HasLeft HasTaken (message_lines hex_line) wire_ending before after old mid new i (subst (λ (xs : List ℕ). TookFirst HasTaken mid (written_line xs) new) b s)
