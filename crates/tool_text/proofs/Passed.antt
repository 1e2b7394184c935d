-- A stream that is read in pieces and printed as it comes.
use Rattle.std.proofs.Common.{◌≡◌, ℕ, ◌+◌, ◌-◌, ◌≤◌, ◌++◌, ◌∙◌, List, [], length, take, refl, sym, ap, subst, arith, append_assoc, append-nil, length-append}
use Rattle.std.specs.List.{flat_map}
use Rattle.std.proofs.lemmas.List.{length-take, length-take-le, take-append-le}
use Rattle.std.proofs.lemmas.List.Concat.{flat_map-append}
use Rattle.byte_io.specs.Moved.{Gave, GaveSome, Took}
use Rattle.byte_io.proofs.Moved.{gave_none, gave_more, read_nothing, took_none, took_more}
use Rattle.midi_wire.specs.Readings.{reading, rest}
use Rattle.midi_wire.proofs.Settled.{reads-in-two}
use Rattle.tool_text.specs.Gathered.{TookFirst}
use Rattle.tool_text.specs.Stream.{message_lines, IsRenderedUpTo, IsPassed, IsRenderedInPart, IsRenderedSoFar, GaveMoreThan}

-- The reads gave these bytes, a printer was fed them, and the lines for them were written.
pub record Passed {R W : Type 0} (most : ℕ) (HasLeft : R → List ℕ → Type 0) (HasTaken : W → List ℕ → Type 0) (WasFed : List ℕ → Type 0) (lines : List ℕ → List ℕ) (first now : R) (old new : W) (room : ℕ) : Type 0 where
  pub read : List ℕ
  pub fed : WasFed read
  pub gave : Gave HasLeft first read now
  pub counted : length read + room ≡ most
  pub written : Took HasTaken old (lines read) new

-- what a read gave, found at the beginning of the whole buffer
read_here : {R : Type 0} (HasLeft : R → List ℕ → Type 0) (s t : R) (window behind : List ℕ) (n : ℕ) → n ≤ length window → Gave HasLeft s (take n window) t → Gave HasLeft s (take n (window ++ behind)) t
read_here HasLeft s t window behind n h g = subst (λ (xs : List ℕ). Gave HasLeft s xs t) (sym (take-append-le n window behind h)) g

length_here : (window behind : List ℕ) (n : ℕ) → n ≤ length window → length (take n (window ++ behind)) ≡ n
length_here window behind n h = ap length (take-append-le n window behind h) ∙ length-take-le n window h

module _ {R W : Type 0} (HasLeft : R → List ℕ → Type 0) (HasTaken : W → List ℕ → Type 0) where
  module _ {most : ℕ} (WasFed : List ℕ → Type 0) (lines : List ℕ → List ℕ) (first now after : R) (old new : W) (room : ℕ) (p : Passed most HasLeft HasTaken WasFed lines first now old new room) where
    -- ---- where it goes on

    pub passed_more : (WasFed' : List ℕ → Type 0) (new' : W) (window behind added : List ℕ) (n : ℕ) → ((read : List ℕ) → WasFed read → WasFed' (read ++ take n (window ++ behind))) →
        ((read : List ℕ) → WasFed read → lines (read ++ take n (window ++ behind)) ≡ lines read ++ added) → n ≤ length window → n ≤ room → Gave HasLeft now (take n window) after → Took HasTaken new added new' →
        Passed most HasLeft HasTaken WasFed' lines first after old new' (room - n)
    passed_more WasFed' new' window behind added n f t h few g k =
        let piece : List ℕ = take n (window ++ behind) in
        record {
          read = p.read ++ piece;
          fed = f p.read p.fed;
          gave = gave_more HasLeft first now after p.read piece p.gave (read_here HasLeft now after window behind n h g);
          counted = omega (arith, length-append p.read piece, length_here window behind n h, p.counted);
          written = subst (λ (xs : List ℕ). Took HasTaken old xs new') (sym (t p.read p.fed)) (took_more HasTaken old new new' (lines p.read) added p.written k);
        }

    -- ---- where it ends

    pub all_passed : (buffer : List ℕ) (n : ℕ) → Gave HasLeft now (take n buffer) after → n ≡ 0 → HasLeft after [] → IsPassed most HasLeft HasTaken WasFed lines first after old new
    all_passed buffer n g z none = record {
      rendered = record {
        read = p.read;
        gave = read_nothing HasLeft first now after p.read buffer n p.gave g z;
        ended = none;
        bounded = omega (arith, p.counted);
        took = p.written;
      };
      fed = p.fed;
    }

    -- ---- where it stops

    pub stops : (last : List ℕ) → Gave HasLeft now last after → IsRenderedInPart HasLeft HasTaken lines first after old new
    stops last g = record {
      read = p.read;
      last = last;
      gave = gave_more HasLeft first now after p.read last p.gave g;
      written = lines p.read;
      missing = [];
      took = p.written;
      front = sym (append-nil (lines p.read));
    }

    pub so_far : Gave HasLeft now [] after → IsRenderedSoFar HasLeft HasTaken lines first after old new
    so_far g = record {
      read = p.read;
      gave = subst (λ (xs : List ℕ). Gave HasLeft first xs after) (append-nil p.read) (gave_more HasLeft first now after p.read [] p.gave g);
      took = p.written;
    }

    pub stops_within : (new' : W) (window behind added : List ℕ) (n : ℕ) → ((read : List ℕ) → WasFed read → lines (read ++ take n (window ++ behind)) ≡ lines read ++ added) → n ≤ length window → Gave HasLeft now (take n window) after →
        TookFirst HasTaken new added new' → IsRenderedInPart HasLeft HasTaken lines first after old new'
    stops_within new' window behind added n t h g s =
        let piece : List ℕ = take n (window ++ behind) in
        record {
          read = p.read ++ piece;
          last = [];
          gave = subst (λ (xs : List ℕ). Gave HasLeft first xs after) (sym (append-nil (p.read ++ piece))) (gave_more HasLeft first now after p.read piece p.gave (read_here HasLeft now after window behind n h g));
          written = lines p.read ++ s.gained;
          missing = s.missing;
          took = took_more HasTaken old new new' (lines p.read) s.gained p.written s.took;
          front = t p.read p.fed ∙ ap (λ (xs : List ℕ). lines p.read ++ xs) s.whole ∙ sym (append_assoc (lines p.read) s.gained s.missing);
        }

    -- ---- how many bytes came

    pub gave_few : (buffer : List ℕ) (n : ℕ) → Gave HasLeft now (take n buffer) after → n ≤ room + 1 → GaveSome HasLeft (most + 1) first after
    gave_few buffer n g few = record {
      given = p.read ++ take n buffer;
      gave = gave_more HasLeft first now after p.read (take n buffer) p.gave g;
      within = omega (arith, length-append p.read (take n buffer), length-take n buffer, p.counted);
    }

    pub gave_too_many : (buffer : List ℕ) (n : ℕ) → Gave HasLeft now (take n buffer) after → n ≤ length buffer → n ≡ room + 1 → GaveMoreThan most HasLeft first after
    gave_too_many buffer n g here many = record {
      given = p.read ++ take n buffer;
      gave = gave_more HasLeft first now after p.read (take n buffer) p.gave g;
      more = omega (arith, length-append p.read (take n buffer), length-take-le n buffer here, p.counted);
    }

  -- ---- what stands behind the lines

  -- more was to be written there
  pub stops_before : (lines ending : List ℕ → List ℕ) (before after : R) (old new : W) → IsRenderedInPart HasLeft HasTaken lines before after old new → IsRenderedInPart HasLeft HasTaken (λ read. lines read ++ ending read) before after old new
  stops_before lines ending before after old new s = record {
    read = s.read;
    last = s.last;
    gave = s.gave;
    written = s.written;
    missing = s.missing ++ ending s.read;
    took = s.took;
    front = ap (λ (xs : List ℕ). xs ++ ending s.read) s.front ∙ append_assoc s.written s.missing (ending s.read);
  }

  -- it is written
  pub rendered_behind : {most : ℕ} (lines ending : List ℕ → List ℕ) (before after : R) (old mid new : W) (i : IsRenderedUpTo most HasLeft HasTaken lines before after old mid) → Took HasTaken mid (ending i.read) new → IsRenderedUpTo most HasLeft HasTaken (λ read. lines read ++ ending read) before after old new
  rendered_behind lines ending before after old mid new i k =
      record { read = i.read; gave = i.gave; ended = i.ended; bounded = i.bounded; took = took_more HasTaken old mid new (lines i.read) (ending i.read) i.took k }

  -- a part of it is written
  pub stops_behind : {most : ℕ} (lines ending : List ℕ → List ℕ) (before after : R) (old mid new : W) (i : IsRenderedUpTo most HasLeft HasTaken lines before after old mid) → TookFirst HasTaken mid (ending i.read) new → IsRenderedInPart HasLeft HasTaken (λ read. lines read ++ ending read) before after old new
  stops_behind lines ending before after old mid new i s = record {
    read = i.read;
    last = [];
    gave = subst (λ (xs : List ℕ). Gave HasLeft before xs after) (sym (append-nil i.read)) i.gave;
    written = lines i.read ++ s.gained;
    missing = s.missing;
    took = took_more HasTaken old mid new (lines i.read) s.gained i.took s.took;
    front = ap (λ (xs : List ℕ). lines i.read ++ xs) s.whole ∙ sym (append_assoc (lines i.read) s.gained s.missing);
  }

  -- nothing was read and nothing written
  pub stops_at_once : (text : List ℕ → List ℕ) (s : R) (old : W) → IsRenderedInPart HasLeft HasTaken text s s old old
  stops_at_once text s old = record { read = []; last = []; gave = gave_none HasLeft s [] refl; written = []; missing = text []; took = took_none HasTaken old; front = refl }

  -- ---- a text by another name

  pub rendered_same : {most : ℕ} (text text' : List ℕ → List ℕ) (before after : R) (old new : W) → ((read : List ℕ) → text' read ≡ text read) → IsRenderedUpTo most HasLeft HasTaken text before after old new → IsRenderedUpTo most HasLeft HasTaken text' before after old new
  rendered_same text text' before after old new same i =
      record { read = i.read; gave = i.gave; ended = i.ended; bounded = i.bounded; took = subst (λ (xs : List ℕ). Took HasTaken old xs new) (sym (same i.read)) i.took }

  pub stops_same : (text text' : List ℕ → List ℕ) (before after : R) (old new : W) → ((read : List ℕ) → text' read ≡ text read) → IsRenderedInPart HasLeft HasTaken text before after old new → IsRenderedInPart HasLeft HasTaken text' before after old new
  stops_same text text' before after old new same s =
      record { read = s.read; last = s.last; gave = s.gave; written = s.written; missing = s.missing; took = s.took; front = same s.read ∙ s.front }

-- ---- the lines of a piece

-- the lines that a piece adds, by the printer that there was at first
pub lines_kept : (WasFed : List ℕ → Type 0) (first now : List ℕ → List ℕ) (piece added : List ℕ) → now ≡ first → ((read : List ℕ) → WasFed read → now (read ++ piece) ≡ now read ++ added) → (read : List ℕ) → WasFed read → first (read ++ piece) ≡ first read ++ added
lines_kept WasFed first now piece added same more = subst (λ (lines : List ℕ → List ℕ). (read : List ℕ) → WasFed read → lines (read ++ piece) ≡ lines read ++ added) same more

-- the lines for a piece go on from what still matters
pub lines_more : (line : List ℕ → List ℕ) (read piece stream text added : List ℕ) → stream ≡ rest read → text ≡ [] → added ≡ text ++ message_lines line (stream ++ piece) → message_lines line (read ++ piece) ≡ message_lines line read ++ added
lines_more line read piece stream text added s e a =
    ap (flat_map line) (reads-in-two read piece)
    ∙ flat_map-append line (reading read) (reading (rest read ++ piece))
    ∙ ap (λ xs. message_lines line read ++ xs) (sym (a ∙ ap (λ xs. xs ++ message_lines line (stream ++ piece)) e ∙ ap (λ r. message_lines line (r ++ piece)) s))
