-- Tracks that are written one after another.
use Rattle.std.proofs.Common.{◌≡◌, ◌≤◌, ◌<◌, ℕ, suc, ◌+◌, Bool, true, false, List, [], ◌∷◌, ◌++◌, ◌∙◌, length, length-append, length-drop, map, drop, get_or, Fits, w8, refl, arith, ap, sym, subst}
use Rattle.std.specs.Prelude.{Option, Some, None, if◌then◌else◌, IsTrue, nat_lt, nat_le, ◌&&◌}
use Rattle.std.specs.Option.{option_map, option_or}
use Rattle.std.specs.List.{AllByRecursion}
use Rattle.std.specs.Global.{Vec}
use Rattle.std.proofs.lemmas.Bool.{le-leb}
use Rattle.std.proofs.lemmas.Bool.Decides.{nat_tests}
use Rattle.std.proofs.lemmas.List.{length-map}
use Rattle.std.proofs.Math.Seq.{drop-cons}
use Rattle.byteorder.specs.Endian.{big_bytes}
use Rattle.midi_wire.proofs.MessageTests.{and_both}
use Rattle.smf_grammar.specs.declared.pair.PairBytes.{PairBytes}
use Rattle.smf_grammar.specs.Pairs.{Pair, is_end}
use Rattle.smf_grammar.specs.Chunks.{most_bytes}
use Rattle.smf_grammar.specs.Files.{MidiFile, IsFile}
use Rattle.smf_grammar.specs.Seen.{event_seen, pair_seen, tracks_seen, file_seen}
use Rattle.smf_grammar.specs.Written as written
use Rattle.smf_grammar.specs.Written.{FileRefusal, BadPair, EarlyEnd, tracks_text, header_text, written_file, all_bytes, are_bytes, can_stand, refused_after_end, track_refusal, tracks_refusal, header_refusal, size_refusal, file_refusal}
use Rattle.smf_grammar.proofs.WrittenFile.{neither, reads-written}
use Rattle.smf_files.specs.Refusals.{fault_of}
use Rattle.smf_files.proofs.Writing.{front}

-- ---- what is refused

pub none-found : (o : Option FileRefusal) → None ≡ option_map fault_of o → o ≡ None
none-found None h = refl
none-found (Some r) h = let bad : ⊥ = cc in absurd bad

after-end : (track at : ℕ) (ps : List Pair) → 0 < length ps → refused_after_end track at ps ≡ Some (EarlyEnd track at)
after-end track at [] h = absurd (omega arith)
after-end track at (p ∷ ps) h = refl

pub early-end : (pairs : List PairBytes) (track i : ℕ) (d : PairBytes) → i + 1 < length pairs → can_stand (pair_seen (get_or pairs i d)) ≡ true → is_end (event_seen (get_or pairs i d).event) ≡ true →
    track_refusal track i (map pair_seen (drop i pairs)) ≡ Some (EarlyEnd track i)
early-end pairs track i d h stands ends =
    let p : Pair = pair_seen (get_or pairs i d) in
    let more : List Pair = map pair_seen (drop (suc i) pairs) in
    let some : 0 < length (map pair_seen (drop (suc i) pairs)) = rw (length-map, length-drop) (omega arith) in
    ap (λ (xs : List PairBytes). track_refusal track i (map pair_seen xs)) (drop-cons pairs i d (omega arith))
    ∙ ap (λ (t : Bool). if t then (if is_end p.event then refused_after_end track i more else track_refusal track (suc i) more) else Some (BadPair track i)) stands
    ∙ ap (λ (t : Bool). if t then refused_after_end track i more else track_refusal track (suc i) more) ends
    ∙ after-end track i more some

-- each pair of a track that is not refused can stand
abbrev pub Standing : List Pair → Type 0
Standing ps = AllByRecursion (λ p. IsTrue (can_stand p)) ps

pub track-stands : (ps : List Pair) (track at : ℕ) → track_refusal track at ps ≡ None → Standing ps
track-stands [] track at h = tt
track-stands (p ∷ ps) track at h =
    go (λ k e. track-stands ps track k e) (can_stand p) (is_end p.event) refl h
  where
    none : (qs : List Pair) → refused_after_end track at qs ≡ None → Standing qs
    none [] e = tt
    none (q ∷ qs) e = let bad : ⊥ = cc in absurd bad

    go : ((k : ℕ) → track_refusal track k ps ≡ None → Standing ps) → (t u : Bool) → can_stand p ≡ t → (if t then (if u then refused_after_end track at ps else track_refusal track (suc at) ps) else Some (BadPair track at)) ≡ None → Standing (p ∷ ps)
    go again false u is e = let bad : ⊥ = cc in absurd bad
    go again true true is e = (is, none ps e)
    go again true false is e = (is, again (suc at) e)

pub next-stands : (tracks : List (Vec PairBytes)) (i : ℕ) (t : Vec PairBytes) → i < length tracks → t ≡ get_or tracks i t → tracks_refusal i (tracks_seen (drop i tracks)) ≡ None → Standing (map pair_seen t.items)
next-stands tracks i t h is none =
    let here : tracks_refusal i (map pair_seen t.items ∷ tracks_seen (drop (i + 1) tracks)) ≡ None = sym (ap (λ (ts : List (Vec PairBytes)). tracks_refusal i (tracks_seen ts)) (front tracks i t h is)) ∙ none in
    track-stands (map pair_seen t.items) i 0 (neither (track_refusal i 0 (map pair_seen t.items)) (tracks_refusal (suc i) (tracks_seen (drop (i + 1) tracks))) here).0

-- ---- bytes

all-fit : (xs : List ℕ) → ((i : ℕ) → Fits w8 (get_or xs i 0)) → all_bytes xs ≡ true
all-fit [] h = refl
all-fit (x ∷ xs) h = let low : x < 256 = (h 0).fits in and_both (nat_lt x 256) (all_bytes xs) (le-leb (suc x) 256 low) (all-fit xs (λ i. h (suc i)))

-- numbers of a byte each are bytes where they are not too many
pub bytes-fit : (xs : List ℕ) → ((i : ℕ) → Fits w8 (get_or xs i 0)) → nat_le (length xs) 268435455 ≡ are_bytes xs
bytes-fit xs h =
    let fit : all_bytes xs ≡ true = all-fit xs h in
    kept (nat_le (length xs) 268435455) (all_bytes xs) fit
  where
    kept : (a b : Bool) → b ≡ true → a ≡ (a && b)
    kept true b e = sym e
    kept false b e = refl

-- ---- the whole file

pub file-length : (f : MidiFile) → length (written_file f) ≡ 14 + length (tracks_text f.tracks)
unfolding written_file
file-length f = length-append (header_text f.format (length f.tracks) f.division) (tracks_text f.tracks)

-- what was tested before the file is written
pub record Tested (format division : ℕ) (tracks : List (Vec PairBytes)) : Type 0 where
  pub header : None ≡ option_map fault_of (header_refusal format (length tracks) division)
  pub pairs : None ≡ option_map fault_of (tracks_refusal 0 (tracks_seen tracks))

refused-by-size : (format division : ℕ) (tracks : List (Vec PairBytes)) → Tested format division tracks → file_refusal (file_seen format division tracks) ≡ size_refusal (length (written_file (file_seen format division tracks)))
refused-by-size format division tracks t =
    let size : Option FileRefusal = size_refusal (length (written_file (file_seen format division tracks))) in
    ap (λ (n : ℕ). option_or (header_refusal format n division) (option_or (tracks_refusal 0 (tracks_seen tracks)) size)) (length-map tracks _)
    ∙ ap (λ (o : Option FileRefusal). option_or o (option_or (tracks_refusal 0 (tracks_seen tracks)) size)) (none-found (header_refusal format (length tracks) division) t.header)
    ∙ ap (λ (o : Option FileRefusal). option_or o size) (none-found (tracks_refusal 0 (tracks_seen tracks)) t.pairs)

pub too-large : (format division : ℕ) (tracks : List (Vec PairBytes)) → Tested format division tracks → 16777202 < length (tracks_text (tracks_seen tracks)) → file_refusal (file_seen format division tracks) ≡ Some written.TooLarge
too-large format division tracks t h =
    let n : length (written_file (file_seen format division tracks)) ≡ 14 + length (tracks_text (tracks_seen tracks)) = file-length (file_seen format division tracks) in
    let large : nat_le (length (written_file (file_seen format division tracks))) most_bytes ≡ false = grind (arith, nat_tests) in
    refused-by-size format division tracks t ∙ ap (λ (b : Bool). if b then None else Some written.TooLarge) large

pub accepted : (format division : ℕ) (tracks : List (Vec PairBytes)) → Tested format division tracks → length (tracks_text (tracks_seen tracks)) ≤ 16777202 → file_refusal (file_seen format division tracks) ≡ None
accepted format division tracks t h =
    let n : length (written_file (file_seen format division tracks)) ≡ 14 + length (tracks_text (tracks_seen tracks)) = file-length (file_seen format division tracks) in
    let small : nat_le (length (written_file (file_seen format division tracks))) most_bytes ≡ true = le-leb (length (written_file (file_seen format division tracks))) 16777216 (omega arith) in
    refused-by-size format division tracks t ∙ ap (λ (b : Bool). if b then None else Some written.TooLarge) small

pub back : (format division : ℕ) (tracks : List (Vec PairBytes)) (bytes : List ℕ) → Tested format division tracks → length (tracks_text (tracks_seen tracks)) ≤ 16777202 → bytes ≡ written_file (file_seen format division tracks) → IsFile bytes (file_seen format division tracks)
back format division tracks bytes t h is = subst (λ (xs : List ℕ). IsFile xs (file_seen format division tracks)) (sym is) (reads-written (file_seen format division tracks) (accepted format division tracks t h))

pub file-steps : (format count division : ℕ) (tracks : List (List Pair)) (none head first second third whole : List ℕ) → count ≡ length tracks →
    none ≡ [] → head ≡ none ++ (77 ∷ 84 ∷ 104 ∷ 100 ∷ []) ++ big_bytes 4 6 → first ≡ head ++ big_bytes 2 format → second ≡ first ++ big_bytes 2 count → third ≡ second ++ big_bytes 2 division →
    whole ≡ third ++ tracks_text tracks → whole ≡ written_file (record { format = format; division = division; tracks = tracks })
unfolding written_file
file-steps format count division tracks none head first second third whole counted a b c d e f =
    f ∙ ap (λ (xs : List ℕ). xs ++ tracks_text tracks) (e ∙ ap (λ (xs : List ℕ). xs ++ big_bytes 2 division) (d ∙ ap (λ (xs : List ℕ). xs ++ big_bytes 2 count)
    (c ∙ ap (λ (xs : List ℕ). xs ++ big_bytes 2 format) (b ∙ ap (λ (xs : List ℕ). xs ++ (77 ∷ 84 ∷ 104 ∷ 100 ∷ []) ++ big_bytes 4 6) a))))
    ∙ ap (λ (n : ℕ). header_text format n division ++ tracks_text tracks) counted
