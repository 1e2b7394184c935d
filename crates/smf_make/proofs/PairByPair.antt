-- A file that is written pair by pair.
use Rattle.std.proofs.Common.{◌≡◌, ◌≤◌, ◌<◌, ℕ, suc, ◌+◌, ◌-◌, Bool, true, false, List, [], ◌∷◌, ◌++◌, length, length-append, append_assoc, append-nil, take, drop, refl, sym, ap, ◌∙◌, subst, arith}
use Rattle.std.specs.Prelude.{if◌then◌else◌, Option, Some, None, nat_le, IsTrue, codes}
use Rattle.std.proofs.lemmas.Bool.{le-leb}
use Rattle.std.proofs.lemmas.Bool.Decides.{nat_tests}
use Rattle.std.proofs.Math.Seq.{take-append_seam, drop-append_seam}
use Rattle.byteorder.specs.Endian.{big_bytes}
use Rattle.smf_grammar.specs.Chunks.{most_bytes, Header}
use Rattle.smf_grammar.specs.Pairs.{Pair, is_end, running_after}
use Rattle.smf_grammar.specs.Texts.{shortest, chunk_text}
use Rattle.smf_grammar.specs.Written.{event_text, pair_text, pairs_text, tracks_text, header_text}
use Rattle.smf_make.specs.declared.written_part.OpenTrack.{OpenTrack}
use Rattle.smf_make.specs.declared.written_part.WrittenPart.TheVariants as code
use Rattle.smf_make.specs.WrittenParts.{running_end, IsBetweenTracks, IsWithinTrack, IsPartOf, IsLineMade}
use Rattle.smf_make.specs.SaidFiles.{Between, Within, front_text, begun_text, with_said_pair}

-- ---- one more pair, one more track

pub pairs-append : (running : Option ℕ) (ps : List Pair) (p : Pair) → pairs_text running (ps ++ p ∷ []) ≡ pairs_text running ps ++ pair_text (running_end running ps) p
pairs-append running [] p = append-nil (pair_text running p)
pairs-append running (q ∷ ps) p =
    ap (λ (xs : List ℕ). pair_text running q ++ xs) (pairs-append (running_after q.event) ps p)
    ∙ sym (append_assoc (pair_text running q) (pairs_text (running_after q.event) ps) (pair_text (running_end (running_after q.event) ps) p))

pub running-append : (running : Option ℕ) (ps : List Pair) (p : Pair) → running_end running (ps ++ p ∷ []) ≡ running_after p.event
running-append running [] p = refl
running-append running (q ∷ ps) p = running-append (running_after q.event) ps p

track_chunk : List Pair → List ℕ
track_chunk ps = chunk_text (codes "MTrk") (pairs_text None ps)

tracks-append : (done : List (List Pair)) (ps : List Pair) → tracks_text (done ++ ps ∷ []) ≡ tracks_text done ++ track_chunk ps
unfolding track_chunk
tracks-append [] ps = append-nil (track_chunk ps)
tracks-append (qs ∷ done) ps =
    ap (λ (xs : List ℕ). track_chunk qs ++ xs) (tracks-append done ps)
    ∙ sym (append_assoc (track_chunk qs) (tracks_text done) (track_chunk ps))

pub front-append : (h : Header) (done : List (List Pair)) (ps : List Pair) → front_text h (done ++ ps ∷ []) ≡ front_text h done ++ chunk_text (codes "MTrk") (pairs_text None ps)
unfolding track_chunk
front-append h done ps =
    let head : List ℕ = header_text h.format h.tracks h.division in
    ap (λ (xs : List ℕ). header_text h.format h.tracks h.division ++ xs) (tracks-append done ps)
    ∙ sym (append_assoc (header_text h.format h.tracks h.division) (tracks_text done) (track_chunk ps))

-- ---- a chunk

abbrev open_chunk : List ℕ
open_chunk = codes "MTrk" ++ 0 ∷ 0 ∷ 0 ∷ 0 ∷ []

pub chunk-length : (content : List ℕ) → length (chunk_text (codes "MTrk") content) ≡ 8 + length content
chunk-length content = let e : suc (suc (suc (suc (suc (suc (suc (suc (length content)))))))) ≡ 8 + length content = omega arith in e

-- with its length in its place
pub mark_closed-chunk : (front content bytes : List ℕ) (start : ℕ) → bytes ≡ front ++ open_chunk ++ content → length front + 8 ≡ start → take (start - 4) bytes ++ big_bytes 4 (length bytes - start) ++ drop start bytes ≡ front ++ chunk_text (codes "MTrk") content
mark_closed-chunk front content bytes start e s =
    let whole : List ℕ = front ++ open_chunk ++ content in
    let kind : List ℕ = front ++ codes "MTrk" in
    let at_kind : length (front ++ codes "MTrk") ≡ start - 4 = length-append front (codes "MTrk") ∙ (let k : length front + 4 ≡ start - 4 = omega arith in k) in
    let at_content : length (front ++ open_chunk) ≡ start = length-append front open_chunk ∙ s in
    let split : front ++ open_chunk ++ content ≡ (front ++ codes "MTrk") ++ ((0 ∷ 0 ∷ 0 ∷ 0 ∷ []) ++ content) = append_assoc front open_chunk content ∙ sym (append_assoc front (codes "MTrk") ((0 ∷ 0 ∷ 0 ∷ 0 ∷ []) ++ content)) in
    let first : take (start - 4) bytes ≡ front ++ codes "MTrk" =
    ap (take (start - 4)) (e ∙ split) ∙ sym (ap (λ (n : ℕ). take n ((front ++ codes "MTrk") ++ ((0 ∷ 0 ∷ 0 ∷ 0 ∷ []) ++ content))) at_kind)
    ∙ take-append_seam (front ++ codes "MTrk") ((0 ∷ 0 ∷ 0 ∷ 0 ∷ []) ++ content) in
    let last : drop start bytes ≡ content = ap (drop start) e ∙ sym (ap (λ (n : ℕ). drop n (front ++ open_chunk ++ content)) at_content) ∙ drop-append_seam (front ++ open_chunk) content in
    let total : length bytes ≡ start + length content = ap length e ∙ length-append (front ++ open_chunk) content ∙ ap (λ (n : ℕ). n + length content) at_content in
    let size : length bytes - start ≡ length content = omega (arith, total) in
    ap (λ (xs : List ℕ). xs ++ big_bytes 4 (length bytes - start) ++ drop start bytes) first
    ∙ ap (λ (n : ℕ). (front ++ codes "MTrk") ++ big_bytes 4 n ++ drop start bytes) size
    ∙ ap (λ (xs : List ℕ). (front ++ codes "MTrk") ++ big_bytes 4 (length content) ++ xs) last
    ∙ append_assoc (front ++ codes "MTrk") (big_bytes 4 (length content)) content
    ∙ append_assoc front (codes "MTrk") (big_bytes 4 (length content) ++ content)

-- ---- sizes

pub within-size : (h : Header) (done : List (List Pair)) (ps : List Pair) → length (front_text h done ++ chunk_text (codes "MTrk") (pairs_text None ps)) ≡ length (front_text h done) + 8 + length (pairs_text None ps)
within-size h done ps =
    let a = length-append (front_text h done) (chunk_text (codes "MTrk") (pairs_text None ps)) in
    let b = chunk-length (pairs_text None ps) in
    omega (arith, a, b)

pub with-pair-size : (h : Header) (done : List (List Pair)) (ps : List Pair) (tick : ℕ) (p : Pair) → length (begun_text (with_said_pair h done ps tick p)) ≡ length (front_text h done) + 8 + length (pairs_text None (ps ++ p ∷ []))
with-pair-size h done ps tick p = go (is_end p.event)
  where
    go : (t : Bool) → length (begun_text (if t then Between h (done ++ (ps ++ p ∷ []) ∷ []) else Within h done (ps ++ p ∷ []) tick)) ≡ length (front_text h done) + 8 + length (pairs_text None (ps ++ p ∷ []))
    go true = ap length (front-append h done (ps ++ p ∷ [])) ∙ within-size h done (ps ++ p ∷ [])
    go false = within-size h done (ps ++ p ∷ [])

-- ---- one more pair in the code's bytes

module _ (bytes timed more : List ℕ) (track : OpenTrack) (h : Header) (done : List (List Pair)) (ps : List Pair) (last tick : ℕ) (p : Pair)
    (w : IsWithinTrack bytes track h done ps last) (delta : p.delta ≡ tick - track.last)
    (first : timed ≡ bytes ++ shortest (tick - track.last)) (second : more ≡ timed ++ event_text track.running p.event) where
  abbrev content : List ℕ
  content = pairs_text None (ps ++ p ∷ [])

  pub longer : more ≡ front_text h done ++ open_chunk ++ pairs_text None (ps ++ p ∷ [])
  longer =
      let gained : List ℕ = shortest (tick - track.last) ++ event_text track.running p.event in
      let same : pair_text (running_end None ps) p ≡ shortest (tick - track.last) ++ event_text track.running p.event = ap (λ (n : ℕ). shortest n ++ event_text (running_end None ps) p.event) delta ∙ ap (λ (r : Option ℕ). shortest (tick - track.last) ++ event_text r p.event) w.running in
      second ∙ ap (λ (xs : List ℕ). xs ++ event_text track.running p.event) first
      ∙ append_assoc bytes (shortest (tick - track.last)) (event_text track.running p.event)
      ∙ ap (λ (xs : List ℕ). xs ++ (shortest (tick - track.last) ++ event_text track.running p.event)) w.written
      ∙ append_assoc (front_text h done ++ open_chunk) (pairs_text None ps) (shortest (tick - track.last) ++ event_text track.running p.event)
      ∙ ap (λ (xs : List ℕ). (front_text h done ++ open_chunk) ++ (pairs_text None ps ++ xs)) (sym same)
      ∙ ap (λ (xs : List ℕ). (front_text h done ++ open_chunk) ++ xs) (sym (pairs-append None ps p))

  size-same : length (begun_text (with_said_pair h done ps tick p)) ≡ length more
  size-same =
      let a = length-append (front_text h done ++ open_chunk) (pairs_text None (ps ++ p ∷ [])) in
      let b = length-append (front_text h done) open_chunk in
      let c : length more ≡ length (front_text h done ++ open_chunk ++ pairs_text None (ps ++ p ∷ [])) = ap length longer in
      let d = with-pair-size h done ps tick p in
      omega (arith, a, b, c, d)

  pub pair-too-large : most_bytes < length more → nat_le (length (begun_text (with_said_pair h done ps tick p))) most_bytes ≡ false
  pair-too-large big = ap (λ (n : ℕ). nat_le n most_bytes) size-same ∙ (let e : nat_le (length more) most_bytes ≡ false = grind (arith, nat_tests) in e)

  small-enough : length more ≤ most_bytes → IsTrue (nat_le (length (begun_text (with_said_pair h done ps tick p))) most_bytes)
  small-enough small = ap (λ (n : ℕ). nat_le n most_bytes) size-same ∙ le-leb (length more) most_bytes small

  pub pair-within : is_end p.event ≡ false → length more ≤ most_bytes → (next : OpenTrack) → next.tracks ≡ track.tracks → next.ended ≡ track.ended → next.start ≡ track.start → next.running ≡ running_after p.event → next.last ≡ tick → IsLineMade more (code.Within next) (Some (with_said_pair h done ps tick p))
  pair-within ends small next tracks ended start running at =
      let holds : IsWithinTrack more next h done (ps ++ p ∷ []) tick = record {
        written = longer;
        start = w.start ∙ sym start;
        counted = w.counted ∙ sym tracks;
        ended = w.ended ∙ sym ended;
        within = rw (ended, tracks) w.within;
        running = running-append None ps p ∙ sym running;
        last = sym at;
        small = small;
      } in
      (subst (λ (b : Bool). IsPartOf more (code.Within next) (if b then Between h (done ++ (ps ++ p ∷ []) ∷ []) else Within h done (ps ++ p ∷ []) tick)) (sym ends) holds, small-enough small)

  pub pair-ends : is_end p.event ≡ true → length more ≤ most_bytes → (mark_closed : List ℕ) → mark_closed ≡ take (track.start - 4) more ++ big_bytes 4 (length more - track.start) ++ drop track.start more → IsLineMade mark_closed (code.Between track.tracks (track.ended + 1)) (Some (with_said_pair h done ps tick p))
  pair-ends ends small mark_closed is =
      let whole : mark_closed ≡ front_text h (done ++ (ps ++ p ∷ []) ∷ []) = is ∙ mark_closed-chunk (front_text h done) (pairs_text None (ps ++ p ∷ [])) more track.start longer w.start ∙ sym (front-append h done (ps ++ p ∷ [])) in
      let same_size : length mark_closed ≡ length more =
      let a = length-append (front_text h done ++ open_chunk) (pairs_text None (ps ++ p ∷ [])) in
      let b = length-append (front_text h done) open_chunk in
      let c : length more ≡ length (front_text h done ++ open_chunk ++ pairs_text None (ps ++ p ∷ [])) = ap length longer in
      let d : length mark_closed ≡ length (front_text h done ++ chunk_text (codes "MTrk") (pairs_text None (ps ++ p ∷ []))) = ap length (whole ∙ front-append h done (ps ++ p ∷ [])) in
      let e = within-size h done (ps ++ p ∷ []) in
      omega (arith, a, b, c, d, e) in
      let holds : IsBetweenTracks mark_closed track.tracks (track.ended + 1) h (done ++ (ps ++ p ∷ []) ∷ []) = record {
        written = whole;
        counted = w.counted;
        ended = length-append done ((ps ++ p ∷ []) ∷ []) ∙ ap (λ (n : ℕ). n + 1) w.ended;
        within = let within : track.ended < track.tracks = w.within in omega arith;
        small = rw same_size small;
      } in
      (subst (λ (b : Bool). IsPartOf mark_closed (code.Between track.tracks (track.ended + 1)) (if b then Between h (done ++ (ps ++ p ∷ []) ∷ []) else Within h done (ps ++ p ∷ []) tick)) (sym ends) holds, small-enough small)
