-- A file that the lenient grammar takes, read chunk by chunk.
use Rattle.std.proofs.Common.{◌≡◌, ◌<◌, ℕ, suc, ◌+◌, ◌-◌, true, false, List, [], ◌∷◌, ◌++◌, ◌∙◌, length, refl, arith, ap, sym, subst, append_assoc, append-nil}
use Rattle.std.specs.Prelude.{Option, None, Result, Ok}
use Rattle.std.specs.Option.{option_or}
use Rattle.smf_grammar.specs.declared.fault.ChunkFault.{ChunkFault}
use Rattle.smf_grammar.specs.declared.fault.SmfFault.{SmfFault}
use Rattle.smf_grammar.specs.Pairs.{Pair}
use Rattle.smf_grammar.specs.Chunks.{Chunk, chunk_at}
use Rattle.smf_grammar.specs.Files.{Item, Other, Track, tracks_in}
use Rattle.smf_grammar.specs.Written.{FileRefusal, track_refusal, tracks_refusal}
use Rattle.smf_grammar.proofs.WrittenFile.{neither}
use Rattle.smf_mend.specs.declared.forgiven.Forgiven.{Forgiven}
use Rattle.smf_mend.specs.declared.forgiven.Tally.{Tally}
use Rattle.smf_mend.specs.Lenient.{IsLenientTrack, AreLenientChunks, IsLenientChunkFault}
use Rattle.smf_mend.specs.Forgiving.{Forgives, forgives_status, forgives_data, track_places, chunk_content, chunk_behind, chunk_places}
use Rattle.smf_mend.specs.Tallies.{with_places, IsTrackTaken, AreTracksTaken, IsTracksFault}
use Rattle.smf_mend.proofs.LenientTracks.{places-append}

-- ---- one more chunk

other-snoc : (items : List Item) (after left more : List ℕ) (chunk : Chunk) → AreLenientChunks after items left → chunk_at left ≡ Ok (chunk, more) → chunk.is_track ≡ false → AreLenientChunks after (items ++ Other ∷ []) more
other-snoc [] after left more chunk stand next f = (chunk, more, rw stand next, f, refl)
other-snoc (Other ∷ items) after left more chunk stand next f = (stand.0, stand.1, stand.2, stand.3, other-snoc items stand.1 left more chunk stand.4 next f)
other-snoc (Track ps ∷ items) after left more chunk stand next f = (stand.0, stand.1, stand.2, stand.3, other-snoc items stand.1 left more chunk stand.4 next f)

track-snoc : (items : List Item) (after left more : List ℕ) (chunk : Chunk) (ps : List Pair) → AreLenientChunks after items left → chunk_at left ≡ Ok (chunk, more) → chunk.is_track ≡ true → IsLenientTrack chunk.content ps → AreLenientChunks after (items ++ Track ps ∷ []) more
track-snoc [] after left more chunk ps stand next f t = (chunk, more, rw stand next, (f, t), refl)
track-snoc (Other ∷ items) after left more chunk ps stand next f t = (stand.0, stand.1, stand.2, stand.3, track-snoc items stand.1 left more chunk ps stand.4 next f t)
track-snoc (Track qs ∷ items) after left more chunk ps stand next f t = (stand.0, stand.1, stand.2, stand.3, track-snoc items stand.1 left more chunk ps stand.4 next f t)

other-tracks : (items : List Item) → tracks_in (items ++ Other ∷ []) ≡ tracks_in items
other-tracks [] = refl
other-tracks (Other ∷ items) = other-tracks items
other-tracks (Track ps ∷ items) = ap (λ (ts : List (List Pair)). ps ∷ ts) (other-tracks items)

more-tracks : (items : List Item) (ps : List Pair) → tracks_in (items ++ Track ps ∷ []) ≡ tracks_in items ++ ps ∷ []
more-tracks [] ps = refl
more-tracks (Other ∷ items) ps = more-tracks items ps
more-tracks (Track qs ∷ items) ps = ap (λ (ts : List (List Pair)). qs ∷ ts) (more-tracks items ps)

module _ (forgives : Forgives) (size : ℕ) where
  other-places : (items : List Item) (after left : List ℕ) → AreLenientChunks after items left → chunk_places forgives size after (items ++ Other ∷ []) ≡ chunk_places forgives size after items
  other-places [] after left stand = refl
  other-places (Other ∷ items) after left stand =
      let behind : chunk_behind (chunk_at after) ≡ stand.1 = ap chunk_behind stand.2 in
      ap (λ (l : List ℕ). chunk_places forgives size l (items ++ Other ∷ [])) behind ∙ other-places items stand.1 left stand.4 ∙ ap (λ (l : List ℕ). chunk_places forgives size l items) (sym behind)
  other-places (Track ps ∷ items) after left stand =
      let behind : chunk_behind (chunk_at after) ≡ stand.1 = ap chunk_behind stand.2 in
      ap (λ (xs : List ℕ). track_places forgives (size - length after + 8) (chunk_content (chunk_at after)) ps ++ xs)
      (ap (λ (l : List ℕ). chunk_places forgives size l (items ++ Other ∷ [])) behind ∙ other-places items stand.1 left stand.4 ∙ ap (λ (l : List ℕ). chunk_places forgives size l items) (sym behind))

  track-more : (items : List Item) (after left more : List ℕ) (chunk : Chunk) (ps : List Pair) → AreLenientChunks after items left → chunk_at left ≡ Ok (chunk, more) →
      chunk_places forgives size after (items ++ Track ps ∷ []) ≡ chunk_places forgives size after items ++ track_places forgives (size - length left + 8) chunk.content ps
  track-more [] after left more chunk ps stand next =
      let here : chunk_content (chunk_at after) ≡ chunk.content = ap (λ (l : List ℕ). chunk_content (chunk_at l)) stand ∙ ap chunk_content next in
      append-nil (track_places forgives (size - length after + 8) (chunk_content (chunk_at after)) ps)
      ∙ ap (λ (c : List ℕ). track_places forgives (size - length after + 8) c ps) here
      ∙ ap (λ (l : List ℕ). track_places forgives (size - length l + 8) chunk.content ps) stand
  track-more (Other ∷ items) after left more chunk ps stand next =
      let behind : chunk_behind (chunk_at after) ≡ stand.1 = ap chunk_behind stand.2 in
      ap (λ (l : List ℕ). chunk_places forgives size l (items ++ Track ps ∷ [])) behind ∙ track-more items stand.1 left more chunk ps stand.4 next
      ∙ ap (λ (l : List ℕ). chunk_places forgives size l items ++ track_places forgives (size - length left + 8) chunk.content ps) (sym behind)
  track-more (Track qs ∷ items) after left more chunk ps stand next =
      let behind : chunk_behind (chunk_at after) ≡ stand.1 = ap chunk_behind stand.2 in
      ap (λ (xs : List ℕ). track_places forgives (size - length after + 8) (chunk_content (chunk_at after)) qs ++ xs)
      (ap (λ (l : List ℕ). chunk_places forgives size l (items ++ Track ps ∷ [])) behind ∙ track-more items stand.1 left more chunk ps stand.4 next
      ∙ ap (λ (l : List ℕ). chunk_places forgives size l items ++ track_places forgives (size - length left + 8) chunk.content ps) (sym behind))
      ∙ sym (append_assoc (track_places forgives (size - length after + 8) (chunk_content (chunk_at after)) qs) (chunk_places forgives size (chunk_behind (chunk_at after)) items) (track_places forgives (size - length left + 8) chunk.content ps))

-- ---- tracks that can be written

can-more : (k : ℕ) (done : List (List Pair)) (ps : List Pair) → tracks_refusal k done ≡ None → ((track : ℕ) → track_refusal track 0 ps ≡ None) → tracks_refusal k (done ++ ps ∷ []) ≡ None
can-more k [] ps good last = ap (λ (o : Option FileRefusal). option_or o None) (last k)
can-more k (qs ∷ done) ps good last =
    let parts = neither (track_refusal k 0 qs) (tracks_refusal (suc k) done) good in
    ap (λ (o : Option FileRefusal). option_or o (tracks_refusal (suc k) (done ++ ps ∷ []))) parts.0 ∙ can-more (suc k) done ps parts.1 last

-- ---- what was taken of the chunks before this place

pub record ChunksTaken (size : ℕ) (after left : List ℕ) (tracks : List (List Pair)) (old new : Tally) : Type 0 where
  pub items : List Item
  pub stand : AreLenientChunks after items left
  pub are : tracks ≡ tracks_in items
  pub can : (number : ℕ) → tracks_refusal number tracks ≡ None
  pub status : new.running_status ≡ with_places old.running_status (chunk_places forgives_status size after items)
  pub data_bytes : new.high_data ≡ with_places old.high_data (chunk_places forgives_data size after items)

pub no-chunks : (size : ℕ) (after : List ℕ) (tally : Tally) → ChunksTaken size after after [] tally tally
no-chunks size after tally = record { items = []; stand = refl; are = refl; can = λ k. refl; status = refl; data_bytes = refl }

pub other-taken : (size : ℕ) (after left more : List ℕ) (tracks : List (List Pair)) (old new : Tally) (chunk : Chunk) → ChunksTaken size after left tracks old new → chunk_at left ≡ Ok (chunk, more) → chunk.is_track ≡ false →
    ChunksTaken size after more tracks old new
other-taken size after left more tracks old new chunk w next f = record {
  items = w.items ++ Other ∷ [];
  stand = other-snoc w.items after left more chunk w.stand next f;
  are = w.are ∙ sym (other-tracks w.items);
  can = w.can;
  status = w.status ∙ ap (with_places old.running_status) (sym (other-places forgives_status size w.items after left w.stand));
  data_bytes = w.data_bytes ∙ ap (with_places old.high_data) (sym (other-places forgives_data size w.items after left w.stand));
}

pub track-taken : (size : ℕ) (after left more : List ℕ) (tracks tracks' : List (List Pair)) (old before new : Tally) (chunk : Chunk) (ps : List Pair) → ChunksTaken size after left tracks old before → chunk_at left ≡ Ok (chunk, more) → chunk.is_track ≡ true →
    IsTrackTaken chunk.content (size - length left + 8) ps before new → tracks' ≡ tracks ++ ps ∷ [] → ChunksTaken size after more tracks' old new
track-taken size after left more tracks tracks' old before new chunk ps w next f t grown =
    let whole : ChunksTaken size after more (tracks ++ ps ∷ []) old new = record {
      items = w.items ++ Track ps ∷ [];
      stand = track-snoc w.items after left more chunk ps w.stand next f t.track;
      are = ap (λ (ts : List (List Pair)). ts ++ ps ∷ []) w.are ∙ sym (more-tracks w.items ps);
      can = λ k. can-more k tracks ps (w.can k) t.can;
      status = joined forgives_status old.running_status before.running_status new.running_status w.status t.status;
      data_bytes = joined forgives_data old.high_data before.high_data new.high_data w.data_bytes t.data_bytes;
    } in
    rw grown whole
  where
    joined : (forgives : Forgives) (first so_far now : Option Forgiven) → so_far ≡ with_places first (chunk_places forgives size after w.items) → now ≡ with_places so_far (track_places forgives (size - length left + 8) chunk.content ps) →
        now ≡ with_places first (chunk_places forgives size after (w.items ++ Track ps ∷ []))
    joined forgives first so_far now a b =
        b ∙ ap (λ (o : Option Forgiven). with_places o (track_places forgives (size - length left + 8) chunk.content ps)) a
        ∙ sym (places-append first (chunk_places forgives size after w.items) (track_places forgives (size - length left + 8) chunk.content ps))
        ∙ ap (with_places first) (sym (track-more forgives size w.items after left more chunk ps w.stand next))

pub all-taken : (size : ℕ) (after left : List ℕ) (count : ℕ) (tracks : List (List Pair)) (old new : Tally) → ChunksTaken size after left tracks old new → length tracks ≡ count → AreTracksTaken size after count tracks old new
all-taken size after left count tracks old new w counted = record { items = w.items; unread = left; stand = w.stand; counted = counted; are = w.are; can = w.can; status = w.status; data_bytes = w.data_bytes }

pub chunks-fault : (size : ℕ) (after left : List ℕ) (count : ℕ) (tracks : List (List Pair)) (old new : Tally) (found : Result (Chunk × List ℕ) ChunkFault) (x : SmfFault) → ChunksTaken size after left tracks old new → length tracks < count →
    chunk_at left ≡ found → IsLenientChunkFault size (length tracks) left found x → IsTracksFault size after count x
chunks-fault size after left count tracks old new found x w fewer is told =
    let same : length tracks ≡ length (tracks_in w.items) = ap length w.are in
    record {
      items = w.items;
      rest = left;
      stand = w.stand;
      fewer = omega (arith, same);
      next = subst (λ (k : ℕ). IsLenientChunkFault size k left (chunk_at left) x) same (subst (λ (r : Result (Chunk × List ℕ) ChunkFault). IsLenientChunkFault size (length tracks) left r x) (sym is) told);
    }
