-- A file that is read chunk by chunk.
use Rattle.std.proofs.Common.{◌≡◌, ◌≤◌, ◌<◌, ◌^◌, ℕ, suc, ◌+◌, Bool, true, false, not, List, [], ◌∷◌, ◌++◌, ◌∙◌, length, map, refl, arith, ap, sym, subst, append_assoc, inr}
use Rattle.std.specs.Prelude.{Result, Ok, if◌then◌else◌, is_ok, nat_le, ◌&&◌, IsTrue}
use Rattle.std.specs.List.{flat_map, list_all}
use denote.Ref.{Bor}
use Rattle.std.proofs.lemmas.Bool.{le-leb}
use Rattle.tempo_clock.specs.declared.entry.TempoEntry.{TempoEntry}
use Rattle.smf_grammar.specs.declared.fault.SmfFault.{SmfFault}
use Rattle.smf_grammar.specs.declared.fault.ChunkFault.{ChunkFault}
use Rattle.smf_grammar.specs.Pairs.{Pair}
use Rattle.smf_grammar.specs.Chunks.{Header, header_at, Chunk, chunk_at, is_frame_division}
use Rattle.smf_grammar.specs.Files.{IsTrack, Item, Other, Track, tracks_in, AreChunks, MidiFile, IsFile, IsChunkFault, Fault}
use Rattle.smf_grammar.specs.Reading.{pairs_of}
use Rattle.smf_grammar.specs.Contents.{tempos_from, skipped_in, skipped_in_all, entries_of, in_order, last_at_each, default_entry}
use Rattle.smf_grammar.proofs.Whole.{track-content}
use Rattle.midi_wire.proofs.MessageTests.{and_both}
use Rattle.tempo_clock.specs.Ticks.{Tempos}
use Rattle.smf_files.specs.Taken.{with_tempos, TrackTaken}
use Rattle.smf_files.specs.Kept.{pairs_or_none, pairs_seen, file_seen, is_track, is_division, IsFileKept}

-- the tempos of all tracks, where tempo counts
abbrev pub all_tempos : Bool → List (List Pair) → List TempoEntry
all_tempos metrical tracks = if metrical then flat_map (tempos_from 0) tracks else []

-- what was taken of the chunks before this place
pub record ChunksTaken (metrical : Bool) (after left : List ℕ) (contents : List (List ℕ)) (tempos : List TempoEntry) (skipped : ℕ) : Type 0 where
  pub items : List Item
  pub stand : AreChunks after items left
  pub tracks : tracks_in items ≡ map pairs_seen contents
  pub tempos_are : tempos ≡ all_tempos metrical (tracks_in items)
  pub skipped_are : skipped ≡ skipped_in_all metrical (tracks_in items)
  pub whole : IsTrue (list_all is_track contents)

pub no-chunks : (metrical : Bool) (after : List ℕ) → ChunksTaken metrical after after [] [] 0
no-chunks metrical after = record { items = []; stand = refl; tracks = refl; tempos_are = go metrical; skipped_are = refl; whole = refl }
  where
    go : (t : Bool) → [] ≡ all_tempos t []
    go true = refl
    go false = refl

other-snoc : (items : List Item) (after left more : List ℕ) (chunk : Chunk) → AreChunks after items left → chunk_at left ≡ Ok (chunk, more) → chunk.is_track ≡ false → AreChunks after (items ++ Other ∷ []) more
other-snoc [] after left more chunk stand next f = (chunk, more, rw stand next, f, refl)
other-snoc (Other ∷ items) after left more chunk stand next f = (stand.0, stand.1, stand.2, stand.3, other-snoc items stand.1 left more chunk stand.4 next f)
other-snoc (Track ps ∷ items) after left more chunk stand next f = (stand.0, stand.1, stand.2, stand.3, other-snoc items stand.1 left more chunk stand.4 next f)

track-snoc : (items : List Item) (after left more : List ℕ) (chunk : Chunk) (ps : List Pair) → AreChunks after items left → chunk_at left ≡ Ok (chunk, more) → chunk.is_track ≡ true → IsTrack chunk.content ps → AreChunks after (items ++ Track ps ∷ []) more
track-snoc [] after left more chunk ps stand next f t = (chunk, more, rw stand next, (f, t), refl)
track-snoc (Other ∷ items) after left more chunk ps stand next f t = (stand.0, stand.1, stand.2, stand.3, track-snoc items stand.1 left more chunk ps stand.4 next f t)
track-snoc (Track qs ∷ items) after left more chunk ps stand next f t = (stand.0, stand.1, stand.2, stand.3, track-snoc items stand.1 left more chunk ps stand.4 next f t)

other-tracks : (items : List Item) → tracks_in (items ++ Other ∷ []) ≡ tracks_in items
other-tracks [] = refl
other-tracks (Other ∷ items) = other-tracks items
other-tracks (Track ps ∷ items) = ap (λ (ts : List (List Pair)). ps ∷ ts) (other-tracks items)

more-tracks : (items : List Item) (ps : List Pair) → tracks_in (items ++ Track ps ∷ []) ≡ tracks_in items ++ ps ∷ []
more-tracks [] ps = refl
more-tracks (Other ∷ items) ps = more-tracks items ps
more-tracks (Track qs ∷ items) ps = ap (λ (ts : List (List Pair)). qs ∷ ts) (more-tracks items ps)

append_nil : (xs : List TempoEntry) → xs ++ [] ≡ xs
append_nil [] = refl
append_nil (x ∷ xs) = ap (λ (ys : List TempoEntry). x ∷ ys) (append_nil xs)

tempos-more : (tracks : List (List Pair)) (ps : List Pair) → flat_map (tempos_from 0) (tracks ++ ps ∷ []) ≡ flat_map (tempos_from 0) tracks ++ tempos_from 0 ps
tempos-more [] ps = append_nil (tempos_from 0 ps)
tempos-more (qs ∷ tracks) ps = ap (λ (ys : List TempoEntry). tempos_from 0 qs ++ ys) (tempos-more tracks ps) ∙ sym (append_assoc (tempos_from 0 qs) (flat_map (tempos_from 0) tracks) (tempos_from 0 ps))

with-more : (metrical : Bool) (old new : List TempoEntry) (tracks : List (List Pair)) (ps : List Pair) → old ≡ all_tempos metrical tracks → new ≡ with_tempos metrical old ps → new ≡ all_tempos metrical (tracks ++ ps ∷ [])
with-more true old new tracks ps o n = n ∙ ap (λ (ys : List TempoEntry). ys ++ tempos_from 0 ps) o ∙ sym (tempos-more tracks ps)
with-more false old new tracks ps o n = n ∙ o

skipped-more : (metrical : Bool) (tracks : List (List Pair)) (ps : List Pair) → skipped_in_all metrical (tracks ++ ps ∷ []) ≡ skipped_in_all metrical tracks + skipped_in metrical ps
skipped-more metrical [] ps = omega arith
skipped-more metrical (qs ∷ tracks) ps = let e : skipped_in_all metrical (tracks ++ ps ∷ []) ≡ skipped_in_all metrical tracks + skipped_in metrical ps = skipped-more metrical tracks ps in omega arith

map-more : (contents : List (List ℕ)) (c : List ℕ) → map pairs_seen (contents ++ c ∷ []) ≡ map pairs_seen contents ++ pairs_seen c ∷ []
map-more [] c = refl
map-more (d ∷ contents) c = ap (λ (ts : List (List Pair)). pairs_seen d ∷ ts) (map-more contents c)

all-more : (contents : List (List ℕ)) (c : List ℕ) → IsTrue (list_all is_track contents) → IsTrue (is_track c) → IsTrue (list_all is_track (contents ++ c ∷ []))
all-more contents c h k =
    go contents h
  where
    tail : (b t : Bool) → (b && t) ≡ true → t ≡ true
    tail true t e = e
    tail false t e = let bad : ⊥ = cc in absurd bad

    head : (b t : Bool) → (b && t) ≡ true → b ≡ true
    head true t e = refl
    head false t e = cc

    go : (cs : List (List ℕ)) → IsTrue (list_all is_track cs) → IsTrue (list_all is_track (cs ++ c ∷ []))
    go [] h = and_both (is_track c) true k refl
    go (d ∷ cs) h = and_both (is_track d) (list_all is_track (cs ++ c ∷ [])) (head (is_track d) (list_all is_track cs) h) (go cs (tail (is_track d) (list_all is_track cs) h))

-- a chunk of another kind
pub other-taken : (metrical : Bool) (after left more : List ℕ) (contents : List (List ℕ)) (tempos : List TempoEntry) (skipped : ℕ) (chunk : Chunk) →
    ChunksTaken metrical after left contents tempos skipped → chunk_at left ≡ Ok (chunk, more) → chunk.is_track ≡ false → ChunksTaken metrical after more contents tempos skipped
other-taken metrical after left more contents tempos skipped chunk w next f = record {
  items = w.items ++ Other ∷ [];
  stand = other-snoc w.items after left more chunk w.stand next f;
  tracks = other-tracks w.items ∙ w.tracks;
  tempos_are = w.tempos_are ∙ ap (all_tempos metrical) (sym (other-tracks w.items));
  skipped_are = w.skipped_are ∙ ap (skipped_in_all metrical) (sym (other-tracks w.items));
  whole = w.whole;
}

-- a track
pub track-taken : (metrical : Bool) (after left more : List ℕ) (contents : List (List ℕ)) (tempos tempos' : List TempoEntry) (skipped skips : ℕ) (chunk : Chunk) →
    ChunksTaken metrical after left contents tempos skipped → chunk_at left ≡ Ok (chunk, more) → chunk.is_track ≡ true → length chunk.content ≤ 2 ^ 24 →
    TrackTaken metrical chunk.content tempos tempos' skips → ChunksTaken metrical after more (contents ++ chunk.content ∷ []) tempos' (skipped + skips)
track-taken metrical after left more contents tempos tempos' skipped skips chunk w next f small t =
    let read : pairs_of chunk.content ≡ Ok t.pairs = track-content chunk.content t.pairs t.track in
    let seen : t.pairs ≡ pairs_seen chunk.content = ap pairs_or_none (sym read) in
    let fits : nat_le (length chunk.content) 16777216 ≡ true = le-leb (length chunk.content) 16777216 small in
    let good : is_ok (pairs_of chunk.content) ≡ true = ap is_ok read in
    let older : skipped ≡ skipped_in_all metrical (tracks_in w.items) = w.skipped_are in
    let newer : skips ≡ skipped_in metrical t.pairs = t.counted in
    let sum : skipped_in_all metrical (tracks_in w.items ++ t.pairs ∷ []) ≡ skipped_in_all metrical (tracks_in w.items) + skipped_in metrical t.pairs = skipped-more metrical (tracks_in w.items) t.pairs in
    let both : skipped + skips ≡ skipped_in_all metrical (tracks_in w.items ++ t.pairs ∷ []) = omega arith in
    record {
      items = w.items ++ Track t.pairs ∷ [];
      stand = track-snoc w.items after left more chunk t.pairs w.stand next f t.track;
      tracks = more-tracks w.items t.pairs ∙ ap (λ (ts : List (List Pair)). ts ++ t.pairs ∷ []) w.tracks ∙ ap (λ (ps : List Pair). map pairs_seen contents ++ ps ∷ []) seen ∙ sym (map-more contents chunk.content);
      tempos_are = with-more metrical tempos tempos' (tracks_in w.items) t.pairs w.tempos_are t.tempos ∙ ap (all_tempos metrical) (sym (more-tracks w.items t.pairs));
      skipped_are = both ∙ ap (skipped_in_all metrical) (sym (more-tracks w.items t.pairs));
      whole = all-more contents chunk.content w.whole (and_both (is_ok (pairs_of chunk.content)) (nat_le (length chunk.content) 16777216) good fits);
    }

count-seen : (contents : List (List ℕ)) → length (map pairs_seen contents) ≡ length contents
count-seen [] = refl
count-seen (c ∷ contents) = ap suc (count-seen contents)

pub count-taken : (metrical : Bool) (after left : List ℕ) (contents : List (List ℕ)) (tempos : List TempoEntry) (skipped : ℕ) → (w : ChunksTaken metrical after left contents tempos skipped) → length (tracks_in w.items) ≡ length contents
count-taken metrical after left contents tempos skipped w = ap (λ (ts : List (List Pair)). length ts) w.tracks ∙ count-seen contents

-- all tracks are read
pub chunks-file : (metrical : Bool) (bytes after left : List ℕ) (header : Header) (contents : List (List ℕ)) (tempos : List TempoEntry) (skipped : ℕ) →
    ChunksTaken metrical after left contents tempos skipped → header_at bytes ≡ Ok (header, after) → length contents ≡ header.tracks → IsFile bytes (file_seen header.format header.division contents)
chunks-file metrical bytes after left header contents tempos skipped w head count = record {
  header = header;
  after = after;
  items = w.items;
  unread = left;
  headed = head;
  stand = w.stand;
  counted = count-taken metrical after left contents tempos skipped w ∙ count;
  format = refl;
  division = refl;
  tracks = sym w.tracks;
}

entries-kept : (b : Bool) (metrical : Bool) (f : MidiFile) (tempos entries : List TempoEntry) → is_frame_division f.division ≡ b → metrical ≡ not b → tempos ≡ all_tempos metrical f.tracks → entries ≡ (if metrical then last_at_each (default_entry ∷ in_order (λ e. e.tick) tempos) else []) → entries ≡ entries_of f
entries-kept true metrical f tempos entries is m t e = rw (is) (e ∙ ap (λ (k : Bool). if k then last_at_each (default_entry ∷ in_order (λ e. e.tick) tempos) else []) m)
entries-kept false metrical f tempos entries is m t e =
    rw (is) (e ∙ ap (λ (k : Bool). if k then last_at_each (default_entry ∷ in_order (λ e. e.tick) tempos) else []) m
    ∙ ap (λ (ts : List TempoEntry). last_at_each (default_entry ∷ in_order (λ e. e.tick) ts)) (t ∙ ap (λ (k : Bool). all_tempos k f.tracks) m))

-- the entries, as they are made of the tempos
pub chunks-entries : (metrical : Bool) (after left : List ℕ) (format division : ℕ) (contents : List (List ℕ)) (tempos entries : List TempoEntry) (skipped : ℕ) →
    ChunksTaken metrical after left contents tempos skipped → metrical ≡ not (is_frame_division division) →
    entries ≡ (if metrical then last_at_each (default_entry ∷ in_order (λ e. e.tick) tempos) else []) → entries ≡ entries_of (file_seen format division contents)
chunks-entries metrical after left format division contents tempos entries skipped w m e = entries-kept (is_frame_division division) metrical (file_seen format division contents) tempos entries refl m (w.tempos_are ∙ ap (all_tempos metrical) w.tracks) e

pub chunks-kept : (metrical : Bool) (after left : List ℕ) (format division : ℕ) (contents : List (List ℕ)) (tempos : List TempoEntry) (table : Tempos) (skipped : ℕ) →
    ChunksTaken metrical after left contents tempos skipped → metrical ≡ not (is_frame_division division) → length contents < 2 ^ 16 → IsTrue (is_division division) →
    table ≡ record { division = division; entries = entries_of (file_seen format division contents) } → IsFileKept (file_seen format division contents) contents table skipped
chunks-kept metrical after left format division contents tempos table skipped w m few whole e = record {
  tracks = w.whole;
  few = few;
  division = whole;
  tempos_are = e;
  skipped_are = w.skipped_are ∙ ap (skipped_in_all metrical) w.tracks ∙ ap (λ (k : Bool). skipped_in_all k (map pairs_seen contents)) m;
}

-- the next chunk is at fault
pub chunks-fault : (metrical : Bool) (bytes after left : List ℕ) (header : Header) (contents : List (List ℕ)) (tempos : List TempoEntry) (skipped : ℕ) (x : SmfFault) →
    ChunksTaken metrical after left contents tempos skipped → header_at bytes ≡ Ok (header, after) → length contents < header.tracks → IsChunkFault (length bytes) (length contents) left (chunk_at left) x → Fault bytes x
chunks-fault metrical bytes after left header contents tempos skipped x w head fewer told =
    let count : length (tracks_in w.items) ≡ length contents = count-taken metrical after left contents tempos skipped w in
    inr (record {
      header = header;
      after = after;
      items = w.items;
      rest = left;
      headed = head;
      stand = w.stand;
      fewer = omega arith;
      next = subst (λ (k : ℕ). IsChunkFault (length bytes) k left (chunk_at left) x) (sym count) told;
    })

pub told-at : (size track : ℕ) (left : List ℕ) (found : Result (Chunk × List ℕ) ChunkFault) (x : SmfFault) → chunk_at left ≡ found → IsChunkFault size track left found x → IsChunkFault size track left (chunk_at left) x
told-at size track left found x e told = subst (λ (r : Result (Chunk × List ℕ) ChunkFault). IsChunkFault size track left r x) (sym e) told

abbrev pub nows : List (Bor (List ℕ)) → List (List ℕ)
nows xs = map (λ c. c.now) xs

pub now-more : (xs : List (Bor (List ℕ))) (x : Bor (List ℕ)) → nows (xs ++ x ∷ []) ≡ nows xs ++ x.now ∷ []
now-more [] x = refl
now-more (y ∷ xs) x = ap (λ (ts : List (List ℕ)). y.now ∷ ts) (now-more xs x)

pub count-now : (xs : List (Bor (List ℕ))) → length (nows xs) ≡ length xs
count-now [] = refl
count-now (x ∷ xs) = ap suc (count-now xs)
