-- Reading item by item by the lenient grammar finds what its definitions say, and all that they say.
use Rattle.std.proofs.Common.{◌≡◌, ◌<◌, ℕ, zero, suc, ◌+◌, ◌-◌, Bool, true, false, List, [], ◌∷◌, ◌++◌, ◌∙◌, length, refl, arith, ap, sym, subst, inl, inr}
use Rattle.std.specs.Prelude.{Option, None, Result, Ok, Err, if◌then◌else◌, ◌⊎◌}
use Rattle.smf_grammar.specs.Outcomes.{◌>>=◌}
use Rattle.smf_grammar.specs.Pairs.{Pair, is_end}
use Rattle.smf_grammar.specs.Chunks.{Header, header_at, Chunk, chunk_at}
use Rattle.smf_grammar.specs.Files.{Item, Other, Track, tracks_in, MidiFile}
use Rattle.smf_grammar.specs.Reading.{Pairs, with_pair, track_by}
use Rattle.smf_grammar.specs.declared.fault.PairFault.{PairFault}
use Rattle.smf_grammar.specs.declared.fault.ChunkFault.{ChunkFault}
use Rattle.smf_grammar.specs.declared.fault.ChunkFault.TheVariants as chunk_fault
use Rattle.smf_grammar.specs.declared.fault.SmfFault.{SmfFault}
use Rattle.smf_grammar.specs.declared.fault.SmfFault.TheVariants.{TrackMissing, Truncated}
use Rattle.smf_grammar.proofs.Binds.{Bound, bind-ok}
use Rattle.smf_grammar.proofs.Shorter.{chunk-shorter}
use Rattle.smf_mend.specs.Lenient.{lenient_running, lenient_pair_at, AreLenientPairs, LenientEndsIn, IsLenientTrack, LenientStopsAt, LenientTrackFault, AreLenientChunks, IsLenientFile, IsLenientChunkFault, LenientFault}
use Rattle.smf_mend.specs.LenientReading.{lenient_pairs_by, lenient_pairs_from, lenient_pairs_of, lenient_tracks_by, lenient_tracks_from, lenient_reading}
use Rattle.smf_mend.specs.Laws.{LenientFileOrFault, OneLenientFile, OneLenientFault, NotBothLeniently, ReadsLenientFiles, ReadsLenientFaults}
use Rattle.smf_mend.proofs.Softened.{lenient-shorter}

-- ---- pairs

pub ends-with : (running : Option ℕ) (left more : List ℕ) (p : Pair) (qs : List Pair) → lenient_pair_at running left ≡ Ok (p, more) → is_end p.event ≡ false → LenientEndsIn (lenient_running running p.event) more qs → LenientEndsIn running left (p ∷ qs)
ends-with running left more p qs e f w = record {
  before = p ∷ w.before;
  last = w.last;
  after = w.after;
  rest = w.rest;
  unread = w.unread;
  whole = ap (λ (xs : List Pair). p ∷ xs) w.whole;
  stand = (more, e, f, w.stand);
  next = w.next;
  ends = w.ends;
}

stops-with : (running : Option ℕ) (left more : List ℕ) (p : Pair) (fault : PairFault) (rest : List ℕ) → lenient_pair_at running left ≡ Ok (p, more) → is_end p.event ≡ false → LenientStopsAt (lenient_running running p.event) more fault rest → LenientStopsAt running left fault rest
stops-with running left more p fault rest e f w = record { before = p ∷ w.before; after = w.after; stand = (more, e, f, w.stand); next = w.next }

pub pairs-end : (n : ℕ) (running : Option ℕ) (left : List ℕ) (ps : List Pair) → lenient_pairs_from n running left ≡ Ok ps → LenientEndsIn running left ps
unfolding lenient_pairs_from
pairs-end zero running left ps e = let bad : ⊥ = cc in absurd bad
pairs-end (suc n) running left ps e =
    go (pairs-end n) (lenient_pair_at running left) refl e
  where
    Again : Type 0
    Again = (run : Option ℕ) (l : List ℕ) (qs : List Pair) → lenient_pairs_from n run l ≡ Ok qs → LenientEndsIn run l qs

    more : Again → (p : Pair) (l : List ℕ) → lenient_pair_at running left ≡ Ok (p, l) → is_end p.event ≡ false → (r : Pairs) → lenient_pairs_from n (lenient_running running p.event) l ≡ r → with_pair p r ≡ Ok ps → LenientEndsIn running left ps
    more again p l is f (Err stop) rest e = let bad : ⊥ = cc in absurd bad
    more again p l is f (Ok qs) rest e = let same : p ∷ qs ≡ ps = cc in subst (λ (xs : List Pair). LenientEndsIn running left xs) same (ends-with running left l p qs is f (again (lenient_running running p.event) l qs rest))

    branch : Again → (found : Pair × List ℕ) (t : Bool) → lenient_pair_at running left ≡ Ok found → is_end found.0.event ≡ t → (if t then Ok (found.0 ∷ []) else with_pair found.0 (lenient_pairs_from n (lenient_running running found.0.event) found.1)) ≡ Ok ps → LenientEndsIn running left ps
    branch again found true is f e = let same : found.0 ∷ [] ≡ ps = cc in subst (λ (xs : List Pair). LenientEndsIn running left xs) same (record { before = []; last = found.0; after = running; rest = left; unread = found.1; whole = refl; stand = (refl, refl); next = is; ends = f })
    branch again found false is f e = more again found.0 found.1 is f (lenient_pairs_from n (lenient_running running found.0.event) found.1) refl e

    go : Again → (r : Result (Pair × List ℕ) PairFault) → lenient_pair_at running left ≡ r → lenient_pairs_by (lenient_pairs_from n) running left r ≡ Ok ps → LenientEndsIn running left ps
    go again (Err fault) is e = let bad : ⊥ = cc in absurd bad
    go again (Ok found) is e = branch again found (is_end found.0.event) is refl e

pub pairs-stop : (n : ℕ) (running : Option ℕ) (left : List ℕ) (stop : PairFault × List ℕ) → length left < n → lenient_pairs_from n running left ≡ Err stop → LenientStopsAt running left stop.0 stop.1
unfolding lenient_pairs_from
pairs-stop zero running left stop h e = absurd (omega arith)
pairs-stop (suc n) running left stop h e =
    go (pairs-stop n) (lenient_pair_at running left) refl e
  where
    Again : Type 0
    Again = (run : Option ℕ) (l : List ℕ) (s : PairFault × List ℕ) → length l < n → lenient_pairs_from n run l ≡ Err s → LenientStopsAt run l s.0 s.1

    more : Again → (p : Pair) (l : List ℕ) → lenient_pair_at running left ≡ Ok (p, l) → is_end p.event ≡ false → (r : Pairs) → lenient_pairs_from n (lenient_running running p.event) l ≡ r → with_pair p r ≡ Err stop → LenientStopsAt running left stop.0 stop.1
    more again p l is f (Ok qs) rest e = let bad : ⊥ = cc in absurd bad
    more again p l is f (Err other) rest e =
        let shorter : length l < length left = lenient-shorter running left (p, l) is in
        let same : other ≡ stop = cc in
        stops-with running left l p stop.0 stop.1 is f (again (lenient_running running p.event) l stop (omega arith) (rest ∙ ap (λ (s : PairFault × List ℕ). Err s) same))

    branch : Again → (found : Pair × List ℕ) (t : Bool) → lenient_pair_at running left ≡ Ok found → is_end found.0.event ≡ t → (if t then Ok (found.0 ∷ []) else with_pair found.0 (lenient_pairs_from n (lenient_running running found.0.event) found.1)) ≡ Err stop → LenientStopsAt running left stop.0 stop.1
    branch again found true is f e = let bad : ⊥ = cc in absurd bad
    branch again found false is f e = more again found.0 found.1 is f (lenient_pairs_from n (lenient_running running found.0.event) found.1) refl e

    go : Again → (r : Result (Pair × List ℕ) PairFault) → lenient_pair_at running left ≡ r → lenient_pairs_by (lenient_pairs_from n) running left r ≡ Err stop → LenientStopsAt running left stop.0 stop.1
    go again (Ok found) is e = branch again found (is_end found.0.event) is refl e
    go again (Err fault) is e =
        let one : (fault, left) ≡ stop = cc in
        subst (λ (s : PairFault × List ℕ). LenientStopsAt running left s.0 s.1) one (record { before = []; after = running; stand = (refl, refl); next = is })

-- and back
pub end-pairs : (before : List Pair) (n : ℕ) (running after : Option ℕ) (left rest unread : List ℕ) (last : Pair) → length left < n → AreLenientPairs running left before after rest → lenient_pair_at after rest ≡ Ok (last, unread) → is_end last.event ≡ true → lenient_pairs_from n running left ≡ Ok (before ++ last ∷ [])
unfolding lenient_pairs_from
end-pairs before zero running after left rest unread last h stand next ends = absurd (omega arith)
end-pairs [] (suc n) running after left rest unread last h stand next ends =
    let here : lenient_pair_at running left ≡ Ok (last, unread) = rw (stand.0, stand.1) next in
    ap (lenient_pairs_by (lenient_pairs_from n) running left) here ∙ ap (λ (t : Bool). if t then Ok (last ∷ []) else with_pair last (lenient_pairs_from n (lenient_running running last.event) unread)) ends
end-pairs (p ∷ ps) (suc n) running after left rest unread last h stand next ends =
    let shorter : length stand.0 < length left = lenient-shorter running left (p, stand.0) stand.1 in
    ap (lenient_pairs_by (lenient_pairs_from n) running left) stand.1 ∙ ap (λ (t : Bool). if t then Ok (p ∷ []) else with_pair p (lenient_pairs_from n (lenient_running running p.event) stand.0)) stand.2
    ∙ ap (with_pair p) (end-pairs ps n (lenient_running running p.event) after stand.0 rest unread last (omega arith) stand.3 next ends)

pub stop-pairs : (before : List Pair) (n : ℕ) (running after : Option ℕ) (left rest : List ℕ) (fault : PairFault) → length left < n → AreLenientPairs running left before after rest → lenient_pair_at after rest ≡ Err fault → lenient_pairs_from n running left ≡ Err (fault, rest)
unfolding lenient_pairs_from
stop-pairs before zero running after left rest fault h stand next = absurd (omega arith)
stop-pairs [] (suc n) running after left rest fault h stand next =
    let here : lenient_pair_at running left ≡ Err fault = rw (stand.0, stand.1) next in
    ap (lenient_pairs_by (lenient_pairs_from n) running left) here ∙ ap (λ (l : List ℕ). Err (fault, l)) stand.1
stop-pairs (p ∷ ps) (suc n) running after left rest fault h stand next =
    let shorter : length stand.0 < length left = lenient-shorter running left (p, stand.0) stand.1 in
    ap (lenient_pairs_by (lenient_pairs_from n) running left) stand.1 ∙ ap (λ (t : Bool). if t then Ok (p ∷ []) else with_pair p (lenient_pairs_from n (lenient_running running p.event) stand.0)) stand.2
    ∙ ap (with_pair p) (stop-pairs ps n (lenient_running running p.event) after stand.0 rest fault (omega arith) stand.3 next)

pub content-track : (content : List ℕ) (ps : List Pair) → lenient_pairs_of content ≡ Ok ps → IsLenientTrack content ps
unfolding lenient_pairs_of
content-track content ps e = pairs-end (suc (length content)) None content ps e

pub content-stops : (content : List ℕ) (stop : PairFault × List ℕ) → lenient_pairs_of content ≡ Err stop → LenientStopsAt None content stop.0 stop.1
unfolding lenient_pairs_of
content-stops content stop e = pairs-stop (suc (length content)) None content stop (omega arith) e

pub track-content : (content : List ℕ) (ps : List Pair) → IsLenientTrack content ps → lenient_pairs_of content ≡ Ok ps
unfolding lenient_pairs_of
track-content content ps w = end-pairs w.before (suc (length content)) None w.after content w.rest w.unread w.last (omega arith) w.stand w.next w.ends ∙ ap (λ (xs : List Pair). Ok xs) (sym w.whole)

pub stops-content : (content : List ℕ) (fault : PairFault) (rest : List ℕ) → LenientStopsAt None content fault rest → lenient_pairs_of content ≡ Err (fault, rest)
unfolding lenient_pairs_of
stops-content content fault rest w = stop-pairs w.before (suc (length content)) None w.after content rest fault (omega arith) w.stand w.next

-- ---- tracks

-- whole chunks with these tracks stand here
pub record Stands (left : List ℕ) (tracks : List (List Pair)) : Type 0 where
  pub items : List Item
  pub unread : List ℕ
  pub stand : AreLenientChunks left items unread
  pub are : tracks ≡ tracks_in items

-- whole chunks stand here, with fewer tracks than so many, and the next is at fault
pub record Breaks (left : List ℕ) (size count track : ℕ) (x : SmfFault) : Type 0 where
  pub items : List Item
  pub rest : List ℕ
  pub stand : AreLenientChunks left items rest
  pub fewer : length (tracks_in items) < count
  pub next : IsLenientChunkFault size (track + length (tracks_in items)) rest (chunk_at rest) x

stands-other : (left : List ℕ) (found : Chunk × List ℕ) (tracks : List (List Pair)) → chunk_at left ≡ Ok found → found.0.is_track ≡ false → Stands found.1 tracks → Stands left tracks
stands-other left found tracks is f w = record { items = Other ∷ w.items; unread = w.unread; stand = (found.0, found.1, is, f, w.stand); are = w.are }

stands-track : (left : List ℕ) (found : Chunk × List ℕ) (ps : List Pair) (tracks : List (List Pair)) → chunk_at left ≡ Ok found → found.0.is_track ≡ true → IsLenientTrack found.0.content ps → Stands found.1 tracks → Stands left (ps ∷ tracks)
stands-track left found ps tracks is f t w = record { items = Track ps ∷ w.items; unread = w.unread; stand = (found.0, found.1, is, (f, t), w.stand); are = ap (λ (ts : List (List Pair)). ps ∷ ts) w.are }

content-track-by : (content : List ℕ) (size track place : ℕ) (ps : List Pair) → track_by size track place (lenient_pairs_of content) ≡ Ok ps → IsLenientTrack content ps
content-track-by content size track place ps e =
    go (lenient_pairs_of content) refl e
  where
    go : (r : Pairs) → lenient_pairs_of content ≡ r → track_by size track place r ≡ Ok ps → IsLenientTrack content ps
    go (Ok qs) is e = let same : qs ≡ ps = cc in content-track content ps (is ∙ ap (λ (xs : List Pair). Ok xs) same)
    go (Err stop) is e = let bad : ⊥ = cc in absurd bad

content-fault-by : (content : List ℕ) (track place : ℕ) (x : SmfFault) → track_by (length content) track place (lenient_pairs_of content) ≡ Err x → LenientTrackFault content track place x
content-fault-by content track place x e =
    go (lenient_pairs_of content) refl e
  where
    go : (r : Pairs) → lenient_pairs_of content ≡ r → track_by (length content) track place r ≡ Err x → LenientTrackFault content track place x
    go (Ok qs) is e = let bad : ⊥ = cc in absurd bad
    go (Err stop) is e = record { fault = stop.0; rest = stop.1; stops = content-stops content stop is; told = cc }

pub tracks-stand : (n size count track : ℕ) (left : List ℕ) (tracks : List (List Pair)) → lenient_tracks_from n size count track left ≡ Ok tracks → Stands left tracks × (length tracks ≡ count)
unfolding lenient_tracks_from
tracks-stand zero size count track left tracks e = let bad : ⊥ = cc in absurd bad
tracks-stand (suc n) size zero track left tracks e = let same : [] ≡ tracks = cc in subst (λ (ts : List (List Pair)). Stands left ts × (length ts ≡ 0)) same (record { items = []; unread = left; stand = refl; are = refl }, refl)
tracks-stand (suc n) size (suc count) track left tracks e =
    go (λ k t l ts f. tracks-stand n size k t l ts f) (chunk_at left) refl e
  where
    Again : Type 0
    Again = (k t : ℕ) (l : List ℕ) (ts : List (List Pair)) → lenient_tracks_from n size k t l ≡ Ok ts → Stands l ts × (length ts ≡ k)

    branch : Again → (found : Chunk × List ℕ) (b : Bool) → chunk_at left ≡ Ok found → found.0.is_track ≡ b →
        (if b
        then (track_by (length found.0.content) track (size - length left + 8) (lenient_pairs_of found.0.content) >>= λ ps. lenient_tracks_from n size count (suc track) found.1 >>= λ tracks. Ok (ps ∷ tracks))
        else lenient_tracks_from n size (suc count) track found.1) ≡ Ok tracks → Stands left tracks × (length tracks ≡ suc count)
    branch again found false is f e =
        let later : Stands found.1 tracks × (length tracks ≡ suc count) = again (suc count) track found.1 tracks e in
        (stands-other left found tracks is f later.0, later.1)
    branch again found true is f e =
        let first : Bound (track_by (length found.0.content) track (size - length left + 8) (lenient_pairs_of found.0.content)) (λ ps. lenient_tracks_from n size count (suc track) found.1 >>= λ tracks. Ok (ps ∷ tracks)) tracks = bind-ok _ _ _ e in
        let more : Bound (lenient_tracks_from n size count (suc track) found.1) (λ ts. Ok (first.value ∷ ts)) tracks = bind-ok _ _ _ first.next in
        let later : Stands found.1 more.value × (length more.value ≡ count) = again count (suc track) found.1 more.value more.first in
        let same : first.value ∷ more.value ≡ tracks = let e' : ◌≡◌ {A = Result (List (List Pair)) SmfFault} (Ok (first.value ∷ more.value)) (Ok tracks) = more.next in cc in
        let whole : Stands left (first.value ∷ more.value) = stands-track left found first.value more.value is f (content-track-by found.0.content (length found.0.content) track (size - length left + 8) first.value first.first) later.0 in
        subst (λ (ts : List (List Pair)). Stands left ts × (length ts ≡ suc count)) same (whole, ap suc later.1)

    go : Again → (r : Result (Chunk × List ℕ) ChunkFault) → chunk_at left ≡ r → lenient_tracks_by (lenient_tracks_from n size) size count track left r ≡ Ok tracks → Stands left tracks × (length tracks ≡ suc count)
    go again (Err chunk_fault.Missing) is e = let bad : ⊥ = cc in absurd bad
    go again (Err chunk_fault.Cut) is e = let bad : ⊥ = cc in absurd bad
    go again (Ok found) is e = branch again found found.0.is_track is refl e

breaks-other : (left : List ℕ) (size count track : ℕ) (x : SmfFault) (found : Chunk × List ℕ) → chunk_at left ≡ Ok found → found.0.is_track ≡ false → Breaks found.1 size count track x → Breaks left size count track x
breaks-other left size count track x found is f w = record { items = Other ∷ w.items; rest = w.rest; stand = (found.0, found.1, is, f, w.stand); fewer = w.fewer; next = w.next }

breaks-track : (left : List ℕ) (size count track : ℕ) (x : SmfFault) (found : Chunk × List ℕ) (ps : List Pair) → chunk_at left ≡ Ok found → found.0.is_track ≡ true → IsLenientTrack found.0.content ps → Breaks found.1 size count (suc track) x → Breaks left size (suc count) track x
breaks-track left size count track x found ps is f t w =
    let fewer : length (tracks_in w.items) < count = w.fewer in
    let number : suc track + length (tracks_in w.items) ≡ track + suc (length (tracks_in w.items)) = omega arith in
    record {
      items = Track ps ∷ w.items;
      rest = w.rest;
      stand = (found.0, found.1, is, (f, t), w.stand);
      fewer = omega arith;
      next = subst (λ (k : ℕ). IsLenientChunkFault size k w.rest (chunk_at w.rest) x) number w.next;
    }

breaks-here : (left : List ℕ) (size count track : ℕ) (x : SmfFault) → IsLenientChunkFault size track left (chunk_at left) x → Breaks left size (suc count) track x
breaks-here left size count track x told =
    let number : track ≡ track + 0 = omega arith in
    record { items = []; rest = left; stand = refl; fewer = omega arith; next = subst (λ (k : ℕ). IsLenientChunkFault size k left (chunk_at left) x) number told }

pub tracks-break : (n size count track : ℕ) (left : List ℕ) (x : SmfFault) → length left < n → lenient_tracks_from n size count track left ≡ Err x → Breaks left size count track x
unfolding lenient_tracks_from
tracks-break zero size count track left x h e = absurd (omega arith)
tracks-break (suc n) size zero track left x h e = let bad : ⊥ = cc in absurd bad
tracks-break (suc n) size (suc count) track left x h e =
    go (λ k t l. tracks-break n size k t l x) (chunk_at left) refl e
  where
    Again : Type 0
    Again = (k t : ℕ) (l : List ℕ) → length l < n → lenient_tracks_from n size k t l ≡ Err x → Breaks l size k t x

    later : Again → (found : Chunk × List ℕ) (ps : List Pair) → chunk_at left ≡ Ok found → found.0.is_track ≡ true → IsLenientTrack found.0.content ps → (r : Result (List (List Pair)) SmfFault) → lenient_tracks_from n size count (suc track) found.1 ≡ r → (r >>= λ tracks. Ok (ps ∷ tracks)) ≡ Err x → Breaks left size (suc count) track x
    later again found ps is f t (Ok tracks) re e = let bad : ⊥ = cc in absurd bad
    later again found ps is f t (Err y) re e =
        let shorter : length found.1 < length left = chunk-shorter left found is in
        let same : y ≡ x = cc in
        breaks-track left size count track x found ps is f t (again count (suc track) found.1 (omega arith) (re ∙ ap (λ (z : SmfFault). Err z) same))

    here : Again → (found : Chunk × List ℕ) → chunk_at left ≡ Ok found → found.0.is_track ≡ true → (r : Result (List Pair) SmfFault) → track_by (length found.0.content) track (size - length left + 8) (lenient_pairs_of found.0.content) ≡ r →
        (r >>= λ ps. lenient_tracks_from n size count (suc track) found.1 >>= λ tracks. Ok (ps ∷ tracks)) ≡ Err x → Breaks left size (suc count) track x
    here again found is f (Ok ps) re e = later again found ps is f (content-track-by found.0.content (length found.0.content) track (size - length left + 8) ps re) (lenient_tracks_from n size count (suc track) found.1) refl e
    here again found is f (Err y) re e =
        let same : y ≡ x = cc in
        let told : LenientTrackFault found.0.content track (size - length left + 8) x = content-fault-by found.0.content track (size - length left + 8) x (re ∙ ap (λ (z : SmfFault). Err z) same) in
        breaks-here left size count track x (subst (λ (r : Result (Chunk × List ℕ) ChunkFault). IsLenientChunkFault size track left r x) (sym is) (f, told))

    branch : Again → (found : Chunk × List ℕ) (b : Bool) → chunk_at left ≡ Ok found → found.0.is_track ≡ b →
        (if b
        then (track_by (length found.0.content) track (size - length left + 8) (lenient_pairs_of found.0.content) >>= λ ps. lenient_tracks_from n size count (suc track) found.1 >>= λ tracks. Ok (ps ∷ tracks))
        else lenient_tracks_from n size (suc count) track found.1) ≡ Err x → Breaks left size (suc count) track x
    branch again found false is f e = let shorter : length found.1 < length left = chunk-shorter left found is in breaks-other left size (suc count) track x found is f (again (suc count) track found.1 (omega arith) e)
    branch again found true is f e = here again found is f (track_by (length found.0.content) track (size - length left + 8) (lenient_pairs_of found.0.content)) refl e

    go : Again → (r : Result (Chunk × List ℕ) ChunkFault) → chunk_at left ≡ r → lenient_tracks_by (lenient_tracks_from n size) size count track left r ≡ Err x → Breaks left size (suc count) track x
    go again (Err chunk_fault.Missing) is e = let same : x ≡ TrackMissing = cc in breaks-here left size count track x (subst (λ (r : Result (Chunk × List ℕ) ChunkFault). IsLenientChunkFault size track left r x) (sym is) same)
    go again (Err chunk_fault.Cut) is e = let same : x ≡ Truncated (size - length left) = cc in breaks-here left size count track x (subst (λ (r : Result (Chunk × List ℕ) ChunkFault). IsLenientChunkFault size track left r x) (sym is) same)
    go again (Ok found) is e = branch again found found.0.is_track is refl e

-- and back
no-tracks : (tracks : List (List Pair)) → length tracks ≡ 0 → tracks ≡ []
no-tracks [] e = refl
no-tracks (ps ∷ tracks) e = absurd (omega arith)

-- one more chunk, by what it holds
other-tracks : (n size count track : ℕ) (left more : List ℕ) (chunk : Chunk) → chunk_at left ≡ Ok (chunk, more) → chunk.is_track ≡ false → lenient_tracks_from (suc n) size (suc count) track left ≡ lenient_tracks_from n size (suc count) track more
unfolding lenient_tracks_from
other-tracks n size count track left more chunk is f =
    ap (lenient_tracks_by (lenient_tracks_from n size) size count track left) is
    ∙ ap (λ (b : Bool). if b
    then (track_by (length chunk.content) track (size - length left + 8) (lenient_pairs_of chunk.content) >>= λ ps. lenient_tracks_from n size count (suc track) more >>= λ tracks. Ok (ps ∷ tracks))
    else lenient_tracks_from n size (suc count) track more) f

track-tracks : (n size count track : ℕ) (left more : List ℕ) (chunk : Chunk) → chunk_at left ≡ Ok (chunk, more) → chunk.is_track ≡ true →
    lenient_tracks_from (suc n) size (suc count) track left ≡ (track_by (length chunk.content) track (size - length left + 8) (lenient_pairs_of chunk.content) >>= λ ps. lenient_tracks_from n size count (suc track) more >>= λ tracks. Ok (ps ∷ tracks))
unfolding lenient_tracks_from
track-tracks n size count track left more chunk is f =
    ap (lenient_tracks_by (lenient_tracks_from n size) size count track left) is
    ∙ ap (λ (b : Bool). if b
    then (track_by (length chunk.content) track (size - length left + 8) (lenient_pairs_of chunk.content) >>= λ ps. lenient_tracks_from n size count (suc track) more >>= λ tracks. Ok (ps ∷ tracks))
    else lenient_tracks_from n size (suc count) track more) f

whole-track : (n size count track place : ℕ) (more content : List ℕ) (ps : List Pair) → IsLenientTrack content ps →
    (track_by (length content) track place (lenient_pairs_of content) >>= λ ps. lenient_tracks_from n size count (suc track) more >>= λ tracks. Ok (ps ∷ tracks)) ≡ (lenient_tracks_from n size count (suc track) more >>= λ tracks. Ok (ps ∷ tracks))
whole-track n size count track place more content ps t =
    ap (λ (r : Pairs). track_by (length content) track place r >>= λ ps. lenient_tracks_from n size count (suc track) more >>= λ tracks. Ok (ps ∷ tracks)) (track-content content ps t)

pub stand-tracks : (items : List Item) (n size count track : ℕ) (left unread : List ℕ) → length left < n → AreLenientChunks left items unread → length (tracks_in items) ≡ count → lenient_tracks_from n size count track left ≡ Ok (tracks_in items)
unfolding lenient_tracks_from
stand-tracks items zero size count track left unread h stand counted = absurd (omega arith)
stand-tracks items (suc n) size zero track left unread h stand counted = ap (λ (ts : List (List Pair)). Ok ts) (sym (no-tracks (tracks_in items) counted))
stand-tracks [] (suc n) size (suc count) track left unread h stand counted = absurd (omega arith)
stand-tracks (Other ∷ items) (suc n) size (suc count) track left unread h stand counted =
    let shorter : length stand.1 < length left = chunk-shorter left (stand.0, stand.1) stand.2 in
    other-tracks n size count track left stand.1 stand.0 stand.2 stand.3 ∙ stand-tracks items n size (suc count) track stand.1 unread (omega arith) stand.4 counted
stand-tracks (Track ps ∷ items) (suc n) size (suc count) track left unread h stand counted =
    let shorter : length stand.1 < length left = chunk-shorter left (stand.0, stand.1) stand.2 in
    track-tracks n size count track left stand.1 stand.0 stand.2 stand.3.0
    ∙ whole-track n size count track (size - length left + 8) stand.1 stand.0.content ps stand.3.1
    ∙ ap (λ (r : Result (List (List Pair)) SmfFault). r >>= λ tracks. Ok (ps ∷ tracks)) (stand-tracks items n size count (suc track) stand.1 unread (omega arith) stand.4 (omega arith))

break-here : (n size count track : ℕ) (left : List ℕ) (x : SmfFault) → IsLenientChunkFault size track left (chunk_at left) x → lenient_tracks_from (suc n) size (suc count) track left ≡ Err x
unfolding lenient_tracks_from
break-here n size count track left x told =
    go (chunk_at left) refl told
  where
    go : (r : Result (Chunk × List ℕ) ChunkFault) → chunk_at left ≡ r → IsLenientChunkFault size track left r x → lenient_tracks_by (lenient_tracks_from n size) size count track left (chunk_at left) ≡ Err x
    go (Err chunk_fault.Missing) is told = ap (lenient_tracks_by (lenient_tracks_from n size) size count track left) is ∙ ap (λ (y : SmfFault). Err y) (sym told)
    go (Err chunk_fault.Cut) is told = ap (lenient_tracks_by (lenient_tracks_from n size) size count track left) is ∙ ap (λ (y : SmfFault). Err y) (sym told)
    go (Ok found) is told =
        let fault : LenientTrackFault found.0.content track (size - length left + 8) x = told.1 in
        track-tracks n size count track left found.1 found.0 is told.0
        ∙ ap (λ (r : Pairs). track_by (length found.0.content) track (size - length left + 8) r >>= λ ps. lenient_tracks_from n size count (suc track) found.1 >>= λ tracks. Ok (ps ∷ tracks)) (stops-content found.0.content fault.fault fault.rest fault.stops)
        ∙ ap (λ (y : SmfFault). Err y) (sym fault.told)

pub break-tracks : (items : List Item) (n size count track : ℕ) (left rest : List ℕ) (x : SmfFault) → length left < n → AreLenientChunks left items rest → length (tracks_in items) < count → IsLenientChunkFault size (track + length (tracks_in items)) rest (chunk_at rest) x → lenient_tracks_from n size count track left ≡ Err x
break-tracks items zero size count track left rest x h stand fewer told = absurd (omega arith)
break-tracks items (suc n) size zero track left rest x h stand fewer told = absurd (omega arith)
break-tracks [] (suc n) size (suc count) track left rest x h stand fewer told =
    let number : track + 0 ≡ track = omega arith in
    let there : IsLenientChunkFault size track rest (chunk_at rest) x = subst (λ (k : ℕ). IsLenientChunkFault size k rest (chunk_at rest) x) number told in
    break-here n size count track left x (subst (λ (l : List ℕ). IsLenientChunkFault size track l (chunk_at l) x) (sym stand) there)
break-tracks (Other ∷ items) (suc n) size (suc count) track left rest x h stand fewer told =
    let shorter : length stand.1 < length left = chunk-shorter left (stand.0, stand.1) stand.2 in
    other-tracks n size count track left stand.1 stand.0 stand.2 stand.3 ∙ break-tracks items n size (suc count) track stand.1 rest x (omega arith) stand.4 fewer told
break-tracks (Track ps ∷ items) (suc n) size (suc count) track left rest x h stand fewer told =
    let shorter : length stand.1 < length left = chunk-shorter left (stand.0, stand.1) stand.2 in
    let number : track + suc (length (tracks_in items)) ≡ suc track + length (tracks_in items) = omega arith in
    track-tracks n size count track left stand.1 stand.0 stand.2 stand.3.0
    ∙ whole-track n size count track (size - length left + 8) stand.1 stand.0.content ps stand.3.1
    ∙ ap (λ (r : Result (List (List Pair)) SmfFault). r >>= λ tracks. Ok (ps ∷ tracks)) (break-tracks items n size count (suc track) stand.1 rest x (omega arith) stand.4 (omega arith) (subst (λ (k : ℕ). IsLenientChunkFault size k rest (chunk_at rest) x) number told))

-- ---- files

abbrev file_with : Header × List ℕ → List (List Pair) → Result MidiFile SmfFault
file_with head tracks = Ok (record { format = head.0.format; division = head.0.division; tracks = tracks })

abbrev after_header : List ℕ → Header × List ℕ → Result MidiFile SmfFault
after_header bytes head = lenient_tracks_from (suc (length head.1)) (length bytes) head.0.tracks 0 head.1 >>= file_with head

pub reading-file : (bytes : List ℕ) (f : MidiFile) → lenient_reading bytes ≡ Ok f → IsLenientFile bytes f
unfolding lenient_reading
reading-file bytes f e =
    let head : Bound (header_at bytes) (after_header bytes) f = bind-ok (header_at bytes) (after_header bytes) f e in
    let whole : Bound (lenient_tracks_from (suc (length head.value.1)) (length bytes) head.value.0.tracks 0 head.value.1) (λ tracks. Ok (record { format = head.value.0.format; division = head.value.0.division; tracks = tracks })) f = bind-ok _ _ _ head.next in
    let told : Stands head.value.1 whole.value × (length whole.value ≡ head.value.0.tracks) = tracks-stand (suc (length head.value.1)) (length bytes) head.value.0.tracks 0 head.value.1 whole.value whole.first in
    let last : ◌≡◌ {A = Result MidiFile SmfFault} (Ok (record { format = head.value.0.format; division = head.value.0.division; tracks = whole.value })) (Ok f) = whole.next in
    let same : record { format = head.value.0.format; division = head.value.0.division; tracks = whole.value } ≡ f = cc in
    record {
      header = head.value.0;
      after = head.value.1;
      items = told.0.items;
      unread = told.0.unread;
      headed = head.first;
      stand = told.0.stand;
      counted = sym (ap (λ (ts : List (List Pair)). length ts) told.0.are) ∙ told.1;
      format = sym (ap (λ (g : MidiFile). g.format) same);
      division = sym (ap (λ (g : MidiFile). g.division) same);
      tracks = sym (ap (λ (g : MidiFile). g.tracks) same) ∙ told.0.are;
    }

pub file-reading : (bytes : List ℕ) (f : MidiFile) → IsLenientFile bytes f → lenient_reading bytes ≡ Ok f
unfolding lenient_reading
file-reading bytes f w =
    let whole : lenient_tracks_from (suc (length w.after)) (length bytes) w.header.tracks 0 w.after ≡ Ok (tracks_in w.items) = stand-tracks w.items (suc (length w.after)) (length bytes) w.header.tracks 0 w.after w.unread (omega arith) w.stand w.counted in
    let same : record { format = w.header.format; division = w.header.division; tracks = tracks_in w.items } ≡ f = three w.header.format w.header.division (tracks_in w.items) f w.format w.division w.tracks in
    ap (λ (r : Result (Header × List ℕ) SmfFault). r >>= after_header bytes) w.headed
    ∙ ap (λ (r : Result (List (List Pair)) SmfFault). r >>= λ tracks. Ok (record { format = w.header.format; division = w.header.division; tracks = tracks })) whole
    ∙ ap (λ (g : MidiFile). Ok g) same
  where
    three : (format division : ℕ) (tracks : List (List Pair)) (g : MidiFile) → g.format ≡ format → g.division ≡ division → g.tracks ≡ tracks → record { format = format; division = division; tracks = tracks } ≡ g
    three format division tracks g a b c = rw (← a, ← b, ← c) refl

pub reading-fault : (bytes : List ℕ) (x : SmfFault) → lenient_reading bytes ≡ Err x → LenientFault bytes x
unfolding lenient_reading
reading-fault bytes x e =
    go (header_at bytes) refl e
  where
    more : (head : Header × List ℕ) → header_at bytes ≡ Ok head → (r : Result (List (List Pair)) SmfFault) → lenient_tracks_from (suc (length head.1)) (length bytes) head.0.tracks 0 head.1 ≡ r → (r >>= file_with head) ≡ Err x → LenientFault bytes x
    more head is (Ok tracks) re e = let bad : ⊥ = cc in absurd bad
    more head is (Err y) re e =
        let same : y ≡ x = cc in
        let broken : Breaks head.1 (length bytes) head.0.tracks 0 x = tracks-break (suc (length head.1)) (length bytes) head.0.tracks 0 head.1 x (omega arith) (re ∙ ap (λ (z : SmfFault). Err z) same) in
        let number : 0 + length (tracks_in broken.items) ≡ length (tracks_in broken.items) = omega arith in
        inr (record { header = head.0; after = head.1; items = broken.items; rest = broken.rest; headed = is; stand = broken.stand; fewer = broken.fewer; next = subst (λ (k : ℕ). IsLenientChunkFault (length bytes) k broken.rest (chunk_at broken.rest) x) number broken.next })

    go : (r : Result (Header × List ℕ) SmfFault) → header_at bytes ≡ r → (r >>= after_header bytes) ≡ Err x → LenientFault bytes x
    go (Err y) is e = let same : y ≡ x = cc in inl (is ∙ ap (λ (z : SmfFault). Err z) same)
    go (Ok head) is e = more head is (lenient_tracks_from (suc (length head.1)) (length bytes) head.0.tracks 0 head.1) refl e

pub fault-reading : (bytes : List ℕ) (x : SmfFault) → LenientFault bytes x → lenient_reading bytes ≡ Err x
unfolding lenient_reading
fault-reading bytes x (inl e) = ap (λ (r : Result (Header × List ℕ) SmfFault). r >>= after_header bytes) e
fault-reading bytes x (inr w) =
    let number : length (tracks_in w.items) ≡ 0 + length (tracks_in w.items) = omega arith in
    let broken : lenient_tracks_from (suc (length w.after)) (length bytes) w.header.tracks 0 w.after ≡ Err x = break-tracks w.items (suc (length w.after)) (length bytes) w.header.tracks 0 w.after w.rest x (omega arith) w.stand w.fewer (subst (λ (k : ℕ). IsLenientChunkFault (length bytes) k w.rest (chunk_at w.rest) x) number w.next) in
    ap (λ (r : Result (Header × List ℕ) SmfFault). r >>= after_header bytes) w.headed
    ∙ ap (λ (r : Result (List (List Pair)) SmfFault). r >>= λ tracks. Ok (record { format = w.header.format; division = w.header.division; tracks = tracks })) broken

-- ---- the laws

pub reads-files : ReadsLenientFiles
reads-files bytes f = (reading-file bytes f, file-reading bytes f)

pub reads-faults : ReadsLenientFaults
reads-faults bytes x = (reading-fault bytes x, fault-reading bytes x)

pub file-or-fault : LenientFileOrFault
file-or-fault bytes =
    go (lenient_reading bytes) refl
  where
    go : (r : Result MidiFile SmfFault) → lenient_reading bytes ≡ r → ((f : MidiFile) × IsLenientFile bytes f) ⊎ ((x : SmfFault) × LenientFault bytes x)
    go (Ok f) e = inl (f, reading-file bytes f e)
    go (Err x) e = inr (x, reading-fault bytes x e)

pub one-file : OneLenientFile
one-file bytes f g w v = let a : lenient_reading bytes ≡ Ok f = file-reading bytes f w in let b : lenient_reading bytes ≡ Ok g = file-reading bytes g v in cc

pub one-fault : OneLenientFault
one-fault bytes x y w v = let a : lenient_reading bytes ≡ Err x = fault-reading bytes x w in let b : lenient_reading bytes ≡ Err y = fault-reading bytes y v in cc

pub not-both : NotBothLeniently
not-both bytes f x w v = let a : lenient_reading bytes ≡ Ok f = file-reading bytes f w in let b : lenient_reading bytes ≡ Err x = fault-reading bytes x v in cc
