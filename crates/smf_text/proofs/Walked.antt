-- The pairs of a track, and the tracks of a file, printed one after another.
use Rattle.std.proofs.Common.{◌≡◌, ◌<◌, ◌≤◌, ℕ, suc, ◌+◌, ◌-◌, Bool, true, false, List, [], ◌∷◌, ◌++◌, ◌∙◌, length, refl, arith, ap, sym, subst}
use Rattle.std.specs.Prelude.{Option, None, Result, Ok, Err, is_ok, IsTrue}
use Rattle.smf_grammar.specs.declared.fault.ChunkFault.{ChunkFault}
use Rattle.smf_grammar.specs.declared.fault.PairFault.{PairFault}
use Rattle.smf_grammar.specs.Pairs.{Pair, is_end, running_after, pair_at}
use Rattle.smf_grammar.specs.Chunks.{Chunk, chunk_at}
use Rattle.smf_grammar.specs.Files.{Item, Other, Track, tracks_in, AreChunks, IsTrack, MidiFile, IsFile}
use Rattle.smf_grammar.specs.Reading.{Pairs, pairs_of}
use Rattle.smf_grammar.proofs.Whole.{track-content}
use Rattle.smf_files.specs.Kept.{pairs_or_none}
use Rattle.smf_files.specs.Playing.{is_whole, rest_of, after_first}
use Rattle.smf_files.proofs.Places.{whole-last, whole-more}
use Rattle.tool_text.specs.Gathered.{IsGathered, TookFirst}
use Rattle.tool_text.proofs.Pieces.{goes-none, goes-more, stops-more}
use Rattle.smf_text.specs.AllTexts.{line_text}
use Rattle.smf_text.specs.PlacedTexts.{place_text, placed_pairs, placed_track, placed_items, chunk_content, chunk_behind}
use Rattle.smf_text.proofs.Placed.{no-items}

-- ---- pairs

-- where a pair stands first, it is the first of what is left of the track
pub record IsFirst (running : Option ℕ) (left : List ℕ) (p : Pair) : Type 0 where
  pub more : List Pair
  pub rest : rest_of running left ≡ p ∷ more

pub first-pair : (running : Option ℕ) (left more : List ℕ) (p : Pair) → IsTrue (is_whole running left) → pair_at running left ≡ Ok (p, more) → IsFirst running left p
first-pair running left more p whole e = go (is_end p.event) refl
  where
    go : (b : Bool) → is_end p.event ≡ b → IsFirst running left p
    go true ends = record { more = []; rest = whole-last running left more p e ends }
    go false goes = record { more = rest_of (running_after p.event) more; rest = (whole-more running left more p whole e goes).rest }

-- the line of a pair behind its place
abbrev pub pair_line : Bool → ℕ → List ℕ → ℕ → Pair → List ℕ
pair_line placed end left tick p = place_text placed (end - length left) ++ line_text (tick + p.delta) p.event

module _ {W : Type 0} (HasTaken : W → List ℕ → Type 0) (placed : Bool) (end : ℕ) where
  goes-pair : (running : Option ℕ) (left : List ℕ) (p : Pair) (ps : List Pair) (tick : ℕ) (old mid new : W) (text pushed gathered all : List ℕ) → rest_of running left ≡ p ∷ ps →
      IsGathered HasTaken old mid text (placed_pairs placed end running left tick (rest_of running left)) all → pushed ≡ text ++ pair_line placed end left tick p → IsGathered HasTaken mid new gathered [] pushed →
      IsGathered HasTaken old new gathered (placed_pairs placed end (running_after p.event) (after_first (pair_at running left)) (tick + p.delta) ps) all
  goes-pair running left p ps tick old mid new text pushed gathered all is g e k =
      goes-more HasTaken old mid new text pushed gathered (pair_line placed end left tick p) (placed_pairs placed end (running_after p.event) (after_first (pair_at running left)) (tick + p.delta) ps) all
      (subst (λ (xs : List Pair). IsGathered HasTaken old mid text (placed_pairs placed end running left tick xs) all) is g) e k

  -- one more pair
  pub goes-next : (running running' : Option ℕ) (left more : List ℕ) (p : Pair) (tick : ℕ) (old mid new : W) (text pushed gathered all : List ℕ) → IsTrue (is_whole running left) → pair_at running left ≡ Ok (p, more) → is_end p.event ≡ false → running' ≡ running_after p.event →
      IsGathered HasTaken old mid text (placed_pairs placed end running left tick (rest_of running left)) all → pushed ≡ text ++ pair_line placed end left tick p → IsGathered HasTaken mid new gathered [] pushed →
      IsGathered HasTaken old new gathered (placed_pairs placed end running' more (tick + p.delta) (rest_of running' more)) all
  goes-next running running' left more p tick old mid new text pushed gathered all whole found ends status g e k =
      rw status
      (subst (λ (xs : List ℕ). IsGathered HasTaken old new gathered (placed_pairs placed end (running_after p.event) xs (tick + p.delta) (rest_of (running_after p.event) more)) all)
      (ap (λ (r : Result (Pair × List ℕ) PairFault). after_first r) found) (goes-pair running left p (rest_of (running_after p.event) more) tick old mid new text pushed gathered all (whole-more running left more p whole found ends).rest g e k))

  -- the last pair
  pub goes-end : (running : Option ℕ) (left more : List ℕ) (p : Pair) (tick : ℕ) (old mid new : W) (text pushed gathered all : List ℕ) → pair_at running left ≡ Ok (p, more) → is_end p.event ≡ true →
      IsGathered HasTaken old mid text (placed_pairs placed end running left tick (rest_of running left)) all → pushed ≡ text ++ pair_line placed end left tick p → IsGathered HasTaken mid new gathered [] pushed →
      IsGathered HasTaken old new gathered [] all
  goes-end running left more p tick old mid new text pushed gathered all found ends g e k =
      goes-pair running left p [] tick old mid new text pushed gathered all (whole-last running left more p found ends) g e k

  pub stops-next : (running : Option ℕ) (left more : List ℕ) (p : Pair) (tick : ℕ) (old mid new : W) (text pushed all : List ℕ) → IsTrue (is_whole running left) → pair_at running left ≡ Ok (p, more) →
      IsGathered HasTaken old mid text (placed_pairs placed end running left tick (rest_of running left)) all → pushed ≡ text ++ pair_line placed end left tick p → TookFirst HasTaken mid pushed new → TookFirst HasTaken old all new
  stops-next running left more p tick old mid new text pushed all whole found g e k =
      let first : IsFirst running left p = first-pair running left more p whole found in
      stops-more HasTaken old mid new text pushed (pair_line placed end left tick p) (placed_pairs placed end (running_after p.event) (after_first (pair_at running left)) (tick + p.delta) first.more) all
      (subst (λ (xs : List Pair). IsGathered HasTaken old mid text (placed_pairs placed end running left tick xs) all) first.rest g) e k

-- ---- tracks

-- the pairs of the content of a track
pub record IsContent (content : List ℕ) (ps : List Pair) : Type 0 where
  pub whole : IsTrue (is_whole None content)
  pub is : rest_of None content ≡ ps

content-pairs : (content : List ℕ) (ps : List Pair) → IsTrack content ps → IsContent content ps
unfolding is_whole rest_of pairs_of
content-pairs content ps w =
    let e : pairs_of content ≡ Ok ps = track-content content ps w in
    record { whole = ap (λ (r : Pairs). is_ok r) e; is = ap pairs_or_none e }

same-chunk : (left more more' : List ℕ) (chunk chunk' : Chunk) → chunk_at left ≡ Ok (chunk, more) → chunk_at left ≡ Ok (chunk', more') → (chunk ≡ chunk') × (more ≡ more')
same-chunk left more more' chunk chunk' e e' =
    let both : ◌≡◌ {A = Result (Chunk × List ℕ) ChunkFault} (Ok (chunk, more)) (Ok (chunk', more')) = sym e ∙ e' in
    let parts : ◌≡◌ {A = Chunk × List ℕ} (chunk, more) (chunk', more') = cc in
    (ap (λ (x : Chunk × List ℕ). x.0) parts, ap (λ (x : Chunk × List ℕ). x.1) parts)

module _ {W : Type 0} (HasTaken : W → List ℕ → Type 0) (placed : Bool) (size : ℕ) where
  -- a part of a text is gathered or written, and the chunks from this one on stand in what is left
  pub record ToCome (old new : W) (count track : ℕ) (left text all : List ℕ) : Type 0 where
    pub items : List Item
    pub unread : List ℕ
    pub stand : AreChunks left items unread
    pub counted : track + length (tracks_in items) ≡ count
    pub goes : IsGathered HasTaken old new text (placed_items placed size track left items) all

  pub all-to-come : (bytes left text : List ℕ) (f : MidiFile) (old : W) (w : IsFile bytes f) → w.after ≡ left → ToCome old old (length f.tracks) 0 left text (text ++ placed_items placed size 0 w.after w.items)
  all-to-come bytes left text f old w e =
      let c : length f.tracks ≡ length (tracks_in w.items) = ap (λ (ts : List (List Pair)). length ts) w.tracks in
      subst (λ (xs : List ℕ). ToCome old old (length f.tracks) 0 xs text (text ++ placed_items placed size 0 w.after w.items)) e
      (record { items = w.items; unread = w.unread; stand = w.stand; counted = omega arith; goes = goes-none HasTaken old text (placed_items placed size 0 w.after w.items) })

  -- no track is left
  pub none-to-come : (old new : W) (count track : ℕ) (left text all : List ℕ) → ToCome old new count track left text all → count ≤ track → IsGathered HasTaken old new text [] all
  none-to-come old new count track left text all w h =
      let c : track + length (tracks_in w.items) ≡ count = w.counted in
      subst (λ (xs : List ℕ). IsGathered HasTaken old new text xs all) (no-items placed size track left w.items (omega arith)) w.goes

  module _ (old mid : W) (count track : ℕ) (left text all : List ℕ) (h : track < count) where
    pub coming-fault : (fault : ChunkFault) → ToCome old mid count track left text all → chunk_at left ≡ Err fault → ⊥
    coming-fault fault w e = go w.items w.stand w.counted
      where
        go : (items : List Item) → AreChunks left items w.unread → track + length (tracks_in items) ≡ count → ⊥
        go [] stand counted = omega arith
        go (item ∷ items) stand counted = let found : chunk_at left ≡ Ok (stand.0, stand.1) = stand.2 in cc

    module _ (more : List ℕ) (chunk : Chunk) (e : chunk_at left ≡ Ok (chunk, more)) where
      behind : chunk_behind (chunk_at left) ≡ more
      behind = ap (λ (r : Result (Chunk × List ℕ) ChunkFault). chunk_behind r) e

      pub coming-other : ToCome old mid count track left text all → chunk.is_track ≡ false → ToCome old mid count track more text all
      coming-other w f = go w.items w.stand w.counted w.goes
        where
          go : (items : List Item) → AreChunks left items w.unread → track + length (tracks_in items) ≡ count → IsGathered HasTaken old mid text (placed_items placed size track left items) all → ToCome old mid count track more text all
          go [] stand counted goes = absurd (omega arith)
          go (Other ∷ items) stand counted goes =
              let same : (stand.0 ≡ chunk) × (stand.1 ≡ more) = same-chunk left stand.1 more stand.0 chunk stand.2 e in
              record {
                items = items;
                unread = w.unread;
                stand = subst (λ (xs : List ℕ). AreChunks xs items w.unread) same.1 stand.4;
                counted = counted;
                goes = subst (λ (xs : List ℕ). IsGathered HasTaken old mid text (placed_items placed size track xs items) all) behind goes;
              }
          go (Track pairs ∷ items) stand counted goes =
              let same : (stand.0 ≡ chunk) × (stand.1 ≡ more) = same-chunk left stand.1 more stand.0 chunk stand.2 e in
              let is : chunk.is_track ≡ true = ap (λ (k : Chunk). k.is_track) (sym same.0) ∙ stand.3.0 in
              let bad : ⊥ = cc in absurd bad

      -- the lines of the track that stands first
      abbrev here : List ℕ
      here = placed_track placed (size - length left) track chunk.content (rest_of None chunk.content)

      -- the chunk that stands first holds a track, and these chunks come after it
      record IsNext (w : ToCome old mid count track left text all) : Type 0 where
        pub items : List Item
        pub whole : IsTrue (is_whole None chunk.content)
        pub stand : AreChunks more items w.unread
        pub counted : track + suc (length (tracks_in items)) ≡ count
        pub goes : IsGathered HasTaken old mid text (here ++ placed_items placed size (suc track) more items) all

      next : (w : ToCome old mid count track left text all) → chunk.is_track ≡ true → IsNext w
      next w t = go w.items w.stand w.counted w.goes
        where
          go : (items : List Item) → AreChunks left items w.unread → track + length (tracks_in items) ≡ count → IsGathered HasTaken old mid text (placed_items placed size track left items) all → IsNext w
          go [] stand counted goes = absurd (omega arith)
          go (Other ∷ items) stand counted goes =
              let same : (stand.0 ≡ chunk) × (stand.1 ≡ more) = same-chunk left stand.1 more stand.0 chunk stand.2 e in
              let is : chunk.is_track ≡ false = ap (λ (k : Chunk). k.is_track) (sym same.0) ∙ stand.3 in
              let bad : ⊥ = cc in absurd bad
          go (Track pairs ∷ items) stand counted goes =
              let same : (stand.0 ≡ chunk) × (stand.1 ≡ more) = same-chunk left stand.1 more stand.0 chunk stand.2 e in
              let content : IsContent chunk.content pairs = content-pairs chunk.content pairs (subst (λ (k : Chunk). IsTrack k.content pairs) same.0 stand.3.1) in
              record {
                items = items;
                whole = content.whole;
                stand = subst (λ (xs : List ℕ). AreChunks xs items w.unread) same.1 stand.4;
                counted = counted;
                goes = rw content.is
                    (subst (λ (r : Result (Chunk × List ℕ) ChunkFault). IsGathered HasTaken old mid text (placed_track placed (size - length left) track (chunk_content r) pairs ++ placed_items placed size (suc track) (chunk_behind r) items) all) e goes);
              }

      module _ (w : ToCome old mid count track left text all) (t : chunk.is_track ≡ true) where
        pub coming-whole : IsTrue (is_whole None chunk.content)
        coming-whole = (next w t).whole

        pub coming-next : (new : W) (gathered : List ℕ) → IsGathered HasTaken mid new gathered [] (text ++ here) → ToCome old new count (track + 1) more gathered all
        coming-next new gathered k =
            let first : IsNext w = next w t in
            let number : track + 1 ≡ suc track = omega arith in
            let c : track + suc (length (tracks_in first.items)) ≡ count = first.counted in
            record {
              items = first.items;
              unread = w.unread;
              stand = first.stand;
              counted = omega arith;
              goes = rw number (goes-more HasTaken old mid new text (text ++ here) gathered here (placed_items placed size (suc track) more first.items) all first.goes refl k);
            }

        pub coming-stops : (new : W) → TookFirst HasTaken mid (text ++ here) new → TookFirst HasTaken old all new
        coming-stops new k = let first : IsNext w = next w t in stops-more HasTaken old mid new text (text ++ here) here (placed_items placed size (suc track) more first.items) all first.goes refl k
