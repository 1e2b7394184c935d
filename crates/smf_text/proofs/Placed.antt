-- Texts with places and without.
use Rattle.std.proofs.Common.{◌≡◌, ℕ, suc, ◌+◌, ◌-◌, Bool, true, false, List, [], ◌∷◌, ◌++◌, ◌∙◌, length, refl, arith, ap, sym, subst}
use Rattle.std.specs.Prelude.{Option, None, Result, Ok}
use Rattle.smf_grammar.specs.declared.fault.ChunkFault.{ChunkFault}
use Rattle.smf_grammar.specs.declared.fault.SmfFault.{SmfFault}
use Rattle.smf_grammar.specs.Pairs.{Pair, running_after, pair_at}
use Rattle.smf_grammar.specs.Chunks.{Header, header_at, Chunk, chunk_at}
use Rattle.smf_grammar.specs.Files.{Item, Other, Track, tracks_in, AreChunks, MidiFile, IsFile}
use Rattle.smf_files.specs.Playing.{after_first}
use Rattle.tool_text.specs.Dump.{head_line}
use Rattle.smf_text.specs.AllTexts.{line_text, pair_lines, track_text, track_lines}
use Rattle.smf_text.specs.PlacedTexts.{placed_pairs, placed_track, placed_items, place_text, chunk_content, chunk_behind}
use Rattle.smf_text.specs.Laws.{SameWithoutPlaces, OnePlacedText}

-- ---- no places

plain-pairs : (end : ℕ) (running : Option ℕ) (left : List ℕ) (tick : ℕ) (ps : List Pair) → placed_pairs false end running left tick ps ≡ pair_lines tick ps
plain-pairs end running left tick [] = refl
plain-pairs end running left tick (p ∷ ps) =
    ap (λ (xs : List ℕ). line_text (tick + p.delta) p.event ++ xs) (plain-pairs end (running_after p.event) (after_first (pair_at running left)) (tick + p.delta) ps)

plain-track : (place track : ℕ) (content : List ℕ) (ps : List Pair) → placed_track false place track content ps ≡ track_text track ps
plain-track place track content ps = rw (plain-pairs (place + 8 + length content) None content 0 ps) refl

plain-items : (size track : ℕ) (left : List ℕ) (items : List Item) → placed_items false size track left items ≡ track_lines track (tracks_in items)
plain-items size track left [] = refl
plain-items size track left (Other ∷ items) = plain-items size track (chunk_behind (chunk_at left)) items
plain-items size track left (Track ps ∷ items) =
    ap (λ (xs : List ℕ). xs ++ placed_items false size (suc track) (chunk_behind (chunk_at left)) items) (plain-track (size - length left) track (chunk_content (chunk_at left)) ps)
    ∙ ap (λ (xs : List ℕ). track_text track ps ++ xs) (plain-items size (suc track) (chunk_behind (chunk_at left)) items)

pub same-without-places : SameWithoutPlaces
same-without-places bytes f w = ap (λ (xs : List ℕ). head_line f ++ xs) (plain-items (length bytes) 0 w.after w.items ∙ ap (λ (ts : List (List Pair)). track_lines 0 ts) (sym w.tracks))

-- ---- one text

-- chunks that hold no track have no lines
pub no-items : (placed : Bool) (size track : ℕ) (left : List ℕ) (items : List Item) → length (tracks_in items) ≡ 0 → placed_items placed size track left items ≡ []
no-items placed size track left [] h = refl
no-items placed size track left (Other ∷ items) h = no-items placed size track (chunk_behind (chunk_at left)) items h
no-items placed size track left (Track ps ∷ items) h = absurd (omega arith)

-- what is left behind the chunk that stands first
stand-behind : (left more : List ℕ) (chunk : Chunk) → chunk_at left ≡ Ok (chunk, more) → more ≡ chunk_behind (chunk_at left)
stand-behind left more chunk e = ap (λ (r : Result (Chunk × List ℕ) ChunkFault). chunk_behind r) (sym e)

one-kind : (left more more' : List ℕ) (chunk chunk' : Chunk) → chunk_at left ≡ Ok (chunk, more) → chunk_at left ≡ Ok (chunk', more') → chunk.is_track ≡ true → chunk'.is_track ≡ false → ⊥
one-kind left more more' chunk chunk' e e' t f =
    let both : ◌≡◌ {A = Result (Chunk × List ℕ) ChunkFault} (Ok (chunk, more)) (Ok (chunk', more')) = sym e ∙ e' in
    let parts : ◌≡◌ {A = Chunk × List ℕ} (chunk, more) (chunk', more') = cc in
    let same : chunk ≡ chunk' = ap (λ (x : Chunk × List ℕ). x.0) parts in
    let bad : true ≡ false = sym t ∙ ap (λ (k : Chunk). k.is_track) same ∙ f in cc

-- chunks that stand in the same place and hold the same tracks
same-items : (placed : Bool) (size track : ℕ) (left : List ℕ) (xs ys : List Item) (u v : List ℕ) → AreChunks left xs u → AreChunks left ys v → tracks_in xs ≡ tracks_in ys → placed_items placed size track left xs ≡ placed_items placed size track left ys
same-items placed size track left [] ys u v a b e = sym (no-items placed size track left ys (ap (λ (ts : List (List Pair)). length ts) (sym e)))
same-items placed size track left (x ∷ xs) [] u v a b e = no-items placed size track left (x ∷ xs) (ap (λ (ts : List (List Pair)). length ts) e)
same-items placed size track left (Other ∷ xs) (Other ∷ ys) u v a b e =
    same-items placed size track (chunk_behind (chunk_at left)) xs ys u v (subst (λ (l : List ℕ). AreChunks l xs u) (stand-behind left a.1 a.0 a.2) a.4) (subst (λ (l : List ℕ). AreChunks l ys v) (stand-behind left b.1 b.0 b.2) b.4) e
same-items placed size track left (Other ∷ xs) (Track qs ∷ ys) u v a b e = absurd (one-kind left b.1 a.1 b.0 a.0 b.2 a.2 b.3.0 a.3)
same-items placed size track left (Track ps ∷ xs) (Other ∷ ys) u v a b e = absurd (one-kind left a.1 b.1 a.0 b.0 a.2 b.2 a.3.0 b.3)
same-items placed size track left (Track ps ∷ xs) (Track qs ∷ ys) u v a b e =
    let first : ps ≡ qs = cc in
    let more : tracks_in xs ≡ tracks_in ys = cc in
    ap (λ (rs : List Pair). placed_track placed (size - length left) track (chunk_content (chunk_at left)) rs ++ placed_items placed size (suc track) (chunk_behind (chunk_at left)) xs) first
    ∙ ap (λ (zs : List ℕ). placed_track placed (size - length left) track (chunk_content (chunk_at left)) qs ++ zs)
    (same-items placed size (suc track) (chunk_behind (chunk_at left)) xs ys u v (subst (λ (l : List ℕ). AreChunks l xs u) (stand-behind left a.1 a.0 a.2) a.4) (subst (λ (l : List ℕ). AreChunks l ys v) (stand-behind left b.1 b.0 b.2) b.4) more)

-- the header of bytes ends at one place
pub one-after : (bytes after : List ℕ) (f : MidiFile) (header : Header) (w : IsFile bytes f) → header_at bytes ≡ Ok (header, after) → w.after ≡ after
one-after bytes after f header w e =
    let both : ◌≡◌ {A = Result (Header × List ℕ) SmfFault} (Ok (w.header, w.after)) (Ok (header, after)) = sym w.headed ∙ e in
    let parts : ◌≡◌ {A = Header × List ℕ} (w.header, w.after) (header, after) = cc in
    ap (λ (x : Header × List ℕ). x.1) parts

pub one-placed-text : OnePlacedText
one-placed-text placed bytes f w v =
    let same : w.after ≡ v.after = one-after bytes v.after f v.header w v.headed in
    ap (λ (xs : List ℕ). place_text placed 0 ++ head_line f ++ xs)
    (ap (λ (l : List ℕ). placed_items placed (length bytes) 0 l w.items) same
    ∙ same-items placed (length bytes) 0 v.after w.items v.items w.unread v.unread (subst (λ (l : List ℕ). AreChunks l w.items w.unread) same w.stand) v.stand (sym w.tracks ∙ v.tracks))
