-- A file that the lenient grammar takes, written track by track.
use Rattle.std.proofs.Common.{◌≡◌, ◌≤◌, ◌<◌, ℕ, ◌+◌, ◌-◌, Bool, true, false, List, [], ◌∷◌, ◌++◌, ◌∙◌, length, length-append, append_assoc, append-nil, refl, arith, ap, sym, subst}
use Rattle.std.specs.Prelude.{Option, Some, None, Result, Ok, if◌then◌else◌, codes}
use Rattle.std.specs.Option.{option_or}
use Rattle.std.proofs.lemmas.Bool.{le-leb}
use Rattle.smf_grammar.specs.Pairs.{Pair}
use Rattle.smf_grammar.specs.Chunks.{Header, header_at, Chunk, chunk_at}
use Rattle.smf_grammar.specs.Files.{MidiFile, IsFile}
use Rattle.smf_grammar.specs.Texts.{chunk_text}
use Rattle.smf_grammar.specs.Written.{FileRefusal, TooLarge, pairs_text, tracks_text, header_text, written_file, header_refusal, tracks_refusal, size_refusal, file_refusal}
use Rattle.smf_grammar.specs.declared.fault.ChunkFault.{ChunkFault}
use Rattle.smf_grammar.specs.declared.fault.SmfFault.{SmfFault}
use Rattle.smf_grammar.proofs.WrittenFile.{reads-written}
use Rattle.smf_mend.specs.declared.forgiven.Tally.{Tally}
use Rattle.smf_mend.specs.declared.growth.Growth.{Growth}
use Rattle.smf_mend.specs.Lenient.{IsLenientFile, IsLenientChunkFault}
use Rattle.smf_mend.specs.Mending.{IsMended, IsOutgrown}
use Rattle.smf_mend.specs.Forgiving.{forgives_status, forgives_data, chunk_places}
use Rattle.smf_mend.specs.Tallies.{with_places, IsTracksFault}
use Rattle.smf_mend.specs.Growing.{IsGrownBy, IsGrown, GrewBy, IsTrackWritten, AreTracksWritten}
use Rattle.smf_mend.proofs.LenientChunks.{ChunksTaken, no-chunks, other-taken, track-taken, all-taken, chunks-fault}
use Rattle.smf_mend.proofs.Heads.{header-written, counted-places}

-- ---- tracks one after another

text-more : (tracks : List (List Pair)) (ps : List Pair) → tracks_text (tracks ++ ps ∷ []) ≡ tracks_text tracks ++ chunk_text (codes "MTrk") (pairs_text None ps)
text-more [] ps = append-nil (chunk_text (codes "MTrk") (pairs_text None ps))
text-more (qs ∷ tracks) ps =
    ap (λ (xs : List ℕ). chunk_text (codes "MTrk") (pairs_text None qs) ++ xs) (text-more tracks ps)
    ∙ sym (append_assoc (chunk_text (codes "MTrk") (pairs_text None qs)) (tracks_text tracks) (chunk_text (codes "MTrk") (pairs_text None ps)))

-- what was taken of the chunks before this place, and written of them
pub record ChunksWritten (size : ℕ) (after left : List ℕ) (done : ℕ) (old new : Tally) (begun now : Growth) : Type 0 where
  pub tracks : List (List Pair)
  pub taken : ChunksTaken size after left tracks old new
  pub counted : length tracks ≡ done
  pub grown : GrewBy begun now (tracks_text tracks)

pub nothing-written : (size : ℕ) (after : List ℕ) (tally : Tally) (begun : Growth) → ChunksWritten size after after 0 tally tally begun begun
nothing-written size after tally begun = record { tracks = []; taken = no-chunks size after tally; counted = refl; grown = λ text h. subst (IsGrown begun) (sym (append-nil text)) h }

module _ (size : ℕ) (after left more : List ℕ) (done : ℕ) (old before new : Tally) (begun now next : Growth) (chunk : Chunk)
    (w : ChunksWritten size after left done old before begun now) (is : chunk_at left ≡ Ok (chunk, more)) where
  pub other-written : chunk.is_track ≡ false → ChunksWritten size after more done old before begun now
  other-written f = record { tracks = w.tracks; taken = other-taken size after left more w.tracks old before chunk w.taken is f; counted = w.counted; grown = w.grown }

  pub track-written : chunk.is_track ≡ true → IsTrackWritten chunk.content (size - length left + 8) before new now next → ChunksWritten size after more (done + 1) old new begun next
  track-written f t = record {
    tracks = w.tracks ++ t.pairs ∷ [];
    taken = track-taken size after left more w.tracks (w.tracks ++ t.pairs ∷ []) old before new chunk t.pairs w.taken is f t.taken refl;
    counted = length-append w.tracks (t.pairs ∷ []) ∙ ap (λ (n : ℕ). n + 1) w.counted;
    grown = λ text h. subst (IsGrown next) (append_assoc text (tracks_text w.tracks) (chunk_text (codes "MTrk") (pairs_text None t.pairs)) ∙ ap (λ (xs : List ℕ). text ++ xs) (sym (text-more w.tracks t.pairs))) (t.grown (text ++ tracks_text w.tracks) (w.grown text h));
  }

pub all-written : (size : ℕ) (after left : List ℕ) (done count : ℕ) (old new : Tally) (begun now : Growth) → ChunksWritten size after left done old new begun now → done ≡ count → AreTracksWritten size after count old new begun now
all-written size after left done count old new begun now w all = record { tracks = w.tracks; taken = all-taken size after left count w.tracks old new w.taken (w.counted ∙ all); grown = w.grown }

pub written-fault : (size : ℕ) (after left : List ℕ) (done count : ℕ) (old new : Tally) (begun now : Growth) (found : Result (Chunk × List ℕ) ChunkFault) (x : SmfFault) → ChunksWritten size after left done old new begun now → done < count →
    chunk_at left ≡ found → IsLenientChunkFault size done left found x → IsTracksFault size after count x
written-fault size after left done count old new begun now found x w fewer is told =
    let same : length w.tracks ≡ done = w.counted in
    chunks-fault size after left count w.tracks old new found x w.taken (omega (arith, same)) is (subst (λ (k : ℕ). IsLenientChunkFault size k left found x) (sym same) told)

-- ---- the whole file

module _ (bytes after : List ℕ) (h : Header) (old new : Tally) (begun out : Growth) (head : header_at bytes ≡ Ok (h, after)) (begins : IsGrown begun (header_text h.format h.tracks h.division))
    (w : AreTracksWritten (length bytes) after h.tracks old new begun out) where
  abbrev said : MidiFile
  said = record { format = h.format; division = h.division; tracks = w.tracks }

  lenient : IsLenientFile bytes said
  lenient = record {
    header = h;
    after = after;
    items = w.taken.items;
    unread = w.taken.unread;
    headed = head;
    stand = w.taken.stand;
    counted = ap length (sym w.taken.are) ∙ w.taken.counted;
    format = refl;
    division = refl;
    tracks = w.taken.are;
  }

  text-is : header_text h.format h.tracks h.division ++ tracks_text w.tracks ≡ written_file said
  unfolding written_file
  text-is = ap (λ (n : ℕ). header_text h.format n h.division ++ tracks_text w.tracks) (sym w.taken.counted)

  grown : IsGrown out (written_file said)
  grown = subst (IsGrown out) text-is (w.grown (header_text h.format h.tracks h.division) begins)

  pub outgrown : out.is_outgrown ≡ true → IsOutgrown bytes
  outgrown over = record { f = said; lenient = lenient; long = subst (λ (t : Bool). IsGrownBy t out.bytes.items (written_file said)) over grown }

  pub mended : h.tracks ≤ 65535 → old.running_status ≡ None → old.high_data ≡ None → out.is_outgrown ≡ false → IsMended bytes (record { bytes = out.bytes; running_status = new.running_status; high_data = new.high_data })
  unfolding lenient
  mended few a b under =
      let both : IsGrownBy false out.bytes.items (written_file said) = subst (λ (t : Bool). IsGrownBy t out.bytes.items (written_file said)) under grown in
      let first : header_refusal h.format (length w.tracks) h.division ≡ None = ap (λ (n : ℕ). header_refusal h.format n h.division) w.taken.counted ∙ header-written bytes h after head few in
      let taken : file_refusal said ≡ None =
      ap (λ (o : Option FileRefusal). option_or o (option_or (tracks_refusal 0 w.tracks) (size_refusal (length (written_file said))))) first
      ∙ ap (λ (o : Option FileRefusal). option_or o (size_refusal (length (written_file said)))) (w.taken.can 0)
      ∙ ap (λ (t : Bool). if t then None else Some TooLarge) (le-leb (length (written_file said)) 16777216 both.1) in
      record {
        f = said;
        lenient = lenient;
        written = both.0;
        strict = subst (λ (xs : List ℕ). IsFile xs said) (sym both.0) (reads-written said taken);
        status = w.taken.status ∙ ap (λ o. with_places o (chunk_places forgives_status (length bytes) after w.taken.items)) a ∙ counted-places _;
        data_bytes = w.taken.data_bytes ∙ ap (λ o. with_places o (chunk_places forgives_data (length bytes) after w.taken.items)) b ∙ counted-places _;
      }
