-- A delta time that is cut to 32 bits is refused as the whole one is, and none that a file can hold is cut.
use Rattle.std.proofs.Common.{◌≡◌, ◌∙◌, ℕ, suc, Bool, List, [], ◌∷◌, length, map, min, Option, Some, None, Result, Ok, Err, refl, sym, ap, subst, arith}
use Rattle.std.specs.Prelude.{◌&&◌, if◌then◌else◌, IsTrue, IfOk, IfErr, IfSome, OnOk}
use Rattle.std.specs.Option.{option_or}
use Rattle.std.specs.Global.{Vec}
use Rattle.std.proofs.lemmas.Bool.Decides.{nat_tests}
use Rattle.std.proofs.lemmas.List.{length-map}
use Rattle.midi_wire.proofs.Written.{and_true}
use Rattle.smf_files.proofs.WritingTracks.{Standing, track-stands}
use Rattle.smf_files.specs.declared.fault.TracksFault.{TracksFault}
use Rattle.smf_files.specs.Refusals.{told_of_tracks}
use Rattle.smf_grammar.proofs.WrittenFile.{neither}
use Rattle.smf_grammar.specs.Files.{MidiFile, IsFile}
use Rattle.smf_grammar.specs.Pairs.{Pair, is_end}
use Rattle.smf_grammar.specs.Seen.{is_event_sound}
use Rattle.smf_grammar.specs.Written.{FileRefusal, BadPair, is_quantity, has_bytes, can_stand, refused_after_end, track_refusal, tracks_refusal, header_refusal, size_refusal, file_refusal, written_file}
use Rattle.port_files.specs.Seen.{capped}

abbrev Tracks : Type 0
Tracks = List (List Pair)

abbrev cut : Tracks → Tracks
cut ts = map (map capped) ts

quantity-capped : (n : ℕ) → is_quantity (min n 4294967295) ≡ is_quantity n
quantity-capped n = grind (arith, nat_tests)

stands-capped : (p : Pair) → can_stand (capped p) ≡ can_stand p
stands-capped p = ap (λ b. b && (is_event_sound p.event && has_bytes p.event)) (quantity-capped p.delta)

delta-same : (n : ℕ) → IsTrue (is_quantity n) → min n 4294967295 ≡ n
delta-same n h = grind (arith, nat_tests)

pair-same : (p : Pair) → IsTrue (can_stand p) → capped p ≡ p
pair-same p h = ap (λ n. record { delta = n; event = p.event }) (delta-same p.delta (and_true (is_quantity p.delta) (is_event_sound p.event && has_bytes p.event) h).0)

pairs-same : (ps : List Pair) → Standing ps → map capped ps ≡ ps
pairs-same [] h = refl
pairs-same (p ∷ ps) h = ap (λ q. q ∷ map capped ps) (pair-same p h.0) ∙ ap (λ qs. p ∷ qs) (pairs-same ps h.1)

tracks-same : (k : ℕ) (ts : Tracks) → tracks_refusal k ts ≡ None → cut ts ≡ ts
tracks-same k [] h = refl
tracks-same k (ps ∷ ts) h =
    let both = neither (track_refusal k 0 ps) (tracks_refusal (suc k) ts) h in
    ap (λ q. q ∷ cut ts) (pairs-same ps (track-stands ps k 0 both.0)) ∙ ap (λ qs. ps ∷ qs) (tracks-same (suc k) ts both.1)

after-same : (track at : ℕ) (ps : List Pair) → refused_after_end track at (map capped ps) ≡ refused_after_end track at ps
after-same track at [] = refl
after-same track at (p ∷ ps) = refl

track-refused : (track at : ℕ) (ps : List Pair) → track_refusal track at (map capped ps) ≡ track_refusal track at ps
track-refused track at [] = refl
track-refused track at (p ∷ ps) =
    ap (λ (b : Bool). if b then (if is_end p.event then refused_after_end track at (map capped ps) else track_refusal track (suc at) (map capped ps)) else Some (BadPair track at)) (stands-capped p)
    ∙ ap (λ (o : Option FileRefusal). if can_stand p then (if is_end p.event then o else track_refusal track (suc at) (map capped ps)) else Some (BadPair track at)) (after-same track at ps)
    ∙ ap (λ (o : Option FileRefusal). if can_stand p then (if is_end p.event then refused_after_end track at ps else o) else Some (BadPair track at)) (track-refused track (suc at) ps)

tracks-refused : (k : ℕ) (ts : Tracks) → tracks_refusal k (cut ts) ≡ tracks_refusal k ts
tracks-refused k [] = refl
tracks-refused k (ps ∷ ts) =
    ap (λ o. option_or o (tracks_refusal (suc k) (cut ts))) (track-refused k 0 ps)
    ∙ ap (λ o. option_or (track_refusal k 0 ps) o) (tracks-refused (suc k) ts)

-- ---- files

abbrev of_tracks : ℕ → ℕ → Tracks → MidiFile
of_tracks format division ts = record { format = format; division = division; tracks = ts }

module _ (format division : ℕ) (ts : Tracks) where
  taken-same : file_refusal (of_tracks format division (cut ts)) ≡ None → cut ts ≡ ts
  taken-same h =
      let both = neither (header_refusal format (length (cut ts)) division) (option_or (tracks_refusal 0 (cut ts)) (size_refusal (length (written_file (of_tracks format division (cut ts)))))) h in
      let pairs = neither (tracks_refusal 0 (cut ts)) (size_refusal (length (written_file (of_tracks format division (cut ts))))) both.1 in
      tracks-same 0 ts (sym (tracks-refused 0 ts) ∙ pairs.0)

  refused-same : file_refusal (of_tracks format division (cut ts)) ≡ file_refusal (of_tracks format division ts)
  refused-same = go (tracks_refusal 0 ts) refl
    where
      go : (o : Option FileRefusal) → tracks_refusal 0 ts ≡ o → file_refusal (of_tracks format division (cut ts)) ≡ file_refusal (of_tracks format division ts)
      go None e = ap (λ us. file_refusal (of_tracks format division us)) (tracks-same 0 ts e)
      go (Some r) e =
          ap (λ o. option_or (header_refusal format (length (cut ts)) division) (option_or o (size_refusal (length (written_file (of_tracks format division (cut ts))))))) (tracks-refused 0 ts ∙ e)
          ∙ ap (λ n. option_or (header_refusal format n division) (Some r)) (length-map ts (map capped))
          ∙ sym (ap (λ o. option_or (header_refusal format (length ts) division) (option_or o (size_refusal (length (written_file (of_tracks format division ts)))))) e)

  module _ (g : MidiFile) (lent : g ≡ of_tracks format division (cut ts)) where
    whole : file_refusal g ≡ None → g ≡ of_tracks format division ts
    whole h = lent ∙ ap (λ vs. of_tracks format division vs) (taken-same (subst (λ f. file_refusal f ≡ None) lent h))

    same : file_refusal (of_tracks format division ts) ≡ file_refusal g
    same = sym refused-same ∙ sym (ap file_refusal lent)

    pub text : (r : Result (Vec ℕ) TracksFault) → IfOk r (λ file. file.items ≡ written_file g) → OnOk r (file_refusal g ≡ None) → IfOk r (λ file. file.items ≡ written_file (of_tracks format division ts))
    text (Err x) h t = tt
    text (Ok file) h t = h ∙ ap written_file (whole t)

    pub reads_back : (r : Result (Vec ℕ) TracksFault) → IfOk r (λ file. IsFile file.items g) → OnOk r (file_refusal g ≡ None) → IfOk r (λ file. IsFile file.items (of_tracks format division ts))
    reads_back (Err x) h t = tt
    reads_back (Ok file) h t = subst (λ f. IsFile file.items f) (whole t) h

    pub taken : (r : Result (Vec ℕ) TracksFault) → OnOk r (file_refusal g ≡ None) → OnOk r (file_refusal (of_tracks format division ts) ≡ None)
    taken (Err x) t = tt
    taken (Ok file) t = same ∙ t

    told : (o : Option FileRefusal) → file_refusal g ≡ o → IfSome o (λ r. file_refusal (of_tracks format division ts) ≡ Some r)
    told None h = tt
    told (Some r) h = same ∙ h

    pub refused : (r : Result (Vec ℕ) TracksFault) → IfErr r (λ x. file_refusal g ≡ told_of_tracks x) → IfErr r (λ x. IfSome (told_of_tracks x) (λ r. file_refusal (of_tracks format division ts) ≡ Some r))
    refused (Err x) h = told (told_of_tracks x) h
    refused (Ok file) h = tt

-- the file that is lent
pub lent-file : (format division d : ℕ) (ts us : Tracks) → d ≡ division → us ≡ cut ts → of_tracks format d us ≡ of_tracks format division (cut ts)
lent-file format division d ts us e f = ap (λ n. of_tracks format n us) e ∙ ap (λ vs. of_tracks format division vs) f
