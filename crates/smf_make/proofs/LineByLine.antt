-- A file that is begun, and one more line.
use Rattle.std.proofs.Common.{◌≡◌, ℕ, suc, Bool, false, List, ◌++◌, length, refl, sym, ap, ◌∙◌, subst}
use Rattle.std.specs.Prelude.{if◌then◌else◌, Option, Some, None, Result, Ok, Err, IfOk}
use Rattle.std.proofs.lemmas.Bool.{eq-eqb}
use Rattle.smf_grammar.specs.Chunks.{Header}
use Rattle.smf_grammar.specs.Pairs.{Pair}
use Rattle.smf_grammar.specs.Written.{written_file, header_text, tracks_text}
use Rattle.smf_make.specs.declared.fault.MakeFault.TheVariants.{Line, TooLarge}
use Rattle.smf_make.specs.declared.written_part.OpenTrack.{OpenTrack}
use Rattle.smf_make.specs.declared.written_part.WrittenPart.{WrittenPart}
use Rattle.smf_make.specs.declared.written_part.WrittenPart.TheVariants as code
use Rattle.smf_make.specs.declared.written_part.LineStop.{LineStop}
use Rattle.smf_make.specs.Making.{IsFinishedFrom}
use Rattle.smf_make.specs.WrittenParts.{IsBetweenTracks, IsWithinTrack, IsPartOf, IsLineMade, IsAfterLine}
use Rattle.smf_make.specs.SaidEvents.{is_passed_over, track_said, timed_event}
use Rattle.smf_make.specs.SaidFiles.{BegunFile, Unheaded, Between, Within, expected_next, with_track, with_event, limited_or, begun_with}

-- a line that made something
pub made-after : (begun : BegunFile) (line bytes : List ℕ) (part : WrittenPart) (o : Option BegunFile) → is_passed_over line ≡ false → begun_with begun line ≡ o → IsLineMade bytes part o → IsAfterLine begun line bytes part
made-after begun line bytes part None over is made = absurd made
made-after begun line bytes part (Some next) over is made = record {
  next = next;
  after = λ number.
      ap (λ (t : Bool). if t then Ok begun else limited_or number (expected_next begun) (begun_with begun line)) over
      ∙ ap (limited_or number (expected_next begun)) is
      ∙ ap (λ (t : Bool). if t then Ok next else Err (TooLarge number)) made.1;
  holds = made.0;
}

-- in a file with whole tracks
pub after-between : (bytes : List ℕ) (part : WrittenPart) (tracks ended : ℕ) (r : Result WrittenPart LineStop) (line more : List ℕ) → part ≡ code.Between tracks ended → is_passed_over line ≡ false →
    IfOk r (λ p. (h : Header) (done : List (List Pair)) → IsBetweenTracks bytes tracks ended h done → IsLineMade more p (with_track h done (track_said line))) →
    IfOk r (λ p. (begun : BegunFile) → IsPartOf bytes part begun → IsAfterLine begun line more p)
after-between bytes part tracks ended (Err x) line more at over made = made
after-between bytes part tracks ended (Ok p) line more at over made = λ begun w. go begun (subst (λ (k : WrittenPart). IsPartOf bytes k begun) at w)
  where
    go : (begun : BegunFile) → IsPartOf bytes (code.Between tracks ended) begun → IsAfterLine begun line more p
    go Unheaded w = absurd w
    go (Between h done) w = made-after (Between h done) line more p (with_track h done (track_said line)) over refl (made h done w)
    go (Within h done ps last) w = absurd w

pub after-within : (bytes : List ℕ) (part : WrittenPart) (track : OpenTrack) (r : Result WrittenPart LineStop) (line more : List ℕ) → part ≡ code.Within track → is_passed_over line ≡ false →
    IfOk r (λ p. (h : Header) (done : List (List Pair)) (ps : List Pair) (last : ℕ) → IsWithinTrack bytes track h done ps last → IsLineMade more p (with_event h done ps last (timed_event line))) →
    IfOk r (λ p. (begun : BegunFile) → IsPartOf bytes part begun → IsAfterLine begun line more p)
after-within bytes part track (Err x) line more at over made = made
after-within bytes part track (Ok p) line more at over made = λ begun w. go begun (subst (λ (k : WrittenPart). IsPartOf bytes k begun) at w)
  where
    go : (begun : BegunFile) → IsPartOf bytes (code.Within track) begun → IsAfterLine begun line more p
    go Unheaded w = absurd w
    go (Between h done) w = absurd w
    go (Within h done ps last) w = made-after (Within h done ps last) line more p (with_event h done ps last (timed_event line)) over refl (made h done ps last w)

-- a file whose tracks have ended
pub finished : (bytes : List ℕ) (tracks ended number : ℕ) (begun : BegunFile) → ended ≡ tracks → IsPartOf bytes (code.Between tracks ended) begun → IsFinishedFrom number begun bytes
unfolding written_file
finished bytes tracks ended number Unheaded e w = absurd w
finished bytes tracks ended number (Within h done ps last) e w = absurd w
finished bytes tracks ended number (Between h done) e w =
    let count : length done ≡ h.tracks = w.ended ∙ e ∙ sym w.counted in
    record {
      f = record { format = h.format; division = h.division; tracks = done };
      whole = ap (λ (t : Bool). if t then Ok (record { format = h.format; division = h.division; tracks = done }) else Err (Line (suc number) (expected_next (Between h done)))) (eq-eqb (length done) h.tracks count);
      written = w.written ∙ ap (λ (n : ℕ). header_text h.format n h.division ++ tracks_text done) (sym count);
    }
