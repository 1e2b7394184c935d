-- A file that a text says can be written.
use Rattle.std.proofs.Common.{◌≡◌, ◌≤◌, ℕ, suc, ◌-◌, Bool, true, false, not, List, [], ◌∷◌, ◌++◌, length, refl, sym, ap, ◌∙◌, subst, arith}
use Rattle.std.specs.Prelude.{if◌then◌else◌, nat_le, nat_lt, ◌==◌, ◌&&◌, Option, Some, None, is_some, Result, Ok, Err}
use Rattle.std.specs.List.{AllByRecursion}
use Rattle.std.specs.Option.{option_map, option_or}
use Rattle.std.proofs.lemmas.Bool.{le-leb, eqb-true}
use Rattle.std.proofs.lemmas.Bool.Decides.{nat_tests}
use Rattle.midi_wire.proofs.Written.{and_true}
use Rattle.script_text.specs.Words.{lines, without_return}
use Rattle.script_text.specs.Numbers.{only_if}
use Rattle.smf_grammar.proofs.Binds.{Bound, bind-ok}
use Rattle.smf_grammar.specs.Chunks.{most_bytes, Header}
use Rattle.smf_grammar.specs.Pairs.{TrackEvent, Pair, is_end}
use Rattle.smf_grammar.specs.Seen.{is_event_sound}
use Rattle.smf_grammar.specs.Files.{MidiFile}
use Rattle.smf_grammar.specs.Written.{FileRefusal, BadPair, TooLarge, is_quantity, has_bytes, can_stand, written_file, header_refusal, refused_after_end, track_refusal, tracks_refusal, size_refusal, file_refusal}
use Rattle.smf_grammar.proofs.WrittenFile.{neither, reads-written}
use Rattle.smf_make.specs.declared.fault.MakeFault.{MakeFault}
use Rattle.smf_make.specs.declared.fault.MakeFault.TheVariants as fault
use Rattle.smf_make.specs.Laws.{ReadsMade}
use Rattle.smf_make.specs.SaidEvents.{is_passed_over, header_said, track_said, timed_event, can_head}
use Rattle.smf_make.specs.SaidFiles.{BegunFile, Unheaded, Between, Within, expected_next, front_text, begun_text, with_said_pair, with_event, limited_or, begun_with, begun_after, file_begun, file_from, said_file, without_empty_last}
use Rattle.smf_make.proofs.SoundEvents.{Passes, passes-test, CanBeWritten, timed-sound, said-head}

-- ---- tracks

-- a pair that others may follow
pub record IsGoing (p : Pair) : Type 0 where
  pub stands : can_stand p ≡ true
  pub going : is_end p.event ≡ false

pub track-ends : (track at : ℕ) (ps : List Pair) (p : Pair) → AllByRecursion IsGoing ps → can_stand p ≡ true → is_end p.event ≡ true → track_refusal track at (ps ++ p ∷ []) ≡ None
track-ends track at [] p all stands ends =
    ap (λ (t : Bool). if t then (if is_end p.event then None else track_refusal track (suc at) []) else Some (BadPair track at)) stands
    ∙ ap (λ (t : Bool). if t then None else track_refusal track (suc at) []) ends
track-ends track at (q ∷ ps) p all stands ends =
    ap (λ (t : Bool). if t then (if is_end q.event then refused_after_end track at (ps ++ p ∷ []) else track_refusal track (suc at) (ps ++ p ∷ [])) else Some (BadPair track at)) all.0.stands
    ∙ ap (λ (t : Bool). if t then refused_after_end track at (ps ++ p ∷ []) else track_refusal track (suc at) (ps ++ p ∷ [])) all.0.going
    ∙ track-ends track (suc at) ps p all.1 stands ends

tracks-more : (k : ℕ) (done : List (List Pair)) (ps : List Pair) → tracks_refusal k done ≡ None → ((track : ℕ) → track_refusal track 0 ps ≡ None) → tracks_refusal k (done ++ ps ∷ []) ≡ None
tracks-more k [] ps good last = ap (λ (o : Option FileRefusal). option_or o None) (last k)
tracks-more k (qs ∷ done) ps good last =
    let parts = neither (track_refusal k 0 qs) (tracks_refusal (suc k) done) good in
    ap (λ (o : Option FileRefusal). option_or o (tracks_refusal (suc k) (done ++ ps ∷ []))) parts.0 ∙ tracks-more (suc k) done ps parts.1 last

going-more : (ps : List Pair) (p : Pair) → AllByRecursion IsGoing ps → IsGoing p → AllByRecursion IsGoing (ps ++ p ∷ [])
going-more [] p all is = (is, tt)
going-more (q ∷ ps) p all is = (all.0, going-more ps p all.1 is)

-- ---- what a file is begun with

pub record GoodFront (h : Header) (done : List (List Pair)) : Type 0 where
  pub can : can_head h ≡ true
  pub good : tracks_refusal 0 done ≡ None

record GoodPart (h : Header) (done : List (List Pair)) (ps : List Pair) : Type 0 where
  front : GoodFront h done
  going : AllByRecursion IsGoing ps

abbrev IsGood : BegunFile → Type 0
IsGood Unheaded = Unit {0}
IsGood (Between h done) = GoodFront h done × (length (front_text h done) ≤ most_bytes)
IsGood (Within h done ps last) = GoodPart h done ps

pair-good : (h : Header) (done : List (List Pair)) (ps : List Pair) (tick : ℕ) (p : Pair) → GoodPart h done ps → can_stand p ≡ true → length (begun_text (with_said_pair h done ps tick p)) ≤ most_bytes → IsGood (with_said_pair h done ps tick p)
pair-good h done ps tick p part stands small = go (is_end p.event) refl small
  where
    go : (t : Bool) → is_end p.event ≡ t → length (begun_text (if t then Between h (done ++ (ps ++ p ∷ []) ∷ []) else Within h done (ps ++ p ∷ []) tick)) ≤ most_bytes → IsGood (if t then Between h (done ++ (ps ++ p ∷ []) ∷ []) else Within h done (ps ++ p ∷ []) tick)
    go true ends fits = (record { can = part.front.can; good = tracks-more 0 done (ps ++ p ∷ []) part.front.good (λ track. track-ends track 0 ps p part.going stands ends) }, fits)
    go false ends fits = record { front = part.front; going = going-more ps p part.going (record { stands = stands; going = ends }) }

event-good : (h : Header) (done : List (List Pair)) (ps : List Pair) (last : ℕ) (line : List ℕ) (next : BegunFile) → GoodPart h done ps → with_event h done ps last (timed_event line) ≡ Some next → length (begun_text next) ≤ most_bytes → IsGood next
event-good h done ps last line next part made small =
    go (only_if (λ e. nat_le last e.0 && is_quantity (e.0 - last)) (timed_event line)) refl made
  where
    go : (o : Option (ℕ × TrackEvent)) → only_if (λ e. nat_le last e.0 && is_quantity (e.0 - last)) (timed_event line) ≡ o → option_map (λ e. with_said_pair h done ps e.0 (record { delta = e.0 - last; event = e.1 })) o ≡ Some next → IsGood next
    go None is k = let bad : ⊥ = cc in absurd bad
    go (Some e) is k =
        let p : Passes (λ (x : ℕ × TrackEvent). nat_le last x.0 && is_quantity (x.0 - last)) (timed_event line) e = passes-test (λ (x : ℕ × TrackEvent). nat_le last x.0 && is_quantity (x.0 - last)) (timed_event line) e is in
        let can : CanBeWritten e.1 = timed-sound line e.0 e.1 p.is in
        let near : is_quantity (e.0 - last) ≡ true = (and_true (nat_le last e.0) (is_quantity (e.0 - last)) p.passes).1 in
        let stands : can_stand (record { delta = e.0 - last; event = e.1 }) ≡ true =
        ap (λ (t : Bool). t && (is_event_sound e.1 && has_bytes e.1)) near ∙ ap (λ (t : Bool). t && has_bytes e.1) can.sound ∙ can.counted in
        let same : with_said_pair h done ps e.0 (record { delta = e.0 - last; event = e.1 }) ≡ next = cc in
        subst IsGood same (pair-good h done ps e.0 (record { delta = e.0 - last; event = e.1 }) part stands (subst (λ (x : BegunFile). length (begun_text x) ≤ most_bytes) (sym same) small))

made-good : (begun : BegunFile) (line : List ℕ) (next : BegunFile) → IsGood begun → begun_with begun line ≡ Some next → length (begun_text next) ≤ most_bytes → IsGood next
made-good Unheaded line next good made small = go (header_said line) refl made
  where
    go : (o : Option Header) → header_said line ≡ o → option_map (λ h. Between h []) o ≡ Some next → IsGood next
    go None is k = let bad : ⊥ = cc in absurd bad
    go (Some h) is k = let same : Between h [] ≡ next = cc in subst IsGood same (record { can = said-head line h is; good = refl }, subst (λ (x : BegunFile). length (begun_text x) ≤ most_bytes) (sym same) small)
made-good (Between h done) line next good made small = go (only_if (λ k. nat_lt k h.tracks && (k == length done)) (track_said line)) made
  where
    go : (o : Option ℕ) → option_map (λ (k : ℕ). Within h done [] 0) o ≡ Some next → IsGood next
    go None k = let bad : ⊥ = cc in absurd bad
    go (Some n) k = let same : Within h done [] 0 ≡ next = cc in subst IsGood same (record { front = good.0; going = tt })
made-good (Within h done ps last) line next good made small = event-good h done ps last line next good made small

after-good : (number : ℕ) (begun : BegunFile) (line : List ℕ) (next : BegunFile) → IsGood begun → begun_after number begun line ≡ Ok next → IsGood next
after-good number begun line next good after = go (is_passed_over line) after
  where
    fits : (made : BegunFile) (t : Bool) → begun_with begun line ≡ Some made → nat_le (length (begun_text made)) most_bytes ≡ t → ◌≡◌ {A = Result BegunFile MakeFault} (if t then Ok made else Err (fault.TooLarge number)) (Ok next) → IsGood next
    fits made true is small k =
        let low : length (begun_text made) ≤ most_bytes = grind (arith, nat_tests) in
        let same : made ≡ next = cc in
        subst IsGood same (made-good begun line made good is low)
    fits made false is small k = let bad : ⊥ = cc in absurd bad

    made : (o : Option BegunFile) → begun_with begun line ≡ o → limited_or number (expected_next begun) o ≡ Ok next → IsGood next
    made None is k = let bad : ⊥ = cc in absurd bad
    made (Some x) is k = fits x (nat_le (length (begun_text x)) most_bytes) is refl k

    go : (t : Bool) → (if t then Ok begun else limited_or number (expected_next begun) (begun_with begun line)) ≡ Ok next → IsGood next
    go true k = let same : begun ≡ next = cc in subst IsGood same good
    go false k = made (begun_with begun line) refl k

-- ---- the whole file

no-refusal : (o : Option FileRefusal) → not (is_some o) ≡ true → o ≡ None
no-refusal None h = refl
no-refusal (Some x) h = let bad : ⊥ = cc in absurd bad

pub front-written : (h : Header) (done : List (List Pair)) → length done ≡ h.tracks → GoodFront h done → length (front_text h done) ≤ most_bytes → file_refusal (record { format = h.format; division = h.division; tracks = done }) ≡ None
unfolding written_file
front-written h done count good small =
    let head : header_refusal h.format (length done) h.division ≡ None = ap (λ (n : ℕ). header_refusal h.format n h.division) count ∙ no-refusal (header_refusal h.format h.tracks h.division) good.can in
    let size : length (written_file (record { format = h.format; division = h.division; tracks = done })) ≤ 16777216 = subst (λ (n : ℕ). length (front_text (record { format = h.format; tracks = n; division = h.division }) done) ≤ most_bytes) (sym count) small in
    ap (λ (o : Option FileRefusal). option_or o (option_or (tracks_refusal 0 done) (size_refusal (length (written_file (record { format = h.format; division = h.division; tracks = done })))))) head
    ∙ ap (λ (o : Option FileRefusal). option_or o (size_refusal (length (written_file (record { format = h.format; division = h.division; tracks = done }))))) good.good
    ∙ ap (λ (t : Bool). if t then None else Some TooLarge) (le-leb (length (written_file (record { format = h.format; division = h.division; tracks = done }))) 16777216 size)

begun-written : (number : ℕ) (begun : BegunFile) (f : MidiFile) → IsGood begun → file_begun number begun ≡ Ok f → file_refusal f ≡ None
begun-written number Unheaded f good e = let bad : ⊥ = cc in absurd bad
begun-written number (Within h done ps last) f good e = let bad : ⊥ = cc in absurd bad
begun-written number (Between h done) f good e = go (length done == h.tracks) refl e
  where
    go : (t : Bool) → (length done == h.tracks) ≡ t → (if t then Ok (record { format = h.format; division = h.division; tracks = done }) else Err (fault.Line number (expected_next (Between h done)))) ≡ Ok f → file_refusal f ≡ None
    go true is k =
        let same : ◌≡◌ {A = MidiFile} (record { format = h.format; division = h.division; tracks = done }) f = cc in
        sym (ap file_refusal same) ∙ front-written h done (eqb-true (length done) h.tracks is) good.0 good.1
    go false is k = let bad : ⊥ = cc in absurd bad

from-written : (number : ℕ) (begun : BegunFile) (ls : List (List ℕ)) (f : MidiFile) → IsGood begun → file_from number begun ls ≡ Ok f → file_refusal f ≡ None
from-written number begun [] f good e = begun-written number begun f good e
from-written number begun (line ∷ ls) f good e =
    let b : Bound (begun_after number begun (without_return line)) (λ next. file_from (suc number) next ls) f = bind-ok (begun_after number begun (without_return line)) (λ next. file_from (suc number) next ls) f e in
    from-written (suc number) b.value ls f (after-good number begun (without_return line) b.value good b.first) b.next

pub reads-made : ReadsMade
unfolding said_file
reads-made text f e =
    let taken : file_refusal f ≡ None = from-written 1 Unheaded (without_empty_last (lines text)) f tt e in
    record { taken = taken; file = reads-written f taken }
