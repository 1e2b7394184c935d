-- What is said of the circles that are found.
use Rattle.std.proofs.Common.{◌≡◌, ℕ, ◌≤◌, List, [], ◌∷◌, ◌++◌, map, refl, sym, ap, subst, ◌∙◌, Result, Ok, Err, IfOk}
use Rattle.std.specs.List.{AllByRecursion}
use Rattle.std.proofs.lemmas.List.{map-append}
use Rattle.seq_state.specs.declared.input.Input.{Input}
use Rattle.script_text.specs.declared.reading.ScriptRead.{ScriptRead}
use Rattle.seq_circle.specs.declared.circle.Circle.{Circle}
use Rattle.seq_circle.specs.Least.{is_member}
use Rattle.seq_session.specs.declared.source.Script.{Script}
use Rattle.seq_session.specs.declared.merged.Merged.{Merged}
use Rattle.seq_session.specs.Merging.{inputs_in_order, inputs_of, lines_of, merge_of}
use Rattle.seq_session.specs.Sessions.{FolderContents, script_reading, session, script_clients}
use Rattle.session_circle.specs.declared.circle.SessionCircle.{SessionCircle}
use Rattle.session_circle.specs.declared.every_end.TheConstants.{NO_END}
use Rattle.session_circle.specs.declared.table.OwnedCircle.{OwnedCircle}
use Rattle.session_circle.specs.declared.table.SessionCircles.{SessionCircles}
use Rattle.session_circle.specs.EveryEnd.{NoneGoesBack, AreForward}
use Rattle.session_circle.specs.Found.{IsFoundAmong, IsCircleOf, AreFoundAmong, AreCirclesOf, IsOfEveryEnd, IsForEveryEnd, AreForEveryEnd}
use Rattle.session_circle.specs.Laws.{NoScriptMatters, AreOutside}
use Rattle.session_circle.proofs.Scripts.{none_matters, outside_at, no_byte}
use Rattle.session_circle.proofs.Ends.{matters-until, among-until, no_byte-until}

pub circle_of_found : (folder : FolderContents) (end : ℕ) (scripts : List Script) (owner : ℕ) (c : Circle) → IsFoundAmong (inputs_of (session folder end scripts)) owner c → IsCircleOf folder end scripts owner c
circle_of_found folder end scripts owner c f =
    let matters : c.openings.items ≡ [] → NoScriptMatters folder end scripts owner (is_member owner c.joined.items) =
    λ none. none_matters folder end scripts owner (is_member owner c.joined.items) (inputs_of (session folder end scripts)) refl (f.shut none) in
    let apart : AreOutside folder end scripts owner (is_member owner c.joined.items) (lines_of (session folder end scripts)) c.apart.items =
    outside_at folder end scripts owner c.joined.items (lines_of (session folder end scripts)) (inputs_of (session folder end scripts)) c.apart.items refl refl f.apart_are in
    record {
      found = f;
      shut = matters;
      outside = apart;
      every_byte = λ none nothing. no_byte folder end scripts owner (is_member owner c.joined.items) (lines_of (session folder end scripts)) c.apart.items apart (matters none) nothing;
    }

-- ---- from readings

-- both of what an answer keeps give a third
pub if_ok-both : {X E : Type 0} (P Q R : X → Type 0) → ((x : X) → P x → Q x → R x) → (r : Result X E) → IfOk r P → IfOk r Q → IfOk r R
if_ok-both P Q R f (Ok x) p q = f x p q
if_ok-both P Q R f (Err e) p q = tt

module _ (folder : FolderContents) (end : ℕ) (scripts : List Script) (reads : List ScriptRead) (e : reads ≡ map (script_reading folder end) scripts) (m : Merged) (h : m ≡ merge_of reads) where
  pub merged_inputs : m.inputs ≡ inputs_of (session folder end scripts)
  merged_inputs = ap (λ (x : Merged). x.inputs) h ∙ ap (λ rs. inputs_of (inputs_in_order rs)) e

  pub merged_lines : m.lines ≡ lines_of (session folder end scripts)
  merged_lines = ap (λ (x : Merged). x.lines) h ∙ ap (λ rs. lines_of (inputs_in_order rs)) e

  pub circle_of_read : (owner : ℕ) (c : Circle) → IsFoundAmong m.inputs owner c → IsCircleOf folder end scripts owner c
  circle_of_read owner c f = circle_of_found folder end scripts owner c (subst (λ is. IsFoundAmong is owner c) merged_inputs f)

  -- the places apart, by the lines that the answer has
  pub outside_of_read : (owner : ℕ) (c : Circle) → IsFoundAmong m.inputs owner c → AreOutside folder end scripts owner (is_member owner c.joined.items) m.lines c.apart.items
  outside_of_read owner c f = subst (λ ls. AreOutside folder end scripts owner (is_member owner c.joined.items) ls c.apart.items) (sym merged_lines) (circle_of_read owner c f).outside

-- ---- for every end

of_every_end : (folder : FolderContents) (scripts : List Script) (owner : ℕ) (c : Circle) → NoneGoesBack folder scripts → IsCircleOf folder NO_END scripts owner c → IsOfEveryEnd folder scripts owner c
of_every_end folder scripts owner c h is =
    let matters : c.openings.items ≡ [] → (end : ℕ) → end ≤ NO_END → NoScriptMatters folder end scripts owner (is_member owner c.joined.items) =
    λ none. matters-until folder scripts owner (is_member owner c.joined.items) h (is.found.shut none) in
    record {
      shut = matters;
      among = among-until folder scripts owner (is_member owner c.joined.items) h;
      every_byte = λ none nothing end e.
          no_byte-until folder scripts owner (is_member owner c.joined.items) (lines_of (session folder NO_END scripts)) c.apart.items h is.outside nothing end e (matters none end e);
    }

pub for_every_end : (folder : FolderContents) (scripts : List Script) (owner : ℕ) (c : SessionCircle) (reads : List ScriptRead) → AreForward folder scripts reads → c.merged ≡ merge_of reads →
    IsFoundAmong c.merged.inputs owner c.circle → IsForEveryEnd folder scripts owner c
for_every_end folder scripts owner c reads a m f =
    let is : IsCircleOf folder NO_END scripts owner c.circle = circle_of_read folder NO_END scripts reads a.reads_are c.merged m owner c.circle f in
    record {
      none_goes_back = a.none_goes_back;
      inputs = merged_inputs folder NO_END scripts reads a.reads_are c.merged m;
      lines = merged_lines folder NO_END scripts reads a.reads_are c.merged m;
      circle = is;
      every_end = of_every_end folder scripts owner c.circle a.none_goes_back is;
    }

-- ---- round each client

all-one_more : {X : Type 0} (P : X → Type 0) (xs : List X) (x : X) → AllByRecursion P xs → P x → AllByRecursion P (xs ++ x ∷ [])
all-one_more P [] x h p = (p, tt)
all-one_more P (y ∷ xs) x h p = (h.0, all-one_more P xs x h.1 p)

all-become : {X : Type 0} (P Q : X → Type 0) → ((x : X) → P x → Q x) → (xs : List X) → AllByRecursion P xs → AllByRecursion Q xs
all-become P Q f [] h = tt
all-become P Q f (x ∷ xs) h = (f x h.0, all-become P Q f xs h.1)

pub found_more : (inputs : List Input) (scripts : List Script) (circles : List OwnedCircle) (s : Script) (c : OwnedCircle) → AreFoundAmong inputs scripts circles → c.owner ≡ s.client → IsFoundAmong inputs c.owner c.circle →
    AreFoundAmong inputs (scripts ++ s ∷ []) (circles ++ c ∷ [])
found_more inputs scripts circles s c h e f = record {
  owners =
      map-append (λ (x : OwnedCircle). x.owner) circles (c ∷ [])
      ∙ ap (λ os. os ++ c.owner ∷ []) h.owners ∙ ap (λ o. script_clients scripts ++ o ∷ []) e
      ∙ sym (map-append (λ (x : Script). x.client) scripts (s ∷ []));
  each = all-one_more (λ (x : OwnedCircle). IsFoundAmong inputs x.owner x.circle) circles c h.each f;
}

pub circles_of_found : (folder : FolderContents) (end : ℕ) (scripts : List Script) (circles : List OwnedCircle) → AreFoundAmong (inputs_of (session folder end scripts)) scripts circles → AreCirclesOf folder end scripts circles
circles_of_found folder end scripts circles h = record {
  owners = h.owners;
  each =
      all-become (λ (x : OwnedCircle). IsFoundAmong (inputs_of (session folder end scripts)) x.owner x.circle) (λ (x : OwnedCircle). IsCircleOf folder end scripts x.owner x.circle)
      (λ x f. circle_of_found folder end scripts x.owner x.circle f) circles h.each;
}

module _ (folder : FolderContents) (end : ℕ) (scripts : List Script) (reads : List ScriptRead) (e : reads ≡ map (script_reading folder end) scripts) where
  pub circles_of_read : (s : SessionCircles) → s.merged ≡ merge_of reads → AreFoundAmong s.merged.inputs scripts s.circles.items → AreCirclesOf folder end scripts s.circles.items
  circles_of_read s m f = circles_of_found folder end scripts s.circles.items (subst (λ is. AreFoundAmong is scripts s.circles.items) (merged_inputs folder end scripts reads e s.merged m) f)

pub all_for_every_end : (folder : FolderContents) (scripts : List Script) (s : SessionCircles) (reads : List ScriptRead) → AreForward folder scripts reads → s.merged ≡ merge_of reads →
    AreFoundAmong s.merged.inputs scripts s.circles.items → AreForEveryEnd folder scripts s
all_for_every_end folder scripts s reads a m f =
    let are : AreCirclesOf folder NO_END scripts s.circles.items = circles_of_read folder NO_END scripts reads a.reads_are s m f in
    record {
      none_goes_back = a.none_goes_back;
      inputs = merged_inputs folder NO_END scripts reads a.reads_are s.merged m;
      lines = merged_lines folder NO_END scripts reads a.reads_are s.merged m;
      circles = are;
      every_end =
          all-become (λ (x : OwnedCircle). IsCircleOf folder NO_END scripts x.owner x.circle) (λ (x : OwnedCircle). IsOfEveryEnd folder scripts x.owner x.circle)
          (λ x is. of_every_end folder scripts x.owner x.circle a.none_goes_back is) s.circles.items are.each;
    }
