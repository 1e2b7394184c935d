-- Definition: The circles that are found in a session.
use Rattle.std.specs.Prelude.{◌≡◌, ◌≢◌, ◌≤◌, ℕ, IsTrue, List, [], map}
use Rattle.std.specs.List.{AllByRecursion}
use Rattle.seq_state.specs.declared.input.Input.{Input}
use Rattle.seq_circle.specs.declared.circle.Circle.{Circle}
use Rattle.seq_circle.specs.Shut.{is_shut}
use Rattle.seq_circle.specs.Least.{is_member, IsLeastCircle, NoneIsShut, places_where, opens_circle, reaches_out}
use Rattle.seq_session.specs.declared.source.Script.{Script}
use Rattle.seq_session.specs.Merging.{inputs_of, lines_of}
use Rattle.seq_session.specs.Sessions.{FolderContents, session, script_clients}
use Rattle.session_circle.specs.declared.circle.SessionCircle.{SessionCircle}
use Rattle.session_circle.specs.declared.every_end.EveryEnd.{EveryEnd}
use Rattle.session_circle.specs.declared.every_end.EveryEnd.TheVariants.{Found, GoesBack}
use Rattle.session_circle.specs.declared.every_end.TheConstants.{NO_END}
use Rattle.session_circle.specs.declared.table.OwnedCircle.{OwnedCircle}
use Rattle.session_circle.specs.declared.table.SessionCircles.{SessionCircles}
use Rattle.session_circle.specs.EveryEnd.{NoneGoesBack, IsFirstBack, AreApartForEveryEnd}
use Rattle.session_circle.specs.Laws.{NoScriptMatters, NoByteChanges, AreOutside}

-- The least circle round the owner among these inputs, with the places of all its openings and of
-- the outcomes that strangers may change: it is shut where it has no openings, and else none is.
pub record IsFoundAmong (inputs : List Input) (owner : ℕ) (c : Circle) : Type 0 where
  pub least : IsLeastCircle owner inputs c.joined.items
  pub openings_are : c.openings.items ≡ places_where (opens_circle owner c.joined.items) inputs
  pub apart_are : c.apart.items ≡ places_where (reaches_out owner c.joined.items) inputs
  pub shut : c.openings.items ≡ []
      → IsTrue (is_shut owner (is_member owner c.joined.items) inputs)
  pub none_is_shut : c.openings.items ≢ [] → NoneIsShut owner inputs

-- The least circle round the owner in the session of these scripts. Where it is shut, no script of
-- a stranger changes the owner's log, but for the outcomes at the places apart; and where there are
-- none of these, none changes a byte.
pub record IsCircleOf (folder : FolderContents) (end : ℕ) (scripts : List Script) (owner : ℕ)
    (c : Circle) : Type 0 where
  pub found : IsFoundAmong (inputs_of (session folder end scripts)) owner c
  pub shut : c.openings.items ≡ []
      → NoScriptMatters folder end scripts owner (is_member owner c.joined.items)
  pub outside : AreOutside folder end scripts owner (is_member owner c.joined.items)
      (lines_of (session folder end scripts)) c.apart.items
  pub every_byte : c.openings.items ≡ [] → c.apart.items ≡ []
      → NoByteChanges folder end scripts owner (is_member owner c.joined.items)

-- ---- round each client

-- one circle for each script, round its client, in the order of the scripts
pub record AreFoundAmong (inputs : List Input) (scripts : List Script)
    (circles : List OwnedCircle) : Type 0 where
  pub owners : map (λ c. c.owner) circles ≡ script_clients scripts
  pub each : AllByRecursion (λ c. IsFoundAmong inputs c.owner c.circle) circles

pub record AreCirclesOf (folder : FolderContents) (end : ℕ) (scripts : List Script)
    (circles : List OwnedCircle) : Type 0 where
  pub owners : map (λ c. c.owner) circles ≡ script_clients scripts
  pub each : AllByRecursion (λ c. IsCircleOf folder end scripts c.owner c.circle) circles

-- ---- for every end of the run

-- What is said of the circle is so for every end of the run: where it has no openings without an
-- end, no script of a stranger matters; the lines apart are among those of the session without an
-- end; and where there are none of these, no byte changes.
pub record IsOfEveryEnd (folder : FolderContents) (scripts : List Script) (owner : ℕ)
    (c : Circle) : Type 0 where
  pub shut : c.openings.items ≡ [] → (end : ℕ) → end ≤ NO_END
      → NoScriptMatters folder end scripts owner (is_member owner c.joined.items)
  pub among : AreApartForEveryEnd folder scripts owner (is_member owner c.joined.items)
  pub every_byte : c.openings.items ≡ [] → c.apart.items ≡ [] → (end : ℕ) → end ≤ NO_END
      → NoByteChanges folder end scripts owner (is_member owner c.joined.items)

-- No line goes back in time, and it is the least circle in the session without an end, with what is
-- said of it for every end.
pub record IsForEveryEnd (folder : FolderContents) (scripts : List Script) (owner : ℕ)
    (c : SessionCircle) : Type 0 where
  pub none_goes_back : NoneGoesBack folder scripts
  pub inputs : c.merged.inputs ≡ inputs_of (session folder NO_END scripts)
  pub lines : c.merged.lines ≡ lines_of (session folder NO_END scripts)
  pub circle : IsCircleOf folder NO_END scripts owner c.circle
  pub every_end : IsOfEveryEnd folder scripts owner c.circle

-- The same of the circles round the clients of the scripts.
pub record AreForEveryEnd (folder : FolderContents) (scripts : List Script)
    (s : SessionCircles) : Type 0 where
  pub none_goes_back : NoneGoesBack folder scripts
  pub inputs : s.merged.inputs ≡ inputs_of (session folder NO_END scripts)
  pub lines : s.merged.lines ≡ lines_of (session folder NO_END scripts)
  pub circles : AreCirclesOf folder NO_END scripts s.circles.items
  pub every_end : AllByRecursion (λ c. IsOfEveryEnd folder scripts c.owner c.circle)
      s.circles.items

-- what was found is so, or else the line is the first that goes back in time
abbrev pub IsToldForEveryEnd : {T : Type 0} → FolderContents → List Script → (T → Type 0)
    → EveryEnd T → Type 0
IsToldForEveryEnd folder scripts IsSo (Found x) = IsSo x
IsToldForEveryEnd folder scripts IsSo (GoesBack client line) =
    IsFirstBack folder scripts client line
