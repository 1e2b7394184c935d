-- A byte completes at most two messages.
use Rattle.std.proofs.Common.{ℕ, ◌+◌, ◌*◌, ◌≤◌, Bool, true, false, List, [], ◌∷◌, ◌++◌, length, subst, sym, arith, length-append}
use Rattle.std.specs.Prelude.{if◌then◌else◌, nat_le}
use Rattle.midi_wire.specs.declared.status.StatusClass.{StatusClass}
use Rattle.midi_wire.specs.declared.status.StatusClass.TheVariants.{Channel, Common, TuneRequest, Exclusive, RealTime, Nothing}
use Rattle.midi_wire.specs.declared.status.Width.{Width}
use Rattle.midi_wire.specs.declared.status.Width.TheVariants.{One, Two}
use Rattle.midi_wire.specs.Messages.{begins, is_status, is_real_time, most_data}
use Rattle.midi_wire.specs.Readings.{reading, rest}
use Rattle.midi_wire.proofs.Steps.{begun, ended_by, ended, complete, completed_by, completed, gained, real_of, step_gives, step_leaves}
use Rattle.midi_wire.proofs.Halves.{gives}
use Rattle.midi_wire.proofs.Settled.{held-rest, reading-held}

-- no more than so many messages
abbrev IsFew : ℕ → List (List ℕ) → Type 0
IsFew n ms = length ms ≤ n

if-few : (b : Bool) (n : ℕ) (ms ns : List (List ℕ)) → IsFew n ms → IsFew n ns → IsFew n (if b then ms else ns)
if-few true n ms ns h k = h
if-few false n ms ns h k = k

few-more : (m n : ℕ) (ms ns : List (List ℕ)) → IsFew m ms → IsFew n ns → IsFew (m + n) (ms ++ ns)
few-more m n ms ns h k = omega (arith, length-append ms ns)

real-few : (k : StatusClass) (b : ℕ) → IsFew 1 (real_of k b)
real-few (Channel w) b = omega arith
real-few (Common w) b = omega arith
real-few TuneRequest b = omega arith
real-few Exclusive b = omega arith
real-few RealTime b = omega arith
real-few Nothing b = omega arith

begun-few : (k : StatusClass) (b : ℕ) → IsFew 1 (begun k b)
begun-few (Channel w) b = omega arith
begun-few (Common w) b = omega arith
begun-few TuneRequest b = omega arith
begun-few Exclusive b = omega arith
begun-few RealTime b = omega arith
begun-few Nothing b = omega arith

ended_by-few : (k : StatusClass) (d : List ℕ) → IsFew 1 (ended_by k d)
ended_by-few (Channel w) d = omega arith
ended_by-few (Common w) d = omega arith
ended_by-few TuneRequest d = omega arith
ended_by-few Exclusive d = if-few (nat_le (length d) most_data) 1 ((240 ∷ d ++ 247 ∷ []) ∷ []) [] (omega arith) (omega arith)
ended_by-few RealTime d = omega arith
ended_by-few Nothing d = omega arith

ended-few : (r : List ℕ) → IsFew 1 (ended r)
ended-few [] = omega arith
ended-few (s ∷ d) = ended_by-few (begins s) d

complete-few : (w : Width) (s : ℕ) (d : List ℕ) (b : ℕ) → IsFew 1 (complete w s d b)
complete-few One s d b = omega arith
complete-few Two s [] b = omega arith
complete-few Two s (a ∷ []) b = omega arith
complete-few Two s (a ∷ c ∷ d) b = omega arith

completed_by-few : (k : StatusClass) (s : ℕ) (d : List ℕ) (b : ℕ) → IsFew 1 (completed_by k s d b)
completed_by-few (Channel w) s d b = complete-few w s d b
completed_by-few (Common w) s d b = complete-few w s d b
completed_by-few TuneRequest s d b = omega arith
completed_by-few Exclusive s d b = omega arith
completed_by-few RealTime s d b = omega arith
completed_by-few Nothing s d b = omega arith

completed-few : (r : List ℕ) (b : ℕ) → IsFew 1 (completed r b)
completed-few [] b = omega arith
completed-few (s ∷ d) b = completed_by-few (begins s) s d b

two-of-one : (ms : List (List ℕ)) → IsFew 1 ms → IsFew 2 ms
two-of-one ms h = omega arith

-- a status may end an exclusive message and be a message itself
step-few : (r : List ℕ) (b : ℕ) → IsFew 2 (step_gives r b)
unfolding step_gives
step-few r b =
    if-few (is_real_time b) 2 (real_of (begins b) b) (gained r b) (two-of-one (real_of (begins b) b) (real-few (begins b) b))
    (if-few (is_status b) 2 (ended r ++ begun (begins b) b) (completed r b) (few-more 1 1 (ended r) (begun (begins b) b) (ended-few r) (begun-few (begins b) b)) (two-of-one (completed r b) (completed-few r b)))

gives-few : (r t : List ℕ) → IsFew (2 * length t) (gives r t)
gives-few r [] = omega arith
gives-few r (b ∷ t) =
    let first : length (step_gives r b) ≤ 2 = step-few r b in
    let more : length (gives (step_leaves r b) t) ≤ 2 * length t = gives-few (step_leaves r b) t in
    omega (arith, length-append (step_gives r b) (gives (step_leaves r b) t))

-- what a piece completes of a stream
pub piece-few : (s piece : List ℕ) → length (reading (rest s ++ piece)) ≤ 2 * length piece
piece-few s piece = subst (λ ms. IsFew (2 * length piece) ms) (sym (reading-held (rest s) (held-rest s) piece)) (gives-few (rest s) piece)
