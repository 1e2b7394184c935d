-- What is read is messages, and what still matters is short.
use Rattle.std.proofs.Common.{◌≡◌, ℕ, ◌≤◌, ◌<◌, Bool, true, false, ◌⊎◌, inl, inr, List, [], ◌∷◌, ◌++◌, length, refl, sym, subst, arith}
use Rattle.std.specs.Prelude.{if◌then◌else◌, nat_le, nat_lt, IsTrue}
use Rattle.std.proofs.lemmas.Bool.{lt-ltb, leb-true, leb-false, cases_Bool}
use Rattle.midi_wire.specs.Messages.{Width, One, Two, StatusClass, Channel, Common, TuneRequest, Exclusive, RealTime, Nothing, begins, is_status, is_real_time, most_data, all_data, is_group, IsTail, IsMessage, AllMessages, is_message}
use Rattle.midi_wire.specs.Readings.{reading, rest, incomplete, while_incomplete, too_long, matters_by}
use Rattle.midi_wire.specs.Laws.{ReadsMessages, RestsAreShort}
use Rattle.midi_wire.proofs.Steps.{begun, ended, ended_by, completed, completed_by, real_of, step_gives, step_leaves, bounded, length-too_long}
use Rattle.midi_wire.proofs.Halves.{gives}
use Rattle.midi_wire.proofs.Table.{begins-F0}
use Rattle.midi_wire.proofs.Settled.{IsBlockStatus, AllData, IsHeld, Empty, Of, held-step, held-rest, reading-held, all_data-bounded, status-gives, data-gives, real-gives}
use Rattle.midi_wire.proofs.MessageTests.{and_both, message-test}

-- ---- one message

pub message-by : (k : StatusClass) (s : ℕ) (tail : List ℕ) → begins s ≡ k → IsTail k tail → IsMessage (s ∷ tail)
message-by k s tail e p = subst (λ j. IsTail j tail) (sym e) p

data_true : (d : List ℕ) → AllData d → IsTrue (all_data d)
data_true [] p = refl
data_true (b ∷ d) p = and_both (nat_lt b 128) (all_data d) (lt-ltb b 128 p.0) (data_true d p.1)

pub group-one : (b : ℕ) → b < 128 → IsTrue (is_group One (b ∷ []))
group-one b l = data_true (b ∷ []) (l, tt)

pub group-two : (a b : ℕ) → a < 128 → b < 128 → IsTrue (is_group Two (a ∷ b ∷ []))
group-two a b k l = data_true (a ∷ b ∷ []) (k, (l, tt))

pub all-append : (a b : List (List ℕ)) → AllMessages a → AllMessages b → AllMessages (a ++ b)
all-append [] b p q = q
all-append (m ∷ a) b p q = (p.0, all-append a b p.1 q)

-- ---- what each step gives

real-messages : (k : StatusClass) (b : ℕ) → begins b ≡ k → AllMessages (real_of k b)
real-messages (Channel w) b e = tt
real-messages (Common w) b e = tt
real-messages TuneRequest b e = tt
real-messages Exclusive b e = tt
real-messages RealTime b e = (message-by RealTime b [] e refl, tt)
real-messages Nothing b e = tt

begun-messages : (k : StatusClass) (b : ℕ) → begins b ≡ k → AllMessages (begun k b)
begun-messages (Channel w) b e = tt
begun-messages (Common w) b e = tt
begun-messages TuneRequest b e = (message-by TuneRequest b [] e refl, tt)
begun-messages Exclusive b e = tt
begun-messages RealTime b e = tt
begun-messages Nothing b e = tt

exclusive-messages : (d : List ℕ) → AllData d → AllMessages (ended_by Exclusive d)
exclusive-messages d p =
    go (nat_le (length d) most_data) refl
  where
    go : (t : Bool) → nat_le (length d) most_data ≡ t → AllMessages (if t then ((240 ∷ d ++ 247 ∷ []) ∷ []) else [])
    go true e = (message-by Exclusive 240 (d ++ 247 ∷ []) begins-F0 (d, refl, data_true d p, leb-true (length d) most_data e), tt)
    go false e = tt

ended-messages : (k : StatusClass) (d : List ℕ) → AllData d → AllMessages (ended_by k d)
ended-messages (Channel w) d p = tt
ended-messages (Common w) d p = tt
ended-messages TuneRequest d p = tt
ended-messages Exclusive d p = exclusive-messages d p
ended-messages RealTime d p = tt
ended-messages Nothing d p = tt

completed-messages : (k : StatusClass) (s : ℕ) (d : List ℕ) (b : ℕ) → begins s ≡ k → AllData d → b < 128 → AllMessages (completed_by k s d b)
completed-messages (Channel One) s d b e p l = (message-by (Channel One) s (b ∷ []) e (group-one b l), tt)
completed-messages (Channel Two) s [] b e p l = tt
completed-messages (Channel Two) s (a ∷ []) b e p l = (message-by (Channel Two) s (a ∷ b ∷ []) e (group-two a b p.0 l), tt)
completed-messages (Channel Two) s (a ∷ c ∷ d) b e p l = tt
completed-messages (Common One) s d b e p l = (message-by (Common One) s (b ∷ []) e (group-one b l), tt)
completed-messages (Common Two) s [] b e p l = tt
completed-messages (Common Two) s (a ∷ []) b e p l = (message-by (Common Two) s (a ∷ b ∷ []) e (group-two a b p.0 l), tt)
completed-messages (Common Two) s (a ∷ c ∷ d) b e p l = tt
completed-messages TuneRequest s d b e p l = tt
completed-messages Exclusive s d b e p l = tt
completed-messages RealTime s d b e p l = tt
completed-messages Nothing s d b e p l = tt

-- ---- after what still mattered

-- nothing, or a status and data bytes
abbrev StatusWithData : List ℕ → Type 0
StatusWithData [] = Unit {0}
StatusWithData (s ∷ d) = AllData d

data-incomplete : (w : Width) (d : List ℕ) → AllData d → AllData (incomplete w d)
data-incomplete One d p = tt
data-incomplete Two [] p = tt
data-incomplete Two (a ∷ []) p = p
data-incomplete Two (a ∷ b ∷ d) p = data-incomplete Two d p.1.1

data-while : (w : Width) (s : ℕ) (d : List ℕ) → AllData d → StatusWithData (while_incomplete w s d)
data-while One s [] p = tt
data-while One s (a ∷ d) p = tt
data-while Two s [] p = tt
data-while Two s (a ∷ []) p = p
data-while Two s (a ∷ b ∷ d) p = tt

data-matters : (k : StatusClass) (s : ℕ) (d : List ℕ) → AllData d → StatusWithData (matters_by k s d)
data-matters (Channel w) s d p = data-incomplete w d p
data-matters (Common w) s d p = data-while w s d p
data-matters TuneRequest s d p = tt
data-matters Exclusive s d p = all_data-bounded d p
data-matters RealTime s d p = tt
data-matters Nothing s d p = tt

data-held : (r : List ℕ) → IsHeld r → StatusWithData r
data-held _ Empty = tt
data-held _ (Of s d h p) = data-matters (begins s) s d p

ended-all : (r : List ℕ) → StatusWithData r → AllMessages (ended r)
ended-all [] p = tt
ended-all (s ∷ d) p = ended-messages (begins s) d p

completed-all : (r : List ℕ) (b : ℕ) → StatusWithData r → b < 128 → AllMessages (completed r b)
completed-all [] b p l = tt
completed-all (s ∷ d) b p l = completed-messages (begins s) s d b refl p l

step-messages : (r : List ℕ) (b : ℕ) → IsHeld r → AllMessages (step_gives r b)
step-messages r b h =
    go (cases_Bool (is_real_time b)) (cases_Bool (is_status b))
  where
    go : (is_real_time b ≡ true) ⊎ (is_real_time b ≡ false) → (is_status b ≡ true) ⊎ (is_status b ≡ false) → AllMessages (step_gives r b)
    go (inl e) y = subst (λ ms. AllMessages ms) (sym (real-gives r b (leb-true 248 b e))) (real-messages (begins b) b refl)
    go (inr e) (inl f) = let s : IsBlockStatus b = record { high = leb-true 128 b f; low = leb-false 248 b e } in subst (λ ms. AllMessages ms) (sym (status-gives r b s)) (all-append (ended r) (begun (begins b) b) (ended-all r (data-held r h)) (begun-messages (begins b) b refl))
    go (inr e) (inr f) = subst (λ ms. AllMessages ms) (sym (data-gives r b (leb-false 128 b f))) (completed-all r b (data-held r h) (leb-false 128 b f))

gives-messages : (r t : List ℕ) → IsHeld r → AllMessages (gives r t)
gives-messages r [] h = tt
gives-messages r (b ∷ t) h = all-append (step_gives r b) (gives (step_leaves r b) t) (step-messages r b h) (gives-messages (step_leaves r b) t (held-step r b h))

pub reads-messages : ReadsMessages
reads-messages s = subst (λ ms. AllMessages ms) (sym (reading-held [] Empty s)) (gives-messages [] s Empty)

-- a message that is read passes the test
pub read-test : (u m : List ℕ) → reading u ≡ m ∷ [] → IsTrue (is_message m)
read-test u m e = message-test m (subst (λ ms. AllMessages ms) e (reads-messages u)).0

-- ---- how long what matters is

short-incomplete : (w : Width) (d : List ℕ) → length (incomplete w d) ≤ 1
short-incomplete One d = omega arith
short-incomplete Two [] = omega arith
short-incomplete Two (a ∷ []) = omega arith
short-incomplete Two (a ∷ b ∷ d) = short-incomplete Two d

short-while : (w : Width) (s : ℕ) (d : List ℕ) → length (while_incomplete w s d) ≤ 2
short-while One s [] = omega arith
short-while One s (a ∷ d) = omega arith
short-while Two s [] = omega arith
short-while Two s (a ∷ []) = omega arith
short-while Two s (a ∷ b ∷ d) = omega arith

short-bounded : (d : List ℕ) → length (bounded d) ≤ 65537
short-bounded d =
    go (nat_le (length d) most_data) refl
  where
    go : (t : Bool) → nat_le (length d) most_data ≡ t → length (if t then d else too_long) ≤ 65537
    go true e = let few : length d ≤ 65536 = leb-true (length d) most_data e in omega arith
    go false e = omega (arith, length-too_long)

short-matters : (k : StatusClass) (s : ℕ) (d : List ℕ) → length (matters_by k s d) ≤ 65538
short-matters (Channel w) s d = let few : length (incomplete w d) ≤ 1 = short-incomplete w d in omega arith
short-matters (Common w) s d = let few : length (while_incomplete w s d) ≤ 2 = short-while w s d in omega arith
short-matters TuneRequest s d = omega arith
short-matters Exclusive s d = let few : length (bounded d) ≤ 65537 = short-bounded d in omega arith
short-matters RealTime s d = omega arith
short-matters Nothing s d = omega arith

short-held : (r : List ℕ) → IsHeld r → length r ≤ 65538
short-held _ Empty = omega arith
short-held _ (Of s d h p) = short-matters (begins s) s d

pub rests-are-short : RestsAreShort
rests-are-short s = short-held (rest s) (held-rest s)
