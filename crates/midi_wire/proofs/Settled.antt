-- What still matters is read as itself, and gives nothing; so both laws.
use Rattle.std.proofs.Common.{◌≡◌, ℕ, ◌≤◌, ◌<◌, Bool, true, false, ◌⊎◌, inl, inr, zero, suc, replicate, List, [], ◌∷◌, ◌++◌, length, refl, sym, ap, subst, ◌∙◌, arith, append-nil, append_assoc}
use Rattle.std.specs.Prelude.{if◌then◌else◌, nat_le}
use Rattle.std.proofs.lemmas.Bool.{le-leb, lt-leb, leb-true, leb-false, cases_Bool}
use Rattle.midi_wire.specs.Messages.{Width, One, Two, StatusClass, Channel, Common, TuneRequest, Exclusive, RealTime, Nothing, begins, is_status, is_real_time, most_data}
use Rattle.midi_wire.specs.Readings.{reading, rest, incomplete, while_incomplete, too_long, matters_by}
use Rattle.midi_wire.specs.Laws.{ReadsInTwo, RestsInTwo}
use Rattle.midi_wire.proofs.Steps.{begun, ended, completed, completed_by, gained, kept_on, left, real_of, step_gives, step_leaves, bounded, bounded-snoc, kept_with, too_long-long}
use Rattle.midi_wire.proofs.Halves.{gives, leaves, reading-gives, rest-leaves}

-- ---- a step by its byte

-- a status below F8
pub record IsBlockStatus (s : ℕ) : Type 0 where
  pub high : 128 ≤ s
  pub low : s < 248

pub status-gives : (r : List ℕ) (s : ℕ) → IsBlockStatus s → step_gives r s ≡ ended r ++ begun (begins s) s
unfolding step_gives
status-gives r s h =
    ap (λ t. if t then real_of (begins s) s else gained r s) (lt-leb 248 s h.low)
    ∙ ap (λ t. if t then (ended r ++ begun (begins s) s) else completed r s) (le-leb 128 s h.high)

pub status-leaves : (r : List ℕ) (s : ℕ) → IsBlockStatus s → step_leaves r s ≡ matters_by (begins s) s []
unfolding step_leaves
status-leaves r s h =
    ap (λ t. if t then r else left r s) (lt-leb 248 s h.low)
    ∙ ap (λ t. if t then matters_by (begins s) s [] else kept_on r s) (le-leb 128 s h.high)

pub data-gives : (r : List ℕ) (b : ℕ) → b < 128 → step_gives r b ≡ completed r b
unfolding step_gives
data-gives r b h =
    ap (λ t. if t then real_of (begins b) b else gained r b) (lt-leb 248 b (omega arith))
    ∙ ap (λ t. if t then (ended r ++ begun (begins b) b) else completed r b) (lt-leb 128 b h)

pub data-leaves : (r : List ℕ) (b : ℕ) → b < 128 → step_leaves r b ≡ kept_on r b
unfolding step_leaves
data-leaves r b h =
    ap (λ t. if t then r else left r b) (lt-leb 248 b (omega arith))
    ∙ ap (λ t. if t then matters_by (begins b) b [] else kept_on r b) (lt-leb 128 b h)

pub real-gives : (r : List ℕ) (b : ℕ) → 248 ≤ b → step_gives r b ≡ real_of (begins b) b
unfolding step_gives
real-gives r b h = ap (λ t. if t then real_of (begins b) b else gained r b) (le-leb 248 b h)

pub real-leaves : (r : List ℕ) (b : ℕ) → 248 ≤ b → step_leaves r b ≡ r
unfolding step_leaves
real-leaves r b h = ap (λ t. if t then r else left r b) (le-leb 248 b h)

-- ---- data bytes alone

abbrev pub AllData : List ℕ → Type 0
AllData [] = Unit {0}
AllData (b ∷ d) = (b < 128) × AllData d

pub all_data-snoc : (d : List ℕ) (b : ℕ) → AllData d → b < 128 → AllData (d ++ b ∷ [])
all_data-snoc [] b p h = (h, tt)
all_data-snoc (c ∷ d) b p h = (p.0, all_data-snoc d b p.1 h)

pub exclusive-leaves : (s : ℕ) → begins s ≡ Exclusive → (e d : List ℕ) → AllData d → leaves (s ∷ bounded e) d ≡ s ∷ bounded (e ++ d)
exclusive-leaves s k e [] p = ap (λ u. s ∷ bounded u) (sym (append-nil e))
exclusive-leaves s k e (b ∷ d) p =
    ap (λ r. leaves r d) (data-leaves (s ∷ bounded e) b p.0 ∙ ap (λ q. matters_by q s (bounded e ++ b ∷ [])) k ∙ ap (λ u. s ∷ u) (sym (bounded-snoc e b)))
    ∙ exclusive-leaves s k (e ++ b ∷ []) d p.1
    ∙ ap (λ u. s ∷ bounded u) (append_assoc e (b ∷ []) d)

pub exclusive-gives : (s : ℕ) → begins s ≡ Exclusive → (e d : List ℕ) → AllData d → gives (s ∷ bounded e) d ≡ []
exclusive-gives s k e [] p = refl
exclusive-gives s k e (b ∷ d) p =
    ap (λ ms. ms ++ gives (step_leaves (s ∷ bounded e) b) d) (data-gives (s ∷ bounded e) b p.0 ∙ ap (λ q. completed_by q s (bounded e) b) k)
    ∙ ap (λ r. gives r d) (data-leaves (s ∷ bounded e) b p.0 ∙ ap (λ q. matters_by q s (bounded e ++ b ∷ [])) k ∙ ap (λ u. s ∷ u) (sym (bounded-snoc e b)))
    ∙ exclusive-gives s k (e ++ b ∷ []) d p.1

-- ---- what matters is read as itself

pub record IsSettled (r : List ℕ) : Type 0 where
  pub silent : gives [] r ≡ []
  pub same : leaves [] r ≡ r

settled-none : IsSettled []
settled-none = record { silent = refl; same = refl }

-- a status that waits for data
settled-one : (k : StatusClass) (s : ℕ) → IsBlockStatus s → begins s ≡ k → matters_by k s [] ≡ s ∷ [] → begun k s ≡ [] → IsSettled (s ∷ [])
settled-one k s h e m q = record {
  silent = append-nil (step_gives [] s) ∙ status-gives [] s h ∙ ap (λ j. begun j s) e ∙ q;
  same = status-leaves [] s h ∙ ap (λ j. matters_by j s []) e ∙ m;
}

-- a status with more that waits
settled-more : (k : StatusClass) (s : ℕ) (d : List ℕ) → IsBlockStatus s → begins s ≡ k → matters_by k s [] ≡ s ∷ [] → begun k s ≡ [] → gives (s ∷ []) d ≡ [] → leaves (s ∷ []) d ≡ s ∷ d → IsSettled (s ∷ d)
settled-more k s d h e m q g l =
    let first : step_gives [] s ≡ [] = status-gives [] s h ∙ ap (λ j. begun j s) e ∙ q in
    let next : step_leaves [] s ≡ s ∷ [] = status-leaves [] s h ∙ ap (λ j. matters_by j s []) e ∙ m in
    record {
      silent = ap (λ ms. ms ++ gives (step_leaves [] s) d) first ∙ ap (λ r. gives r d) next ∙ g;
      same = ap (λ r. leaves r d) next ∙ l;
    }

-- one data byte after a status that waits for two
settled-half : (k : StatusClass) (s a : ℕ) → IsBlockStatus s → begins s ≡ k → matters_by k s [] ≡ s ∷ [] → begun k s ≡ [] → completed_by k s [] a ≡ [] → matters_by k s (a ∷ []) ≡ s ∷ a ∷ [] → a < 128 → IsSettled (s ∷ a ∷ [])
settled-half k s a h e m q g l low =
    settled-more k s (a ∷ []) h e m q
    (append-nil (step_gives (s ∷ []) a) ∙ data-gives (s ∷ []) a low ∙ ap (λ j. completed_by j s [] a) e ∙ g)
    (data-leaves (s ∷ []) a low ∙ ap (λ j. matters_by j s (a ∷ [])) e ∙ l)

settled-channel : (w : Width) (s : ℕ) → IsBlockStatus s → begins s ≡ Channel w → (d : List ℕ) → AllData d → IsSettled (s ∷ incomplete w d)
settled-channel One s h e d p = settled-one (Channel One) s h e refl refl
settled-channel Two s h e [] p = settled-one (Channel Two) s h e refl refl
settled-channel Two s h e (a ∷ []) p = settled-half (Channel Two) s a h e refl refl refl refl p.0
settled-channel Two s h e (a ∷ c ∷ d) p = settled-channel Two s h e d p.1.1

settled-common : (w : Width) (s : ℕ) → IsBlockStatus s → begins s ≡ Common w → (d : List ℕ) → AllData d → IsSettled (while_incomplete w s d)
settled-common One s h e [] p = settled-one (Common One) s h e refl refl
settled-common One s h e (a ∷ d) p = settled-none
settled-common Two s h e [] p = settled-one (Common Two) s h e refl refl
settled-common Two s h e (a ∷ []) p = settled-half (Common Two) s a h e refl refl refl refl p.0
settled-common Two s h e (a ∷ c ∷ d) p = settled-none

all_data-copies : (n : ℕ) → AllData (replicate n 0)
all_data-copies zero = tt
all_data-copies (suc n) = (omega arith, all_data-copies n)

all_data-too_long : AllData too_long
unfolding too_long
all_data-too_long = all_data-copies 65537

pub all_data-bounded : (d : List ℕ) → AllData d → AllData (bounded d)
all_data-bounded d p =
    go (nat_le (length d) most_data)
  where
    go : (t : Bool) → AllData (if t then d else too_long)
    go true = p
    go false = all_data-too_long

bounded-twice : (d : List ℕ) → bounded (bounded d) ≡ bounded d
bounded-twice d =
    go (cases_Bool (nat_le (length d) most_data))
  where
    go : (nat_le (length d) most_data ≡ true) ⊎ (nat_le (length d) most_data ≡ false) → bounded (bounded d) ≡ bounded d
    go (inl e) = ap (λ t. bounded (if t then d else too_long)) e
    go (inr e) = ap (λ t. bounded (if t then d else too_long)) e ∙ ap (λ t. if t then too_long else too_long) too_long-long ∙ ap (λ t. if t then d else too_long) (sym e)

settled-by : (k : StatusClass) (s : ℕ) → IsBlockStatus s → begins s ≡ k → (d : List ℕ) → AllData d → IsSettled (matters_by k s d)
settled-by (Channel w) s h e d p = settled-channel w s h e d p
settled-by (Common w) s h e d p = settled-common w s h e d p
settled-by TuneRequest s h e d p = settled-none
settled-by Exclusive s h e d p = settled-more Exclusive s (bounded d) h e refl refl (exclusive-gives s e [] (bounded d) (all_data-bounded d p)) (exclusive-leaves s e [] (bounded d) (all_data-bounded d p) ∙ ap (λ u. s ∷ u) (bounded-twice d))
settled-by RealTime s h e d p = settled-none
settled-by Nothing s h e d p = settled-none

-- ---- what matters is always of this form

pub data IsHeld : List ℕ → Type 0 where
  Empty : IsHeld []
  Of : (s : ℕ) (d : List ℕ) → IsBlockStatus s → AllData d → IsHeld (matters_by (begins s) s d)

settled-held : (r : List ℕ) → IsHeld r → IsSettled r
settled-held _ Empty = settled-none
settled-held _ (Of s d h p) = settled-by (begins s) s h refl d p

held-data : (r : List ℕ) (b : ℕ) → b < 128 → IsHeld r → IsHeld (kept_on r b)
held-data _ b l Empty = Empty
held-data _ b l (Of s d h p) = subst (λ r. IsHeld r) (kept_with (begins s) s refl d b) (Of s (d ++ b ∷ []) h (all_data-snoc d b p l))

pub held-step : (r : List ℕ) (b : ℕ) → IsHeld r → IsHeld (step_leaves r b)
held-step r b h =
    go (cases_Bool (is_real_time b)) (cases_Bool (is_status b))
  where
    go : (is_real_time b ≡ true) ⊎ (is_real_time b ≡ false) → (is_status b ≡ true) ⊎ (is_status b ≡ false) → IsHeld (step_leaves r b)
    go (inl e) y = subst (λ u. IsHeld u) (sym (real-leaves r b (leb-true 248 b e))) h
    go (inr e) (inl f) = let s : IsBlockStatus b = record { high = leb-true 128 b f; low = leb-false 248 b e } in subst (λ u. IsHeld u) (sym (status-leaves r b s)) (Of b [] s tt)
    go (inr e) (inr f) = subst (λ u. IsHeld u) (sym (data-leaves r b (leb-false 128 b f))) (held-data r b (leb-false 128 b f) h)

held-leaves : (r t : List ℕ) → IsHeld r → IsHeld (leaves r t)
held-leaves r [] h = h
held-leaves r (b ∷ t) h = held-leaves (step_leaves r b) t (held-step r b h)

pub rest-none : rest [] ≡ []
unfolding rest
rest-none = refl

pub reading-none : reading [] ≡ []
unfolding reading
reading-none = refl

pub held-rest : (s : List ℕ) → IsHeld (rest s)
held-rest s = subst (λ r. IsHeld r) (sym (rest-leaves [] s)) (held-leaves (rest []) s (subst (λ r. IsHeld r) (sym rest-none) Empty))

-- ---- the laws

pub reading-held : (r : List ℕ) → IsHeld r → (t : List ℕ) → reading (r ++ t) ≡ gives r t
reading-held r h t =
    reading-gives r t
    ∙ ap (λ ms. ms ++ gives (rest r) t) (reading-gives [] r ∙ ap (λ ms. ms ++ gives (rest []) r) reading-none ∙ ap (λ q. gives q r) rest-none ∙ (settled-held r h).silent)
    ∙ ap (λ q. gives q t) (rest-leaves [] r ∙ ap (λ q. leaves q r) rest-none ∙ (settled-held r h).same)

pub rest-held : (r : List ℕ) → IsHeld r → (t : List ℕ) → rest (r ++ t) ≡ leaves r t
rest-held r h t =
    rest-leaves r t
    ∙ ap (λ q. leaves q t) (rest-leaves [] r ∙ ap (λ q. leaves q r) rest-none ∙ (settled-held r h).same)

pub reads-in-two : ReadsInTwo
reads-in-two s t = reading-gives s t ∙ ap (λ ms. reading s ++ ms) (sym (reading-held (rest s) (held-rest s) t))

pub rests-in-two : RestsInTwo
rests-in-two s t = rest-leaves s t ∙ sym (rest-held (rest s) (held-rest s) t)
