-- What one more byte does, seen from what still mattered.
use Rattle.std.proofs.Common.{◌≡◌, ℕ, ◌+◌, Bool, true, false, ◌⊎◌, inl, inr, zero, suc, List, [], ◌∷◌, ◌++◌, length, replicate, Some, None, refl, sym, ap, ◌∙◌, arith, append-nil, append_assoc}
use Rattle.std.specs.Prelude.{if◌then◌else◌, nat_le}
use Rattle.std.proofs.lemmas.Bool.{lt-leb, leb-false, cases_Bool}
use Rattle.midi_wire.specs.Messages.{Width, One, Two, StatusClass, Channel, Common, TuneRequest, Exclusive, RealTime, Nothing, begins, is_status, is_real_time, most_data}
use Rattle.midi_wire.specs.Readings.{Placed, Block, PlacedMessage, groups, first_message, bytes_of, exclusive, given_by, block_messages, all_given, incomplete, while_incomplete, too_long, matters_by, last_matters}
use Rattle.midi_wire.proofs.Blocks.{block_of, add}

-- ---- a step over what still matters

-- what a status gives by itself
abbrev pub begun : StatusClass → ℕ → List (List ℕ)
begun TuneRequest b = (b ∷ []) ∷ []
begun _ b = []

-- what a status gives by ending the block before it
abbrev pub ended_by : StatusClass → List ℕ → List (List ℕ)
ended_by Exclusive d = if nat_le (length d) most_data then ((240 ∷ d ++ 247 ∷ []) ∷ []) else []
ended_by _ d = []

abbrev pub ended : List ℕ → List (List ℕ)
ended [] = []
ended (s ∷ d) = ended_by (begins s) d

-- the message that a data byte completes
abbrev pub complete : Width → ℕ → List ℕ → ℕ → List (List ℕ)
complete One s d b = (s ∷ b ∷ []) ∷ []
complete Two s [] b = []
complete Two s (a ∷ []) b = (s ∷ a ∷ b ∷ []) ∷ []
complete Two s (a ∷ c ∷ d) b = []

abbrev pub completed_by : StatusClass → ℕ → List ℕ → ℕ → List (List ℕ)
completed_by (Channel w) s d b = complete w s d b
completed_by (Common w) s d b = complete w s d b
completed_by TuneRequest s d b = []
completed_by Exclusive s d b = []
completed_by RealTime s d b = []
completed_by Nothing s d b = []

abbrev pub completed : List ℕ → ℕ → List (List ℕ)
completed [] b = []
completed (s ∷ d) b = completed_by (begins s) s d b

-- the messages that a byte below F8 gives
abbrev pub gained : List ℕ → ℕ → List (List ℕ)
gained r b = if is_status b then (ended r ++ begun (begins b) b) else completed r b

-- what matters after a data byte
abbrev pub kept_on : List ℕ → ℕ → List ℕ
kept_on [] b = []
kept_on (s ∷ d) b = matters_by (begins s) s (d ++ b ∷ [])

-- what matters after a byte below F8
abbrev pub left : List ℕ → ℕ → List ℕ
left r b = if is_status b then matters_by (begins b) b [] else kept_on r b

-- a message of real time
abbrev pub real_of : StatusClass → ℕ → List (List ℕ)
real_of RealTime b = (b ∷ []) ∷ []
real_of _ b = []

-- the messages that a byte gives, and what matters after it
unfoldable pub step_gives : List ℕ → ℕ → List (List ℕ)
step_gives r b = if is_real_time b then real_of (begins b) b else gained r b

unfoldable pub step_leaves : List ℕ → ℕ → List ℕ
step_leaves r b = if is_real_time b then r else left r b

-- ---- messages at one place

abbrev pub message_at : ℕ → List ℕ → PlacedMessage
message_at n m = record { place = n; message = m }

abbrev pub all_at : ℕ → List (List ℕ) → List PlacedMessage
all_at n [] = []
all_at n (m ∷ ms) = message_at n m ∷ all_at n ms

pub all_at-append : (n : ℕ) (a b : List (List ℕ)) → all_at n (a ++ b) ≡ all_at n a ++ all_at n b
all_at-append n [] b = refl
all_at-append n (m ∷ a) b = ap (λ (ts : List PlacedMessage). message_at n m ∷ ts) (all_at-append n a b)

-- ---- lengths

pub bytes_of-snoc : (xs : List Placed) (x : Placed) → bytes_of (xs ++ x ∷ []) ≡ bytes_of xs ++ x.byte ∷ []
bytes_of-snoc [] x = refl
bytes_of-snoc (y ∷ xs) x = ap (λ (d : List ℕ). y.byte ∷ d) (bytes_of-snoc xs x)

pub length-bytes_of : (xs : List Placed) → length (bytes_of xs) ≡ length xs
length-bytes_of [] = refl
length-bytes_of (y ∷ xs) = let ih = length-bytes_of xs in omega arith

length-copies : (n : ℕ) → length {A = ℕ} (replicate n 0) ≡ n
length-copies zero = refl
length-copies (suc n) = let ih = length-copies n in omega arith

pub length-too_long : length too_long ≡ 65537
unfolding too_long
length-too_long = length-copies 65537

pub length-snoc : (d : List ℕ) (b : ℕ) → length (d ++ b ∷ []) ≡ length d + 1
length-snoc [] b = refl
length-snoc (c ∷ d) b = let ih = length-snoc d b in omega arith

pub too_long-more : (b : ℕ) → nat_le (length (too_long ++ b ∷ [])) most_data ≡ false
too_long-more b = lt-leb (length (too_long ++ b ∷ [])) most_data (omega (arith, length-snoc too_long b, length-too_long))

pub too_long-long : nat_le (length too_long) most_data ≡ false
too_long-long = lt-leb (length too_long) most_data (omega (arith, length-too_long))

-- ---- a status ends the last block

ended-common : (w : Width) (s : ℕ) → begins s ≡ Common w → (d : List ℕ) → ended (while_incomplete w s d) ≡ []
ended-common One s e [] = ap (λ k. ended_by k []) e
ended-common One s e (a ∷ d) = refl
ended-common Two s e [] = ap (λ k. ended_by k []) e
ended-common Two s e (a ∷ []) = ap (λ k. ended_by k (a ∷ [])) e
ended-common Two s e (a ∷ c ∷ d) = refl

ended-exclusive : (bytes : List Placed) (x : Placed) → exclusive bytes (Some x) ≡ all_at x.place (ended_by Exclusive (if nat_le (length (bytes_of bytes)) most_data then bytes_of bytes else too_long))
ended-exclusive bytes x =
    ap (λ n. if nat_le n most_data then (message_at x.place (240 ∷ bytes_of bytes ++ 247 ∷ []) ∷ []) else []) (sym (length-bytes_of bytes))
    ∙ go (cases_Bool (nat_le (length (bytes_of bytes)) most_data))
  where
    go : (nat_le (length (bytes_of bytes)) most_data ≡ true) ⊎ (nat_le (length (bytes_of bytes)) most_data ≡ false) → (if nat_le (length (bytes_of bytes)) most_data then (message_at x.place (240 ∷ bytes_of bytes ++ 247 ∷ []) ∷ []) else []) ≡ all_at x.place (ended_by Exclusive (if nat_le (length (bytes_of bytes)) most_data then bytes_of bytes else too_long))
    go (inl e) =
        ap (λ t. if t then (message_at x.place (240 ∷ bytes_of bytes ++ 247 ∷ []) ∷ []) else []) e
        ∙ ap (λ t. all_at x.place (if t then ((240 ∷ bytes_of bytes ++ 247 ∷ []) ∷ []) else [])) (sym e)
        ∙ ap (λ t. all_at x.place (ended_by Exclusive (if t then bytes_of bytes else too_long))) (sym e)
    go (inr e) =
        ap (λ t. if t then (message_at x.place (240 ∷ bytes_of bytes ++ 247 ∷ []) ∷ []) else []) e
        ∙ ap (λ t. all_at x.place (if t then ((240 ∷ too_long ++ 247 ∷ []) ∷ []) else [])) (sym too_long-long)
        ∙ ap (λ t. all_at x.place (ended_by Exclusive (if t then bytes_of bytes else too_long))) (sym e)

ended_with : (k : StatusClass) (st : Placed) → begins st.byte ≡ k → (bytes : List Placed) (x : Placed) → given_by k st bytes (Some x) ≡ given_by k st bytes None ++ all_at x.place (ended (matters_by k st.byte (bytes_of bytes)))
ended_with (Channel w) st e bytes x = rw e (sym (append-nil (groups w st.byte bytes)))
ended_with (Common w) st e bytes x = rw (ended-common w st.byte e (bytes_of bytes)) (sym (append-nil (first_message (groups w st.byte bytes))))
ended_with TuneRequest st e bytes x = refl
ended_with Exclusive st e bytes x = rw e (ended-exclusive bytes x)
ended_with RealTime st e bytes x = refl
ended_with Nothing st e bytes x = refl

-- ---- a data byte joins the last block

groups-snoc : (w : Width) (s : ℕ) (bytes : List Placed) (x : Placed) → groups w s (bytes ++ x ∷ []) ≡ groups w s bytes ++ all_at x.place (complete w s (incomplete w (bytes_of bytes)) x.byte)
groups-snoc One s [] x = refl
groups-snoc One s (a ∷ more) x = ap (λ (ts : List PlacedMessage). message_at a.place (s ∷ a.byte ∷ []) ∷ ts) (groups-snoc One s more x)
groups-snoc Two s [] x = refl
groups-snoc Two s (a ∷ []) x = refl
groups-snoc Two s (a ∷ b ∷ more) x = ap (λ (ts : List PlacedMessage). message_at b.place (s ∷ a.byte ∷ b.byte ∷ []) ∷ ts) (groups-snoc Two s more x)

first-snoc : (w : Width) (s : ℕ) → begins s ≡ Common w → (bytes : List Placed) (x : Placed) → first_message (groups w s (bytes ++ x ∷ [])) ≡ first_message (groups w s bytes) ++ all_at x.place (completed (while_incomplete w s (bytes_of bytes)) x.byte)
first-snoc One s e [] x = rw e refl
first-snoc One s e (a ∷ more) x = refl
first-snoc Two s e [] x = rw e refl
first-snoc Two s e (a ∷ []) x = rw e refl
first-snoc Two s e (a ∷ b ∷ more) x = refl

completed_with : (k : StatusClass) (st : Placed) → begins st.byte ≡ k → (bytes : List Placed) (x : Placed) → given_by k st (bytes ++ x ∷ []) None ≡ given_by k st bytes None ++ all_at x.place (completed (matters_by k st.byte (bytes_of bytes)) x.byte)
completed_with (Channel w) st e bytes x = rw e (groups-snoc w st.byte bytes x)
completed_with (Common w) st e bytes x = first-snoc w st.byte e bytes x
completed_with TuneRequest st e bytes x = refl
completed_with Exclusive st e bytes x = rw e refl
completed_with RealTime st e bytes x = refl
completed_with Nothing st e bytes x = refl

pub incomplete-snoc : (w : Width) (d : List ℕ) (b : ℕ) → incomplete w (d ++ b ∷ []) ≡ incomplete w (incomplete w d ++ b ∷ [])
incomplete-snoc One d b = refl
incomplete-snoc Two [] b = refl
incomplete-snoc Two (a ∷ []) b = refl
incomplete-snoc Two (a ∷ c ∷ d) b = incomplete-snoc Two d b

common-kept : (w : Width) (s : ℕ) → begins s ≡ Common w → (d : List ℕ) (b : ℕ) → while_incomplete w s (d ++ b ∷ []) ≡ kept_on (while_incomplete w s d) b
common-kept One s e [] b = rw e refl
common-kept One s e (a ∷ d) b = refl
common-kept Two s e [] b = rw e refl
common-kept Two s e (a ∷ []) b = rw e refl
common-kept Two s e (a ∷ c ∷ d) b = refl

abbrev pub bounded : List ℕ → List ℕ
bounded d = if nat_le (length d) most_data then d else too_long

pub bounded-snoc : (d : List ℕ) (b : ℕ) → bounded (d ++ b ∷ []) ≡ bounded (bounded d ++ b ∷ [])
bounded-snoc d b =
    go (cases_Bool (nat_le (length d) most_data))
  where
    go : (nat_le (length d) most_data ≡ true) ⊎ (nat_le (length d) most_data ≡ false) → bounded (d ++ b ∷ []) ≡ bounded (bounded d ++ b ∷ [])
    go (inl e) = ap (λ t. bounded ((if t then d else too_long) ++ b ∷ [])) (sym e)
    go (inr e) =
        let more : nat_le (length (d ++ b ∷ [])) most_data ≡ false = lt-leb (length (d ++ b ∷ [])) most_data (omega (arith, length-snoc d b, leb-false (length d) most_data e)) in
        ap (λ t. if t then (d ++ b ∷ []) else too_long) more
        ∙ ap (λ t. if t then (too_long ++ b ∷ []) else too_long) (sym (too_long-more b))
        ∙ ap (λ t. bounded ((if t then d else too_long) ++ b ∷ [])) (sym e)

pub kept_with : (k : StatusClass) (s : ℕ) → begins s ≡ k → (d : List ℕ) (b : ℕ) → matters_by k s (d ++ b ∷ []) ≡ kept_on (matters_by k s d) b
kept_with (Channel w) s e d b = rw e (ap (λ (r : List ℕ). s ∷ r) (incomplete-snoc w d b))
kept_with (Common w) s e d b = common-kept w s e d b
kept_with TuneRequest s e d b = refl
kept_with Exclusive s e d b = rw e (ap (λ (r : List ℕ). s ∷ r) (bounded-snoc d b))
kept_with RealTime s e d b = refl
kept_with Nothing s e d b = refl

-- ---- one more byte at the end of the blocks

begun_with : (k : StatusClass) (x : Placed) → given_by k x [] None ≡ all_at x.place (begun k x.byte)
begun_with (Channel One) x = refl
begun_with (Channel Two) x = refl
begun_with (Common One) x = refl
begun_with (Common Two) x = refl
begun_with TuneRequest x = refl
begun_with Exclusive x = refl
begun_with RealTime x = refl
begun_with Nothing x = refl

all_given-add-cons : (b c : Block) (bs : List Block) (x : Placed) → all_given (b ∷ add (c ∷ bs) x) ≡ block_messages b (Some c.status) ++ all_given (add (c ∷ bs) x)
all_given-add-cons b c [] x =
    go (is_status x.byte)
  where
    go : (t : Bool) → all_given (b ∷ (if t then (c ∷ block_of x [] ∷ []) else (block_of c.status (c.bytes ++ x ∷ []) ∷ []))) ≡ block_messages b (Some c.status) ++ all_given (if t then (c ∷ block_of x [] ∷ []) else (block_of c.status (c.bytes ++ x ∷ []) ∷ []))
    go true = refl
    go false = refl
all_given-add-cons b c (d ∷ bs) x = refl

pub all_given-add : (bs : List Block) (x : Placed) → all_given (add bs x) ≡ all_given bs ++ all_at x.place (gained (last_matters bs) x.byte)
all_given-add [] x =
    go (is_status x.byte)
  where
    go : (t : Bool) → all_given (if t then (block_of x [] ∷ []) else []) ≡ all_at x.place (if t then begun (begins x.byte) x.byte else [])
    go true = begun_with (begins x.byte) x
    go false = refl
all_given-add (b ∷ []) x =
    go (is_status x.byte)
  where
    go : (t : Bool) → all_given (if t then (b ∷ block_of x [] ∷ []) else (block_of b.status (b.bytes ++ x ∷ []) ∷ [])) ≡ block_messages b None ++ all_at x.place (if t then (ended (matters_by (begins b.status.byte) b.status.byte (bytes_of b.bytes)) ++ begun (begins x.byte) x.byte) else completed (matters_by (begins b.status.byte) b.status.byte (bytes_of b.bytes)) x.byte)
    go true =
        rw (ended_with (begins b.status.byte) b.status refl b.bytes x)
        (rw (begun_with (begins x.byte) x)
        (append_assoc (block_messages b None) (all_at x.place (ended (matters_by (begins b.status.byte) b.status.byte (bytes_of b.bytes)))) (all_at x.place (begun (begins x.byte) x.byte))
        ∙ ap (λ (ts : List PlacedMessage). block_messages b None ++ ts) (sym (all_at-append x.place (ended (matters_by (begins b.status.byte) b.status.byte (bytes_of b.bytes))) (begun (begins x.byte) x.byte)))))
    go false = completed_with (begins b.status.byte) b.status refl b.bytes x
all_given-add (b ∷ c ∷ bs) x =
    all_given-add-cons b c bs x
    ∙ ap (λ (ts : List PlacedMessage). block_messages b (Some c.status) ++ ts) (all_given-add (c ∷ bs) x)
    ∙ sym (append_assoc (block_messages b (Some c.status)) (all_given (c ∷ bs)) (all_at x.place (gained (last_matters (c ∷ bs)) x.byte)))

last_matters-add-cons : (b c : Block) (bs : List Block) (x : Placed) → last_matters (b ∷ add (c ∷ bs) x) ≡ last_matters (add (c ∷ bs) x)
last_matters-add-cons b c [] x =
    go (is_status x.byte)
  where
    go : (t : Bool) → last_matters (b ∷ (if t then (c ∷ block_of x [] ∷ []) else (block_of c.status (c.bytes ++ x ∷ []) ∷ []))) ≡ last_matters (if t then (c ∷ block_of x [] ∷ []) else (block_of c.status (c.bytes ++ x ∷ []) ∷ []))
    go true = refl
    go false = refl
last_matters-add-cons b c (d ∷ bs) x = refl

pub last_matters-add : (bs : List Block) (x : Placed) → last_matters (add bs x) ≡ left (last_matters bs) x.byte
last_matters-add [] x =
    go (is_status x.byte)
  where
    go : (t : Bool) → last_matters (if t then (block_of x [] ∷ []) else []) ≡ (if t then matters_by (begins x.byte) x.byte [] else [])
    go true = refl
    go false = refl
last_matters-add (b ∷ []) x =
    go (is_status x.byte)
  where
    go : (t : Bool) → last_matters (if t then (b ∷ block_of x [] ∷ []) else (block_of b.status (b.bytes ++ x ∷ []) ∷ [])) ≡ (if t then matters_by (begins x.byte) x.byte [] else kept_on (matters_by (begins b.status.byte) b.status.byte (bytes_of b.bytes)) x.byte)
    go true = refl
    go false = ap (λ (d : List ℕ). matters_by (begins b.status.byte) b.status.byte d) (bytes_of-snoc b.bytes x) ∙ kept_with (begins b.status.byte) b.status.byte refl (bytes_of b.bytes) x.byte
last_matters-add (b ∷ c ∷ bs) x = last_matters-add-cons b c bs x ∙ last_matters-add (c ∷ bs) x
