-- What is written is read back.
use Rattle.std.proofs.Common.{◌≡◌, ℕ, ◌≤◌, ◌<◌, Bool, true, false, ◌⊎◌, inl, inr, List, [], ◌∷◌, ◌++◌, length, refl, sym, ap, subst, ◌∙◌, arith, append-nil, append_assoc}
use Rattle.std.specs.Prelude.{if◌then◌else◌, nat_le, nat_lt, ◌==◌, ◌&&◌, IsTrue}
use Rattle.std.proofs.lemmas.Bool.{le-leb, lt-leb, ltb-true, eqb-true, cases_Bool, cases_lt}
use Rattle.std.proofs.lemmas.Bool.Decides.{nat_tests}
use Rattle.midi_wire.specs.Messages.{Width, One, Two, StatusClass, Channel, Common, TuneRequest, Exclusive, RealTime, Nothing, begins, most_data, all_data, is_group, IsTail, IsMessage, AllMessages}
use Rattle.midi_wire.specs.Readings.{rest, matters_by, too_long}
use Rattle.midi_wire.specs.Writings.{is_channel, is_real, repeats, written_next, written_on, wire_bytes}
use Rattle.midi_wire.proofs.Steps.{begun, ended, ended_by, completed_by, real_of, step_gives, step_leaves}
use Rattle.midi_wire.proofs.Halves.{gives, leaves, reading-gives}
use Rattle.midi_wire.proofs.Settled.{IsBlockStatus, AllData, status-gives, status-leaves, data-gives, data-leaves, real-gives, real-leaves, exclusive-gives, exclusive-leaves, reading-none, rest-none}
use Rattle.midi_wire.specs.Parsing.{waits, waits_for_two}
use Rattle.midi_wire.specs.Laws.{ReadsWritten}
use Rattle.midi_wire.proofs.Table.{below_real, begins-low}
use Rattle.midi_wire.proofs.Calls.{after_group, one-told, two-told, two-silent, two-half, one-left, two-left, ended-waiting, begun-waiting, matters-waiting}
use Rattle.midi_wire.proofs.Machine.{f7-gives, f7-leaves}

-- ---- the table once more

pub begins-low-not : (s : ℕ) (k : StatusClass) → begins s ≡ k → (k ≡ Nothing → ⊥) → 128 ≤ s
begins-low-not s k e n =
    go (cases_lt s 128)
  where
    go : (s < 128) ⊎ (128 ≤ s) → 128 ≤ s
    go (inl l) = absurd (n (sym e ∙ begins-low s l))
    go (inr l) = l

-- what a status from F8 on begins
abbrev pub is_high : StatusClass → Bool
is_high RealTime = true
is_high Nothing = true
is_high _ = false

pub high-from : (s : ℕ) → 248 ≤ s → is_high (begins s) ≡ true
unfolding begins
high-from s l = grind (arith, nat_tests)

begins-high-not : (s : ℕ) (k : StatusClass) → begins s ≡ k → is_high k ≡ false → s < 248
begins-high-not s k e n =
    go (cases_lt s 248)
  where
    go : (s < 248) ⊎ (248 ≤ s) → s < 248
    go (inl l) = l
    go (inr l) = let f : is_high k ≡ true = ap is_high (sym e) ∙ high-from s l in cc

real-range : (s : ℕ) → begins s ≡ RealTime → 248 ≤ s
real-range s e =
    go (cases_lt s 248)
  where
    go : (s < 248) ⊎ (248 ≤ s) → 248 ≤ s
    go (inr l) = l
    go (inl l) = let f : real_of RealTime s ≡ [] = ap (λ k. real_of k s) (sym e) ∙ below_real s (lt-leb 248 s l) in cc

pub exclusive-is : (s : ℕ) → begins s ≡ Exclusive → s ≡ 240
unfolding begins
exclusive-is s e = grind (arith, nat_tests)

block-status : (s : ℕ) (k : StatusClass) → begins s ≡ k → (k ≡ Nothing → ⊥) → is_high k ≡ false → IsBlockStatus s
block-status s k e n h = record { high = begins-low-not s k e n; low = begins-high-not s k e h }

-- ---- data

pub and_true : (a b : Bool) → (a && b) ≡ true → (a ≡ true) × (b ≡ true)
and_true true b e = (refl, e)
and_true false b e = cc

pub data_of : (d : List ℕ) → IsTrue (all_data d) → AllData d
data_of [] p = tt
data_of (b ∷ d) p = (ltb-true b 128 (and_true (nat_lt b 128) (all_data d) p).0, data_of d (and_true (nat_lt b 128) (all_data d) p).1)

-- ---- bytes one after another

gives-append : (r s t : List ℕ) → gives r (s ++ t) ≡ gives r s ++ gives (leaves r s) t
gives-append r [] t = refl
gives-append r (b ∷ s) t = ap (λ ms. step_gives r b ++ ms) (gives-append (step_leaves r b) s t) ∙ sym (append_assoc (step_gives r b) (gives (step_leaves r b) s) (gives (leaves (step_leaves r b) s) t))

leaves-append : (r s t : List ℕ) → leaves r (s ++ t) ≡ leaves (leaves r s) t
leaves-append r [] t = refl
leaves-append r (b ∷ s) t = leaves-append (step_leaves r b) s t

-- ---- a group after its status

record Group (k : StatusClass) (s : ℕ) (d : List ℕ) : Type 0 where
  told : gives (s ∷ []) d ≡ (s ∷ d) ∷ []
  left : leaves (s ∷ []) d ≡ after_group (is_channel k) s

group-one : (k : StatusClass) (s a : ℕ) → begins s ≡ k → waits k ≡ true → waits_for_two k ≡ false → a < 128 → Group k s (a ∷ [])
group-one k s a e w f l = record {
  told = append-nil (step_gives (s ∷ []) a) ∙ data-gives (s ∷ []) a l ∙ ap (λ j. completed_by j s [] a) e ∙ one-told k s a w f;
  left = data-leaves (s ∷ []) a l ∙ ap (λ j. matters_by j s (a ∷ [])) e ∙ one-left k s a (is_channel k) w f refl;
}

group-two : (k : StatusClass) (s a b : ℕ) → begins s ≡ k → waits_for_two k ≡ true → a < 128 → b < 128 → Group k s (a ∷ b ∷ [])
group-two k s a b e f l m =
    let first : step_gives (s ∷ []) a ≡ [] = data-gives (s ∷ []) a l ∙ ap (λ j. completed_by j s [] a) e ∙ two-silent k s a f in
    let next : step_leaves (s ∷ []) a ≡ s ∷ a ∷ [] = data-leaves (s ∷ []) a l ∙ ap (λ j. matters_by j s (a ∷ [])) e ∙ two-half k s a f in
    record {
      told = ap (λ ms. ms ++ (step_gives (step_leaves (s ∷ []) a) b ++ [])) first ∙ ap (λ r. step_gives r b ++ []) next ∙ append-nil (step_gives (s ∷ a ∷ []) b) ∙ data-gives (s ∷ a ∷ []) b m ∙ ap (λ j. completed_by j s (a ∷ []) b) e ∙ two-told k s a b f;
      left = ap (λ r. step_leaves r b) next ∙ data-leaves (s ∷ a ∷ []) b m ∙ ap (λ j. matters_by j s (a ∷ b ∷ [])) e ∙ two-left k s a b (is_channel k) f refl;
    }

group-of-one : (k : StatusClass) (s : ℕ) (d : List ℕ) → begins s ≡ k → waits k ≡ true → waits_for_two k ≡ false → IsTrue (is_group One d) → Group k s d
group-of-one k s [] e w f p = let n : 0 ≡ 1 = eqb-true 0 1 (and_true (length {A = ℕ} [] == 1) (all_data []) p).0 in absurd (omega (arith, n))
group-of-one k s (a ∷ []) e w f p = group-one k s a e w f (data_of (a ∷ []) (and_true (length (a ∷ []) == 1) (all_data (a ∷ [])) p).1).0
group-of-one k s (a ∷ b ∷ d) e w f p = let n : length (a ∷ b ∷ d) ≡ 1 = eqb-true (length (a ∷ b ∷ d)) 1 (and_true (length (a ∷ b ∷ d) == 1) (all_data (a ∷ b ∷ d)) p).0 in absurd (omega arith)

group-of-two : (k : StatusClass) (s : ℕ) (d : List ℕ) → begins s ≡ k → waits_for_two k ≡ true → IsTrue (is_group Two d) → Group k s d
group-of-two k s [] e f p = let n : 0 ≡ 2 = eqb-true 0 2 (and_true (length {A = ℕ} [] == 2) (all_data []) p).0 in absurd (omega (arith, n))
group-of-two k s (a ∷ []) e f p = let n : length (a ∷ []) ≡ 2 = eqb-true (length (a ∷ [])) 2 (and_true (length (a ∷ []) == 2) (all_data (a ∷ [])) p).0 in absurd (omega arith)
group-of-two k s (a ∷ b ∷ []) e f p = let q : AllData (a ∷ b ∷ []) = data_of (a ∷ b ∷ []) (and_true (length (a ∷ b ∷ []) == 2) (all_data (a ∷ b ∷ [])) p).1 in group-two k s a b e f q.0 q.1.0
group-of-two k s (a ∷ b ∷ x ∷ d) e f p = let n : length (a ∷ b ∷ x ∷ d) ≡ 2 = eqb-true (length (a ∷ b ∷ x ∷ d)) 2 (and_true (length (a ∷ b ∷ x ∷ d) == 2) (all_data (a ∷ b ∷ x ∷ d)) p).0 in absurd (omega arith)

-- ---- what matters after messages

record Follows (r : List ℕ) (before : List (List ℕ)) : Type 0 where
  quiet : ended r ≡ []
  runs : (s : ℕ) → is_channel (begins s) ≡ true → repeats before s ≡ true → r ≡ s ∷ []

record Back (r : List ℕ) (before : List (List ℕ)) (m : List ℕ) (u : List ℕ) : Type 0 where
  told : gives r u ≡ m ∷ []
  next : Follows (leaves r u) (m ∷ before)

follows-new : (k : StatusClass) (s : ℕ) (d : List ℕ) (before : List (List ℕ)) (r : List ℕ) → begins s ≡ k → is_real k ≡ false → ended r ≡ [] → (is_channel k ≡ true → r ≡ s ∷ []) → Follows r ((s ∷ d) ∷ before)
follows-new k s d before r e f q h = record {
  quiet = q;
  runs = λ t c p.
      let same : s ≡ t = eqb-true s t (sym (ap (λ j. if is_real j then repeats before t else (s == t)) e ∙ ap (λ b. if b then repeats before t else (s == t)) f) ∙ p) in
      let chan : is_channel k ≡ true = ap is_channel (sym e) ∙ ap (λ n. is_channel (begins n)) same ∙ c in
      h chan ∙ ap (λ n. n ∷ []) same;
}

after-quiet : (k : StatusClass) (s : ℕ) (t : Bool) → begins s ≡ k → waits k ≡ true → ended (after_group t s) ≡ []
after-quiet k s true e w = ap (λ j. ended_by j []) e ∙ ended-waiting k [] w
after-quiet k s false e w = refl

after-channel : (s : ℕ) (t : Bool) → t ≡ true → after_group t s ≡ s ∷ []
after-channel s t e = ap (λ b. after_group b s) e

waits-not-real : (k : StatusClass) → waits k ≡ true → is_real k ≡ false
waits-not-real (Channel w) e = refl
waits-not-real (Common w) e = refl
waits-not-real TuneRequest e = refl
waits-not-real Exclusive e = refl
waits-not-real RealTime e = cc
waits-not-real Nothing e = refl

group-follows : (k : StatusClass) (s : ℕ) (d : List ℕ) (before : List (List ℕ)) → begins s ≡ k → waits k ≡ true → Group k s d → Follows (leaves (s ∷ []) d) ((s ∷ d) ∷ before)
group-follows k s d before e w g = follows-new k s d before (leaves (s ∷ []) d) e (waits-not-real k w) (ap (λ r. ended r) g.left ∙ after-quiet k s (is_channel k) e w) (λ c. g.left ∙ after-channel s (is_channel k) c)

-- the status and its group
back-whole : (k : StatusClass) (r : List ℕ) (before : List (List ℕ)) (s : ℕ) (d : List ℕ) → begins s ≡ k → IsBlockStatus s → waits k ≡ true → ended r ≡ [] → Group k s d → Back r before (s ∷ d) (s ∷ d)
back-whole k r before s d e b w q g =
    let first : step_gives r s ≡ [] = status-gives r s b ∙ ap (λ ms. ms ++ begun (begins s) s) q ∙ ap (λ j. begun j s) e ∙ begun-waiting k s w in
    let next : step_leaves r s ≡ s ∷ [] = status-leaves r s b ∙ ap (λ j. matters_by j s []) e ∙ matters-waiting k s w in
    record {
      told = ap (λ ms. ms ++ gives (step_leaves r s) d) first ∙ ap (λ x. gives x d) next ∙ g.told;
      next = subst (λ x. Follows (leaves x d) ((s ∷ d) ∷ before)) (sym next) (group-follows k s d before e w g);
    }

-- the group alone, under running status
back-running : (k : StatusClass) (r : List ℕ) (before : List (List ℕ)) (s : ℕ) (d : List ℕ) → begins s ≡ k → waits k ≡ true → r ≡ s ∷ [] → Group k s d → Back r before (s ∷ d) d
back-running k r before s d e w h g = record {
  told = ap (λ x. gives x d) h ∙ g.told;
  next = subst (λ x. Follows (leaves x d) ((s ∷ d) ∷ before)) (sym h) (group-follows k s d before e w g);
}

written_next-by : (k : StatusClass) (before : List (List ℕ)) (s : ℕ) (d : List ℕ) → begins s ≡ k → written_next before (s ∷ d) ≡ (if is_channel k && repeats before s then d else (s ∷ d))
written_next-by k before s d e = ap (λ j. if is_channel j && repeats before s then d else (s ∷ d)) e

back-channel : (w : Width) (r : List ℕ) (before : List (List ℕ)) (s : ℕ) (d : List ℕ) → begins s ≡ Channel w → Follows r before → Group (Channel w) s d → Back r before (s ∷ d) (written_next before (s ∷ d))
back-channel w r before s d e f g =
    subst (λ u. Back r before (s ∷ d) u) (sym (written_next-by (Channel w) before s d e)) (go (cases_Bool (repeats before s)))
  where
    go : (repeats before s ≡ true) ⊎ (repeats before s ≡ false) → Back r before (s ∷ d) (if repeats before s then d else (s ∷ d))
    go (inl p) = subst (λ t. Back r before (s ∷ d) (if t then d else (s ∷ d))) (sym p) (back-running (Channel w) r before s d e refl (f.runs s (ap is_channel e) p) g)
    go (inr p) = subst (λ t. Back r before (s ∷ d) (if t then d else (s ∷ d))) (sym p) (back-whole (Channel w) r before s d e (block-status s (Channel w) e (λ x. cc) refl) refl f.quiet g)

back-tune : (r : List ℕ) (before : List (List ℕ)) (s : ℕ) → begins s ≡ TuneRequest → Follows r before → Back r before (s ∷ []) (s ∷ [])
back-tune r before s e f =
    let b : IsBlockStatus s = block-status s TuneRequest e (λ x. cc) refl in
    let next : step_leaves r s ≡ [] = status-leaves r s b ∙ ap (λ j. matters_by j s []) e in
    record {
      told = append-nil (step_gives r s) ∙ status-gives r s b ∙ ap (λ ms. ms ++ begun (begins s) s) f.quiet ∙ ap (λ j. begun j s) e;
      next = follows-new TuneRequest s [] before (step_leaves r s) e refl (ap (λ x. ended x) next) (λ c. cc);
    }

back-real : (r : List ℕ) (before : List (List ℕ)) (s : ℕ) → begins s ≡ RealTime → Follows r before → Back r before (s ∷ []) (s ∷ [])
back-real r before s e f =
    let same : step_leaves r s ≡ r = real-leaves r s (real-range s e) in
    record {
      told = append-nil (step_gives r s) ∙ real-gives r s (real-range s e) ∙ ap (λ j. real_of j s) e;
      next = subst (λ x. Follows x ((s ∷ []) ∷ before)) (sym same) (record {
        quiet = f.quiet;
        runs = λ t c p. f.runs t c (sym (ap (λ j. if is_real j then repeats before t else (s == t)) e) ∙ p);
      });
    }

back-exclusive : (r : List ℕ) (before : List (List ℕ)) (s : ℕ) (payload : List ℕ) → begins s ≡ Exclusive → Follows r before → AllData payload → length payload ≤ most_data → Back r before (s ∷ payload ++ 247 ∷ []) (s ∷ payload ++ 247 ∷ [])
back-exclusive r before s payload e f p l =
    let b : IsBlockStatus s = block-status s Exclusive e (λ x. cc) refl in
    let first : step_gives r s ≡ [] = status-gives r s b ∙ ap (λ ms. ms ++ begun (begins s) s) f.quiet ∙ ap (λ j. begun j s) e in
    let next : step_leaves r s ≡ s ∷ [] = status-leaves r s b ∙ ap (λ j. matters_by j s []) e in
    let fits : nat_le (length payload) most_data ≡ true = le-leb (length payload) most_data l in
    let held : leaves (s ∷ []) payload ≡ s ∷ payload = exclusive-leaves s e [] payload p ∙ ap (λ t. s ∷ (if t then payload else too_long)) fits in
    let done : leaves r (s ∷ payload ++ 247 ∷ []) ≡ [] = leaves-append (step_leaves r s) payload (247 ∷ []) ∙ f7-leaves (leaves (step_leaves r s) payload) in
    record {
      told =
          ap (λ ms. ms ++ gives (step_leaves r s) (payload ++ 247 ∷ [])) first
          ∙ ap (λ x. gives x (payload ++ 247 ∷ [])) next
          ∙ gives-append (s ∷ []) payload (247 ∷ [])
          ∙ ap (λ ms. ms ++ gives (leaves (s ∷ []) payload) (247 ∷ [])) (exclusive-gives s e [] payload p)
          ∙ append-nil (step_gives (leaves (s ∷ []) payload) 247)
          ∙ f7-gives (leaves (s ∷ []) payload)
          ∙ ap (λ x. ended x) held
          ∙ ap (λ j. ended_by j payload) e
          ∙ ap (λ t. if t then ((240 ∷ payload ++ 247 ∷ []) ∷ []) else []) fits
          ∙ ap (λ n. (n ∷ payload ++ 247 ∷ []) ∷ []) (sym (exclusive-is s e));
      next = follows-new Exclusive s (payload ++ 247 ∷ []) before _ e refl (ap (λ x. ended x) done) (λ c. cc);
    }

back-by : (k : StatusClass) (r : List ℕ) (before : List (List ℕ)) (s : ℕ) (d : List ℕ) → begins s ≡ k → Follows r before → IsTail k d → Back r before (s ∷ d) (written_next before (s ∷ d))
back-by (Channel One) r before s d e f p = back-channel One r before s d e f (group-of-one (Channel One) s d e refl refl p)
back-by (Channel Two) r before s d e f p = back-channel Two r before s d e f (group-of-two (Channel Two) s d e refl p)
back-by (Common One) r before s d e f p = subst (λ u. Back r before (s ∷ d) u) (sym (written_next-by (Common One) before s d e)) (back-whole (Common One) r before s d e (block-status s (Common One) e (λ x. cc) refl) refl f.quiet (group-of-one (Common One) s d e refl refl p))
back-by (Common Two) r before s d e f p = subst (λ u. Back r before (s ∷ d) u) (sym (written_next-by (Common Two) before s d e)) (back-whole (Common Two) r before s d e (block-status s (Common Two) e (λ x. cc) refl) refl f.quiet (group-of-two (Common Two) s d e refl p))
back-by TuneRequest r before s d e f p = subst (λ x. Back r before (s ∷ x) (written_next before (s ∷ x))) (sym p) (subst (λ u. Back r before (s ∷ []) u) (sym (written_next-by TuneRequest before s [] e)) (back-tune r before s e f))
back-by Exclusive r before s d e f p = subst (λ x. Back r before (s ∷ x) (written_next before (s ∷ x))) (sym p.1) (subst (λ u. Back r before (s ∷ p.0 ++ 247 ∷ []) u) (sym (written_next-by Exclusive before s (p.0 ++ 247 ∷ []) e)) (back-exclusive r before s p.0 e f (data_of p.0 p.2) p.3))
back-by RealTime r before s d e f p = subst (λ x. Back r before (s ∷ x) (written_next before (s ∷ x))) (sym p) (subst (λ u. Back r before (s ∷ []) u) (sym (written_next-by RealTime before s [] e)) (back-real r before s e f))
back-by Nothing r before s d e f p = absurd p

back : (r : List ℕ) (before : List (List ℕ)) (m : List ℕ) → IsMessage m → Follows r before → Back r before m (written_next before m)
back r before [] p f = absurd p
back r before (s ∷ d) p f = back-by (begins s) r before s d refl f p

read-back : (r : List ℕ) (before ms : List (List ℕ)) → AllMessages ms → Follows r before → gives r (written_on before ms) ≡ ms
read-back r before [] p f = refl
read-back r before (m ∷ ms) p f =
    let b : Back r before m (written_next before m) = back r before m p.0 f in
    gives-append r (written_next before m) (written_on (m ∷ before) ms)
    ∙ ap (λ xs. xs ++ gives (leaves r (written_next before m)) (written_on (m ∷ before) ms)) b.told
    ∙ ap (λ xs. m ∷ xs) (read-back (leaves r (written_next before m)) (m ∷ before) ms p.1 b.next)

pub reads-written : ReadsWritten
reads-written ms p =
    reading-gives [] (wire_bytes ms)
    ∙ ap (λ xs. xs ++ gives (rest []) (wire_bytes ms)) reading-none
    ∙ ap (λ r. gives r (wire_bytes ms)) rest-none
    ∙ read-back [] [] ms p (record { quiet = refl; runs = λ s c p. cc })
