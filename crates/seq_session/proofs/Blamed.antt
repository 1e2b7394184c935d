-- Whom the answer of a session blames, and who is not blamed.
use Rattle.std.proofs.Common.{◌≡◌, ℕ, ◌≤◌, ◌<◌, Bool, true, false, eqb, ◌||◌, List, [], ◌∷◌, length, take, drop, ◌-◌, get_or, Option, Some, None, is_some, IfSome, refl, sym, ap, subst, ◌∙◌, arith}
use Rattle.std.specs.List.{list_any}
use Rattle.std.proofs.lemmas.List.{length-map, take_rest}
use Rattle.std.proofs.lemmas.Bool.{false≢true, eqb-true, eq-eqb, ne_eqb}
use Rattle.seq_session.specs.declared.source.ScriptSource.{ScriptSource}
use Rattle.seq_session.specs.Rising.{RiseFrom, AreRising}
use Rattle.seq_session.specs.declared.source.Script.{Script}
use Rattle.seq_session.specs.Sessions.{script_clients}
use Rattle.seq_session.specs.Devices.{clients, AreSound, AreOpen, is_blamed, IsAmong, ReadersTell, IsTold, LogsTell}

-- a client that is among those that rise from a number is above it
above : (low k : ℕ) (cs : List ℕ) → RiseFrom low cs → IsAmong k cs → low < k
above low k [] r h = absurd (false≢true h)
above low k (c ∷ cs) r h = go (eqb c k) refl (above c k cs r.1) h
  where
    go : (b : Bool) → eqb c k ≡ b → (IsAmong k cs → c < k) → (b || list_any (λ c. eqb c k) cs) ≡ true → low < k
    go true e later h = let same : c ≡ k = eqb-true c k e in let l : low < c = r.0 in omega arith
    go false e later h = let l : c < k = later h in let m : low < c = r.0 in omega arith

-- who is not among the later ones is not blamed with them
pub not_first : (c : ℕ) (blamed : Option ℕ) (cs : List ℕ) → RiseFrom c cs → IfSome blamed (λ k. IsAmong k cs) → is_blamed blamed c ≡ false
not_first c None cs r h = refl
not_first c (Some k) cs r h = let l : c < k = above c k cs r h in ne_eqb k c (λ e. omega arith)

-- of those above the one who is blamed none is
apart : (c d : ℕ) (blamed : Option ℕ) → c < d → IfSome blamed (λ k. k ≡ c) → is_blamed blamed d ≡ false
apart c d None l h = refl
apart c d (Some k) l h = let same : k ≡ c = h in ne_eqb k d (λ e. omega arith)

-- ---- readers

module _ {R : Type 0} (failed : R → Bool) where
  later_sound : (c low : ℕ) (blamed : Option ℕ) (xs : List (ScriptSource R)) → c ≤ low → RiseFrom low (clients xs) → IfSome blamed (λ k. k ≡ c) → AreSound failed xs → ReadersTell failed blamed xs
  later_sound c low blamed [] l r b s = tt
  later_sound c low blamed (x ∷ xs) l r b s =
      let m : low < x.client = r.0 in
      (s.0 ∙ sym (apart c x.client blamed (omega arith) b), later_sound c x.client blamed xs (omega arith) r.1 b s.1)

  -- the first is blamed, or nobody is
  pub first_told : (old x : ScriptSource R) (blamed : Option ℕ) (xs : List (ScriptSource R)) → x.client ≡ old.client → failed x.reader ≡ is_some blamed → IfSome blamed (λ k. k ≡ old.client) → AreRising (clients (old ∷ xs)) → AreSound failed (old ∷ xs) → ReadersTell failed blamed (x ∷ xs)
  first_told old x None xs same mark b rise sound = (mark, later_sound old.client old.client None xs (omega arith) rise b sound.1)
  first_told old x (Some k) xs same mark b rise sound =
      (mark ∙ sym (eq-eqb k x.client (b ∙ sym same)), later_sound old.client old.client (Some k) xs (omega arith) rise b sound.1)

  -- the first has not failed, and among the later ones it is told already
  pub rest_told : (old x : ScriptSource R) (blamed : Option ℕ) (olds xs : List (ScriptSource R)) → x.client ≡ old.client → failed x.reader ≡ false → IfSome blamed (λ k. IsAmong k (clients olds)) → AreRising (clients (old ∷ olds)) → ReadersTell failed blamed xs → ReadersTell failed blamed (x ∷ xs)
  rest_told old x blamed olds xs same mark b rise more =
      (mark ∙ sym (ap (is_blamed blamed) same ∙ not_first old.client blamed (clients olds) rise b), more)

-- ---- logs

module _ {W : Type 0} (failed eager : W → Bool) where
  sound_told : (log : W) (b : Bool) → failed log ≡ false → b ≡ false → IsTold (failed log) (eager log) b
  sound_told log b f e = record { told = λ t. absurd (false≢true (sym f ∙ t)); only = λ t. absurd (false≢true (sym e ∙ t)) }

  later_open : (c low : ℕ) (blamed : Option ℕ) (cs : List ℕ) (logs : List W) → c ≤ low → RiseFrom low cs → IfSome blamed (λ k. k ≡ c) → length logs ≡ length cs → AreOpen failed logs → LogsTell failed eager blamed cs logs
  later_open c low blamed [] [] l r b n s = tt
  later_open c low blamed [] (log ∷ logs) l r b n s = absurd (omega arith)
  later_open c low blamed (d ∷ cs) [] l r b n s = absurd (omega arith)
  later_open c low blamed (d ∷ cs) (log ∷ logs) l r b n s =
      let m : low < d = r.0 in
      (sound_told log (is_blamed blamed d) s.0 (apart c d blamed (omega arith) b), later_open c d blamed cs logs (omega arith) r.1 b (omega arith) s.1)

  -- nobody is blamed
  pub none_told : (cs : List ℕ) (logs : List W) → length logs ≡ length cs → AreOpen failed logs → LogsTell failed eager None cs logs
  none_told [] [] n s = tt
  none_told [] (log ∷ logs) n s = absurd (omega arith)
  none_told (c ∷ cs) [] n s = absurd (omega arith)
  none_told (c ∷ cs) (log ∷ logs) n s = (sound_told log false s.0 refl, none_told cs logs (omega arith) s.1)

  -- the first is blamed
  pub first_log_told : (c : ℕ) (cs : List ℕ) (log : W) (logs : List W) → IsTold (failed log) (eager log) true → AreRising (c ∷ cs) → length logs ≡ length cs → AreOpen failed logs → LogsTell failed eager (Some c) (c ∷ cs) (log ∷ logs)
  first_log_told c cs log logs told rise n s =
      (subst (IsTold (failed log) (eager log)) (sym (eq-eqb c c refl)) told, later_open c c (Some c) cs logs (omega arith) rise refl n s)

  -- the first has not failed
  pub rest_log_told : (c : ℕ) (cs : List ℕ) (blamed : Option ℕ) (log : W) (logs : List W) → IsTold (failed log) (eager log) false → AreRising (c ∷ cs) → IfSome blamed (λ k. IsAmong k cs) → LogsTell failed eager blamed cs logs → LogsTell failed eager blamed (c ∷ cs) (log ∷ logs)
  rest_log_told c cs blamed log logs told rise b more =
      (subst (IsTold (failed log) (eager log)) (sym (not_first c blamed cs rise b)) told, more)

  told_both : (scripts rest : List Script) (x : Script) (old : W) (more logs : List W) → scripts ≡ x ∷ rest → logs ≡ old ∷ more → length logs ≡ length scripts → length more ≡ length (script_clients rest)
  told_both scripts rest x old more logs e f n =
      let a : length logs ≡ length (old ∷ more) = ap length f in
      let b : length scripts ≡ length (x ∷ rest) = ap length e in
      let d : length (script_clients rest) ≡ length rest = length-map rest (λ (s : Script). s.client) in omega arith

  pub first_log : (scripts rest : List Script) (x : Script) (blamed : Option ℕ) (old log : W) (more logs : List W) → scripts ≡ x ∷ rest → logs ≡ old ∷ more → blamed ≡ Some x.client → IsTold (failed log) (eager log) true →
      AreRising (script_clients scripts) → length logs ≡ length scripts → AreOpen failed logs → LogsTell failed eager blamed (script_clients scripts) (log ∷ more)
  first_log scripts rest x blamed old log more logs e f b t r n s =
      subst (λ bl. LogsTell failed eager bl (script_clients scripts) (log ∷ more)) (sym b)
      (subst (λ ss. LogsTell failed eager (Some x.client) (script_clients ss) (log ∷ more)) (sym e)
      (first_log_told x.client (script_clients rest) log more t (subst (λ ss. AreRising (script_clients ss)) e r) (told_both scripts rest x old more logs e f n) (subst (AreOpen failed) f s).1))

  pub rest_log : (scripts rest : List Script) (x : Script) (blamed : Option ℕ) (log : W) (more : List W) → scripts ≡ x ∷ rest → IsTold (failed log) (eager log) false → AreRising (script_clients scripts) → IfSome blamed (λ k. IsAmong k (script_clients rest)) →
      LogsTell failed eager blamed (script_clients rest) more → LogsTell failed eager blamed (script_clients scripts) (log ∷ more)
  rest_log scripts rest x blamed log more e t r b m =
      subst (λ ss. LogsTell failed eager blamed (script_clients ss) (log ∷ more)) (sym e)
      (rest_log_told x.client (script_clients rest) blamed log more t (subst (λ ss. AreRising (script_clients ss)) e r) b m)

-- ---- lists

pub first_at : {X : Type 0} (xs : List X) (x : X) → 0 < length xs → x ≡ get_or xs 0 x → xs ≡ x ∷ take (length xs - 1) (drop 1 xs)
first_at [] x l e = absurd (omega arith)
first_at (y ∷ xs) x l e = ap (λ z. z ∷ xs) (sym e) ∙ ap (λ ys. x ∷ ys) (sym (take_rest (y ∷ xs) 1))
