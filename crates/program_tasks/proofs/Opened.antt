-- The scripts of a session, opened one after another.
use Rattle.std.proofs.Common.{◌≡◌, ℕ, zero, suc, ◌+◌, ◌<◌, ◌≤◌, false, nat_eq, ◌||◌, List, [], ◌∷◌, ◌++◌, length, map, take, slice_index_or, refl, sym, ap, ◌∙◌, arith}
use Rattle.std.specs.Prelude.{◌==◌, Contains}
use Rattle.std.specs.List.{AllByRecursion, list_any}
use Rattle.std.proofs.lemmas.Bool.{false≢true}
use Rattle.std.proofs.lemmas.List.{take_more}
use Rattle.std.proofs.lemmas.List.Folds.{list_any-append}
use Rattle.folder_files.proofs.Filtered.{take-all}
use Rattle.seq_session.specs.declared.source.ScriptSource.{ScriptSource}
use Rattle.seq_session.specs.Devices.{clients, IsAmong}
use Rattle.program_tasks.specs.declared.words.ScriptWord.{ScriptWord}
use Rattle.program_tasks.specs.Words.{scripts_seen, seen_script}
use Rattle.program_tasks.specs.Sessions.{owners}

pub all-more : {X : Type 0} (P : X → Type 0) (xs : List X) (x : X) → AllByRecursion P xs → P x → AllByRecursion P (xs ++ x ∷ [])
all-more P [] x h p = (p, tt)
all-more P (y ∷ ys) x h p = (h.0, all-more P ys x h.1 p)

map-more : {X Y : Type 0} (f : X → Y) (xs : List X) (x : X) → map f (xs ++ x ∷ []) ≡ map f xs ++ f x ∷ []
map-more f [] x = refl
map-more f (y ∷ ys) x = ap (λ zs. f y ∷ zs) (map-more f ys x)

module _ (scripts : List ScriptWord) (i : ℕ) (t : ScriptWord) (here : t ≡ slice_index_or scripts i t) (within : i < length scripts) where
  owners-next : owners (take (i + 1) scripts) ≡ owners (take i scripts) ++ t.client ∷ []
  owners-next = ap owners (take_more scripts i t within ∙ ap (λ x. take i scripts ++ x ∷ []) (sym here)) ∙ map-more (λ s. s.client) (take i scripts) t

  pub clients-next : {R : Type 0} (sources news : List (ScriptSource R)) (s : ScriptSource R) → news ≡ sources ++ s ∷ [] → s.client ≡ t.client → clients sources ≡ owners (take i scripts) →
      clients news ≡ owners (take (i + 1) scripts)
  clients-next sources news s e c h =
      ap clients e ∙ map-more (λ x. x.client) sources s ∙ ap (λ cs. cs ++ s.client ∷ []) h ∙ ap (λ n. owners (take i scripts) ++ n ∷ []) c ∙ sym owners-next

  -- a script of another client
  pub none-next : (client : ℕ) → false ≡ nat_eq t.client client → list_any (λ c. c == client) (owners (take i scripts)) ≡ false → list_any (λ c. c == client) (owners (take (i + 1) scripts)) ≡ false
  none-next client e h =
      ap (list_any (λ c. c == client)) owners-next ∙ list_any-append (λ c. c == client) (owners (take i scripts)) (t.client ∷ [])
      ∙ ap (λ b. b || ((t.client == client) || false)) h ∙ ap (λ b. false || (b || false)) (sym e)

-- who is among the clients is not among none of them
pub is-among-some : (scripts xs : List ScriptWord) (client i : ℕ) → IsAmong client (owners scripts) → xs ≡ scripts → i ≤ length xs → length xs ≤ i → list_any (λ c. c == client) (owners (take i xs)) ≡ false → ⊥
is-among-some scripts xs client i among e l g none = false≢true (sym none ∙ ap (λ ys. list_any (λ c. c == client) (owners ys)) (take-all i xs l g ∙ e) ∙ among)

-- a script among those of the words
pub script-at : (words : List ScriptWord) (i : ℕ) (w : ScriptWord) → i < length words → w ≡ slice_index_or words i w → Contains (scripts_seen words) (w.client, w.path.now)
script-at [] i w l e = absurd (omega arith)
script-at (v ∷ words) zero w l e = (0, omega arith, ap seen_script (sym e))
script-at (v ∷ words) (suc i) w l e =
    let h : Contains (scripts_seen words) (w.client, w.path.now) = script-at words i w (omega arith) e in (suc h.0, omega (arith, h.1), h.2)

pub take-short : {X : Type 0} (n : ℕ) (xs : List X) → length (take n xs) ≤ n
take-short zero xs = omega arith
take-short (suc n) [] = omega arith
take-short (suc n) (x ∷ xs) = let h : length (take n xs) ≤ n = take-short n xs in omega arith
