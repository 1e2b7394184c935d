-- The scripts that words name stand by client, so that the numbers of their clients rise.
use Rattle.std.proofs.Common.{◌≡◌, if◌then◌else◌, ℕ, ◌<◌, Bool, true, false, List, [], ◌∷◌, map, Option, Some, None, refl, sym, ap, subst, arith}
use Rattle.std.specs.Prelude.{nat_lt, ◌==◌, IfSome}
use Rattle.std.specs.Option.{option_map, option_and_then}
use Rattle.std.proofs.lemmas.Bool.Decides.{nat_tests}
use Rattle.seq_session.specs.Rising.{RiseFrom, AreRising}
use Rattle.program_tasks.specs.declared.words.ScriptWord.{ScriptWord}
use Rattle.program_tasks.specs.Words.{with_script, with_word, with_words, script_named, scripts_named, scripts_seen}
use Rattle.program_tasks.specs.Sessions.{owners}

abbrev Scripts : Type 0
Scripts = List (ℕ × List ℕ)

abbrev named : Scripts → List ℕ
named scripts = map (λ s. s.0) scripts

of-map : (low : ℕ) (t : ℕ × List ℕ) → low < t.0 → (o : Option Scripts) → IfSome o (λ r. RiseFrom t.0 (named r)) → IfSome (option_map (λ more. t ∷ more) o) (λ r. RiseFrom low (named r))
of-map low t l None h = tt
of-map low t l (Some r) h = (l, h)

first-map : (t : ℕ × List ℕ) (o : Option Scripts) → IfSome o (λ r. RiseFrom t.0 (named r)) → IfSome (option_map (λ more. t ∷ more) o) (λ r. AreRising (named r))
first-map t None h = tt
first-map t (Some r) h = h

rise-with : (s : ℕ × List ℕ) (low : ℕ) (scripts : Scripts) → low < s.0 → RiseFrom low (named scripts) → IfSome (with_script s scripts) (λ r. RiseFrom low (named r))
rise-with s low [] l h = (l, tt)
rise-with s low (t ∷ scripts) l h = go (nat_lt s.0 t.0) (s.0 == t.0) refl refl (λ m. rise-with s t.0 scripts m h.1)
  where
    go : (b e : Bool) → nat_lt s.0 t.0 ≡ b → (s.0 == t.0) ≡ e → (t.0 < s.0 → IfSome (with_script s scripts) (λ r. RiseFrom t.0 (named r))) →
        IfSome (if b then Some (s ∷ t ∷ scripts) else (if e then None else option_map (λ more. t ∷ more) (with_script s scripts))) (λ r. RiseFrom low (named r))
    go true e hb he more = (l, (grind (arith, nat_tests), h.1))
    go false true hb he more = tt
    go false false hb he more = of-map low t h.0 (with_script s scripts) (more (grind (arith, nat_tests)))

rising-with : (s : ℕ × List ℕ) (scripts : Scripts) → AreRising (named scripts) → IfSome (with_script s scripts) (λ r. AreRising (named r))
rising-with s [] h = tt
rising-with s (t ∷ scripts) h = go (nat_lt s.0 t.0) (s.0 == t.0) refl refl
  where
    go : (b e : Bool) → nat_lt s.0 t.0 ≡ b → (s.0 == t.0) ≡ e →
        IfSome (if b then Some (s ∷ t ∷ scripts) else (if e then None else option_map (λ more. t ∷ more) (with_script s scripts))) (λ r. AreRising (named r))
    go true e hb he = (grind (arith, nat_tests), h)
    go false true hb he = tt
    go false false hb he = first-map t (with_script s scripts) (rise-with s t.0 scripts (grind (arith, nat_tests)) h)

rising-word : (o : Option (ℕ × List ℕ)) (scripts : Scripts) → AreRising (named scripts) → IfSome (option_and_then (λ s. with_script s scripts) o) (λ r. AreRising (named r))
rising-word None scripts h = tt
rising-word (Some s) scripts h = rising-with s scripts h

and-then : (f : Scripts → Option Scripts) (o : Option Scripts) → IfSome o (λ r. AreRising (named r)) → ((r : Scripts) → AreRising (named r) → IfSome (f r) (λ r. AreRising (named r))) →
    IfSome (option_and_then f o) (λ r. AreRising (named r))
and-then f None rise more = tt
and-then f (Some r) rise more = more r rise

rising-words : (words : List (List ℕ)) (scripts : Scripts) → AreRising (named scripts) → IfSome (with_words words scripts) (λ r. AreRising (named r))
rising-words [] scripts h = h
rising-words (w ∷ words) scripts h = and-then (with_words words) (with_word w scripts) (rising-word (script_named w) scripts h) (λ more rise. rising-words words more rise)

named-owners : (scripts : List ScriptWord) → named (scripts_seen scripts) ≡ owners scripts
named-owners [] = refl
named-owners (s ∷ scripts) = ap (λ cs. s.client ∷ cs) (named-owners scripts)

pub owners-rise : (scripts : List ScriptWord) (words : List (List ℕ)) → Some (scripts_seen scripts) ≡ scripts_named words → AreRising (owners scripts)
owners-rise scripts words e = subst AreRising (named-owners scripts) (subst (λ o. IfSome o (λ r. AreRising (named r))) (sym e) (rising-words words [] tt))
