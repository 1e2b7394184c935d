-- Words that are read in turn.
use Rattle.std.proofs.Common.{◌≡◌, ℕ, suc, ◌+◌, ◌≤◌, ◌<◌, Bool, true, false, cond, List, [], ◌∷◌, ◌++◌, length, map, take, drop, get_or, Option, Some, None, refl, sym, ap, subst, ◌∙◌, arith, eq-eqb, append_assoc, length-append}
use Rattle.std.specs.Prelude.{nat_lt, ◌==◌, if◌then◌else◌, count_by}
use Rattle.std.specs.Option.{option_map, option_and_then}
use Rattle.std.proofs.lemmas.Bool.{eqb-true}
use Rattle.std.proofs.lemmas.List.{take_more, drop_more, map-append}
use Rattle.std.proofs.Math.Seq.{get_or-append_seam}
use Rattle.std.proofs.lemmas.List.Sums.{sum_by-cons, sum_by-append}
use Rattle.program_tasks.specs.declared.program_fault.ProgramFault.{ProgramFault}
use Rattle.program_tasks.specs.declared.program_fault.ProgramFault.TheVariants.{OutOfMemory, NotAScript, TwoScripts}
use Rattle.program_tasks.specs.Words.{script_named, with_script, with_word, with_words, scripts_named, names, is_script_of, IsOfWord, IsOfWords}

-- whether a script is a client's
abbrev pub has : ℕ → ℕ × List ℕ → Bool
has client script = script.0 == client

counted-cons : {X : Type 0} (p : X → Bool) (x : X) (xs : List X) → count_by p (x ∷ xs) ≡ cond (p x) 1 0 + count_by p xs
counted-cons p x xs = sum_by-cons (λ y. cond (p y) 1 0) x xs

counted-append : {X : Type 0} (p : X → Bool) (xs ys : List X) → count_by p (xs ++ ys) ≡ count_by p xs + count_by p ys
counted-append p xs ys = sum_by-append (λ y. cond (p y) 1 0) xs ys

other_way : (m n : ℕ) → (m == n) ≡ true → (n == m) ≡ true
other_way m n e = eq-eqb n m (sym (eqb-true m n e))

none_mapped : {A B : Type 0} (f : A → B) (o : Option A) → option_map f o ≡ None → o ≡ None
none_mapped f None e = refl
none_mapped f (Some x) e = absurd (let bad : Some (f x) ≡ None = e in cc)

-- a client whose script finds no place has one
pub has_one : (s : ℕ × List ℕ) (scripts : List (ℕ × List ℕ)) → with_script s scripts ≡ None → 1 ≤ count_by (has s.0) scripts
has_one s [] e = absurd (let bad : Some (s ∷ []) ≡ None = e in cc)
has_one s (t ∷ scripts) e = go (nat_lt s.0 t.0) (s.0 == t.0) refl (has_one s scripts) e
  where
    go : (l m : Bool) → (s.0 == t.0) ≡ m → (with_script s scripts ≡ None → 1 ≤ count_by (has s.0) scripts) →
        (if l then Some (s ∷ t ∷ scripts) else (if m then None else option_map (λ more. t ∷ more) (with_script s scripts))) ≡ None →
        1 ≤ count_by (has s.0) (t ∷ scripts)
    go true m same later h = absurd (let bad : Some (s ∷ t ∷ scripts) ≡ None = h in cc)
    go false true same later h =
        let e : count_by (has s.0) (t ∷ scripts) ≡ 1 + count_by (has s.0) scripts =
        counted-cons (has s.0) t scripts ∙ ap (λ b. cond b 1 0 + count_by (has s.0) scripts) (other_way s.0 t.0 same) in
        omega arith
    go false false same later h =
        let more : 1 ≤ count_by (has s.0) scripts = later (none_mapped (λ more. t ∷ more) (with_script s scripts) h) in
        let e : count_by (has s.0) (t ∷ scripts) ≡ cond (t.0 == s.0) 1 0 + count_by (has s.0) scripts = counted-cons (has s.0) t scripts in
        omega arith

-- a script that finds a place is one more of its client
pub one_more : (c : ℕ) (s : ℕ × List ℕ) (scripts more : List (ℕ × List ℕ)) → with_script s scripts ≡ Some more → count_by (has c) more ≡ cond (s.0 == c) 1 0 + count_by (has c) scripts
one_more c s [] more e =
    let same : s ∷ [] ≡ more = cc in
    ap (count_by (has c)) (sym same) ∙ counted-cons (has c) s []
one_more c s (t ∷ scripts) more e = go (nat_lt s.0 t.0) (s.0 == t.0) (with_script s scripts) (one_more c s scripts) e
  where
    go : (l m : Bool) (o : Option (List (ℕ × List ℕ))) →
        ((rest : List (ℕ × List ℕ)) → o ≡ Some rest → count_by (has c) rest ≡ cond (s.0 == c) 1 0 + count_by (has c) scripts) →
        (if l then Some (s ∷ t ∷ scripts) else (if m then None else option_map (λ more. t ∷ more) o)) ≡ Some more →
        count_by (has c) more ≡ cond (s.0 == c) 1 0 + count_by (has c) (t ∷ scripts)
    go true m o was h =
        let same : s ∷ t ∷ scripts ≡ more = cc in
        ap (count_by (has c)) (sym same) ∙ counted-cons (has c) s (t ∷ scripts)
    go false true o was h = absurd (let bad : None ≡ Some more = h in cc)
    go false false None was h = absurd (let bad : None ≡ Some more = h in cc)
    go false false (Some rest) was h =
        let same : t ∷ rest ≡ more = cc in
        let a : count_by (has c) rest ≡ cond (s.0 == c) 1 0 + count_by (has c) scripts = was rest refl in
        let b : count_by (has c) (t ∷ rest) ≡ cond (t.0 == c) 1 0 + count_by (has c) rest = counted-cons (has c) t rest in
        let d : count_by (has c) (t ∷ scripts) ≡ cond (t.0 == c) 1 0 + count_by (has c) scripts = counted-cons (has c) t scripts in
        ap (count_by (has c)) (sym same) ∙ omega arith

-- the scripts are those that the first of all words name
pub record IsReadOn (all front rest : List (List ℕ)) (scripts : List (ℕ × List ℕ)) : Type 0 where
  pub split : all ≡ front ++ rest
  pub named : scripts_named all ≡ with_words rest scripts
  pub counted : (c : ℕ) → count_by (has c) scripts ≤ count_by (names c) front

-- nothing was read
pub none_read : (all : List (List ℕ)) → IsReadOn all [] all []
none_read all = record { split = refl; named = refl; counted = λ c. omega arith }

-- the next word is read
pub one_read : (all front : List (List ℕ)) (w : List ℕ) (rest : List (List ℕ)) (scripts more : List (ℕ × List ℕ)) →
    IsReadOn all front (w ∷ rest) scripts → Some more ≡ with_word w scripts → IsReadOn all (front ++ w ∷ []) rest more
one_read all front w rest scripts more was e = record {
  split = was.split ∙ sym (append_assoc front (w ∷ []) rest);
  named = was.named ∙ ap (option_and_then (with_words rest)) (sym e);
  counted = λ c. go c (script_named w) refl (sym e);
}
  where
    go : (c : ℕ) (o : Option (ℕ × List ℕ)) → script_named w ≡ o → option_and_then (λ s. with_script s scripts) o ≡ Some more → count_by (has c) more ≤ count_by (names c) (front ++ w ∷ [])
    go c None is h = absurd (let bad : None ≡ Some more = h in cc)
    go c (Some s) is h =
        let grown : count_by (has c) more ≡ cond (s.0 == c) 1 0 + count_by (has c) scripts = one_more c s scripts more h in
        let had : count_by (has c) scripts ≤ count_by (names c) front = was.counted c in
        let a : count_by (names c) (front ++ w ∷ []) ≡ count_by (names c) front + count_by (names c) (w ∷ []) = counted-append (names c) front (w ∷ []) in
        let b : count_by (names c) (w ∷ []) ≡ cond (s.0 == c) 1 0 + 0 = counted-cons (names c) w [] ∙ ap (λ o. cond (is_script_of c o) 1 0 + 0) is in
        omega arith

-- a word that adds no script
pub wrong : (all front : List (List ℕ)) (w : List ℕ) (rest : List (List ℕ)) (scripts : List (ℕ × List ℕ)) (fault : ProgramFault) →
    IsReadOn all front (w ∷ rest) scripts → IsOfWord w scripts fault → IsOfWords all fault
wrong all front w rest scripts OutOfMemory was h = tt
wrong all front w rest scripts (NotAScript said) was h =
    let none : with_word w scripts ≡ None = ap (option_and_then (λ s. with_script s scripts)) h.1 in
    let length_all : length all ≡ length front + suc (length rest) = ap length was.split ∙ length-append front (w ∷ rest) in (
      was.named ∙ ap (option_and_then (with_words rest)) none,
      (length front, omega arith, ap (λ xs. get_or xs (length front) said.now) was.split ∙ get_or-append_seam front w rest said.now ∙ sym h.0),
      ap script_named h.0 ∙ h.1,
    )
wrong all front w rest scripts (TwoScripts client) was h =
    let none : with_word w scripts ≡ None = ap (option_and_then (λ s. with_script s scripts)) h.1 ∙ h.2 in
    let had : count_by (has client) scripts ≤ count_by (names client) front = was.counted client in
    let one : 1 ≤ count_by (has client) scripts = has_one (client, h.0) scripts h.2 in
    let a : count_by (names client) (front ++ w ∷ rest) ≡ count_by (names client) front + count_by (names client) (w ∷ rest) = counted-append (names client) front (w ∷ rest) in
    let b : count_by (names client) (w ∷ rest) ≡ 1 + count_by (names client) rest =
    counted-cons (names client) w rest ∙ ap (λ o. cond (is_script_of client o) 1 0 + count_by (names client) rest) h.1
    ∙ ap (λ b. cond b 1 0 + count_by (names client) rest) (eq-eqb client client refl) in
    let c : count_by (names client) all ≡ count_by (names client) (front ++ w ∷ rest) = ap (count_by (names client)) was.split in (
      was.named ∙ ap (option_and_then (with_words rest)) none,
      omega arith,
    )
wrong all front w rest scripts _ was h = absurd h

module _ {X : Type 0} (f : X → List ℕ) where
  -- the word at a place, and those after it
  unread : (ws : List X) (i : ℕ) (d : X) (scripts : List (ℕ × List ℕ)) → i < length ws →
      IsReadOn (map f ws) (map f (take i ws)) (map f (drop i ws)) scripts →
      IsReadOn (map f ws) (map f (take i ws)) (f (get_or ws i d) ∷ map f (drop (i + 1) ws)) scripts
  unread ws i d scripts lt was =
      subst (λ rest. IsReadOn (map f ws) (map f (take i ws)) rest scripts) (ap (map f) (drop_more ws i d lt)) was

  pub word_added : (ws : List X) (i : ℕ) (d : X) (scripts more : List (ℕ × List ℕ)) → i < length ws →
      IsReadOn (map f ws) (map f (take i ws)) (map f (drop i ws)) scripts →
      Some more ≡ with_word (f (get_or ws i d)) scripts →
      IsReadOn (map f ws) (map f (take (i + 1) ws)) (map f (drop (i + 1) ws)) more
  word_added ws i d scripts more lt was e =
      let front : map f (take (i + 1) ws) ≡ map f (take i ws) ++ f (get_or ws i d) ∷ [] =
      ap (map f) (take_more ws i d lt) ∙ map-append f (take i ws) (get_or ws i d ∷ []) in
      subst (λ read. IsReadOn (map f ws) read (map f (drop (i + 1) ws)) more) (sym front)
      (one_read (map f ws) (map f (take i ws)) (f (get_or ws i d)) (map f (drop (i + 1) ws)) scripts more (unread ws i d scripts lt was) e)

  pub word_wrong : (ws : List X) (i : ℕ) (d : X) (scripts : List (ℕ × List ℕ)) (fault : ProgramFault) → i < length ws →
      IsReadOn (map f ws) (map f (take i ws)) (map f (drop i ws)) scripts →
      IsOfWord (f (get_or ws i d)) scripts fault → IsOfWords (map f ws) fault
  word_wrong ws i d scripts fault lt was h =
      wrong (map f ws) (map f (take i ws)) (f (get_or ws i d)) (map f (drop (i + 1) ws)) scripts fault (unread ws i d scripts lt was) h
