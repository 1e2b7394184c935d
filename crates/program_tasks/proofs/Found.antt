-- Files that are found one after another.
use Rattle.std.proofs.Common.{◌≡◌, ℕ, suc, ◌+◌, ◌<◌, ◌≤◌, List, [], ◌∷◌, ◌++◌, length, map, drop, get_or, Result, Ok, Err, refl, sym, ap, ◌∙◌, subst, append_assoc, arith}
use Rattle.std.specs.List.{flat_map}
use Rattle.std.proofs.lemmas.List.{append-nil, drop_more, length-map}
use Rattle.std.proofs.Math.ListN.{drop_of_length-le}
use Rattle.smf_mend.specs.declared.forgiven.Mended.{Mended}
use Rattle.smf_grammar.specs.Files.{MidiFile}
use Rattle.program_tasks.specs.declared.left_out.WhyLeftOut.{WhyLeftOut}
use Rattle.program_tasks.specs.FolderFiles.{FoundFiles, AreFound, AreOpened, GainsFile, found_file, found_name, lost_file, by_name}

-- no file
abbrev pub nothing : FoundFiles
nothing = record { names = []; files = []; left_out = [] }

-- some files, and then others
abbrev pub joined : FoundFiles → FoundFiles → FoundFiles
joined one more = record {
  names = one.names ++ more.names;
  files = one.files ++ more.files;
  left_out = one.left_out ++ more.left_out;
}

-- With these opened, what is made of the others is what is still to come.
abbrev pub OpensOn : List (List ℕ) → List (Result Mended WhyLeftOut) → List (List ℕ) → List (Result Mended WhyLeftOut) → FoundFiles → Type 0
OpensOn names contents others other_contents o =
    (more : FoundFiles) → AreOpened others other_contents more → AreOpened names contents (joined o more)

pub opens_first : (names : List (List ℕ)) (contents : List (Result Mended WhyLeftOut)) (o : FoundFiles) → o.names ≡ [] → o.files ≡ [] → o.left_out ≡ [] → OpensOn names contents names contents o
opens_first names contents o n f l more h = record {
  found = h.found;
  are = h.are;
  names_are = ap (λ xs. xs ++ more.names) n ∙ h.names_are;
  files_are = ap (λ xs. xs ++ more.files) f ∙ h.files_are;
  left_out_are = ap (λ xs. xs ++ more.left_out) l ∙ h.left_out_are;
}

pub opens_next : (names ns : List (List ℕ)) (contents cs : List (Result Mended WhyLeftOut)) (name : List ℕ) (content : Result Mended WhyLeftOut) (old new : FoundFiles) →
    OpensOn names contents (name ∷ ns) (content ∷ cs) old → GainsFile name content old new → OpensOn names contents ns cs new
opens_next names ns contents cs name content old new h g more m =
    let one : FoundFiles = record { names = found_name name g.file; files = found_file g.file; left_out = lost_file name g.file } in
    let next : AreOpened (name ∷ ns) (content ∷ cs) (joined one more) = record {
      found = g.file ∷ m.found;
      are = (g.is, m.are);
      names_are = ap (λ xs. found_name name g.file ++ xs) m.names_are;
      files_are = ap (λ xs. found_file g.file ++ xs) m.files_are;
      left_out_are = ap (λ xs. lost_file name g.file ++ xs) m.left_out_are;
    } in
    let all : AreOpened names contents (joined old (joined one more)) = h (joined one more) next in
    record {
      found = all.found;
      are = all.are;
      names_are = ap (λ xs. xs ++ more.names) g.names_are ∙ append_assoc old.names (found_name name g.file) more.names ∙ all.names_are;
      files_are = ap (λ xs. xs ++ more.files) g.files_are ∙ append_assoc old.files (found_file g.file) more.files ∙ all.files_are;
      left_out_are = ap (λ xs. xs ++ more.left_out) g.left_out_are ∙ append_assoc old.left_out (lost_file name g.file) more.left_out ∙ all.left_out_are;
    }

pub opens_last : (names : List (List ℕ)) (contents : List (Result Mended WhyLeftOut)) (o : FoundFiles) → OpensOn names contents [] [] o → AreOpened names contents o
opens_last names contents o h =
    let none : AreOpened [] [] nothing = record { found = []; are = tt; names_are = refl; files_are = refl; left_out_are = refl } in
    let all : AreOpened names contents (joined o nothing) = h nothing none in
    record {
      found = all.found;
      are = all.are;
      names_are = sym (append-nil o.names) ∙ all.names_are;
      files_are = sym (append-nil o.files) ∙ all.files_are;
      left_out_are = sym (append-nil o.left_out) ∙ all.left_out_are;
    }

-- as many names as files are found
count : (names : List (List ℕ)) (contents : List (Result Mended WhyLeftOut)) (found : List (Result MidiFile WhyLeftOut)) → length names ≡ length contents → AreFound contents found →
    length (by_name found_name names found) ≡ length (flat_map found_file found)
count [] [] [] e are = refl
count [] [] (file ∷ found) e are = elim are [ ]
count [] (c ∷ cs) found e are = absurd (omega (arith, e))
count (n ∷ ns) [] found e are = absurd (omega (arith, e))
count (n ∷ ns) (c ∷ cs) [] e are = elim are [ ]
count (n ∷ ns) (c ∷ cs) (Err why ∷ found) e are = count ns cs found (omega (arith, e)) are.1
count (n ∷ ns) (c ∷ cs) (Ok file ∷ found) e are = ap (λ k. suc k) (count ns cs found (omega (arith, e)) are.1)

pub as_many_opened : (names : List (List ℕ)) (contents : List (Result Mended WhyLeftOut)) (o : FoundFiles) → length names ≡ length contents → AreOpened names contents o → length o.names ≡ length o.files
as_many_opened names contents o e h =
    ap length h.names_are ∙ count names contents h.found e h.are ∙ sym (ap length h.files_are)

-- no more names are found than there are
few : (names : List (List ℕ)) (found : List (Result MidiFile WhyLeftOut)) → length (by_name found_name names found) ≤ length names
few [] found = omega arith
few (n ∷ ns) [] = omega arith
few (n ∷ ns) (Err why ∷ found) = let h : length (by_name found_name ns found) ≤ length ns = few ns found in omega arith
few (n ∷ ns) (Ok file ∷ found) = let h : length (by_name found_name ns found) ≤ length ns = few ns found in omega arith

pub few_opened : (names : List (List ℕ)) (contents : List (Result Mended WhyLeftOut)) (o : FoundFiles) → AreOpened names contents o → length o.names ≤ length names
few_opened names contents o h = subst (λ xs. length xs ≤ length names) (sym h.names_are) (few names h.found)

-- ---- the same of what stands in lists from a place on

module _ {X : Type 0} (name : X → List ℕ) (xs : List X) (ys : List (Result Mended WhyLeftOut)) (as_many : length xs ≡ length ys) (i : ℕ) where
  abbrev pub OpensFrom : ℕ → FoundFiles → Type 0
  OpensFrom j o = OpensOn (map name xs) ys (map name (drop j xs)) (drop j ys) o

  pub next_opened : (x : X) (y : Result Mended WhyLeftOut) (named : List ℕ) (old new : FoundFiles) → i < length ys → x ≡ get_or xs i x → y ≡ get_or ys i y → named ≡ name x →
      OpensFrom i old → GainsFile named y old new → OpensFrom (i + 1) new
  next_opened x y named old new lt is_x is_y is_named h g =
      let below : i < length xs = omega (arith, lt, as_many) in
      let one : drop i xs ≡ x ∷ drop (i + 1) xs = drop_more xs i x below ∙ ap (λ z. z ∷ drop (i + 1) xs) (sym is_x) in
      let other : drop i ys ≡ y ∷ drop (i + 1) ys = drop_more ys i y lt ∙ ap (λ z. z ∷ drop (i + 1) ys) (sym is_y) in
      opens_next (map name xs) (map name (drop (i + 1) xs)) ys (drop (i + 1) ys) (name x) y old new
      (subst (λ zs. OpensOn (map name xs) ys (name x ∷ map name (drop (i + 1) xs)) zs old) other
      (subst (λ zs. OpensOn (map name xs) ys (map name zs) (drop i ys) old) one h)) (subst (λ n. GainsFile n y old new) is_named g)

  pub all_opened : (o : FoundFiles) → length ys ≤ i → OpensFrom i o → AreOpened (map name xs) ys o
  all_opened o end h =
      let far : length xs ≤ i = omega (arith, end, as_many) in
      opens_last (map name xs) ys o
      (subst (λ zs. OpensOn (map name xs) ys [] zs o) (drop_of_length-le ys end)
      (subst (λ zs. OpensOn (map name xs) ys (map name zs) (drop i ys) o) (drop_of_length-le xs far) h))

  pub many_opened : (o : FoundFiles) → AreOpened (map name xs) ys o → length o.names ≡ length o.files
  many_opened o h = as_many_opened (map name xs) ys o (length-map xs name ∙ as_many) h
