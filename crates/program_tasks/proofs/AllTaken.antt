-- Whether files are left out.
use Rattle.std.proofs.Common.{◌≡◌, ◌∙◌, ℕ, ◌==◌, Bool, true, false, List, [], ◌∷◌, ◌++◌, length, map, drop, refl, sym, ap, arith, eqb-true}
use Rattle.std.proofs.lemmas.Bool.{ne_eqb, true≢false}
use Rattle.std.proofs.lemmas.List.{length-map, drop-map}
use Rattle.script_text.specs.declared.script.TheConstants.{MOST_FILES}
use Rattle.program_tasks.specs.declared.left_out.WhyLeftOut.TheVariants.{Beyond}
use Rattle.program_tasks.specs.Explained.{are_none}
use Rattle.program_tasks.specs.FolderFiles.{LostFile}
use Rattle.program_tasks.specs.LeftOut.{all_lost, lost_for, lost_where}

-- where none of the first are, it is as with the others
none_then : {X : Type 0} (xs ys : List X) (n : ℕ) → length xs ≡ n → (n == 0) ≡ true → are_none (xs ++ ys) ≡ are_none ys
none_then [] ys n same none = refl
none_then (x ∷ xs) ys n same none = let zero : n ≡ 0 = eqb-true n 0 none in absurd (omega (arith, same, zero))

-- where some of the first are, some are
some_then : {X : Type 0} (xs ys : List X) (n : ℕ) → length xs ≡ n → (n == 0) ≡ false → false ≡ are_none (xs ++ ys)
some_then [] ys n same some = absurd (true≢false (ap (λ k. k == 0) same ∙ some))
some_then (x ∷ xs) ys n same some = sym (ne_eqb (length (x ∷ (xs ++ ys))) 0 (λ z. omega arith))

module _ {A S : Type 0} (of : A → LostFile) (name_of : S → List ℕ) (explains : Bool) (xs : List A) (names rest capitals : List S) (is : rest ≡ drop MOST_FILES names) where
  abbrev pub lost : List LostFile
  lost = all_lost explains (map of xs) (map name_of names) (map name_of capitals)

  behind : length (lost_for Beyond (drop MOST_FILES (map name_of names))) ≡ length rest
  behind =
      length-map (drop MOST_FILES (map name_of names)) _ ∙ ap length (drop-map name_of MOST_FILES names)
      ∙ length-map (drop MOST_FILES names) name_of ∙ ap length (sym is)

  pub some_unplayable : (length xs == 0) ≡ false → false ≡ are_none lost
  some_unplayable some = some_then (map of xs) _ (length xs) (length-map xs of) some

  pub some_behind : (length xs == 0) ≡ true → (length rest == 0) ≡ false → false ≡ are_none lost
  some_behind none some =
      some_then (lost_for Beyond (drop MOST_FILES (map name_of names))) (lost_where explains (map name_of capitals)) (length rest) behind some
      ∙ sym (none_then (map of xs) _ (length xs) (length-map xs of) none)

  pub none_before : (length xs == 0) ≡ true → (length rest == 0) ≡ true → are_none (lost_where explains (map name_of capitals)) ≡ are_none lost
  none_before none none_behind =
      sym (none_then (map of xs) _ (length xs) (length-map xs of) none
      ∙ none_then (lost_for Beyond (drop MOST_FILES (map name_of names))) (lost_where explains (map name_of capitals)) (length rest) behind none_behind)

-- those with capitals
pub capitals_told : {S : Type 0} (name_of : S → List ℕ) (capitals : List S) → (length capitals == 0) ≡ are_none (lost_where true (map name_of capitals))
capitals_told name_of capitals = ap (λ n. n == 0) (sym (length-map (map name_of capitals) _ ∙ length-map capitals name_of))
