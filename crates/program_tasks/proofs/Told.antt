-- Lines that are shown one after another.
use Rattle.std.proofs.Common.{◌≡◌, ◌<◌, ◌≤◌, ◌+◌, ◌++◌, ℕ, List, [], ◌∷◌, ◌∙◌, length, map, take, drop, get_or, refl, sym, ap, subst, Bool}
use Rattle.std.proofs.lemmas.Grind.{flat_map-append}
use Rattle.std.proofs.lemmas.List.{append-nil, drop-map, take_more}
use Rattle.byte_io.specs.Moved.{Took}
use Rattle.byte_io.proofs.Moved.{took_more}
use Rattle.script_text.specs.declared.script.TheConstants.{MOST_FILES}
use Rattle.program_tasks.specs.declared.left_out.WhyLeftOut.{WhyLeftOut}
use Rattle.program_tasks.specs.declared.left_out.WhyLeftOut.TheVariants.{Beyond}
use Rattle.program_tasks.specs.Explained.{lines_told}
use Rattle.program_tasks.specs.FolderFiles.{LostFile}
use Rattle.program_tasks.specs.LeftOut.{all_lost, lost_for, lost_line, lost_lines, lost_where}
use Rattle.folder_files.proofs.Filtered.{take-all}

module _ {N X : Type 0} (HasTold : N → List ℕ → Type 0) (line : X → List ℕ) where
  -- one more line
  pub line_next : (xs : List X) (i : ℕ) (x : X) (s t u : N) → i < length xs → x ≡ get_or xs i x →
      Took HasTold s (lines_told line (take i xs)) t → Took HasTold t (line x ++ 10 ∷ []) u →
      Took HasTold s (lines_told line (take (i + 1) xs)) u
  line_next xs i x s t u lt here before told =
      let last : lines_told line (x ∷ []) ≡ line x ++ 10 ∷ [] = append-nil _ in
      let lines : lines_told line (take (i + 1) xs) ≡ lines_told line (take i xs) ++ (line x ++ 10 ∷ []) =
      ap (lines_told line) (take_more xs i x lt ∙ ap (λ n. take i xs ++ n ∷ []) (sym here))
      ∙ flat_map-append (λ n. line n ++ 10 ∷ []) (take i xs) (x ∷ [])
      ∙ ap (λ more. lines_told line (take i xs) ++ more) last in
      subst (λ text. Took HasTold s text u) (sym lines) (took_more HasTold s t u _ _ before told)

  -- and so all of them
  pub line_all : (xs : List X) (i : ℕ) (s t : N) → i ≤ length xs → length xs ≤ i →
      Took HasTold s (lines_told line (take i xs)) t → Took HasTold s (lines_told line xs) t
  line_all xs i s t l g told = subst (λ ys. Took HasTold s (lines_told line ys) t) (take-all i xs l g) told

-- ---- lines of what stands in a list of something else

-- the first line, and then the others
pub told_first : {N X Y : Type 0} (HasTold : N → List ℕ → Type 0) (line : Y → List ℕ) (of : X → Y) (xs more : List X) (first : X) (s t u : N) → xs ≡ first ∷ more →
    Took HasTold s (line (of first) ++ 10 ∷ []) t → Took HasTold t (lines_told line (map of more)) u → Took HasTold s (lines_told line (map of xs)) u
told_first HasTold line of xs more first s t u e one others = rw e (took_more HasTold s t u _ _ one others)

lines_mapped : {X Y : Type 0} (line : Y → List ℕ) (of : X → Y) (xs : List X) → lines_told (λ x. line (of x)) xs ≡ lines_told line (map of xs)
lines_mapped line of [] = refl
lines_mapped line of (x ∷ xs) = ap (λ more. (line (of x) ++ 10 ∷ []) ++ more) (lines_mapped line of xs)

pub mapped_all : {N X Y : Type 0} (HasTold : N → List ℕ → Type 0) (line : Y → List ℕ) (of : X → Y) (xs : List X) (i : ℕ) (s t : N) → i ≤ length xs → length xs ≤ i →
    Took HasTold s (lines_told (λ x. line (of x)) (take i xs)) t → Took HasTold s (lines_told line (map of xs)) t
mapped_all HasTold line of xs i s t l g told = subst (λ text. Took HasTold s text t) (lines_mapped line of xs) (line_all HasTold (λ x. line (of x)) xs i s t l g told)

-- lines of names, of files that are left out for one reason
pub named_all : {N X : Type 0} (HasTold : N → List ℕ → Type 0) (explains : Bool) (why : WhyLeftOut) (name_of : X → List ℕ) (names : List X) (i : ℕ) (s t : N) → i ≤ length names → length names ≤ i →
    Took HasTold s (lines_told (λ name. lost_line explains (record { name = name_of name; why = why })) (take i names)) t → Took HasTold s (lost_lines explains (lost_for why (map name_of names))) t
named_all HasTold explains why name_of names i s t l g told =
    subst (λ text. Took HasTold s text t) (lines_mapped (lost_line explains) (λ name. record { name = name; why = why }) (map name_of names))
    (mapped_all HasTold (λ name. lost_line explains (record { name = name; why = why })) name_of names i s t l g told)

-- ---- the files that are left out

module _ {N : Type 0} (HasTold : N → List ℕ → Type 0) (explains : Bool) where
  lost_append : (xs ys : List LostFile) (s t u : N) → Took HasTold s (lost_lines explains xs) t → Took HasTold t (lost_lines explains ys) u → Took HasTold s (lost_lines explains (xs ++ ys)) u
  lost_append xs ys s t u one more =
      subst (λ text. Took HasTold s text u) (sym (flat_map-append (λ file. lost_line explains file ++ 10 ∷ []) xs ys)) (took_more HasTold s t u _ _ one more)

  -- those that cannot be played, those that stand behind the others, and those with capitals
  pub told_lost : {X : Type 0} (unplayable : List LostFile) (name_of : X → List ℕ) (names rest capitals : List X) (s t u v : N) → rest ≡ drop MOST_FILES names →
      Took HasTold s (lost_lines explains unplayable) t → Took HasTold t (lost_lines explains (lost_for Beyond (map name_of rest))) u →
      Took HasTold u (lost_lines explains (lost_where explains (map name_of capitals))) v →
      Took HasTold s (lost_lines explains (all_lost explains unplayable (map name_of names) (map name_of capitals))) v
  told_lost unplayable name_of names rest capitals s t u v is one two three =
      let behind : map name_of rest ≡ drop MOST_FILES (map name_of names) = ap (map name_of) is ∙ sym (drop-map name_of MOST_FILES names) in
      lost_append unplayable _ s t v one
      (lost_append _ _ t u v (subst (λ names. Took HasTold t (lost_lines explains (lost_for Beyond names)) u) behind two) three)
