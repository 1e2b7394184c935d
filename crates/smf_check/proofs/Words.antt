-- The paths that words name, one word after another.
use Rattle.std.proofs.Common.{◌≡◌, ◌≢◌, ℕ, Bool, zero, suc, ◌+◌, ◌<◌, ◌≤◌, List, [], ◌∷◌, ◌++◌, ◌∙◌, map, take, drop, length, get_or, refl, ap, sym, append_assoc, append-nil, inl, inr, arith}
use Rattle.std.proofs.lemmas.List.{map_more}
use Rattle.file_store.specs.declared.standing.Standing.{Standing}
use Rattle.file_store.specs.declared.standing.Standing.TheVariants.{Folder}
use Rattle.folder_files.specs.Names.{AreMidiFiles}
use Rattle.folder_files.specs.Paths.{path_in}
use Rattle.smf_check.specs.Named.{AreFirst, AreFirstPathsOf, ArePathsAt, ArePathsIn, ArePathsOf, AreThese}

-- ---- lists that are gone through

-- the first of them, the next, and those behind it
split-at : {X Y : Type 0} (f : X → Y) (xs : List X) (i : ℕ) (x : X) → i < length xs → x ≡ get_or xs i x → map f xs ≡ map f (take i xs) ++ (f x ∷ map f (drop (i + 1) xs))
split-at f [] i x l e = absurd (omega arith)
split-at f (y ∷ ys) zero x l e = ap (λ z. f z ∷ map f ys) (sym e)
split-at f (y ∷ ys) (suc i) x l e =
    let next : drop (i + 1) ys ≡ drop (suc i + 1) (y ∷ ys) = let n : suc i + 1 ≡ suc (i + 1) = omega arith in ap (λ k. drop k (y ∷ ys)) (sym n) in
    ap (λ zs. f y ∷ zs) (split-at f ys i x (omega arith) e ∙ ap (λ zs. map f (take i ys) ++ (f x ∷ map f zs)) next)

pub next-at : {X Y : Type 0} (f : X → Y) (xs : List X) (i : ℕ) (x : X) → i < length xs → x ≡ get_or xs i x → map f (take (i + 1) xs) ≡ map f (take i xs) ++ f x ∷ []
next-at f xs i x l e = map_more f xs i x l ∙ ap (λ z. map f (take i xs) ++ f z ∷ []) (sym e)

-- whatever is given where there is none
pub same-at : {X : Type 0} (xs : List X) (i : ℕ) (d e : X) → i < length xs → get_or xs i d ≡ get_or xs i e
same-at [] i d e l = absurd (omega arith)
same-at (x ∷ xs) zero d e l = refl
same-at (x ∷ xs) (suc i) d e l = same-at xs i d e (omega arith)

map-twice : {X Y Z : Type 0} (f : Y → Z) (g : X → Y) (xs : List X) → map f (map g xs) ≡ map (λ x. f (g x)) xs
map-twice f g [] = refl
map-twice f g (x ∷ xs) = ap (λ zs. f (g x) ∷ zs) (map-twice f g xs)

-- ---- a list of paths, one after another

module _ {X : Type 0} (path_of : X → List ℕ) (names : List X) (i : ℕ) (name : X) (l : i < length names) (here : name ≡ get_or names i name) where
  pub these-next : (xs ys : List (List ℕ)) → AreThese (map path_of (take i names)) xs → AreThese (path_of name ∷ []) ys → AreThese (map path_of (take (i + 1) names)) (xs ++ ys)
  these-next xs ys h k = ap (λ zs. zs ++ ys) h ∙ ap (λ zs. map path_of (take i names) ++ zs) k ∙ sym (next-at path_of names i name l here)

  pub these-first : (xs ys : List (List ℕ)) → AreThese (map path_of (take i names)) xs → AreFirst (AreThese (path_of name ∷ [])) ys → AreFirst (AreThese (map path_of names)) (xs ++ ys)
  these-first xs ys h (inl none) =
      inr (
        path_of name ∷ map path_of (drop (i + 1) names),
        ap (λ zs. (xs ++ zs) ++ (path_of name ∷ map path_of (drop (i + 1) names))) none
            ∙ ap (λ zs. zs ++ (path_of name ∷ map path_of (drop (i + 1) names))) (append-nil xs ∙ h) ∙ sym (split-at path_of names i name l here),
      )
  these-first xs ys h (inr k) =
      inr (
        k.0 ++ map path_of (drop (i + 1) names),
        append_assoc xs ys (k.0 ++ map path_of (drop (i + 1) names)) ∙ ap (λ zs. xs ++ zs) (sym (append_assoc ys k.0 (map path_of (drop (i + 1) names))))
            ∙ ap (λ zs. xs ++ (zs ++ map path_of (drop (i + 1) names))) k.1 ∙ ap (λ zs. zs ++ (path_of name ∷ map path_of (drop (i + 1) names))) h ∙ sym (split-at path_of names i name l here),
      )

-- ---- words

-- the first of them, by what else they are
pub first-as : (ArePaths AreToo : List (List ℕ) → Type 0) → ((paths : List (List ℕ)) → ArePaths paths → AreToo paths) → (paths : List (List ℕ)) → AreFirst ArePaths paths → AreFirst AreToo paths
first-as ArePaths AreToo f paths (inl none) = inl none
first-as ArePaths AreToo f paths (inr h) = inr (h.0, f (paths ++ h.0) h.1)

module _ (is_lenient : Bool) (CannotList : List ℕ → Type 0) (HasNames : List ℕ → List (List ℕ) → Type 0) where
  -- the files of a folder that was listed
  pub in-folder : {X : Type 0} (name_of : X → List ℕ) (folder : List ℕ) (entries : List (List ℕ)) (names : List X) → HasNames folder entries → AreMidiFiles is_lenient entries (map name_of names) → (paths : List (List ℕ)) →
      AreThese (map (λ name. path_in folder (name_of name)) names) paths → ArePathsIn is_lenient CannotList HasNames folder paths
  in-folder name_of folder entries names listed files paths h =
      inl (record { entries = entries; listed = listed; names = map name_of names; files = files; are = h ∙ sym (map-twice (path_in folder) name_of names) })

module _ (is_lenient : Bool) (CannotList : List ℕ → Type 0) (HasNames : List ℕ → List (List ℕ) → Type 0) (IsStanding : List ℕ → Standing → Type 0) where
  -- what stands at a word was seen
  module _ (word : List ℕ) where
    pub of-folder : IsStanding word Folder → (paths : List (List ℕ)) → ArePathsIn is_lenient CannotList HasNames word paths → ArePathsAt is_lenient CannotList HasNames IsStanding word paths
    of-folder seen paths h = inr (seen, h)

    pub of-file : (there : Standing) → IsStanding word there → there ≢ Folder → (paths : List (List ℕ)) → AreThese (word ∷ []) paths → ArePathsAt is_lenient CannotList HasNames IsStanding word paths
    of-file there seen other paths h = inl (record { there = there; seen = seen; other = other }, h)

  paths-more : (words : List (List ℕ)) (word : List ℕ) (xs ys : List (List ℕ)) → ArePathsOf is_lenient CannotList HasNames IsStanding words xs → ArePathsAt is_lenient CannotList HasNames IsStanding word ys → ArePathsOf is_lenient CannotList HasNames IsStanding (words ++ word ∷ []) (xs ++ ys)
  paths-more [] word xs ys h k = (ys, [], k, refl, ap (λ zs. zs ++ ys) h ∙ sym (append-nil ys))
  paths-more (w ∷ words) word xs ys h k = (h.0, h.1 ++ ys, h.2, paths-more words word h.1 ys h.3 k, ap (λ zs. zs ++ ys) h.4 ∙ append_assoc h.0 h.1 ys)

  module _ {X : Type 0} (word_of : X → List ℕ) (words : List X) (i : ℕ) (word : X) (l : i < length words) (here : word ≡ get_or words i word) where
    pub paths-next : (xs ys : List (List ℕ)) → ArePathsOf is_lenient CannotList HasNames IsStanding (map word_of (take i words)) xs → ArePathsAt is_lenient CannotList HasNames IsStanding (word_of word) ys →
        ArePathsOf is_lenient CannotList HasNames IsStanding (map word_of (take (i + 1) words)) (xs ++ ys)
    paths-next xs ys h k = rw (next-at word_of words i word l here) (paths-more (map word_of (take i words)) (word_of word) xs ys h k)

    pub paths-first : (xs ys : List (List ℕ)) → ArePathsOf is_lenient CannotList HasNames IsStanding (map word_of (take i words)) xs → AreFirst (ArePathsAt is_lenient CannotList HasNames IsStanding (word_of word)) ys →
        AreFirstPathsOf is_lenient CannotList HasNames IsStanding (map word_of words) (xs ++ ys)
    paths-first xs ys h k = record {
      done = map word_of (take i words);
      left = word_of word ∷ map word_of (drop (i + 1) words);
      split = split-at word_of words i word l here;
      before = xs;
      last = ys;
      named = h;
      next = k;
      are = refl;
    }
