-- The texts of numbers, one after another.
use Rattle.std.proofs.Common.{◌≡◌, ◌<◌, ℕ, zero, suc, ◌+◌, List, [], ◌∷◌, ◌++◌, length, take, get_or, refl, sym, ap, ◌∙◌, add-one, append_assoc, append-nil, arith}
use Rattle.std.specs.List.{flat_map}
use Rattle.patch_graph.specs.declared.edge.Edge.{Edge}
use Rattle.seq_patchbay.specs.Listing.{texts, edge_line}

-- one number more
pub texts_more : (first n m : ℕ) (f : ℕ → List ℕ) (before now next : List ℕ) → m ≡ first + n → now ≡ before ++ texts first n f → next ≡ now ++ f m → next ≡ before ++ texts first (n + 1) f
unfolding texts
texts_more first n m f before now next is h k =
    k ∙ ap (λ xs. xs ++ f m) h ∙ append_assoc before (texts first n f) (f m) ∙ ap (λ i. before ++ (texts first n f ++ f i)) is
    ∙ ap (λ i. before ++ texts first i f) (sym (add-one n))

pub texts_none : (first : ℕ) (f : ℕ → List ℕ) (xs : List ℕ) → xs ≡ xs ++ texts first 0 f
unfolding texts
texts_none first f xs = sym (append-nil xs)

-- texts that agree at each number
pub agree : (first n : ℕ) (f g : ℕ → List ℕ) → ((k : ℕ) → f k ≡ g k) → texts first n f ≡ texts first n g
unfolding texts
agree first zero f g h = refl
agree first (suc n) f g h = ap (λ t. t ++ f (first + n)) (agree first n f g h) ∙ ap (λ t. texts first n g ++ t) (h (first + n))

abbrev line : Edge → List ℕ
line e = edge_line e.source e.target

edges_suc : (es : List Edge) (i : ℕ) (d : Edge) → i < length es → flat_map line (take (suc i) es) ≡ flat_map line (take i es) ++ line (get_or es i d)
edges_suc [] i d l = absurd (omega arith)
edges_suc (e ∷ es) zero d l = append-nil (line e)
edges_suc (e ∷ es) (suc i) d l = ap (λ xs. line e ++ xs) (edges_suc es i d (omega arith)) ∙ sym (append_assoc (line e) (flat_map line (take i es)) (line (get_or es i d)))

-- one edge more
pub edges_more : (es : List Edge) (i : ℕ) (d e : Edge) (before now next : List ℕ) → i < length es → get_or es i d ≡ e → now ≡ before ++ flat_map (λ e. edge_line e.source e.target) (take i es) → next ≡ now ++ edge_line e.source e.target → next ≡ before ++ flat_map (λ e. edge_line e.source e.target) (take (i + 1) es)
edges_more es i d e before now next l is h k =
    k ∙ ap (λ xs. xs ++ line e) h ∙ append_assoc before (flat_map line (take i es)) (line e)
    ∙ ap (λ x. before ++ (flat_map line (take i es) ++ line x)) (sym is)
    ∙ ap (λ xs. before ++ xs) (sym (edges_suc es i d l)) ∙ ap (λ n. before ++ flat_map line (take n es)) (sym (add-one i))
