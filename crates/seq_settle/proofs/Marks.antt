-- A change that goes along keys, one after another.
use Rattle.std.proofs.Common.{◌≡◌, ℕ, zero, suc, Bool, true, false, cond, eqb, ◌||◌, List, [], ◌∷◌, take, Option, Some, None, refl, sym, ap, ◌∙◌, arith, eq-eqb}
use Rattle.std.specs.Prelude.{slice_get, drop}
use Rattle.std.specs.FinMap.{get}
use Rattle.std.proofs.lemmas.Bool.{false≢true, eqb-true}
use Rattle.std.proofs.lemmas.Option.{none-some, same_Some}
use Rattle.cell_pools.specs.Cells.{Cells, AreKeys, cells_of, is_of}
use Rattle.cell_pools.proofs.Gathering.{of_client, in_client}

-- a key stands in a list of keys
abbrev pub has : ℕ → List ℕ → Bool
has q [] = false
has q (k ∷ ks) = eqb q k || has q ks

pub has-here : (q : ℕ) (ks : List ℕ) (i : ℕ) → slice_get ks i ≡ Some q → has q ks ≡ true
has-here q [] i e = absurd (none-some q e)
has-here q (k ∷ ks) zero e = ap (λ b. b || has q ks) (eq-eqb q k (sym (same_Some k q e)))
has-here q (k ∷ ks) (suc i) e = ap (λ b. eqb q k || b) (has-here q ks i e) ∙ go (eqb q k)
  where
    go : (b : Bool) → (b || true) ≡ true
    go true = refl
    go false = refl

pub has-some : (q : ℕ) (ks : List ℕ) → has q ks ≡ true → (i : ℕ) × (slice_get ks i ≡ Some q)
has-some q [] h = absurd (false≢true h)
has-some q (k ∷ ks) h = go (eqb q k) refl h (has-some q ks)
  where
    go : (b : Bool) → eqb q k ≡ b → (b || has q ks) ≡ true → (has q ks ≡ true → (i : ℕ) × (slice_get ks i ≡ Some q)) → (i : ℕ) × (slice_get (k ∷ ks) i ≡ Some q)
    go true t f later = (0, ap (λ x. Some x) (sym (eqb-true q k t)))
    go false t f later = let l = later f in (suc l.0, l.1)

-- from a place on, one key more
pub has-drop : (q key : ℕ) (ks : List ℕ) (i : ℕ) → slice_get ks i ≡ Some key → has q (drop i ks) ≡ (eqb q key || has q (drop (suc i) ks))
has-drop q key [] i e = absurd (none-some key e)
has-drop q key (k ∷ ks) zero e = ap (λ x. eqb q x || has q ks) (same_Some k key e)
has-drop q key (k ∷ ks) (suc i) e = has-drop q key ks i e

pub has-drop_none : (q : ℕ) (ks : List ℕ) (i : ℕ) → slice_get ks i ≡ None → has q (drop i ks) ≡ has q (drop (suc i) ks)
has-drop_none q [] zero e = refl
has-drop_none q [] (suc i) e = refl
has-drop_none q (k ∷ ks) zero e = absurd (none-some k (sym e))
has-drop_none q (k ∷ ks) (suc i) e = has-drop_none q ks i e

-- up to a place, one key more
pub has-take : (q key : ℕ) (ks : List ℕ) (i : ℕ) → slice_get ks i ≡ Some key → has q (take (suc i) ks) ≡ (eqb q key || has q (take i ks))
has-take q key [] i e = absurd (none-some key e)
has-take q key (k ∷ ks) zero e = ap (λ x. eqb q x || false) (same_Some k key e)
has-take q key (k ∷ ks) (suc i) e = ap (λ b. eqb q k || b) (has-take q key ks i e) ∙ go (eqb q k) (eqb q key) (has q (take i ks))
  where
    go : (a b c : Bool) → (a || (b || c)) ≡ (b || (a || c))
    go a b c = grind arith

-- the keys of a client are those under which its cells are
pub has-is : {T : Type 0} (cells : Cells T) (owner : ℕ) (ks : List ℕ) → AreKeys (cells_of cells owner) ks → (q : ℕ) → has q ks ≡ is_of owner (get cells q)
has-is {T} cells owner ks keys q = go (has q ks) refl
  where
    owned : (o : Option (ℕ × T)) → get cells q ≡ o → has q ks ≡ false → is_of owner o ≡ false
    owned None e h = refl
    owned (Some c) e h = test (eqb c.0 owner) refl
      where
        test : (b : Bool) → eqb c.0 owner ≡ b → b ≡ false
        test false t = refl
        test true t =
            let at = keys.all q (in_client cells owner q c e (eqb-true c.0 owner t)) in
            absurd (false≢true (sym h ∙ has-here q ks at.0 at.1))

    go : (b : Bool) → has q ks ≡ b → b ≡ is_of owner (get cells q)
    go true h =
        let at = has-some q ks h in
        let cell = of_client cells owner q (keys.there at.0 q at.1) in
        sym (ap (is_of owner) cell.1 ∙ eq-eqb (cell.0).0 owner cell.2)
    go false h = sym (owned (get cells q) refl h)

-- one key more is done
pub mark-one : {X : Type 0} (f g now then : ℕ → X) (done : ℕ → Bool) (k : ℕ) → ((q : ℕ) → now q ≡ cond (done q) (f q) (g q)) →
    ((q : ℕ) → then q ≡ cond (eqb q k) (f k) (now q)) → (q : ℕ) → then q ≡ cond (eqb q k || done q) (f q) (g q)
mark-one {X = X} f g now then done k before here q = here q ∙ ap (cond (eqb q k) (f k)) (before q) ∙ go (eqb q k) refl (done q)
  where
    go : (a : Bool) → eqb q k ≡ a → (b : Bool) → cond a (f k) (cond b (f q) (g q)) ≡ cond (a || b) (f q) (g q)
    go true t b = ap f (sym (eqb-true q k t))
    go false t b = refl
