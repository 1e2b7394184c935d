-- Lemmas on an agenda that is driven.
use Rattle.std.proofs.Common.{◌≡◌, ◌≢◌, ◌<◌, ◌≤◌, ◌∙◌, ◌⊎◌, ℕ, Bool, true, false, Some, None, List, length, get_or, set, is_some, refl, ap, sym, subst, inl, inr}
use Rattle.std.specs.Prelude.{Result, Ok, Err, OnOk, OnErr, ◌==◌, nat_le, replicate}
use Rattle.std.specs.Ordering.{nat_cmp}
use Rattle.std.specs.FinMap as map
use Rattle.std.specs.FinMap.{FinMap, get, get-empty}
use Rattle.std.proofs.lemmas.Bool.Decides.{eqb_tells, leb_tells}
use Rattle.std.proofs.lemmas.List.{get_or-set_same, get_or-set_other, get_or-replicate, get_or_past, length-replicate, length-set}
use Rattle.agenda_heap.specs.declared.due_key.DueKey.{DueKey}
use Rattle.test_tables.specs.Tracked.{IsTracked}
use Rattle.node_table.proofs.Numbered.{get-insert_same, get-insert_other, get-remove_same, get-remove_other}

-- what a test says, with what follows
abbrev Told : Bool → Type 0 → Type 0 → Type 0
Told b P Q = ((b ≡ true) × P) ⊎ ((b ≡ false) × Q)

abbrev Same : ℕ → ℕ → Type 0
Same a b = Told (a == b) (a ≡ b) (a ≢ b)

abbrev pub Content : Type 0
Content = FinMap nat_cmp DueKey

pub tracked-empty : (m : Content) (there : List Bool) → m ≡ map.empty → ((q : ℕ) → get_or there q false ≡ false) → length there ≡ 100 → IsTracked m there
tracked-empty m there e none l = record {
  ranked = λ q k g. let bad : None ≡ Some k = sym (ap (λ n. get n q) e ∙ get-empty nat_cmp q) ∙ g in let no : ⊥ = cc in absurd no;
  told = λ q. ap (λ n. is_some (get n q)) e ∙ ap is_some (get-empty nat_cmp q) ∙ sym (none q);
  hundred = l;
}

pub none_there : (n q : ℕ) → get_or (replicate n false) q false ≡ false
none_there n q = go (leb_tells n q)
  where
    go : Told (nat_le n q) (n ≤ q) (q < n) → get_or (replicate n false) q false ≡ false
    go (inl past) = get_or_past (replicate n false) q false (subst (λ l. l ≤ q) (sym (length-replicate n false)) past.1)
    go (inr within) = get_or-replicate n q false false within.1

-- a cell has a key now
pub tracked-insert : (m n : Content) (there then : List Bool) (c : ℕ) (k : DueKey) → IsTracked m there → n ≡ map.insert m c k → k.rank ≡ c → get_or then c false ≡ true → ((q : ℕ) → q ≢ c → get_or then q false ≡ get_or there q false) → length then ≡ length there → IsTracked n then
tracked-insert m n there then c k t e r here others l = record {
  ranked = λ q key g. rank q key (eqb_tells q c) g;
  told = λ q. flag q (eqb_tells q c);
  hundred = l ∙ t.hundred;
}
  where
    same : (q : ℕ) → q ≡ c → get n q ≡ Some k
    same q s = ap (get n) s ∙ ap (λ w. get w c) e ∙ get-insert_same m c k

    other : (q : ℕ) → q ≢ c → get n q ≡ get m q
    other q o = ap (λ w. get w q) e ∙ get-insert_other m c k q o

    rank : (q : ℕ) (key : DueKey) → Same q c → get n q ≡ Some key → key.rank ≡ q
    rank q key (inl s) g =
        let some : Some k ≡ Some key = sym (same q s.1) ∙ g in
        let keys : k ≡ key = cc in
        sym (ap (λ (d : DueKey). d.rank) keys) ∙ r ∙ sym s.1
    rank q key (inr s) g = t.ranked q key (sym (other q s.1) ∙ g)

    flag : (q : ℕ) → Same q c → is_some (get n q) ≡ get_or then q false
    flag q (inl s) = ap is_some (same q s.1) ∙ sym here ∙ ap (λ p. get_or then p false) (sym s.1)
    flag q (inr s) = ap is_some (other q s.1) ∙ t.told q ∙ sym (others q s.1)

-- a cell is gone
pub tracked-remove : (m n : Content) (there then : List Bool) (c : ℕ) → IsTracked m there → n ≡ map.remove m c → get_or then c false ≡ false → ((q : ℕ) → q ≢ c → get_or then q false ≡ get_or there q false) → length then ≡ length there → IsTracked n then
tracked-remove m n there then c t e here others l = record {
  ranked = λ q key g. rank q key (eqb_tells q c) g;
  told = λ q. flag q (eqb_tells q c);
  hundred = l ∙ t.hundred;
}
  where
    same : (q : ℕ) → q ≡ c → get n q ≡ None
    same q s = ap (get n) s ∙ ap (λ w. get w c) e ∙ get-remove_same m c

    other : (q : ℕ) → q ≢ c → get n q ≡ get m q
    other q o = ap (λ w. get w q) e ∙ get-remove_other m c q o

    rank : (q : ℕ) (key : DueKey) → Same q c → get n q ≡ Some key → key.rank ≡ q
    rank q key (inl s) g = let bad : None ≡ Some key = sym (same q s.1) ∙ g in let no : ⊥ = cc in absurd no
    rank q key (inr s) g = t.ranked q key (sym (other q s.1) ∙ g)

    flag : (q : ℕ) → Same q c → is_some (get n q) ≡ get_or then q false
    flag q (inl s) = ap is_some (same q s.1) ∙ sym here ∙ ap (λ p. get_or then p false) (sym s.1)
    flag q (inr s) = ap is_some (other q s.1) ∙ t.told q ∙ sym (others q s.1)

-- the flag of a cell is written
pub tracked-set : (m n : Content) (there : List Bool) (c : ℕ) (k : DueKey) → IsTracked m there → c < 100 → n ≡ map.insert m c k → k.rank ≡ c → IsTracked n (set there c true)
tracked-set m n there c k t l e r = tracked-insert m n there (set there c true) c k t e r (get_or-set_same there c true false (subst (λ n. c < n) (sym t.hundred) l)) (λ q o. get_or-set_other there c q true false o) (length-set there c true)

pub tracked-clear : (m n : Content) (there : List Bool) (c : ℕ) → IsTracked m there → c < 100 → n ≡ map.remove m c → IsTracked n (set there c false)
tracked-clear m n there c t l e = tracked-remove m n there (set there c false) c t e (get_or-set_same there c false false (subst (λ n. c < n) (sym t.hundred) l)) (λ q o. get_or-set_other there c q false false o) (length-set there c false)

-- or memory is refused
pub tracked-tried : {E : Type 0} (o : Result Unit E) (m n : Content) (there : List Bool) (c : ℕ) (k : DueKey) → IsTracked m there → get_or there c false ≡ true → k.rank ≡ c → OnOk o (n ≡ map.insert m c k) → OnErr o (n ≡ m) → IsTracked n there
tracked-tried (Ok x) m n there c k t here r ok err = tracked-insert m n there there c k t ok r here (λ q o. refl) refl
tracked-tried (Err x) m n there c k t here r ok err = subst (λ w. IsTracked w there) (sym err) t
