-- An agenda of one cell.
use Rattle.std.proofs.Common.{◌≡◌, ◌∙◌, ℕ, Bool, true, false, Option, Some, None, cond, is_some, ap, sym, refl}
use Rattle.std.specs.Ordering.{nat_cmp, eq_by_cmp}
use Rattle.std.specs.Cmp.{nat_cmp_total}
use Rattle.std.specs.FinMap as map
use Rattle.std.specs.FinMap.{FinMap, get, get-insert, get-empty, nat_cmp-IsAntisymmetric, same_map}
use Rattle.agenda_heap.specs.declared.due_key.DueKey.{DueKey}
use Rattle.agenda_heap.specs.Due.{IsFree}
use Rattle.node_table.proofs.Numbered.{same_key, tied_itself}

abbrev pub single : ℕ → DueKey → FinMap nat_cmp DueKey
single c k = map.insert map.empty c k

get-single : (c : ℕ) (k : DueKey) (q : ℕ) → get (single c k) q ≡ cond (eq_by_cmp nat_cmp q c) (Some k) None
get-single c k q = get-insert nat_cmp_total map.empty c k q ∙ ap (cond (eq_by_cmp nat_cmp q c) (Some k)) (get-empty nat_cmp q)

pub absent_yet : (c : ℕ) → get (map.empty {X = DueKey} {R = nat_cmp}) c ≡ None
absent_yet c = get-empty nat_cmp c

pub free_yet : (c : ℕ) (k : DueKey) → IsFree map.empty c k
free_yet c k q h = let bad : None ≡ Some k = sym (get-empty nat_cmp q) ∙ h in cc

pub there : (m : FinMap nat_cmp DueKey) (c : ℕ) (k : DueKey) → m ≡ single c k → is_some (get m c) ≡ true
there m c k e = ap is_some (ap (λ n. get n c) e ∙ get-single c k c ∙ ap (λ b. cond b (Some k) None) (tied_itself c))

pub free_single : (m : FinMap nat_cmp DueKey) (c : ℕ) (k key : DueKey) → m ≡ single c k → IsFree m c key
free_single m c k key e q h = elim (eq_by_cmp nat_cmp q c) as (λ b. eq_by_cmp nat_cmp q c ≡ b → cond b (Some k) None ≡ Some key → q ≡ c) [
  | true ↦ λ t f. same_key q c t
  | false ↦ λ t f. cc
] refl (sym (get-single c k q) ∙ sym (ap (λ n. get n q) e) ∙ h)

over : (b : Bool) (x y : Option DueKey) → cond b x (cond b y None) ≡ cond b x None
over true x y = refl
over false x y = refl

pub single_again : (m n : FinMap nat_cmp DueKey) (c : ℕ) (k l : DueKey) → m ≡ single c k → n ≡ map.insert m c l → n ≡ single c l
single_again m n c k l e f = f ∙ same_map nat_cmp_total nat_cmp-IsAntisymmetric _ _ (λ q. get-insert nat_cmp_total m c l q ∙ ap (λ w. cond (eq_by_cmp nat_cmp q c) (Some l) (get w q)) e
    ∙ ap (cond (eq_by_cmp nat_cmp q c) (Some l)) (get-single c k q) ∙ over (eq_by_cmp nat_cmp q c) (Some l) (Some k) ∙ sym (get-single c l q))
