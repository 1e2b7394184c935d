use Rattle.std.proofs.Common.{◌≡◌, ℕ, Option, Some, None, refl, subst}
use Rattle.std.specs.Option.{option_map}
use Rattle.std.specs.FinMap.{get}
use Rattle.std.proofs.lemmas.Option.{none-some}
use Rattle.cell_pools.specs.Kept.{IsClient}
use Rattle.cell_pools.proofs.Keeping.{known_seen}
use Rattle.cell_pools.proofs.store.CellStore.cells_are_of_clients.Goals as goal

some_of : {X : Type 0} (x y : X) → Some x ≡ Some y → x ≡ y
some_of x y e = cc

its_client : {X : Type 0} (o : Option (ℕ × X)) → ((v : ℕ × X) → o ≡ Some v → IsClient v.0) → (client : ℕ) → option_map (λ v. v.0) o ≡ Some client → IsClient client
its_client None known client e = absurd (none-some client e)
its_client (Some v) known client e = subst IsClient (some_of v.0 client e) (known v refl)

pub returns : goal.returns
returns g c = λ key client e.
    its_client (get c.args.self.now.cells key) (λ v f. known_seen _ _ c.self.invariant _ c.self.view_is key v f) client e
