use Rattle.std.proofs.Common.{◌≡◌, ℕ, [], List, get_or, subst, rules}
use Rattle.std.specs.List.{AllByRecursion}
use Rattle.node_table.specs.declared.number.Addr.{Addr}
use Rattle.patch_graph.specs.Aged.{TellsPlace}
use Rattle.patch_graph.proofs.Marks.{told_beside}
use Rattle.patch_graph.proofs.graph.find_at.Goals as goal

pub add_filters-requires-clause-told : goal.add_filters-requires-clause-told
add_filters-requires-clause-told c =
    let is : ◌≡◌ {A = List (Addr × ℕ)} (get_or c.args.lists.now c.args.place []) c.in-Some.list.now = search rules in
    told_beside c.in-Some.list.now _ _ (subst (AllByRecursion (λ (x : Addr × ℕ). TellsPlace x.1 x.0)) is c.requires) c.nodes.ensures c.ages.ensures
