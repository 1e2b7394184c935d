use Rattle.std.proofs.Common.{ℕ, rules}
use Rattle.std.proofs.lemmas.List.Sorted.{IsNonDecreasingBy-from_sort_by_key}
use Rattle.node_table.specs.declared.number.Addr.{Addr}
use Rattle.patch_graph.proofs.graph.by_age.Goals as goal

pub returns-clause-sorted : goal.returns-clause-sorted
returns-clause-sorted c = IsNonDecreasingBy-from_sort_by_key (λ (x : Addr × ℕ). x.1) _ c.sort_unstable_by_key.ensures.sorted (λ a r q k. search rules)
