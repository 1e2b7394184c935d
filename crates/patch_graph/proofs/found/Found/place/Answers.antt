use Rattle.std.proofs.Common.{◌≤◌, ap, sym, arith, ◌∙◌}
use Rattle.std.specs.List.{slice_get}
use Rattle.patch_graph.proofs.Marks.{few_places, place_found}
use Rattle.patch_graph.proofs.found.Found.place.Goals as goal

pub offset_bounds-self-inside-turn : goal.offset_bounds-self-inside-turn
offset_bounds-self-inside-turn c = let few : c.self.inside.count ≤ 2048 = few_places _ _ _ c.self.invariant in omega (arith, few, c.if-turn-self.false)

pub bounds-self-inside-turn : goal.bounds-self-inside-turn
bounds-self-inside-turn c = let few : c.self.inside.count ≤ 2048 = few_places _ _ _ c.self.invariant in omega (arith, few, c.if-turn-self.false)

pub returns-clause-node : goal.returns-clause-node
returns-clause-node c =
    let few : c.self.inside.count ≤ 2048 = few_places _ _ _ c.self.invariant in
    ap (λ xs. slice_get xs c.args.turn) (sym c.self.view_is)
    ∙ place_found c.self.inside.listed c.self.inside.count c.args.turn (omega (arith, c.if-turn-self.false)) (omega (arith, few, c.if-turn-self.false, c.self.invariant.list_places))
