use Rattle.std.proofs.Common.{◌++◌, ◌∷◌, [], refl, sym, ap, subst}
use Rattle.patch_graph.specs.Edges.{edge}
use Rattle.patch_graph.specs.Index.{targets_of}
use Rattle.seq_sending.specs.Changes.{IsCurrent}
use Rattle.seq_sending.specs.Table.{IsWayFound, IsSlotFound, AreWaysSoFar}
use Rattle.seq_sending.specs.declared.table.Found.{Found}
use Rattle.seq_sending.proofs.Joined.{here-changed, agree-added, its-added, one-newer}
use Rattle.seq_sending.proofs.Known.{some-is}
use Rattle.seq_sending.proofs.joining.join_slot.Goals as goal

pub returns-else-not-known : goal.returns-else-not-known
returns-else-not-known c clients edges changes s target row place at port kept found e =
    let g = edges ++ edge s target ∷ [] in
    let was = c.in-Some.found in
    let new = c.join-known.new.self in
    let is = c.join-known.ensures c.if-not-known.false in
    subst (IsWayFound clients g changes place) (some-is new found e)
    (here-changed clients edges g changes s row place at (agree-added clients edges g s target port refl) was new
    (subst (IsSlotFound clients edges changes place) c.in-Some.is kept) (ap (λ (x : Found). x.at) is)
    (subst (λ (x : Found). IsCurrent changes x.at s.client x.through → IsCurrent changes was.at s.client was.through) (sym is) (λ now. now))
    (λ ways. subst (λ ts. AreWaysSoFar clients g ts new) (its-added clients edges g s target port refl) (one-newer clients g (targets_of edges s) target was new is ways)))
