use Rattle.std.proofs.lemmas.Option.{IfSome_then}
use Rattle.agenda_heap.proofs.SiftLemmas.{first_greatest}
use Rattle.agenda_heap.proofs.sifting.greatest.Goals as goal

pub returns-clause-greatest : goal.returns-clause-greatest
returns-clause-greatest g c =
    IfSome_then c.first.result c.first.ensures.item.1 (λ x is. first_greatest g.T.Ord.cmp g.met.T.Ord.total c.args.heap.now x.now is)
