use Rattle.std.proofs.Common.{◌≡◌, suc, ◌+◌, length, subst, sym, ap, ◌∙◌, arith, ◌++◌, ◌∷◌, []}
use Rattle.std.proofs.lemmas.List.{length-append}
use Rattle.way_fates.proofs.Counted.{AreCountsBelow, counts-more, counts-all}
use Rattle.way_fates.proofs.counting.one_hop_more.Goals as goal

pub loop-place-preserved : goal.loop-place-preserved
loop-place-preserved c =
    let l = c.loop-place in
    let pushed : c.push.new.self.items ≡ l.more.items ++ c.count_from.result ∷ [] = c.in_ok-push.ensures.items in
    record {
      whole = ap length pushed ∙ length-append l.more.items (c.count_from.result ∷ []) ∙ ap (λ n. n + 1) l.invariant.whole;
      below = λ n are. subst (AreCountsBelow (suc n) c.args.graph.now (l.place + 1)) (sym pushed)
          (counts-more (suc n) c.args.graph.now l.more.items c.count_from.result l.place l.invariant.whole (l.invariant.below n are) (c.count_from.ensures n are));
    }

pub returns-clause-more : goal.returns-clause-more
returns-clause-more c n are = counts-all (suc n) c.args.graph.now c.loop-place.more.items c.loop-place.place (omega arith) (c.loop-place.invariant.below n are)
