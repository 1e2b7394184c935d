use Rattle.std.proofs.Common.{[], ◌∙◌, ap, sym, subst}
use Rattle.seq_circle.specs.Finding.{found_after_all}
use Rattle.seq_circle.specs.Least.{AreAsked}
use Rattle.seq_circle.proofs.Passes.{asked_after, found_all, no_more}
use Rattle.seq_circle.proofs.finding.least_of.Goals as goal

pub loop-members-preserved : goal.loop-members-preserved
loop-members-preserved c = record {
  owner = c.join_all.ensures.owner ∙ c.loop-members.invariant.owner;
  asked = subst (AreAsked c.args.owner c.args.inputs.now [])
      (sym (c.in_ok-join_all.ensures.joined ∙ ap (λ o. found_after_all o c.loop-members.members.joined.items 0 c.args.inputs.now) c.loop-members.invariant.owner))
      (asked_after c.args.owner c.args.inputs.now c.loop-members.members.joined.items c.loop-members.invariant.asked);
}

pub returns-clause-least : goal.returns-clause-least
returns-clause-least c =
    found_all c.args.owner c.args.inputs.now c.loop-members.members.joined.items c.join_all.new.members.joined.items c.loop-members.invariant.asked
    (c.in_ok-join_all.ensures.joined ∙ ap (λ o. found_after_all o c.loop-members.members.joined.items 0 c.args.inputs.now) c.loop-members.invariant.owner)
    (no_more _ _ _ c.in_ok-join_all.ensures.more c.if-branch.false)
