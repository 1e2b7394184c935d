use Rattle.std.proofs.Common.{◌∙◌, ap}
use Rattle.std.proofs.lemmas.Result.{IfOk-weaker}
use Rattle.seq_circle.specs.Least.{is_member}
use Rattle.seq_engine.specs.Seen.{Seen}
use Rattle.session_circle.proofs.Alone.{session_timed, sees_members, log_of_members}
use Rattle.session_circle.proofs.Reached.{told_of, closed_when, open_when}
use Rattle.session_circle.proofs.closing.first_reach.Goals as goal

pub first_reach_on-requires-clause-timed : goal.first_reach_on-requires-clause-timed
first_reach_on-requires-clause-timed c =
    (c.args.until, session_timed c.args.files.now c.args.until c.args.scripts.now c.args.owner (is_member c.args.owner c.args.found.now.circle.joined.items) c.as_slice-2.result.now (c.as_slice-2.ensures ∙ c.requires.inputs))

pub returns-clause-first : goal.returns-clause-first
returns-clause-first c =
    told_of c.first_reach_on.result c.args.owner (ap (λ (e : Seen). e.files) c.new-engine.ensures.first ∙ c.files.ensures) c.as_slice.ensures.value c.as_slice-2.ensures c.first_reach_on.ensures

pub returns-clause-closed : goal.returns-clause-closed
returns-clause-closed c =
    IfOk-weaker c.first_reach_on.result _ _
    (λ first is. closed_when c.args.owner (is_member c.args.owner c.args.found.now.circle.joined.items) c.args.files.now.files c.args.found.now.merged.inputs c.requires.least.whole first is) (returns-clause-first c)

pub returns-clause-not_closed : goal.returns-clause-not_closed
returns-clause-not_closed c =
    IfOk-weaker c.first_reach_on.result _ _
    (λ first is. open_when c.args.owner (is_member c.args.owner c.args.found.now.circle.joined.items) c.args.files.now.files c.args.found.now.merged.inputs first is) (returns-clause-first c)

pub returns-clause-isolated : goal.returns-clause-isolated
returns-clause-isolated c =
    IfOk-weaker c.first_reach_on.result _ _
    (λ first is none. sees_members c.args.files.now c.args.until c.args.scripts.now c.args.owner (is_member c.args.owner c.args.found.now.circle.joined.items) c.args.found.now.merged.inputs c.requires.inputs (is none)) (returns-clause-closed c)

pub returns-clause-alone : goal.returns-clause-alone
returns-clause-alone c =
    IfOk-weaker c.first_reach_on.result _ _
    (λ first is none. log_of_members c.args.files.now c.args.until c.args.scripts.now c.args.owner (is_member c.args.owner c.args.found.now.circle.joined.items) c.args.found.now.merged.inputs c.requires.inputs (is none)) (returns-clause-closed c)
