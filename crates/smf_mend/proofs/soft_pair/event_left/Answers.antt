use Rattle.smf_mend.proofs.Behind.{size-within, event-cut, event-none}
use Rattle.smf_mend.proofs.soft_pair.event_left.Goals as goal

pub slice_bounds-result-count : goal.slice_bounds-result-count
slice_bounds-result-count c = size-within c.args.left.now _ c.in-Ok.size c.in-Ok.ensures

pub slice_bounds-result-start : goal.slice_bounds-result-start
slice_bounds-result-start c = size-within c.args.left.now _ c.in-Ok.size c.in-Ok.ensures

pub returns-in-Ok : goal.returns-in-Ok
returns-in-Ok c = event-cut c.args.left.now _ c.in-Ok.size c.in-Ok.ensures

pub returns-in-Err : goal.returns-in-Err
returns-in-Err c = event-none c.args.left.now _ c.in-Err.ensures
