use Rattle.smf_mend.proofs.Behind.{size-within, none-high, cut-high, low-program}
use Rattle.smf_mend.proofs.soft_pair.low_program_at.Goals as goal

pub returns-in-Err-clause-value : goal.returns-in-Err-clause-value
returns-in-Err-clause-value c = λ running. absurd (none-high c.args.left.now _ c.in-Err.ensures c.requires)

pub slice_bounds-found-count : goal.slice_bounds-found-count
slice_bounds-found-count c = size-within c.args.left.now _ c.in-Ok.found.1 c.in-Ok.ensures

pub slice_bounds-found-start : goal.slice_bounds-found-start
slice_bounds-found-start c = size-within c.args.left.now _ c.in-Ok.found.1 c.in-Ok.ensures

pub returns-in_default-clause-value : goal.returns-in_default-clause-value
returns-in_default-clause-value c = λ running. absurd (cut-high c.args.left.now c.in-Ok.found.0 c.in-Ok.found.1 c.in-Ok.ensures c.in_default.len_below c.requires)

pub returns-in-len2-up-clause-value : goal.returns-in-len2-up-clause-value
returns-in-len2-up-clause-value c = (low-program c.args.left.now c.in-Ok.found.0 c.in-Ok.found.1 c.in-Ok.ensures c.requires c.in-len2-up.len_at_least).value

pub returns-in-len2-up-clause-sound : goal.returns-in-len2-up-clause-sound
returns-in-len2-up-clause-sound c = (low-program c.args.left.now c.in-Ok.found.0 c.in-Ok.found.1 c.in-Ok.ensures c.requires c.in-len2-up.len_at_least).sound

pub returns-in-len2-up-clause-can : goal.returns-in-len2-up-clause-can
returns-in-len2-up-clause-can c = (low-program c.args.left.now c.in-Ok.found.0 c.in-Ok.found.1 c.in-Ok.ensures c.requires c.in-len2-up.len_at_least).can
