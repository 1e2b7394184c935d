use Rattle.std.proofs.Common.{sym, ◌∙◌}
use Rattle.way_fates.proofs.Counted.{at-filter}
use Rattle.way_fates.proofs.counting.count_through.Goals as goal

pub returns-then-is_filter : goal.returns-then-is_filter
returns-then-is_filter c n edges are = at-filter n edges _ _ _ _ (sym c.is_filter.ensures ∙ c.if-is_filter.true) c.place_of.ensures.place.1 are
