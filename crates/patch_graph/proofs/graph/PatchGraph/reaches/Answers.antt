use Rattle.std.proofs.Common.{◌<◌, length, sym, arith, ◌∙◌}
use Rattle.std.proofs.lemmas.Bool.{false≢true}
use Rattle.std.proofs.lemmas.Option.{slice_get_within}
use Rattle.patch_graph.specs.Found.{with_filters}
use Rattle.patch_graph.specs.Index.{origins_of}
use Rattle.patch_graph.proofs.Searched.{search-start, search-more, search-end, none-joined, none-onward}
use Rattle.patch_graph.proofs.Marks.{addr_of-is}
use Rattle.patch_graph.proofs.Chained.{reach_start, reach_end}
use Rattle.patch_graph.proofs.graph.PatchGraph.reaches.Goals as goal

pub returns-then-not-is_filter : goal.returns-then-not-is_filter
returns-then-not-is_filter c =
    (λ h. absurd (false≢true h), λ r. absurd (false≢true (sym c.if-not-is_filter.true ∙ c.is_filter.ensures ∙ reach_start c.args.self.now c.args.from.now c.args.to.now r)))

pub returns-then-not-is_filter-2 : goal.returns-then-not-is_filter-2
returns-then-not-is_filter-2 c =
    (λ h. absurd (false≢true h), λ r. absurd (false≢true (sym c.if-not-is_filter-2.true ∙ c.is_filter-2.ensures ∙ reach_end c.args.self.now c.args.from.now c.args.to.now r)))

pub returns-then-is_empty : goal.returns-then-is_empty
returns-then-is_empty c = (λ h. absurd (false≢true h), λ r. absurd (none-joined c.args.self.now c.args.from.now c.args.to.now c.origins.result.now (sym c.is_filter-2.ensures ∙ c.if-not-is_filter-2.false) c.origins.ensures (sym c.is_empty.ensures ∙ c.if-is_empty.true) r))

pub returns-then-not-leads_on : goal.returns-then-not-leads_on
returns-then-not-leads_on c = (λ h. absurd (false≢true h), λ r. absurd (none-onward c.args.self.now c.args.from.now c.args.to.now (sym c.leads_on.ensures ∙ c.if-not-leads_on.true) r))

pub loop-place-init : goal.loop-place-init
loop-place-init c =
    search-start _ _ _ (sym c.is_filter-2.ensures ∙ c.if-not-is_filter-2.false) (c.find_filters.ensures ∙ (λ j. with_filters (c.new-found.ensures j) (origins_of c.args.self.now (addr_of-is _ _ _ c.place_of.ensures.place.1 j))))

pub loop-place-smaller : goal.loop-place-smaller
loop-place-smaller c =
    let node : c.loop-place.turn < length c.loop-place.found = slice_get_within _ _ _ c.in-Some.ensures.node in
    omega (arith, c.in-Some.ensures.few)

pub loop-place-preserved : goal.loop-place-preserved
loop-place-preserved c = search-more _ _ _ _ _ _ c.loop-place.invariant c.in-Some.ensures.node c.find_filters-in-Some.ensures

pub returns : goal.returns
returns c =
    let h = search-end _ _ _ _ c.args.from.now c.loop-place.invariant c.in_default.ensures.none in
    (λ k. h.0 (sym c.contains.ensures ∙ k), λ r. c.contains.ensures ∙ h.1 r)
