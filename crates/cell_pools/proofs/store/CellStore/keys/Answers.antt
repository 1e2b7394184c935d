use Rattle.std.proofs.Common.{◌≡◌, ap, arith, ◌∙◌}
use Rattle.std.proofs.lemmas.Option.{MatchOption-at_some}
use Rattle.cell_pools.specs.Cells.{Store, Holding, keys_of}
use Rattle.cell_pools.proofs.Keeping.{known_seen, keys_listed}
use Rattle.cell_pools.proofs.Gathering.{gathered-start, gathered-more, gathered-end}
use Rattle.cell_pools.proofs.store.CellStore.keys.Goals as goal

pub loop-number-init : goal.loop-number-init
loop-number-init g c = gathered-start _ _ _ (λ key v e. (known_seen _ _ c.self.invariant _ c.self.view_is key v e).0) c.in_ok-keys.ensures.items

pub loop-number-preserved : goal.loop-number-preserved
loop-number-preserved g c =
    let is : c.unwrap-client.result ≡ c.loop-number.number = MatchOption-at_some _ (λ n. n ≡ c.loop-number.number) _ c.unwrap-client.ensures c.new.ensures.value in
    gathered-more _ _ _ _ _ _ c.loop-number.invariant (keys_listed _ _ c.self.invariant _ c.self.view_is c.loop-number.number)
    (c.keys.ensures.value ∙ ap (λ (h : Holding). h.keys) c.get.ensures.value ∙ ap (λ (s : Store g.row.T.Denot). keys_of s c.unwrap-client.result) c.self.view_is ∙ ap (keys_of c.args.self.now) is)
    c.in_ok-extend_from_slice.ensures.items

pub returns : goal.returns
returns g c =
    gathered-end _ _ _ (λ key v e. let known = known_seen _ _ c.self.invariant _ c.self.view_is key v e in omega (arith, known.1, c.loop-number-test.false)) c.loop-number.invariant
