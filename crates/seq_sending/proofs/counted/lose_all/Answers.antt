use Rattle.std.proofs.Common.{◌≡◌, inl, inr, ◌+◌, ◌-◌, ◌≤◌, ℕ, refl, subst, ◌∙◌, arith}
use Rattle.std.specs.Prelude.{slice_index}
use Rattle.std.specs.FinMap.{get}
use Rattle.seq_sending.proofs.Losing.{lose-more}
use Rattle.seq_sending.proofs.counted.lose_all.Goals as goal

pub loop-row-preserved : goal.loop-row-preserved
loop-row-preserved c =
    let a = c.args in
    let l = c.loop-row in
    let i = l.invariant in
    let was = a.clients.now.pools in
    let now = l.clients.pools in
    let after = c.lose.new.clients.pools in
    let one = c.lose.ensures in
    let n : ℕ = slice_index a.counts.now l.row in
    let here : l.row ≤ l.row = omega arith in
    record {
      clients = one.clients ∙ i.clients;
      lost = lose-more a.moment was now after l.row n one.lost one.others a.counts.now refl (i.later l.row here) i.lost;
      later = λ row high. let m : l.row ≤ row = omega arith in one.others (128 + row) (λ f. absurd (omega arith)) ∙ i.later row m;
      before = λ k low. one.others k (λ f. absurd (omega arith)) ∙ i.before k low;
    }

pub returns-clause-others : goal.returns-clause-others
returns-clause-others c k out = elim out [
  | inl low ↦ c.loop-row.invariant.before k low
  | inr high ↦
      let row : ℕ = k - 128 in
      let e : 128 + row ≡ k = omega arith in
      let m : c.loop-row.row ≤ row = omega arith in
      subst (λ q. get c.loop-row.clients.pools q ≡ get c.args.clients.now.pools q) e (c.loop-row.invariant.later row m)
]
