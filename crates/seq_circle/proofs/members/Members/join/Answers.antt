use Rattle.std.proofs.Common.{◌≡◌, ◌<◌, ◌+◌, subst, sym, arith}
use Rattle.seq_circle.specs.Finding.{absent_count}
use Rattle.seq_circle.proofs.Passes.{absent_count-less}
use Rattle.seq_circle.proofs.members.Members.join.Goals as goal

pub returns-clause-fewer : goal.returns-clause-fewer
returns-clause-fewer c =
    let row : c.args.next.client ≡ 128 + c.row_of-row.result = c.row_of-row.ensures.start in
    let small : c.row_of-row.result < 64 = c.row_of-row.ensures.small in
    subst (λ xs. absent_count c.args.self.now.owner xs < absent_count c.args.self.now.owner c.args.self.now.joined.items) (sym c.in_ok-push.ensures.items)
    (absent_count-less c.args.self.now.owner c.args.self.now.joined.items c.args.next (omega (arith, row, small)) (omega (arith, row, small)) c.requires.new)
