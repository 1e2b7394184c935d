use Rattle.std.proofs.Common.{ap, sym, subst, ◌∙◌}
use Rattle.seq_sending.specs.KeptCounts.{AreCountsKept}
use Rattle.seq_sending.proofs.Known.{counts-more}
use Rattle.seq_sending.proofs.kept_counts.CountTable.insert.Goals as goal

pub returns-in_err-note : goal.returns-in_err-note
returns-in_err-note c clients edges are kept =
    subst (λ ks. AreCountsKept clients edges ks) (sym (ap (λ v. v.items) c.note.ensures)) (c.make_room.ensures clients edges kept)

pub returns-in_err-push : goal.returns-in_err-push
returns-in_err-push c clients edges are kept =
    subst (λ ks. AreCountsKept clients edges ks) (sym (c.in_err-push.ensures.items ∙ ap (λ v. v.items) c.note.ensures)) (c.make_room.ensures clients edges kept)

pub returns : goal.returns
returns c clients edges are kept =
    let source = c.args.source.now in
    let at = c.place_of-place.ensures.place in
    subst (λ ks. AreCountsKept clients edges ks) (sym c.in_ok-push.ensures.items)
    (counts-more clients edges c.note.new.self.kept.items source at.0 _ at.1 are
    (subst (λ ks. AreCountsKept clients edges ks) (sym (ap (λ v. v.items) c.note.ensures)) (c.make_room.ensures clients edges kept)))
