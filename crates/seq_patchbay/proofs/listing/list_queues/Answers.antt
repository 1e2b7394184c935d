use Rattle.std.proofs.Common.{◌≡◌, ◌++◌, ℕ, List, ap, subst, ◌∙◌, arith}
use Rattle.std.specs.Prelude.{IfSome}
use Rattle.std.specs.FinMap as map
use Rattle.seq_state.specs.Effect.{queue_of}
use Rattle.seq_patchbay.specs.Listing.{queue_lines}
use Rattle.seq_patchbay.proofs.Texts.{texts_more, texts_none}
use Rattle.seq_patchbay.proofs.listing.list_queues.Goals as goal

pub loop-number-init : goal.loop-number-init
loop-number-init c = texts_none 0 _ c.args.out.now.items

pub loop-number-preserved : goal.loop-number-preserved
loop-number-preserved c =
    let a = c.args in
    let lines : ℕ → List ℕ = λ n. queue_lines a.client n (queue_of (map.get a.clients.now.clients a.client) n) in
    texts_more 0 c.loop-number.number c.loop-number.number lines a.out.now.items c.loop-number.out.items c.list_queue_at.new.out.items (omega arith) c.loop-number.invariant
    (c.in_ok-list_queue_at.ensures ∙ ap (λ n. c.loop-number.out.items ++ lines n) (subst (λ o. IfSome o (λ x. x ≡ c.loop-number.number)) c.unwrap.ensures c.new.ensures.value))
