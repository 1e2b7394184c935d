use Rattle.std.proofs.Common.{◌≡◌, ◌+◌, ◌-◌, ◌++◌, ℕ, List, ap, sym, subst, ◌∙◌, arith}
use Rattle.std.specs.Prelude.{IfSome}
use Rattle.std.specs.FinMap as map
use Rattle.seq_clients.specs.Roster.{listens}
use Rattle.seq_patchbay.specs.Listing.{client_lines, texts}
use Rattle.seq_patchbay.proofs.Texts.{texts_more, texts_none}
use Rattle.seq_patchbay.proofs.listing.list_clients.Goals as goal

pub loop-number-init : goal.loop-number-init
loop-number-init c = texts_none 128 _ c.args.out.now.items

pub loop-number-preserved : goal.loop-number-preserved
loop-number-preserved c =
    let a = c.args in
    let n = c.loop-number.number in
    let lines : ℕ → List ℕ = λ n. client_lines n (map.get a.clients.now.clients n) (listens (map.get a.clients.now.pools n)) in
    let one_more : n + 1 - 128 ≡ n - 128 + 1 = omega arith in
    texts_more 128 (n - 128) n lines a.out.now.items c.loop-number.out.items c.list_client_at.new.out.items (omega arith) c.loop-number.invariant
    (c.in_ok-list_client_at.ensures ∙ ap (λ n. c.loop-number.out.items ++ lines n) (subst (λ o. IfSome o (λ x. x ≡ c.loop-number.number)) c.unwrap.ensures c.new.ensures.value))
    ∙ ap (λ m. a.out.now.items ++ texts 128 m lines) (sym one_more)
