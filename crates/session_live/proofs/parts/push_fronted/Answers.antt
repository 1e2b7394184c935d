use Rattle.std.proofs.Common.{◌+◌, ◌++◌, ◌∙◌, ap, sym, append-nil}
use Rattle.std.proofs.lemmas.List.{take_rest}
use Rattle.session_live.proofs.Fed.{fronted-step, fronted-none}
use Rattle.session_live.proofs.parts.push_fronted.Goals as goal

pub loop-end-preserved : goal.loop-end-preserved
loop-end-preserved c =
    fronted-step c.args.front.now c.loop-end.rest.now _ c.in-Some.end c.loop-end.text.items c.extend_from_slice.new.self.items c.extend_from_slice-in-Some.new.self.items c.push.new.self.items _
    c.in-Some.ensures.some c.in_ok-extend_from_slice.ensures.items c.in_ok-extend_from_slice-2.ensures.items c.in_ok-push.ensures.items (take_rest c.loop-end.rest.now (c.in-Some.end + 1)) c.loop-end.invariant

pub returns : goal.returns
returns c =
    sym (append-nil c.loop-end.text.items) ∙ ap (λ x. c.loop-end.text.items ++ x) (sym (fronted-none c.args.front.now c.loop-end.rest.now c.in_default.ensures.none)) ∙ c.loop-end.invariant
