use Rattle.std.proofs.Common.{lit<, ◌≡◌, ◌∙◌, ◌∷◌, [], map, Some, None, sym, ap, refl}
use Rattle.std.proofs.lemmas.List.{map-append}
use Rattle.std.proofs.lemmas.Iterator.Splits.{YieldsList-from_str_split}
use Rattle.std.proofs.lemmas.Iterator.Consumers.{YieldsList-turn, YieldsList-end}
use Rattle.program_tasks.specs.Words.{each_port, port_named}
use Rattle.program_tasks.proofs.PortsTold.{no_port, one_port}
use Rattle.program_tasks.proofs.words.ports_named.Goals as goal

pub returns-in_default-clause-refused : goal.returns-in_default-clause-refused
returns-in_default-clause-refused c =
    let turn = YieldsList-turn (YieldsList-from_str_split 44 c.args.word.now (lit< tt) (cc) (cc) (cc)) c.loop-part.yielded _ c.loop-part.yielded_by _ _ c.in-Some.part c.in-Some.is c.next.ensures.steps in
    let none : port_named c.in-Some.part.now ≡ None = sym c.port_named.ensures ∙ c.in_default.is in
    (refl, no_port _ _ c.in-Some.part.now turn.0 turn.1 none)

pub loop-part-preserved : goal.loop-part-preserved
loop-part-preserved c =
    let more = one_port (map (λ part. part.now) c.loop-part.yielded) c.in-Some.part.now c.loop-part.ports.items c.in-Some-port_named.port c.loop-part.invariant (sym c.in-Some-port_named.ensures) in
    ap Some c.in_ok-push.ensures.items ∙ more ∙ ap each_port (sym (map-append (λ part. part.now) c.loop-part.yielded (c.in-Some.part ∷ [])))

pub returns-clause-ports : goal.returns-clause-ports
returns-clause-ports c =
    let all = YieldsList-end (YieldsList-from_str_split 44 c.args.word.now (lit< tt) (cc) (cc) (cc)) c.loop-part.yielded _ c.loop-part.yielded_by _ _ c.in-None.is c.next.ensures.steps in
    c.loop-part.invariant ∙ ap each_port all.0
