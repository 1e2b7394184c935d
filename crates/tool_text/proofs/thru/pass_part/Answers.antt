use Rattle.std.proofs.Common.{◌≡◌, ◌++◌, ap, ◌∙◌}
use Rattle.std.proofs.lemmas.Result.{on_ok_weaker}
use Rattle.tool_text.proofs.Joined.{unwrapped}
use Rattle.tool_text.proofs.OnTheWay.{part-lines, part-passing, part-stream}
use Rattle.tool_text.proofs.thru.pass_part.Goals as goal

pub returns-clause-text : goal.returns-clause-text
returns-clause-text g c =
    let source : c.unwrap-source.result ≡ 128 = unwrapped _ _ _ c.unwrap-source.ensures c.new.ensures.value in
    on_ok_weaker c.say.result (λ _. c.in_ok-add_lines.ensures
    ∙ ap (λ t. c.args.text.now.items ++ t)
    (part-lines c.args.engine.now c.take.new.engine c.say.new.engine c.unwrap-source.result c.unwrap-sink.result c.in_ok-piece_of.field-0 c.args.part.now c.requires.passing c.requires.short source
    c.in_ok-piece_of.ensures c.in_ok-delivered.delivered c.in_ok-delivered.ensures.delivered))
    c.say.ensures.state

pub returns-clause-stream : goal.returns-clause-stream
returns-clause-stream g c =
    let source : c.unwrap-source.result ≡ 128 = unwrapped _ _ _ c.unwrap-source.ensures c.new.ensures.value in
    let sink : c.unwrap-sink.result ≡ 129 = unwrapped _ _ _ c.unwrap-sink.ensures c.new-2.ensures.value in
    on_ok_weaker c.say.result (λ e. part-stream c.args.engine.now c.take.new.engine c.say.new.engine c.unwrap-source.result c.unwrap-sink.result c.in_ok-piece_of.field-0 c.args.part.now c.requires.passing
    c.requires.short source c.in_ok-piece_of.ensures c.in_ok-delivered.ensures.state sink e)
    c.say.ensures.state

pub returns-clause-passing : goal.returns-clause-passing
returns-clause-passing g c =
    let source : c.unwrap-source.result ≡ 128 = unwrapped _ _ _ c.unwrap-source.ensures c.new.ensures.value in
    let sink : c.unwrap-sink.result ≡ 129 = unwrapped _ _ _ c.unwrap-sink.ensures c.new-2.ensures.value in
    on_ok_weaker c.say.result (λ e. part-passing c.args.engine.now c.take.new.engine c.say.new.engine c.unwrap-source.result c.unwrap-sink.result c.in_ok-piece_of.field-0 c.args.part.now c.requires.passing
    c.requires.short source c.in_ok-piece_of.ensures c.in_ok-delivered.ensures.state sink e)
    c.say.ensures.state
