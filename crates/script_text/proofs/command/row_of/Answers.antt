-- Each arm is a row of the table.
use Rattle.std.proofs.Common.{◌≡◌, ◌∙◌, ◌≤◌, IfOk, Some, sym, subst, map, arith}
use Rattle.script_text.proofs.ByPlace.{at_row, past_rows}
use Rattle.script_text.proofs.command.row_of.Goals as goal

pub returns-in-0-clause-ok : goal.returns-in-0-clause-ok
returns-in-0-clause-ok c = subst (λ o. IfOk c.schedule.result (λ x. o ≡ Some x)) (sym (at_row (map (λ n. n.items) c.args.names.now) c.args.words.now c.in_ok-word.word.now c.any.new.self c.keyword.result 0 c.in_ok-word.ensures.ok c.keyword.ensures c.in-0.is)) c.schedule.ensures.ok

pub returns-in-0-clause-err : goal.returns-in-0-clause-err
returns-in-0-clause-err c = λ e. at_row (map (λ n. n.items) c.args.names.now) c.args.words.now c.in_ok-word.word.now c.any.new.self c.keyword.result 0 c.in_ok-word.ensures.ok c.keyword.ensures c.in-0.is ∙ c.schedule.ensures.err e

pub returns-in-1-clause-ok : goal.returns-in-1-clause-ok
returns-in-1-clause-ok c = subst (λ o. IfOk c.send.result (λ x. o ≡ Some x)) (sym (at_row (map (λ n. n.items) c.args.names.now) c.args.words.now c.in_ok-word.word.now c.any.new.self c.keyword.result 1 c.in_ok-word.ensures.ok c.keyword.ensures c.in-1.is)) c.send.ensures.ok

pub returns-in-1-clause-err : goal.returns-in-1-clause-err
returns-in-1-clause-err c = λ e. at_row (map (λ n. n.items) c.args.names.now) c.args.words.now c.in_ok-word.word.now c.any.new.self c.keyword.result 1 c.in_ok-word.ensures.ok c.keyword.ensures c.in-1.is ∙ c.send.ensures.err e

pub returns-in-2-clause-ok : goal.returns-in-2-clause-ok
returns-in-2-clause-ok c = subst (λ o. IfOk c.bytes.result (λ x. o ≡ Some x)) (sym (at_row (map (λ n. n.items) c.args.names.now) c.args.words.now c.in_ok-word.word.now c.any.new.self c.keyword.result 2 c.in_ok-word.ensures.ok c.keyword.ensures c.in-2.is)) c.bytes.ensures.ok

pub returns-in-2-clause-err : goal.returns-in-2-clause-err
returns-in-2-clause-err c = λ e. at_row (map (λ n. n.items) c.args.names.now) c.args.words.now c.in_ok-word.word.now c.any.new.self c.keyword.result 2 c.in_ok-word.ensures.ok c.keyword.ensures c.in-2.is ∙ c.bytes.ensures.err e

pub returns-in-3-clause-ok : goal.returns-in-3-clause-ok
returns-in-3-clause-ok c = subst (λ o. IfOk c.play.result (λ x. o ≡ Some x)) (sym (at_row (map (λ n. n.items) c.args.names.now) c.args.words.now c.in_ok-word.word.now c.any.new.self c.keyword.result 3 c.in_ok-word.ensures.ok c.keyword.ensures c.in-3.is)) c.play.ensures.ok

pub returns-in-3-clause-err : goal.returns-in-3-clause-err
returns-in-3-clause-err c = λ e. at_row (map (λ n. n.items) c.args.names.now) c.args.words.now c.in_ok-word.word.now c.any.new.self c.keyword.result 3 c.in_ok-word.ensures.ok c.keyword.ensures c.in-3.is ∙ c.play.ensures.err e

pub returns-in-4-clause-ok : goal.returns-in-4-clause-ok
returns-in-4-clause-ok c = subst (λ o. IfOk c.receive.result (λ x. o ≡ Some x)) (sym (at_row (map (λ n. n.items) c.args.names.now) c.args.words.now c.in_ok-word.word.now c.any.new.self c.keyword.result 4 c.in_ok-word.ensures.ok c.keyword.ensures c.in-4.is)) c.receive.ensures.ok

pub returns-in-4-clause-err : goal.returns-in-4-clause-err
returns-in-4-clause-err c = λ e. at_row (map (λ n. n.items) c.args.names.now) c.args.words.now c.in_ok-word.word.now c.any.new.self c.keyword.result 4 c.in_ok-word.ensures.ok c.keyword.ensures c.in-4.is ∙ c.receive.ensures.err e

pub returns-in-5-clause-ok : goal.returns-in-5-clause-ok
returns-in-5-clause-ok c = subst (λ o. IfOk c.open.result (λ x. o ≡ Some x)) (sym (at_row (map (λ n. n.items) c.args.names.now) c.args.words.now c.in_ok-word.word.now c.any.new.self c.keyword.result 5 c.in_ok-word.ensures.ok c.keyword.ensures c.in-5.is)) c.open.ensures.ok

pub returns-in-5-clause-err : goal.returns-in-5-clause-err
returns-in-5-clause-err c = λ e. at_row (map (λ n. n.items) c.args.names.now) c.args.words.now c.in_ok-word.word.now c.any.new.self c.keyword.result 5 c.in_ok-word.ensures.ok c.keyword.ensures c.in-5.is ∙ c.open.ensures.err e

pub returns-in-6-clause-ok : goal.returns-in-6-clause-ok
returns-in-6-clause-ok c = subst (λ o. IfOk c.close.result (λ x. o ≡ Some x)) (sym (at_row (map (λ n. n.items) c.args.names.now) c.args.words.now c.in_ok-word.word.now c.any.new.self c.keyword.result 6 c.in_ok-word.ensures.ok c.keyword.ensures c.in-6.is)) c.close.ensures.ok

pub returns-in-6-clause-err : goal.returns-in-6-clause-err
returns-in-6-clause-err c = λ e. at_row (map (λ n. n.items) c.args.names.now) c.args.words.now c.in_ok-word.word.now c.any.new.self c.keyword.result 6 c.in_ok-word.ensures.ok c.keyword.ensures c.in-6.is ∙ c.close.ensures.err e

pub returns-in-7-clause-ok : goal.returns-in-7-clause-ok
returns-in-7-clause-ok c = subst (λ o. IfOk c.create_port.result (λ x. o ≡ Some x)) (sym (at_row (map (λ n. n.items) c.args.names.now) c.args.words.now c.in_ok-word.word.now c.any.new.self c.keyword.result 7 c.in_ok-word.ensures.ok c.keyword.ensures c.in-7.is)) c.create_port.ensures.ok

pub returns-in-7-clause-err : goal.returns-in-7-clause-err
returns-in-7-clause-err c = λ e. at_row (map (λ n. n.items) c.args.names.now) c.args.words.now c.in_ok-word.word.now c.any.new.self c.keyword.result 7 c.in_ok-word.ensures.ok c.keyword.ensures c.in-7.is ∙ c.create_port.ensures.err e

pub returns-in-8-clause-ok : goal.returns-in-8-clause-ok
returns-in-8-clause-ok c = subst (λ o. IfOk c.delete_port.result (λ x. o ≡ Some x)) (sym (at_row (map (λ n. n.items) c.args.names.now) c.args.words.now c.in_ok-word.word.now c.any.new.self c.keyword.result 8 c.in_ok-word.ensures.ok c.keyword.ensures c.in-8.is)) c.delete_port.ensures.ok

pub returns-in-8-clause-err : goal.returns-in-8-clause-err
returns-in-8-clause-err c = λ e. at_row (map (λ n. n.items) c.args.names.now) c.args.words.now c.in_ok-word.word.now c.any.new.self c.keyword.result 8 c.in_ok-word.ensures.ok c.keyword.ensures c.in-8.is ∙ c.delete_port.ensures.err e

pub returns-in-9-clause-ok : goal.returns-in-9-clause-ok
returns-in-9-clause-ok c = subst (λ o. IfOk c.create_filter.result (λ x. o ≡ Some x)) (sym (at_row (map (λ n. n.items) c.args.names.now) c.args.words.now c.in_ok-word.word.now c.any.new.self c.keyword.result 9 c.in_ok-word.ensures.ok c.keyword.ensures c.in-9.is)) c.create_filter.ensures.ok

pub returns-in-9-clause-err : goal.returns-in-9-clause-err
returns-in-9-clause-err c = λ e. at_row (map (λ n. n.items) c.args.names.now) c.args.words.now c.in_ok-word.word.now c.any.new.self c.keyword.result 9 c.in_ok-word.ensures.ok c.keyword.ensures c.in-9.is ∙ c.create_filter.ensures.err e

pub returns-in-10-clause-ok : goal.returns-in-10-clause-ok
returns-in-10-clause-ok c = subst (λ o. IfOk c.set_filter.result (λ x. o ≡ Some x)) (sym (at_row (map (λ n. n.items) c.args.names.now) c.args.words.now c.in_ok-word.word.now c.any.new.self c.keyword.result 10 c.in_ok-word.ensures.ok c.keyword.ensures c.in-10.is)) c.set_filter.ensures.ok

pub returns-in-10-clause-err : goal.returns-in-10-clause-err
returns-in-10-clause-err c = λ e. at_row (map (λ n. n.items) c.args.names.now) c.args.words.now c.in_ok-word.word.now c.any.new.self c.keyword.result 10 c.in_ok-word.ensures.ok c.keyword.ensures c.in-10.is ∙ c.set_filter.ensures.err e

pub returns-in-11-clause-ok : goal.returns-in-11-clause-ok
returns-in-11-clause-ok c = subst (λ o. IfOk c.delete_filter.result (λ x. o ≡ Some x)) (sym (at_row (map (λ n. n.items) c.args.names.now) c.args.words.now c.in_ok-word.word.now c.any.new.self c.keyword.result 11 c.in_ok-word.ensures.ok c.keyword.ensures c.in-11.is)) c.delete_filter.ensures.ok

pub returns-in-11-clause-err : goal.returns-in-11-clause-err
returns-in-11-clause-err c = λ e. at_row (map (λ n. n.items) c.args.names.now) c.args.words.now c.in_ok-word.word.now c.any.new.self c.keyword.result 11 c.in_ok-word.ensures.ok c.keyword.ensures c.in-11.is ∙ c.delete_filter.ensures.err e

pub returns-in-12-clause-ok : goal.returns-in-12-clause-ok
returns-in-12-clause-ok c = subst (λ o. IfOk c.connect.result (λ x. o ≡ Some x)) (sym (at_row (map (λ n. n.items) c.args.names.now) c.args.words.now c.in_ok-word.word.now c.any.new.self c.keyword.result 12 c.in_ok-word.ensures.ok c.keyword.ensures c.in-12.is)) c.connect.ensures.ok

pub returns-in-12-clause-err : goal.returns-in-12-clause-err
returns-in-12-clause-err c = λ e. at_row (map (λ n. n.items) c.args.names.now) c.args.words.now c.in_ok-word.word.now c.any.new.self c.keyword.result 12 c.in_ok-word.ensures.ok c.keyword.ensures c.in-12.is ∙ c.connect.ensures.err e

pub returns-in-13-clause-ok : goal.returns-in-13-clause-ok
returns-in-13-clause-ok c = subst (λ o. IfOk c.disconnect.result (λ x. o ≡ Some x)) (sym (at_row (map (λ n. n.items) c.args.names.now) c.args.words.now c.in_ok-word.word.now c.any.new.self c.keyword.result 13 c.in_ok-word.ensures.ok c.keyword.ensures c.in-13.is)) c.disconnect.ensures.ok

pub returns-in-13-clause-err : goal.returns-in-13-clause-err
returns-in-13-clause-err c = λ e. at_row (map (λ n. n.items) c.args.names.now) c.args.words.now c.in_ok-word.word.now c.any.new.self c.keyword.result 13 c.in_ok-word.ensures.ok c.keyword.ensures c.in-13.is ∙ c.disconnect.ensures.err e

pub returns-in-14-clause-ok : goal.returns-in-14-clause-ok
returns-in-14-clause-ok c = subst (λ o. IfOk c.create_queue.result (λ x. o ≡ Some x)) (sym (at_row (map (λ n. n.items) c.args.names.now) c.args.words.now c.in_ok-word.word.now c.any.new.self c.keyword.result 14 c.in_ok-word.ensures.ok c.keyword.ensures c.in-14.is)) c.create_queue.ensures.ok

pub returns-in-14-clause-err : goal.returns-in-14-clause-err
returns-in-14-clause-err c = λ e. at_row (map (λ n. n.items) c.args.names.now) c.args.words.now c.in_ok-word.word.now c.any.new.self c.keyword.result 14 c.in_ok-word.ensures.ok c.keyword.ensures c.in-14.is ∙ c.create_queue.ensures.err e

pub returns-in-15-clause-ok : goal.returns-in-15-clause-ok
returns-in-15-clause-ok c = subst (λ o. IfOk c.create_queue_from.result (λ x. o ≡ Some x)) (sym (at_row (map (λ n. n.items) c.args.names.now) c.args.words.now c.in_ok-word.word.now c.any.new.self c.keyword.result 15 c.in_ok-word.ensures.ok c.keyword.ensures c.in-15.is)) c.create_queue_from.ensures.ok

pub returns-in-15-clause-err : goal.returns-in-15-clause-err
returns-in-15-clause-err c = λ e. at_row (map (λ n. n.items) c.args.names.now) c.args.words.now c.in_ok-word.word.now c.any.new.self c.keyword.result 15 c.in_ok-word.ensures.ok c.keyword.ensures c.in-15.is ∙ c.create_queue_from.ensures.err e

pub returns-in-16-clause-ok : goal.returns-in-16-clause-ok
returns-in-16-clause-ok c = subst (λ o. IfOk c.delete_queue.result (λ x. o ≡ Some x)) (sym (at_row (map (λ n. n.items) c.args.names.now) c.args.words.now c.in_ok-word.word.now c.any.new.self c.keyword.result 16 c.in_ok-word.ensures.ok c.keyword.ensures c.in-16.is)) c.delete_queue.ensures.ok

pub returns-in-16-clause-err : goal.returns-in-16-clause-err
returns-in-16-clause-err c = λ e. at_row (map (λ n. n.items) c.args.names.now) c.args.words.now c.in_ok-word.word.now c.any.new.self c.keyword.result 16 c.in_ok-word.ensures.ok c.keyword.ensures c.in-16.is ∙ c.delete_queue.ensures.err e

pub returns-in-17-clause-ok : goal.returns-in-17-clause-ok
returns-in-17-clause-ok c = subst (λ o. IfOk c.start.result (λ x. o ≡ Some x)) (sym (at_row (map (λ n. n.items) c.args.names.now) c.args.words.now c.in_ok-word.word.now c.any.new.self c.keyword.result 17 c.in_ok-word.ensures.ok c.keyword.ensures c.in-17.is)) c.start.ensures.ok

pub returns-in-17-clause-err : goal.returns-in-17-clause-err
returns-in-17-clause-err c = λ e. at_row (map (λ n. n.items) c.args.names.now) c.args.words.now c.in_ok-word.word.now c.any.new.self c.keyword.result 17 c.in_ok-word.ensures.ok c.keyword.ensures c.in-17.is ∙ c.start.ensures.err e

pub returns-in-18-clause-ok : goal.returns-in-18-clause-ok
returns-in-18-clause-ok c = subst (λ o. IfOk c.stop.result (λ x. o ≡ Some x)) (sym (at_row (map (λ n. n.items) c.args.names.now) c.args.words.now c.in_ok-word.word.now c.any.new.self c.keyword.result 18 c.in_ok-word.ensures.ok c.keyword.ensures c.in-18.is)) c.stop.ensures.ok

pub returns-in-18-clause-err : goal.returns-in-18-clause-err
returns-in-18-clause-err c = λ e. at_row (map (λ n. n.items) c.args.names.now) c.args.words.now c.in_ok-word.word.now c.any.new.self c.keyword.result 18 c.in_ok-word.ensures.ok c.keyword.ensures c.in-18.is ∙ c.stop.ensures.err e

pub returns-in-19-clause-ok : goal.returns-in-19-clause-ok
returns-in-19-clause-ok c = subst (λ o. IfOk c.resume.result (λ x. o ≡ Some x)) (sym (at_row (map (λ n. n.items) c.args.names.now) c.args.words.now c.in_ok-word.word.now c.any.new.self c.keyword.result 19 c.in_ok-word.ensures.ok c.keyword.ensures c.in-19.is)) c.resume.ensures.ok

pub returns-in-19-clause-err : goal.returns-in-19-clause-err
returns-in-19-clause-err c = λ e. at_row (map (λ n. n.items) c.args.names.now) c.args.words.now c.in_ok-word.word.now c.any.new.self c.keyword.result 19 c.in_ok-word.ensures.ok c.keyword.ensures c.in-19.is ∙ c.resume.ensures.err e

pub returns-in-20-clause-ok : goal.returns-in-20-clause-ok
returns-in-20-clause-ok c = subst (λ o. IfOk c.tempo.result (λ x. o ≡ Some x)) (sym (at_row (map (λ n. n.items) c.args.names.now) c.args.words.now c.in_ok-word.word.now c.any.new.self c.keyword.result 20 c.in_ok-word.ensures.ok c.keyword.ensures c.in-20.is)) c.tempo.ensures.ok

pub returns-in-20-clause-err : goal.returns-in-20-clause-err
returns-in-20-clause-err c = λ e. at_row (map (λ n. n.items) c.args.names.now) c.args.words.now c.in_ok-word.word.now c.any.new.self c.keyword.result 20 c.in_ok-word.ensures.ok c.keyword.ensures c.in-20.is ∙ c.tempo.ensures.err e

pub returns-in-21-clause-ok : goal.returns-in-21-clause-ok
returns-in-21-clause-ok c = subst (λ o. IfOk c.queue_status.result (λ x. o ≡ Some x)) (sym (at_row (map (λ n. n.items) c.args.names.now) c.args.words.now c.in_ok-word.word.now c.any.new.self c.keyword.result 21 c.in_ok-word.ensures.ok c.keyword.ensures c.in-21.is)) c.queue_status.ensures.ok

pub returns-in-21-clause-err : goal.returns-in-21-clause-err
returns-in-21-clause-err c = λ e. at_row (map (λ n. n.items) c.args.names.now) c.args.words.now c.in_ok-word.word.now c.any.new.self c.keyword.result 21 c.in_ok-word.ensures.ok c.keyword.ensures c.in-21.is ∙ c.queue_status.ensures.err e

pub returns-in-22-clause-ok : goal.returns-in-22-clause-ok
returns-in-22-clause-ok c = subst (λ o. IfOk c.share.result (λ x. o ≡ Some x)) (sym (at_row (map (λ n. n.items) c.args.names.now) c.args.words.now c.in_ok-word.word.now c.any.new.self c.keyword.result 22 c.in_ok-word.ensures.ok c.keyword.ensures c.in-22.is)) c.share.ensures.ok

pub returns-in-22-clause-err : goal.returns-in-22-clause-err
returns-in-22-clause-err c = λ e. at_row (map (λ n. n.items) c.args.names.now) c.args.words.now c.in_ok-word.word.now c.any.new.self c.keyword.result 22 c.in_ok-word.ensures.ok c.keyword.ensures c.in-22.is ∙ c.share.ensures.err e

pub returns-in-23-clause-ok : goal.returns-in-23-clause-ok
returns-in-23-clause-ok c = subst (λ o. IfOk c.drop_output.result (λ x. o ≡ Some x)) (sym (at_row (map (λ n. n.items) c.args.names.now) c.args.words.now c.in_ok-word.word.now c.any.new.self c.keyword.result 23 c.in_ok-word.ensures.ok c.keyword.ensures c.in-23.is)) c.drop_output.ensures.ok

pub returns-in-23-clause-err : goal.returns-in-23-clause-err
returns-in-23-clause-err c = λ e. at_row (map (λ n. n.items) c.args.names.now) c.args.words.now c.in_ok-word.word.now c.any.new.self c.keyword.result 23 c.in_ok-word.ensures.ok c.keyword.ensures c.in-23.is ∙ c.drop_output.ensures.err e

pub returns-in-24-clause-ok : goal.returns-in-24-clause-ok
returns-in-24-clause-ok c = subst (λ o. IfOk c.listen.result (λ x. o ≡ Some x)) (sym (at_row (map (λ n. n.items) c.args.names.now) c.args.words.now c.in_ok-word.word.now c.any.new.self c.keyword.result 24 c.in_ok-word.ensures.ok c.keyword.ensures c.in-24.is)) c.listen.ensures.ok

pub returns-in-24-clause-err : goal.returns-in-24-clause-err
returns-in-24-clause-err c = λ e. at_row (map (λ n. n.items) c.args.names.now) c.args.words.now c.in_ok-word.word.now c.any.new.self c.keyword.result 24 c.in_ok-word.ensures.ok c.keyword.ensures c.in-24.is ∙ c.listen.ensures.err e

pub returns-in-25-clause-ok : goal.returns-in-25-clause-ok
returns-in-25-clause-ok c = subst (λ o. IfOk c.unlisten.result (λ x. o ≡ Some x)) (sym (at_row (map (λ n. n.items) c.args.names.now) c.args.words.now c.in_ok-word.word.now c.any.new.self c.keyword.result 25 c.in_ok-word.ensures.ok c.keyword.ensures c.in-25.is)) c.unlisten.ensures.ok

pub returns-in-25-clause-err : goal.returns-in-25-clause-err
returns-in-25-clause-err c = λ e. at_row (map (λ n. n.items) c.args.names.now) c.args.words.now c.in_ok-word.word.now c.any.new.self c.keyword.result 25 c.in_ok-word.ensures.ok c.keyword.ensures c.in-25.is ∙ c.unlisten.ensures.err e

pub returns-in-26-clause-ok : goal.returns-in-26-clause-ok
returns-in-26-clause-ok c = subst (λ o. IfOk c.pool_status.result (λ x. o ≡ Some x)) (sym (at_row (map (λ n. n.items) c.args.names.now) c.args.words.now c.in_ok-word.word.now c.any.new.self c.keyword.result 26 c.in_ok-word.ensures.ok c.keyword.ensures c.in-26.is)) c.pool_status.ensures.ok

pub returns-in-26-clause-err : goal.returns-in-26-clause-err
returns-in-26-clause-err c = λ e. at_row (map (λ n. n.items) c.args.names.now) c.args.words.now c.in_ok-word.word.now c.any.new.self c.keyword.result 26 c.in_ok-word.ensures.ok c.keyword.ensures c.in-26.is ∙ c.pool_status.ensures.err e

pub returns-in_default-clause-err : goal.returns-in_default-clause-err
returns-in_default-clause-err c =
    let past : 27 ≤ c.keyword.result = omega arith in
    λ e. past_rows (map (λ n. n.items) c.args.names.now) c.args.words.now c.in_ok-word.word.now c.any.new.self c.keyword.result c.in_ok-word.ensures.ok c.keyword.ensures past
