use Rattle.std.proofs.Common.{◌<◌, ◌≤◌, [], List, ℕ, Bor, length, get_or, arith, sym, subst}
use Rattle.std.specs.Prelude.{IsTrue, None}
use Rattle.std.specs.List.Sorted.{IsPermutation}
use Rattle.smf_files.specs.Playing.{is_whole}
use Rattle.smf_files.proofs.Chunks.{nows, count-now}
use Rattle.smf_files.proofs.Beginning.{TakenUp, none-taken, content-fit, one-taken, taken-playing, all-taken}
use Rattle.smf_files.proofs.Merging.{now-at}
use Rattle.smf_files.proofs.cursor.first_heads.Goals as goal

pub find-requires-clause-whole : goal.find-requires-clause-whole
find-requires-clause-whole c =
    let nothing : Bor (List ℕ) = record { ref_ptr = (0, 0); now = [] } in
    let within : c.loop-i.i < length (nows c.args.contents.now) = omega (arith, count-now c.args.contents.now, c.loop-i-test.true) in
    subst (λ xs. IsTrue (is_whole None xs)) (sym (now-at c.args.contents.now c.loop-i.i nothing c.loop-i-test.true)) (content-fit (nows c.args.contents.now) c.loop-i.i c.requires.tracks within).0

pub find-requires-clause-early : goal.find-requires-clause-early
find-requires-clause-early c =
    let nothing : Bor (List ℕ) = record { ref_ptr = (0, 0); now = [] } in
    let within : c.loop-i.i < length (nows c.args.contents.now) = omega (arith, count-now c.args.contents.now, c.loop-i-test.true) in
    let small : length (get_or c.args.contents.now c.loop-i.i nothing).now ≤ 16777216 =
    subst (λ xs. length xs ≤ 16777216) (sym (now-at c.args.contents.now c.loop-i.i nothing c.loop-i-test.true)) (content-fit (nows c.args.contents.now) c.loop-i.i c.requires.tracks within).1 in
    omega arith

pub loop-i-init : goal.loop-i-init
loop-i-init c = record { taken = subst (λ hs. TakenUp (nows c.args.contents.now) 0 hs) (sym c.in_ok-heads.ensures.items) (none-taken (nows c.args.contents.now)) }

pub loop-i-preserved : goal.loop-i-preserved
loop-i-preserved c =
    let nothing : Bor (List ℕ) = record { ref_ptr = (0, 0); now = [] } in
    let within : c.loop-i.i < length (nows c.args.contents.now) = omega (arith, count-now c.args.contents.now, c.loop-i-test.true) in
    record {
      taken = one-taken (nows c.args.contents.now) c.loop-i.i c.loop-i.heads.items c.push_head.new.heads.items (get_or c.args.contents.now c.loop-i.i nothing).now c.find.result c.loop-i.invariant.taken within
          (now-at c.args.contents.now c.loop-i.i nothing c.loop-i-test.true) c.find.ensures.events c.find.ensures.place c.find.ensures.track c.in_ok-push_head.ensures;
    }

pub returns-clause-playing : goal.returns-clause-playing
returns-clause-playing c = taken-playing _ _ c.loop-i.heads.items _ c.loop-i.invariant.taken (subst (λ hs. IsPermutation hs c.make_heap.new.heads.items) c.shrink_to_fit.ensures.items c.make_heap.ensures.permutation) c.make_heap.ensures.order

pub returns-clause-events : goal.returns-clause-events
returns-clause-events c = all-taken (nows c.args.contents.now) c.loop-i.i c.loop-i.heads.items c.make_heap.new.heads.items c.loop-i.invariant.taken (omega (arith, count-now c.args.contents.now, c.loop-i-test.false)) (subst (λ hs. IsPermutation hs c.make_heap.new.heads.items) c.shrink_to_fit.ensures.items c.make_heap.ensures.permutation)
