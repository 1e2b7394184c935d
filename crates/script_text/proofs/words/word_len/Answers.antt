use Rattle.std.proofs.Common.{◌≡◌, true, get_or, arith}
use Rattle.std.proofs.lemmas.Bool.Decides.{nat_tests}
use Rattle.script_text.specs.Words.{is_blank}
use Rattle.script_text.proofs.Cut.{low_place, no_low}
use Rattle.script_text.proofs.words.word_len.Goals as goal

pub returns-in-Some-2-clause-value : goal.returns-in-Some-2-clause-value
returns-in-Some-2-clause-value c =
    let blank : is_blank (get_or c.args.bytes.now c.in-Some.place 0) ≡ true = grind (arith, nat_tests, c.is_blank.ensures, c.if-not-is_blank.false) in
    low_place c.args.bytes.now c.in-Some.place c.in-Some.ensures.value blank

pub returns-in-None-clause-value : goal.returns-in-None-clause-value
returns-in-None-clause-value c = no_low c.args.bytes.now c.in-None.ensures.value
