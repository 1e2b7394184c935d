use Rattle.std.proofs.Common.{◌≡◌, ◌≤◌, ◌<◌, ◌-◌, ◌^◌, take, true}
use Rattle.std.specs.List.{list_all}
use Rattle.script_text.specs.Numbers.{is_digit, read_on}
use Rattle.smf_make.proofs.numbers.front_number.Given as goal

abbrev pub invariant-loop-n : goal.invariant-loop-n
invariant-loop-n l = record {
  digits : list_all is_digit (take l.n l.line) ≡ true;
  value : l.value ≡ read_on 0 (take l.n l.line);
  small : l.value < 10 ^ l.n;
  within : l.n ≤ l.most;
}

abbrev pub decreases-loop-n : goal.decreases-loop-n
decreases-loop-n l = l.most - l.n
