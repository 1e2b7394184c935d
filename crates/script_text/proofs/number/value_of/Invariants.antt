use Rattle.std.proofs.Common.{◌≡◌, ◌<◌, ◌^◌, take, true}
use Rattle.std.specs.List.{list_all}
use Rattle.script_text.specs.Numbers.{is_digit, read_on}
use Rattle.script_text.proofs.number.value_of.Given as goal

abbrev pub invariant-loop-byte : goal.invariant-loop-byte
invariant-loop-byte l = record {
  digits : list_all is_digit (take l.byte-index l.word) ≡ true;
  value : l.value ≡ read_on 0 (take l.byte-index l.word);
  small : l.value < 10 ^ l.byte-index;
}
