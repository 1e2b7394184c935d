use Rattle.std.proofs.Common.{refl}
use Rattle.midi_wire.specs.Messages.{begins}
use Rattle.script_text.proofs.rows.worked_scripts.Goals as goal

pub returns-clause-words : goal.returns-clause-words
returns-clause-words c = record {
  tabs = refl;
  none = refl;
  return = refl;
  two_returns = refl;
  return_within = refl;
  last_line = refl;
  line_end_at_end = refl;
}

pub returns-clause-numbers : goal.returns-clause-numbers
returns-clause-numbers c = record {
  zero = refl;
  zeros = refl;
  too_many_digits = refl;
  no_digit = refl;
  plus = refl;
  letter = refl;
  greatest = refl;
  past = refl;
  past_twenty = refl;
  u32_greatest = refl;
  u32_past = refl;
  u8_past = refl;
  minus_zero = refl;
  lowest_shift = refl;
  below_shift = refl;
  highest_shift = refl;
  above_shift = refl;
  two_minus = refl;
  minus_alone = refl;
  shift_plus = refl;
  all_caps = refl;
  no_caps = refl;
  unknown_cap = refl;
  caps_past = refl;
}

pub returns-clause-addresses : goal.returns-clause-addresses
returns-clause-addresses c = record {
  port = refl;
  filter = refl;
  zeros = refl;
  port_past = refl;
  client_past = refl;
  client_below = refl;
  no_number = refl;
  no_node = refl;
  no_colon = refl;
  two_colons = refl;
  queue_is_no_node = refl;
  queue_here = refl;
  queue_past = refl;
  tick = refl;
  tick_after = refl;
  nanos = refl;
  nanos_after = refl;
  due_past = refl;
  due_alone = refl;
  due_minus = refl;
  due_other = refl;
}

pub returns-clause-bytes : goal.returns-clause-bytes
unfolding begins
returns-clause-bytes c = record {
  either_case = refl;
  no_bytes = refl;
  one_digit = refl;
  three_digits = refl;
  no_hex = refl;
  one_message = refl;
  two_messages = refl;
  part_of_one = refl;
  exclusive = refl;
}

pub returns-clause-commands : goal.returns-clause-commands
unfolding begins
returns-clause-commands c = record {
  opened = refl;
  any_name = refl;
  too_few = refl;
  too_many = refl;
  upper_case = refl;
  no_word = refl;
  filter = refl;
  filter_channel = refl;
  filter_too_many = refl;
  set_filter = refl;
  connect = refl;
  bytes = refl;
  no_bytes = refl;
  send = refl;
  first_file = refl;
  no_file = refl;
  schedule = refl;
  share = refl;
  delete_port = refl;
  delete_filter = refl;
  disconnect = refl;
  queue = refl;
  delete_queue = refl;
  start = refl;
  stop = refl;
  resume = refl;
  tempo = refl;
  status = refl;
  drop_output = refl;
  receive = refl;
  listen = refl;
  unlisten = refl;
}

pub returns-clause-scripts : goal.returns-clause-scripts
returns-clause-scripts c = record {
  hostile = refl;
  remarks = refl;
  empty = refl;
  semicolon = refl;
}
