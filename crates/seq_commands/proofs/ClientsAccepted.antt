-- What is known of an accepted command on a client and its nodes.
use Rattle.std.proofs.Common.{◌≡◌, ℕ, Bool, true, false, ◌&&◌, List, [], ◌∷◌, Option, Some, None, cond}
use Rattle.std.specs.Prelude.{is_some, if◌then◌else◌}
use Rattle.std.specs.FinMap
use Rattle.std.proofs.lemmas.Bool.{not-false}
use Rattle.tempo_clock.proofs.Comparisons.{both}
use Rattle.route_filter.specs.Rules.{is_rule}
use Rattle.route_filter.specs.declared.rule_args.RuleArgs.{RuleArgs}
use Rattle.cell_pools.specs.Pools.{is_size}
use Rattle.node_table.specs.Names.{is_name}
use Rattle.node_table.specs.declared.caps.Caps.{Caps}
use Rattle.seq_state.specs.declared.input.Command.{Command}
use Rattle.seq_state.specs.declared.input.Command.TheVariants.{Open, CreatePort, CreateFilter, SetFilter}
use Rattle.smf_grammar.specs.Played.{PlayedFile}
use Rattle.seq_state.specs.State.{Client, State}
use Rattle.seq_state.specs.Effect.{has_port, has_filter}
use Rattle.seq_state.specs.Table.{Condition, first_refusal, command_row}
use Rattle.seq_state.specs.Step.{row_of, refusal_of}
use Rattle.seq_clients.proofs.Tested.{none_if_not}
use Rattle.seq_commands.proofs.Accepted.{none-holds}

-- no condition of the list holds
abbrev pub NoneHold : List Condition → Type 0
NoneHold [] = Unit {0}
NoneHold (c ∷ cs) = (c.1 ≡ false) × NoneHold cs

pub none-hold : (cs : List Condition) → first_refusal cs ≡ None → NoneHold cs
none-hold [] e = tt
none-hold (c ∷ cs) e = let h = none-holds c.0 c.1 cs e in (h.0, none-hold cs h.1)

module _ (files : List PlayedFile) (s : State) (moment actor : ℕ) where
  abbrev client : Option Client
  client = FinMap.get s.clients actor

  abbrev accepts : Command → Type 0
  accepts command = refusal_of files s moment actor command ≡ None

  abbrev no-condition : (command : Command) → accepts command → NoneHold (row_of files s moment actor command).conditions
  no-condition command e = none-hold (row_of files s moment actor command).conditions e

  pub accepted-open : (name : List ℕ) (in_size out_size : ℕ) → accepts (Open name in_size out_size) → (client ≡ None) × (is_name name ≡ true) × (is_size in_size ≡ true)
  unfolding command_row
  accepted-open name in_size out_size e =
      let h = no-condition (Open name in_size out_size) e in
      (none_if_not client h.0, not-false (is_name name) h.1.0, (both (is_size in_size) (is_size out_size) (not-false (is_size in_size && is_size out_size) h.1.1.0)).0)

  pub accepted-port : (port : ℕ) (name : List ℕ) (caps : Caps) → accepts (CreatePort port name caps) → (is_some client ≡ true) × (is_name name ≡ true) × (has_port client port ≡ false)
  unfolding command_row
  accepted-port port name caps e =
      let h = no-condition (CreatePort port name caps) e in
      (not-false (is_some client) h.0, not-false (is_name name) h.1.0, h.1.1.0)

  pub accepted-filter : (n : ℕ) (caps : Caps) (rule : RuleArgs) → accepts (CreateFilter n caps rule) → (is_some client ≡ true) × (is_rule rule ≡ true) × (has_filter client n ≡ false)
  unfolding command_row
  accepted-filter n caps rule e =
      let h = no-condition (CreateFilter n caps rule) e in
      (not-false (is_some client) h.0, not-false (is_rule rule) h.1.0, h.1.1.0)

  pub accepted-rule : (n : ℕ) (rule : RuleArgs) → accepts (SetFilter n rule) → (is_rule rule ≡ true) × (has_filter client n ≡ true)
  unfolding command_row
  accepted-rule n rule e =
      let h = no-condition (SetFilter n rule) e in
      (not-false (is_rule rule) h.1.0, not-false (has_filter client n) h.1.1.0)

-- ---- the rule of a filter

-- what `Rule::new` makes of arguments
abbrev made : RuleArgs → Option RuleArgs
made rule = if is_rule rule then Some rule else None

pub rule-refused : (rule : RuleArgs) → is_rule rule ≡ true → made rule ≡ None → ⊥
rule-refused rule is e = go (is_rule rule) is e
  where
    go : (b : Bool) → b ≡ true → cond b (Some rule) None ≡ None → ⊥
    go true t f = cc
    go false t f = cc

pub rule-made : (rule other : RuleArgs) → made rule ≡ Some other → other ≡ rule
rule-made rule other e = go (is_rule rule) e
  where
    go : (b : Bool) → cond b (Some rule) None ≡ Some other → other ≡ rule
    go true f = cc
    go false f = cc
