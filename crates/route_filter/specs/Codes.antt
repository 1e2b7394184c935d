-- Representation: The code of a rule, by which a model may have it in its value.
use Rattle.std.specs.Prelude.{ℕ, ℤ, Option, refl}
use Rattle.std.specs.Coded.{Coded, code_by, coded×, coded_option, coded_ℕ, coded_ℤ}
use Rattle.route_filter.specs.declared.rule_args.RuleArgs.{RuleArgs}

abbrev Fields : Type 0
Fields = ℕ × (ℕ × (ℕ × (ℕ × (ℤ × Option ℕ))))

abbrev coded_fields : Coded Fields
coded_fields =
    coded× coded_ℕ (coded× coded_ℕ (coded× coded_ℕ (coded× coded_ℕ
    (coded× coded_ℤ (coded_option coded_ℕ)))))

abbrev fields_of : RuleArgs → Fields
fields_of r = (r.channels, (r.kinds.0, (r.low, (r.high, (r.shift, r.channel)))))

abbrev rule_of : Fields → RuleArgs
rule_of f = record {
  channels = f.0;
  kinds = record { 0 = f.1.0 };
  low = f.1.1.0;
  high = f.1.1.1.0;
  shift = f.1.1.1.1.0;
  channel = f.1.1.1.1.1;
}

abbrev pub coded_rule : Coded RuleArgs
coded_rule = code_by Fields coded_fields fields_of rule_of (λ _. refl)
