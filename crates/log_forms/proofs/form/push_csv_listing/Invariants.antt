use Rattle.std.proofs.Common.{◌≡◌, ◌++◌, length}
use Rattle.std.specs.List.{flat_map}
use Rattle.log_forms.specs.Csv.{csv_listed}
use Rattle.log_forms.specs.Lines.{lines}
use Rattle.log_forms.proofs.form.push_csv_listing.Given as goal

-- with the lines that are left, it is the whole
abbrev pub invariant-loop-line : goal.invariant-loop-line
invariant-loop-line l = l.out.items ++ flat_map csv_listed l.lines ≡ l.initial.out.items ++ flat_map csv_listed (lines l.listing)

abbrev pub decreases-loop-line : goal.decreases-loop-line
decreases-loop-line l = length l.lines
