use Rattle.std.proofs.Common.{refl}
use Rattle.test_tables.proofs.Tracking.{tracked-empty, none_there}
use Rattle.test_tables.proofs.driver.Driver.new.Goals as goal

pub invariant_of-result : goal.invariant_of-result
invariant_of-result g c = record { tracked = tracked-empty _ _ c.requires.empty (none_there 100) refl }
