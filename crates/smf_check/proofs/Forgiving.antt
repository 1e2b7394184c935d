-- The verdict on bytes that were mended.
use Rattle.std.proofs.Common.{◌≡◌, ℕ, Bool, true, false, List, Option, None, Some, refl}
use Rattle.std.specs.Prelude.{Ok, is_some, ◌||◌}
use Rattle.smf_mend.specs.declared.forgiven.Mended.{Mended}
use Rattle.smf_mend.specs.Unwrapping.{IsMendedIn}
use Rattle.smf_check.specs.declared.verdict.Verdict.TheVariants.{Whole, Forgiven}
use Rattle.smf_check.specs.Verdicts.{IsVerdict}

none-is : {T : Type 0} (o : Option T) → is_some o ≡ false → o ≡ None
none-is None h = refl
none-is (Some x) h = absurd (let bad : ⊥ = cc in bad)

pub first-some : (a b : Bool) → a ≡ true → (a || b) ≡ true
first-some true b h = refl
first-some false b h = absurd (let bad : ⊥ = cc in bad)

pub second-some : (a b : Bool) → b ≡ true → (a || b) ≡ true
second-some true b h = refl
second-some false b h = h

module _ (m : Mended) where
  pub none-forgiven : is_some m.running_status ≡ false → is_some m.high_data ≡ false → (bytes : List ℕ) → IsMendedIn bytes m → IsVerdict true (Ok bytes) Whole
  none-forgiven a b bytes h = record { m = m; mended = h; status_is = none-is m.running_status a; program_is = none-is m.high_data b }

  pub some-forgiven : (is_some m.running_status || is_some m.high_data) ≡ true → (bytes : List ℕ) → IsMendedIn bytes m → IsVerdict true (Ok bytes) (Forgiven m.running_status m.high_data)
  some-forgiven some bytes h = (some, record { m = m; mended = h; status_is = refl; program_is = refl })
