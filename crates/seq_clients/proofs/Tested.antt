-- What a caller knows of an option that it has tested.
use Rattle.std.proofs.Common.{◌≡◌, true, false, Option, Some, None, refl}
use Rattle.std.specs.Prelude.{is_some, IsSome}

pub none_if_not : {X : Type 0} (o : Option X) → is_some o ≡ false → o ≡ None
none_if_not None h = refl
none_if_not (Some x) h = cc

pub some_if : {X : Type 0} (o : Option X) → is_some o ≡ true → IsSome o
some_if None h = cc
some_if (Some x) h = search
