-- Bytes that are appended where there are any.
use Rattle.std.proofs.Common.{◌≡◌, ℕ, suc, arith, List, [], ◌∷◌, length, Option, Result, true, false, refl}
use Rattle.std.proofs.lemmas.Bool.Decides.{nat_tests}
use Rattle.std.specs.Prelude.{◌==◌}
use Rattle.outside.specs.declared.store.FileId.{FileId}
use Rattle.outside.specs.Files.{Files, Appends}
use Rattle.page_packer.specs.Packing.{AppendsSome}

pub none_appended : {T E : Type 0} (files : Option Files) (file : FileId) (result : Result T E) (bytes : List ℕ) → (length bytes == 0) ≡ true → AppendsSome files files file result bytes
none_appended files file result [] e = refl
none_appended files file result (b ∷ bytes) e = let some : length (b ∷ bytes) ≡ suc (length bytes) = refl in absurd (grind (arith, nat_tests))

pub some_appended : {T E : Type 0} (before after : Option Files) (file : FileId) (result : Result T E) (bytes : List ℕ) → (length bytes == 0) ≡ false → Appends before after file result bytes → AppendsSome before after file result bytes
some_appended before after file result [] e h = absurd (grind (arith, nat_tests))
some_appended before after file result (b ∷ bytes) e h = h
