-- What a kill leaves of the dead cells. Assumes nothing.
use Rattle.std.proofs.Common.{◌≡◌, ℕ, true, List, arith}
use Rattle.std.proofs.lemmas.Bool.Decides.{nat_tests}
use Rattle.std.proofs.lemmas.List.Folds.{list_all-append}
use Rattle.plates.specs.Lists.{below}
use Rattle.layers.specs.Layers.{killed}

-- dead cells stay cells of the plate
pub killed_below : (n : ℕ) (dead : List ℕ) (c : ℕ) → below n dead ≡ true → below n (killed n dead c) ≡ true
killed_below n dead c h = grind (arith, nat_tests, list_all-append)
