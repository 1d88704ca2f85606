-- Lists in which no cell stands twice. Assumes nothing.
use Rattle.std.proofs.Common.{◌≡◌, ℕ, true, false, List, [], ◌∷◌, ◌++◌, refl, arith}
use Rattle.std.proofs.lemmas.Bool.Decides.{nat_tests}
use Rattle.std.proofs.lemmas.List.Folds.{list_any-append}
use Rattle.layers.specs.Layers.{distinct}
use Rattle.plates.specs.Lists.{among}

-- a number that did not stand in the list is put at its end
pub distinct_push : (xs : List ℕ) (x : ℕ) → distinct xs ≡ true → among x xs ≡ false → distinct (xs ++ x ∷ []) ≡ true
distinct_push [] x apart new = refl
distinct_push (y ∷ ys) x apart new = grind (arith, nat_tests, list_any-append, distinct_push ys x)
