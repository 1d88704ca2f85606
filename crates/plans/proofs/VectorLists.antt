-- What holds of each vector of a list. Assumes nothing.
use Rattle.std.proofs.Common.{◌≡◌, Bool, true, false, List, [], ◌∷◌, ◌++◌, refl, ◌∙◌, arith}
use Rattle.std.proofs.lemmas.Bool.{and_from, or_from}
use Rattle.std.proofs.lemmas.List.Folds.{list_any-append}
use Rattle.std.proofs.lemmas.List.Recursion.{and_push, or_push}
use Rattle.grids.specs.Vectors.{same, among}
use Rattle.grids.specs.declared.vectors.Vector.{Vector}
use Rattle.grids.proofs.SameVectors.{same_swap}
use Rattle.plans.specs.Vectors.{every, different}

pub every_push : (test : Vector → Bool) (vs : List Vector) (v : Vector) → every test vs ≡ true → test v ≡ true → every test (vs ++ v ∷ []) ≡ true
every_push test vs v h k = and_push (every test) test refl (λ _ _. refl) vs v ∙ and_from _ _ h k

among_push : (u : Vector) (vs : List Vector) (v : Vector) → among u vs ≡ false → same v u ≡ false → among u (vs ++ v ∷ []) ≡ false
among_push u vs v h k = or_push (among u) (λ w. same w u) refl (λ _ _. refl) vs v ∙ or_from _ _ h k

pub different_push : (vs : List Vector) (v : Vector) → different vs ≡ true → among v vs ≡ false → different (vs ++ v ∷ []) ≡ true
different_push [] v h k = refl
different_push (u ∷ vs) v h k = grind (arith, list_any-append, same_swap, different_push vs v)
