-- The test of two vectors decides whether they are equal, and so the search of a list whether a vector stands in it. Assumes nothing.
use Rattle.std.proofs.Common.{◌≡◌, List, Decides, refl, sym, rules}
use Rattle.std.specs.List.{Contains}
use Rattle.std.proofs.lemmas.Bool.Decides.{Decides-and, Decides-by_or, Decides-int_eq, Decides-like, same_from_decides}
use Rattle.std.proofs.lemmas.List.Elements.{Decides-contains}
use Rattle.grids.specs.declared.vectors.Vector.{Vector}
use Rattle.grids.specs.Vectors.{same, among}

-- the three coordinates do
pub same_decides : (u v : Vector) → Decides (same u v) (u ≡ v)
same_decides u v =
    Decides-like (same u v) (λ p. search rules) (λ e. search rules) (Decides-and _ _ (Decides-int_eq u.a v.a) (Decides-and _ _ (Decides-int_eq u.b v.b) (Decides-int_eq u.c v.c)))

pub same_swap : (u v : Vector) → same u v ≡ same v u
same_swap u v = same_from_decides _ _ (same_decides u v) (Decides-like (same v u) sym sym (same_decides v u))

-- the search of a list decides whether it holds the vector
pub among_decides : (v : Vector) (vs : List Vector) → Decides (among v vs) (Contains vs v)
among_decides v vs = Decides-contains vs v _ (Decides-by_or (λ u. same u v) (λ u. u ≡ v) (among v) (λ u. same_decides u v) refl (λ _ _. refl) vs)
