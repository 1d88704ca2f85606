-- When two vectors are the same, and whether a vector stands in a list. Assumes nothing.
use Rattle.std.specs.Prelude.{Bool, ◌&&◌, List}
use Rattle.std.specs.List.{list_any}
use Rattle.std.specs.Ordering.{int_eq}
use Rattle.grids.specs.declared.vectors.Vector.{Vector}

-- the three coordinates agree
abbrev pub same : Vector → Vector → Bool
same u v = int_eq u.a v.a && (int_eq u.b v.b && int_eq u.c v.c)

abbrev pub among : Vector → List Vector → Bool
among v vs = list_any (λ u. same u v) vs
