-- Lists of vectors. Assumes nothing.
use Rattle.std.specs.Prelude.{Bool, true, not, ◌&&◌, List, [], ◌∷◌, ℤ, nat_le, unsigned_abs}
use Rattle.std.specs.List.{list_all}
use Rattle.grids.specs.Vectors.{among}
use Rattle.grids.specs.declared.vectors.Vector.{Vector}

abbrev pub vector : ℤ → ℤ → ℤ → Vector
vector a b c = record { a = a; b = b; c = c }

-- coordinates go from -63 to 63
abbrev pub is_coordinate : ℤ → Bool
is_coordinate z = nat_le (unsigned_abs z) 63

abbrev pub near : Vector → Bool
near v = is_coordinate v.a && (is_coordinate v.b && is_coordinate v.c)

-- no vector stands twice in a list
abbrev pub different : List Vector → Bool
different [] = true
different (v ∷ vs) = not (among v vs) && different vs

-- a test that every vector of a list passes
abbrev pub every : (Vector → Bool) → List Vector → Bool
every test vs = list_all test vs
