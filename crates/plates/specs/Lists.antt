-- Words on lists of cells. Assumes nothing.
use Rattle.std.specs.Prelude.{ℕ, Bool, List, ◌==◌, nat_lt}
use Rattle.std.specs.List.{list_all, list_any}

-- whether a cell stands in a list
abbrev pub among : ℕ → List ℕ → Bool
among x cells = list_any (λ y. y == x) cells

-- whether every cell of a list is below n
abbrev pub below : ℕ → List ℕ → Bool
below n cells = list_all (λ x. nat_lt x n) cells
