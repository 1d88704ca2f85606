-- Pictures: a list with one value for each cell. Assumes nothing.
use Rattle.std.specs.Prelude.{◌≡◌, ℕ, ◌<◌, List, length, count_by, slice_index_or}
use Rattle.kinds.specs.Lattices.{Values, Under, not_least}

module _ {V : Type 0} (k : Values V) where
  -- the value at a cell
  abbrev pub at : List V → ℕ → V
  at a c = slice_index_or a c k.least

  -- one picture lies under another: the lengths agree and every cell does
  pub record Below (a b : List V) : Type 0 where
    pub lengths : length a ≡ length b
    pub cells : (c : ℕ) → c < length a → Under k (at a c) (at b c)

  -- how many cells are not least
  abbrev pub area : List V → ℕ
  area a = count_by (not_least k) a
