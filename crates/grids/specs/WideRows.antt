-- The widest row of a picture on a grid plate. Assumes nothing.
use Rattle.std.specs.Prelude.{◌≡◌, ℕ, suc, ◌*◌, ◌/◌, ◌%◌, ◌<◌, ◌≤◌, max, cond, List, [], ◌∷◌, map, length, take, drop, pos, Some, None, Ok, Err, Option, Result, ◌==◌, nat_lt, slice_index_or}
use Rattle.std.specs.List.{range_with_len}
use Rattle.std.specs.Option.{option_map_or}
use Rattle.kinds.specs.Lattices.{Values}
use Rattle.morphology.specs.Pictures.{area}
use Rattle.grids.specs.declared.rows.Row.{Row}
use Rattle.grids.specs.declared.rows.RowFault.{RowFault}
use Rattle.grids.specs.declared.rows.RowFault.TheVariants.{PictureLength}
use Rattle.grids.specs.Cells.{Extent, cell_count, cell_at}

abbrev pub row_fault_number : RowFault → ℕ
row_fault_number PictureLength = 21

-- the cells of a row stand together
abbrev pub row_length : Extent → ℕ
row_length g = g.sums * g.width

abbrev pub row_of : {V : Type 0} → Extent → List V → ℕ → List V
row_of g a y = take (row_length g) (drop (y * row_length g) a)

-- the row lists of a picture hold the cells by their coordinate y
pub record ByRows {V : Type 0} (g : Extent) (a : List V) : Type 0 where
  pub row : (n : ℕ) → n < cell_count g → (cell_at g n).y ≡ pos (n / row_length g)
  pub value : (n : ℕ) (d : V) → n < cell_count g → slice_index_or (row_of g a (n / row_length g)) (n % row_length g) d ≡ slice_index_or a n d

-- how many cells of a row are not least
abbrev pub row_count : {V : Type 0} → Values V → Extent → List V → ℕ → ℕ
row_count k g a y = area k (row_of g a y)

abbrev pub row_counts : {V : Type 0} → Values V → Extent → List V → List ℕ
row_counts k g a = map (row_count k g a) (range_with_len 0 g.height)

-- the largest of some numbers, and the first place at which n stands among them
abbrev pub most : List ℕ → ℕ
most [] = 0
most (n ∷ ns) = max n (most ns)

abbrev pub first_at : ℕ → List ℕ → ℕ
first_at n [] = 0
first_at n (x ∷ xs) = cond (x == n) 0 (suc (first_at n xs))

-- the row with the most such cells, the lowest among equals; none where there is no such cell
abbrev pub widest_of : List ℕ → Option Row
widest_of ns = cond (most ns == 0) None (Some (record { y = first_at (most ns) ns; count = most ns }))

abbrev pub widest_row : {V : Type 0} → Values V → Extent → List V → Result (Option Row) RowFault
widest_row k g a = cond (length a == cell_count g) (Ok (widest_of (row_counts k g a))) (Err PictureLength)

-- of some rows with these counts this one has the most, and the rows before it have fewer
pub record IsWidest (rows : ℕ) (count : ℕ → ℕ) (r : Row) : Type 0 where
  pub within : r.y < rows
  pub counted : r.count ≡ count r.y
  pub some : 1 ≤ r.count
  pub most : (y : ℕ) → y < rows → count y ≤ r.count
  pub first : (y : ℕ) → y < r.y → count y < r.count

-- the same of an answer; without a row every count is 0
abbrev pub Widest : ℕ → (ℕ → ℕ) → Option Row → Type 0
Widest rows count None = (y : ℕ) → y < rows → count y ≡ 0
Widest rows count (Some r) = IsWidest rows count r

-- the wider of a best row so far and one more: the new row only if it has more
abbrev pub wider : Option Row → Row → Option Row
wider best r = cond (nat_lt (option_map_or (λ b. b.count) best 0) r.count) (Some r) best
