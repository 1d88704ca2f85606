-- Where the cells of a row stand in a picture. Assumes nothing.
use Rattle.std.proofs.Common.{◌*◌, ◌/◌, ◌%◌, ◌≤◌, List, get_or, drop, pos, ap, ◌∙◌}
use native.Mathlib.Nat.{div-div-eq-div-mul}
use Rattle.std.proofs.lemmas.Nat.{mul-le, mod_below, div-add-mod'}
use Rattle.std.proofs.lemmas.List.{get_or-take, get_or-drop}
use Rattle.grids.specs.Cells.{Extent}
use Rattle.grids.specs.Extents.{Sized}
use Rattle.grids.specs.WideRows.{row_length, ByRows}

-- a cell stands in the row of its y
pub by_rows : {V : Type 0} (g : Extent) → Sized g → (a : List V) → ByRows g a
by_rows g s a = record {
  row = λ n lt. ap pos (div-div-eq-div-mul n g.sums g.width);
  value = λ n d lt.
      let long : 1 ≤ row_length g = mul-le 1 1 _ _ s.some_sums s.wide in
      get_or-take (row_length g) (drop (n / row_length g * row_length g) a) (n % row_length g) d (mod_below n (row_length g) long)
      ∙ get_or-drop (n / row_length g * row_length g) a (n % row_length g) d
      ∙ ap (λ i. get_or a i d) (div-add-mod' n (row_length g));
}
