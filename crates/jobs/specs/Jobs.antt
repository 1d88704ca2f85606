-- A job, the lines that it is written as, and which jobs can be written. Assumes nothing.
use Rattle.std.specs.Prelude.{◌≡◌, ℕ, ◌-◌, Bool, true, ◌&&◌, List, [], ◌∷◌, ◌++◌, length, take, replicate, nat_le}
use Rattle.std.specs.List.{flat_map, list_all}
use Rattle.kinds.specs.Lattices.{Values}
use Rattle.kinds.specs.Numbers.{Written}
use Rattle.lines.specs.Lines.{line_bytes}
use Rattle.lines.specs.declared.line.Line.{Line}
use Rattle.plans.specs.Plans.{Design, cells_in}
use Rattle.plans.specs.LawfulDesigns.{LawfulDesign}
use Rattle.jobs.specs.Entries.{plat_line, elements_lines, dead_entry, cell_entry, move_entry, last_line, listed}
use Rattle.jobs.specs.declared.orders.Order.{Order}

-- a plan, a footprint, and moves with their elements
pub record Job (V : Type 0) : Type 0 where
  pub design : Design
  pub picture : List V
  pub orders : List Order

-- the first n cells, the missing ones least
abbrev pub padded : {V : Type 0} → Values V → ℕ → List V → List V
padded k n a = take n a ++ replicate (n - length a) k.least

-- the moves that a file can carry: 1 to 4, by an element up to 99
abbrev pub fair_order : Order → Bool
fair_order o = nat_le 1 o.action && (nat_le o.action 4 && nat_le o.element 99)

abbrev pub all_fair : List Order → Bool
all_fair = list_all fair_order

-- a job that can be written
pub record LawfulJob {V : Type 0} (j : Job V) : Type 0 where
  pub design : LawfulDesign j.design
  pub picture : length j.picture ≡ cells_in j.design
  pub orders : all_fair j.orders ≡ true

module _ {V : Type 0} (k : Values V) (w : Written V) where
  -- the plan, the elements with their vectors, the dead cells, the cells that are not least, the moves
  abbrev pub body_lines : Job V → List Line
  body_lines j =
      plat_line w.code j.design.drawing
      ∷ (elements_lines j.design.drawing.mode 0 j.design.drawing.elements
      ++ (listed dead_entry 0 j.design.dead ++ (listed (cell_entry k w) 0 j.picture ++ listed move_entry 0 j.orders)))

  abbrev pub job_lines : Job V → List Line
  job_lines j = body_lines j ++ (last_line ∷ [])

  -- the bytes of a job
  unfoldable pub encode : Job V → List ℕ
  encode j = flat_map line_bytes (job_lines j)
