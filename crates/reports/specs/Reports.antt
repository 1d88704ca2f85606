-- The report on a file: from bytes to bytes. Assumes nothing.
use Rattle.std.specs.Prelude.{◌≡◌, ℕ, List, [], ◌∷◌, ◌++◌, map, length, Some, None, Ok, Err, vec_items, Option, Result, nat_le}
use Rattle.std.specs.List.{flat_map}
use Rattle.kinds.specs.FrameSets.{frames_values, written_frames}
use Rattle.kinds.specs.Lattices.{Values}
use Rattle.kinds.specs.Levels.{level_values, written_level}
use Rattle.kinds.specs.Numbers.{Written}
use Rattle.kinds.specs.Touches.{touch_values, written_touch}
use Rattle.morphology.specs.Histories.{end}
use Rattle.morphology.specs.Pictures.{area}
use Rattle.morphology.specs.Runs.{calls, ran}
use Rattle.morphology.specs.declared.words.Record.{Record}
use Rattle.grids.specs.Cells.{Extent}
use Rattle.grids.specs.WideRows.{row_counts, widest_of}
use Rattle.grids.specs.declared.rows.Row.{Row}
use Rattle.plans.specs.Drawings.{extent_in}
use Rattle.plans.specs.Plans.{plate_of}
use Rattle.lines.specs.Lines.{then, line_bytes}
use Rattle.lines.specs.declared.line.Line.{Line}
use Rattle.lines.specs.declared.words.Word.TheVariants as word
use Rattle.jobs.specs.Entries.{row, count, listed, cell_entry, last_line}
use Rattle.jobs.specs.Faults.{file_fault_number, inner_number}
use Rattle.jobs.specs.Files.{decode}
use Rattle.jobs.specs.Heads.{must, measured}
use Rattle.jobs.specs.Jobs.{Job}
use Rattle.jobs.specs.declared.faults.FileFault.TheVariants as fault
use Rattle.jobs.specs.declared.faults.Stop.{Stop}
use Rattle.jobs.specs.declared.heads.CellKind.{CellKind}
use Rattle.jobs.specs.declared.heads.CellKind.TheVariants.{Touch, Level, Frames}
use Rattle.jobs.specs.declared.heads.Head.{Head}
use Rattle.readers.specs.Reading.{fresh}
use Rattle.readers.specs.declared.faults.NoJob.{NoJob}
use Rattle.readers.specs.declared.faults.NoJob.TheVariants.{Refused, Memory}
use Rattle.std.specs.declared.vec.Vec.{Vec}

-- the lines of a report, word by word

abbrev pub done_line : Record → Line
done_line r = row word.Done (count r.action) (count r.element) (count r.answer) (count r.area)

abbrev pub done_entry : ℕ → Record → Option Line
done_entry i r = Some (done_line r)

abbrev pub area_line : ℕ → Line
area_line n = row word.Area (count n) None None None

-- the widest row and its count, or spaces where every cell is least
abbrev pub wide_line : Option Row → Line
wide_line None = row word.Wide None None None None
wide_line (Some r) = row word.Wide (count r.y) (count r.count) None None

abbrev pub stop_line : Stop → Line
stop_line s = row word.Stop (count (file_fault_number s.fault)) (count s.line) (count (inner_number s.fault)) None

-- the program takes 65,536 bytes, and has a record for each MOVE line that they can hold between PLAT and LAST
abbrev pub most_bytes : ℕ
most_bytes = 65536

abbrev pub most_moves : ℕ
most_moves = 2257

module _ {V : Type 0} (k : Values V) (w : Written V) where
  -- what is told of the records and the picture after a run: each record, the cells that are not least, their number, the widest row
  abbrev pub run_lines : Extent → List Record → List V → List Line
  run_lines g rs b =
      listed done_entry 0 rs
      ++ (listed (cell_entry k w) 0 b ++ (area_line (area k b) ∷ (wide_line (widest_of (row_counts k g b)) ∷ (last_line ∷ []))))

  -- the records of a job, and its picture, after its moves
  abbrev pub worked_records : Job V → List Record
  worked_records j = ran k (plate_of j.design) (length j.picture) j.picture (map fresh j.orders)

  abbrev pub worked_picture : Job V → List V
  worked_picture j = end k (plate_of j.design) (calls (length j.picture) (map fresh j.orders)) j.picture

  abbrev pub job_told : Job V → List Line
  job_told j = run_lines (extent_in j.design.drawing) (worked_records j) (worked_picture j)

  -- the lines on a file of that kind whose plan has so many cells, or why there are none
  abbrev pub kind_told : List ℕ → ℕ → Result (List Line) Stop
  kind_told bs cells = then (decode k w cells most_moves bs) (λ j. Ok (job_told j))

-- by the kind
abbrev pub told_by : CellKind → List ℕ → ℕ → Result (List Line) Stop
told_by Touch = kind_told touch_values written_touch
told_by Level = kind_told level_values written_level
told_by Frames = kind_told frames_values written_frames

abbrev pub head_told : List ℕ → Head → Result (List Line) Stop
head_told bs h = told_by h.kind bs h.cells

-- too many bytes are refused before all else
abbrev pub told : List ℕ → Result (List Line) Stop
told bs = must (nat_le (length bs) most_bytes) (record { fault = fault.TooLong; line = 0 }) (then (measured bs) (head_told bs))

-- after a refusal only STOP
abbrev pub lines_told : Result (List Line) Stop → List Line
lines_told (Ok ls) = ls
lines_told (Err s) = stop_line s ∷ []

-- the bytes of the report
abbrev pub reported : List ℕ → List ℕ
reported bs = flat_map line_bytes (lines_told (told bs))

-- the text of some lines, or why there are none; memory may be wanting at any time
abbrev pub Tells : {A : Type 0} → Result (List Line) Stop → Result (Vec ℕ A) NoJob → Type 0
Tells found (Ok t) = (ls : List Line) × (found ≡ Ok ls) × (vec_items t ≡ flat_map line_bytes ls)
Tells found (Err (Refused s)) = found ≡ Err s
Tells found (Err Memory) = Unit {0}
