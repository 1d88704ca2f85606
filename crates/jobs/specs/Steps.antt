-- A reader and what one line more makes of it. Assumes nothing.
use Rattle.std.specs.Prelude.{ℕ, ◌-◌, Bool, false, cond, not, ◌&&◌, List, [], ◌∷◌, ◌++◌, length, ℤ, pos, neg_ℤ, Some, None, Ok, Err, Option, Result, ◌==◌, nat_le, nat_lt, slice_index_or}
use Rattle.kinds.specs.Lattices.{Values}
use Rattle.kinds.specs.Numbers.{Written}
use Rattle.grids.specs.declared.vectors.Vector.{Vector}
use Rattle.lines.specs.Lines.{then, word_in, fields_of}
use Rattle.lines.specs.Numbers.{no_number, one_number, two_numbers, four_numbers}
use Rattle.lines.specs.declared.faults.LineFault.TheVariants as line
use Rattle.lines.specs.declared.line.Line.{Line}
use Rattle.lines.specs.declared.numbers.Number.{Number}
use Rattle.lines.specs.declared.numbers.Number.TheVariants.{Natural, Below}
use Rattle.lines.specs.declared.words.Word.{Word}
use Rattle.lines.specs.declared.words.Word.TheVariants.{Plat, Elem, Vect, Dead, Cell, Move, Last, Done, Area, Wide, Stop}
use Rattle.plans.specs.Drawings.{Drawing, Lists, blank}
use Rattle.plans.specs.Fitting.{element_answer, vector_answer}
use Rattle.plans.specs.Plans.{Design, cells_in, element_added, vector_added, dead_answer, dead_added}
use Rattle.plans.specs.Vectors.{vector}
use Rattle.jobs.specs.Entries.{first_side}
use Rattle.jobs.specs.Heads.{must, of_line, of_plan, natural, none}
use Rattle.jobs.specs.Jobs.{Job, padded, fair_order}
use Rattle.jobs.specs.declared.faults.FileFault.{FileFault}
use Rattle.jobs.specs.declared.faults.FileFault.TheVariants as fault
use Rattle.jobs.specs.declared.orders.Order.{Order}
use Rattle.jobs.specs.declared.sections.Section.{Section}
use Rattle.jobs.specs.declared.sections.Section.TheVariants as section

-- A job so far, and the section of the file that the last line stood in. Its picture ends at the last cell that has a line.
pub record Draft (V : Type 0) : Type 0 where
  pub section : Section
  pub job : Job V

-- the sections in their order
abbrev pub place : Section → ℕ
place section.Plan = 0
place section.Elements = 1
place section.Dead = 2
place section.Cells = 3
place section.Moves = 4
place section.Last = 5

-- whether a word may follow: none leads back to an earlier section, and a vector stands in an element
abbrev pub opens : Section → Word → Bool
opens s Plat = false
opens s Elem = nat_le (place s) 1
opens s Vect = place s == 1
opens s Dead = nat_le (place s) 2
opens s Cell = nat_le (place s) 3
opens s Move = nat_le (place s) 4
opens s Last = nat_le (place s) 4
opens s Done = false
opens s Area = false
opens s Wide = false
opens s Stop = false

abbrev pub whole_number : Number → ℤ
whole_number (Natural n) = pos n
whole_number (Below n) = neg_ℤ (pos n)

-- the newest element
abbrev pub newest : List Lists → Lists
newest ls = slice_index_or ls (length ls - 1) blank

-- a vector of the first list after one of the second; only the independent mode has a second list, so this is side 1 after side 2
abbrev pub late : Drawing → ℕ → Bool
late d side = side == first_side d.mode && not (none (newest d.elements).second)

module _ {V : Type 0} where
  -- a draft in a section, with another plan
  abbrev pub drafted : Section → Job V → Design → Result (Draft V) FileFault
  drafted s j d = Ok (record { section = s; job = record { design = d; picture = j.picture; orders = j.orders } })

  -- ELEM: the next number
  abbrev pub element_more : Job V → ℕ → Result (Draft V) FileFault
  element_more j n =
      must (n == length j.design.drawing.elements) fault.Number
      (then (of_plan (element_answer j.design.drawing)) (λ _. drafted section.Elements j (element_added j.design)))

  -- VECT: a vector for the newest element
  abbrev pub vector_more : Job V → ℕ → Vector → Result (Draft V) FileFault
  vector_more j side v =
      let e : ℕ = length j.design.drawing.elements - 1 in
      cond (late j.design.drawing side) (Err fault.Sequence)
      (then (of_plan (vector_answer j.design.drawing e side v)) (λ _. drafted section.Elements j (vector_added j.design e side v)))

  -- DEAD: one cell more
  abbrev pub dead_more : Job V → ℕ → Result (Draft V) FileFault
  dead_more j c = then (of_plan (dead_answer j.design c)) (λ _. drafted section.Dead j (dead_added j.design c))

  -- MOVE: there is room for so many
  abbrev pub move_more : ℕ → Job V → Order → Result (Draft V) FileFault
  move_more room j o =
      must (fair_order o) fault.Number
      (must (nat_lt (length j.orders) room) fault.Moves
      (Ok (record { section = section.Moves; job = record { design = j.design; picture = j.picture; orders = j.orders ++ (o ∷ []) } })))

  -- where no byte is left, LAST has been read
  abbrev pub end_by : Section → Draft V → Result (Draft V) FileFault
  end_by section.Plan s = Err fault.NoLast
  end_by section.Elements s = Err fault.NoLast
  end_by section.Dead s = Err fault.NoLast
  end_by section.Cells s = Err fault.NoLast
  end_by section.Moves s = Err fault.NoLast
  end_by section.Last s = Ok s

  module _ (k : Values V) (w : Written V) where
    -- CELL: a cell above the last one; those between are least
    abbrev pub valued : Job V → ℕ → Option V → Result (Draft V) FileFault
    valued j c None = Err fault.Number
    valued j c (Some x) =
        must (nat_le (length j.picture) c) fault.Sequence
        (Ok (record { section = section.Cells; job = record { design = j.design; picture = padded k c j.picture ++ (x ∷ []); orders = j.orders } }))

    -- the number of the value is not 0, which is that of the least value
    abbrev pub cell_more : Job V → ℕ → ℕ → Result (Draft V) FileFault
    cell_more j c n = must (nat_lt c (cells_in j.design) && nat_lt 0 n) fault.Number (valued j c (w.value n))

    module _ (room : ℕ) where
      -- what a line makes of a job, where its word may follow; the fields are judged before the numbers
      abbrev pub more : Job V → Word → Line → Result (Draft V) FileFault
      more j Plat l = Err (fault.Line line.Word)
      more j Elem l = then (of_line (one_number l)) (λ x. then (natural x) (λ n. element_more j n))
      more j Vect l =
          then (of_line (four_numbers l)) (λ x. then (natural x.0) (λ side. vector_more j side (vector (whole_number x.1) (whole_number x.2) (whole_number x.3))))
      more j Dead l = then (of_line (one_number l)) (λ x. then (natural x) (λ c. dead_more j c))
      more j Cell l = then (of_line (two_numbers l)) (λ x. then (natural x.0) (λ c. then (natural x.1) (λ n. cell_more j c n)))
      more j Move l =
          then (of_line (two_numbers l)) (λ x. then (natural x.0) (λ m. then (natural x.1) (λ e. move_more room j (record { action = m; element = e }))))
      more j Last l = then (of_line (no_number l)) (λ _. drafted section.Last j j.design)
      more j Done l = Err (fault.Line line.Word)
      more j Area l = Err (fault.Line line.Word)
      more j Wide l = Err (fault.Line line.Word)
      more j Stop l = Err (fault.Line line.Word)

      -- the next line of the bytes: its word, whether that may follow, its fields, its numbers
      abbrev pub line_more : Draft V → List ℕ → Result (Draft V) FileFault
      line_more s bs = then (of_line (word_in bs)) (λ word. must (opens s.section word) (fault.Line line.Word) (then (of_line (fields_of word bs)) (more s.job word)))

      -- after LAST no byte may stand
      abbrev pub next_by : Section → Draft V → List ℕ → Result (Draft V) FileFault
      next_by section.Plan s bs = line_more s bs
      next_by section.Elements s bs = line_more s bs
      next_by section.Dead s bs = line_more s bs
      next_by section.Cells s bs = line_more s bs
      next_by section.Moves s bs = line_more s bs
      next_by section.Last s bs = Err fault.AfterLast
