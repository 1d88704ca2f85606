-- Writing a job: what is refused, and what the output holds afterwards. Assumes nothing.
use Rattle.std.specs.Prelude.{◌≡◌, ℕ, ◌+◌, ◌*◌, ◌≤◌, List, ◌++◌, map, length, drop, Ok, Err, Option, Result, ◌==◌, nat_le, slice_index_or}
use Rattle.std.specs.Iterator.{AlwaysYields}
use Rattle.std.specs.List.{flat_map, slice_get}
use Rattle.std.specs.Option.{option_map}
use Rattle.kinds.specs.Lattices.{Values}
use Rattle.kinds.specs.Numbers.{Written}
use Rattle.morphology.specs.declared.words.Record.{Record}
use Rattle.lines.specs.Lines.{line_bytes}
use Rattle.lines.specs.declared.line.Line.{Line}
use Rattle.lines.specs.declared.numbers.Number.TheVariants.{Natural}
use Rattle.lines.specs.declared.words.Word.{Word}
use Rattle.plans.specs.Drawings.{blank}
use Rattle.plans.specs.Plans.{Design, cells_in}
use Rattle.jobs.specs.Entries.{element_lines, elements_lines, row}
use Rattle.jobs.specs.Files.{decode}
use Rattle.jobs.specs.Heads.{must}
use Rattle.jobs.specs.Jobs.{Job, all_fair, job_lines, encode}
use Rattle.jobs.specs.declared.faults.WriteFault.{WriteFault}
use Rattle.jobs.specs.declared.faults.WriteFault.TheVariants as fault
use Rattle.jobs.specs.declared.orders.Order.{Order}

-- a word and natural numbers in the first fields; the others are blank
abbrev pub counts : Word → List ℕ → Line
counts word ns = row word (option_map Natural (slice_get ns 0)) (option_map Natural (slice_get ns 1)) (option_map Natural (slice_get ns 2)) (option_map Natural (slice_get ns 3))

-- the place after a line that begins at a place
abbrev pub place_after : ℕ → ℕ
place_after at = at + 29

-- some bytes with lines written over the first of them; a line has 29 bytes, and the others stay
abbrev pub with_lines : List ℕ → List Line → List ℕ
with_lines out ls = flat_map line_bytes ls ++ drop (29 * length ls) out

-- whatever calls are made of an iterator, it gives these lines and then no more
pub record Gives {S : Type 0} (steps : S → Option Line → S → Type 0) (s : S) (ls : List Line) : Type 0 where
  pub always : AlwaysYields steps (λ l. l) s ls

-- the lines of one element of a plan, and of all its elements
abbrev pub lines_of_element : Design → ℕ → List Line
lines_of_element d e = element_lines d.drawing.mode e (slice_index_or d.drawing.elements e blank)

abbrev pub lines_of_elements : Design → List Line
lines_of_elements d = elements_lines d.drawing.mode 0 d.drawing.elements

-- the move and the element that a record asks for; what it was answered is not written
abbrev pub asked : Record → Order
asked r = record { action = r.action; element = r.element }

-- the job that a plan, a picture and records make
abbrev pub job_of : {V : Type 0} → Design → List V → List Record → Job V
job_of d picture records = record { design = d; picture = picture; orders = map asked records }

-- The number of bytes written. Refused is, in this order, a picture that has not one value for each cell, a record that no file can
-- carry, and an output that has not 29 bytes for each line.
abbrev pub write_answer : {V : Type 0} → Values V → Written V → Job V → ℕ → Result ℕ WriteFault
write_answer k w j long =
    must (length j.picture == cells_in j.design) fault.PictureLength
    (must (all_fair j.orders) fault.Record
    (must (nat_le (29 * length (job_lines k w j)) long) fault.Output (Ok (29 * length (job_lines k w j)))))

-- what the output holds after an answer: the text and then what stood behind it, or what stood there where nothing was written
abbrev pub output_after : Result ℕ WriteFault → List ℕ → List ℕ → List ℕ
output_after (Ok n) text out = text ++ drop n out
output_after (Err f) text out = out

-- the bytes of a job are read as that job, wherever there are records for its moves
abbrev pub ReadsBack : {V : Type 0} → Values V → Written V → Job V → Type 0
ReadsBack k w j = (room : ℕ) → length j.orders ≤ room → decode k w (length j.picture) room (encode k w j) ≡ Ok j
