-- What stands in the lines of a job. Assumes nothing.
use Rattle.std.specs.Prelude.{ℕ, suc, cond, List, [], ◌∷◌, ◌++◌, ℤ, Some, None, Option}
use Rattle.std.specs.Option.{option_to_list}
use Rattle.kinds.specs.Lattices.{Values, not_least}
use Rattle.kinds.specs.Numbers.{Written}
use Rattle.grids.specs.declared.vectors.Vector.{Vector}
use Rattle.lines.specs.Numbers.{number_of}
use Rattle.lines.specs.declared.line.Line.{Line}
use Rattle.lines.specs.declared.numbers.Number.{Number}
use Rattle.lines.specs.declared.numbers.Number.TheVariants.{Natural}
use Rattle.lines.specs.declared.words.Word.{Word}
use Rattle.lines.specs.declared.words.Word.TheVariants.{Plat, Elem, Vect, Dead, Cell, Move, Last}
use Rattle.plans.specs.Drawings.{Drawing, Lists}
use Rattle.plans.specs.Modes.{mode_number}
use Rattle.plans.specs.declared.modes.Mode.{Mode}
use Rattle.plans.specs.declared.modes.Mode.TheVariants.{Strict, Weak, Independent, Strong}
use Rattle.jobs.specs.declared.orders.Order.{Order}

abbrev pub row : Word → Option Number → Option Number → Option Number → Option Number → Line
row word a b c d = record { word = word; one = a; two = b; three = c; four = d }

abbrev pub count : ℕ → Option Number
count n = Some (Natural n)

abbrev pub coordinate : ℤ → Option Number
coordinate z = Some (number_of z)

-- the lines of a job, word by word

abbrev pub plat_line : ℕ → Drawing → Line
plat_line code d = row Plat (count (mode_number d.mode)) (count d.width) (count d.height) (count code)

abbrev pub elem_line : ℕ → Line
elem_line i = row Elem (count i) None None None

abbrev pub vect_line : ℕ → Vector → Line
vect_line side v = row Vect (count side) (coordinate v.a) (coordinate v.b) (coordinate v.c)

abbrev pub dead_line : ℕ → Line
dead_line c = row Dead (count c) None None None

abbrev pub cell_line : ℕ → ℕ → Line
cell_line c n = row Cell (count c) (count n) None None

abbrev pub move_line : Order → Line
move_line o = row Move (count o.action) (count o.element) None None

abbrev pub last_line : Line
last_line = row Last None None None None

-- the lines of the items of a list that have one, in order; an item may know its place
abbrev pub listed : {X : Type 0} → (ℕ → X → Option Line) → ℕ → List X → List Line
listed line i [] = []
listed line i (x ∷ xs) = option_to_list (line i x) ++ listed line (suc i) xs

-- the number of the side of an element's first list; that of its second list is 2
abbrev pub first_side : Mode → ℕ
first_side Strict = 0
first_side Weak = 0
first_side Independent = 1
first_side Strong = 0

abbrev pub vect_entry : ℕ → ℕ → Vector → Option Line
vect_entry side i v = Some (vect_line side v)

abbrev pub dead_entry : ℕ → ℕ → Option Line
dead_entry i c = Some (dead_line c)

-- only a cell that is not least has a line
abbrev pub cell_entry : {V : Type 0} → Values V → Written V → ℕ → V → Option Line
cell_entry k w c x = cond (not_least k x) (Some (cell_line c (w.number x))) None

abbrev pub move_entry : ℕ → Order → Option Line
move_entry i o = Some (move_line o)

-- an element, its first list and its second
abbrev pub element_lines : Mode → ℕ → Lists → List Line
element_lines m i l = elem_line i ∷ (listed (vect_entry (first_side m)) 0 l.first ++ listed (vect_entry 2) 0 l.second)

abbrev pub elements_lines : Mode → ℕ → List Lists → List Line
elements_lines m i [] = []
elements_lines m i (l ∷ ls) = element_lines m i l ++ elements_lines m (suc i) ls
