-- The modes of a plan: which plate, which lists, which vectors. Assumes nothing.
use Rattle.std.specs.Prelude.{ℕ, zero, suc, Bool, false, ◌||◌, ℤ, pos, negsuc, Some, None, Option, ◌==◌}
use Rattle.grids.specs.Places.{is_sum}
use Rattle.grids.specs.declared.places.Movers.{Movers}
use Rattle.grids.specs.declared.places.Movers.TheVariants.{Every, Even}
use Rattle.grids.specs.declared.shapes.Form.{Form}
use Rattle.grids.specs.declared.shapes.Form.TheVariants.{Flat, Stack}
use Rattle.plans.specs.declared.modes.Mode.{Mode}
use Rattle.plans.specs.declared.modes.Mode.TheVariants.{Strict, Weak, Independent, Strong}
use Rattle.plans.specs.declared.modes.Side.{Side}
use Rattle.plans.specs.declared.modes.Side.TheVariants.{First, Second}

-- the mode with a number, or none
abbrev pub mode_of : ℕ → Option Mode
mode_of zero = None
mode_of (suc zero) = Some Strict
mode_of (suc (suc zero)) = Some Weak
mode_of (suc (suc (suc zero))) = Some Independent
mode_of (suc (suc (suc (suc zero)))) = Some Strong
mode_of (suc (suc (suc (suc (suc n))))) = None

-- the number of a mode
abbrev pub mode_number : Mode → ℕ
mode_number Strict = 1
mode_number Weak = 2
mode_number Independent = 3
mode_number Strong = 4

-- only the strong mode has the stack plate
abbrev pub form_of : Mode → Form
form_of Strict = Flat
form_of Weak = Flat
form_of Independent = Flat
form_of Strong = Stack

-- the list that the number of a side means: side 0 is the one list of an element, but in the independent mode sides 1 and 2 are two
abbrev pub only_side : ℕ → Option Side
only_side zero = Some First
only_side (suc n) = None

abbrev pub either_side : ℕ → Option Side
either_side zero = None
either_side (suc zero) = Some First
either_side (suc (suc zero)) = Some Second
either_side (suc (suc (suc n))) = None

abbrev pub side_of : Mode → ℕ → Option Side
side_of Strict n = only_side n
side_of Weak n = only_side n
side_of Independent n = either_side n
side_of Strong n = only_side n

-- in the independent mode the first list, side 1, moves the even cells alone
abbrev pub first_movers : Mode → Movers
first_movers Strict = Every
first_movers Weak = Every
first_movers Independent = Even
first_movers Strong = Every

abbrev pub is_minus_one : ℤ → Bool
is_minus_one (pos n) = false
is_minus_one (negsuc n) = n == 0

-- the sums of the vectors that a list takes; only the independent mode has a second list
abbrev pub allowed : Mode → Side → ℤ → Bool
allowed Strict First s = is_sum 0 s
allowed Strict Second s = false
allowed Weak First s = is_sum 0 s || is_sum 1 s
allowed Weak Second s = false
allowed Independent First s = is_sum 0 s || is_sum 1 s
allowed Independent Second s = is_sum 0 s || is_minus_one s
allowed Strong First s = is_minus_one s || (is_sum 0 s || is_sum 1 s)
allowed Strong Second s = false
