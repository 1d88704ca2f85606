-- Touch: whether rubber touches a cell. Assumes nothing.
use Rattle.std.specs.Prelude.{ℕ, zero, suc, Bool, true, false, Some, None, Option}
use Rattle.kinds.specs.Lattices.{Values}
use Rattle.kinds.specs.Numbers.{Written}
use Rattle.kinds.specs.declared.values.Touch.{Touch}
use Rattle.kinds.specs.declared.values.Touch.TheVariants.{No, Yes}

abbrev pub either : Touch → Touch → Touch
either No y = y
either Yes y = Yes

abbrev pub both : Touch → Touch → Touch
both No y = No
both Yes y = y

-- no lies under yes
abbrev pub touch_under : Touch → Touch → Bool
touch_under No y = true
touch_under Yes No = false
touch_under Yes Yes = true

abbrev pub touch_values : Values Touch
touch_values = record { least = No; greatest = Yes; join = either; meet = both; under = touch_under }

abbrev pub touch_number : Touch → ℕ
touch_number No = 0
touch_number Yes = 1

abbrev pub touch_of : ℕ → Option Touch
touch_of zero = Some No
touch_of (suc zero) = Some Yes
touch_of (suc (suc n)) = None

abbrev pub written_touch : Written Touch
written_touch = record { code = 1; number = touch_number; value = touch_of }
