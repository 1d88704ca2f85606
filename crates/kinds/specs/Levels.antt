-- Level: how hard rubber presses on a cell, 0 to 255, by size. Assumes nothing.
use Rattle.std.specs.Prelude.{ℕ, ◌^◌, ◌<◌, min, max, Bool, Option, nat_le}
use Rattle.std.proofs.Common.{arith, lit<}
use Rattle.kinds.specs.Lattices.{Values}
use Rattle.kinds.specs.Numbers.{Written, made_below}
use Rattle.kinds.specs.declared.values.Level.{Level}

abbrev pub level : (n : ℕ) → n < 2 ^ 8 → Level
level n fits = record { value = n; fits = fits }

abbrev pub higher : Level → Level → Level
higher x y = level (max x.value y.value) (omega arith)

abbrev pub lower : Level → Level → Level
lower x y = level (min x.value y.value) (omega arith)

abbrev pub level_under : Level → Level → Bool
level_under x y = nat_le x.value y.value

abbrev pub level_values : Values Level
level_values = record { least = level 0 (lit< tt); greatest = level 255 (lit< tt); join = higher; meet = lower; under = level_under }

-- a level is its own number
abbrev pub level_number : Level → ℕ
level_number x = x.value

abbrev pub level_of : ℕ → Option Level
level_of n = made_below n 256 (level n)

abbrev pub written_level : Written Level
written_level = record { code = 2; number = level_number; value = level_of }
