-- The laws of levels. Assumes nothing.
use Rattle.std.specs.Prelude.{◌≡◌, ◌^◌, ◌<◌, refl}
use mathlib.Core.HLevel.{is_prop→PathP}
use Rattle.std.proofs.Common.{arith}
use Rattle.std.proofs.Math.Bridge.{le_prop}
use Rattle.std.proofs.lemmas.Bool.{leb-true, le-leb}
use Rattle.kinds.specs.Lattices.{Lawful}
use Rattle.kinds.specs.Numbers.{Numbered}
use Rattle.kinds.specs.Levels.{level, level_values, level_number, written_level}
use Rattle.kinds.specs.declared.values.Level.{Level}
use Rattle.kinds.specs.Made.{made, made_of}

-- a level is its number: the fact that it fits has one proof
pub same_level : (x y : Level) → x.value ≡ y.value → x ≡ y
same_level x y e = λ i. record { value = e i; fits = is_prop→PathP (λ j. e j < 2 ^ 8) (λ j. le_prop) x.fits y.fits i }

pub level_lawful : Lawful level_values
level_lawful = record {
  itself = λ x. le-leb _ _ (omega arith);
  equal = λ x y h i. same_level x y (omega (arith, leb-true _ _ h, leb-true _ _ i));
  chain = λ x y z h i. le-leb _ _ (omega (arith, leb-true _ _ h, leb-true _ _ i));
  join_left = λ x y. le-leb _ _ (omega arith);
  join_right = λ x y. le-leb _ _ (omega arith);
  join_lowest = λ x y z h i. le-leb _ _ (omega (arith, leb-true _ _ h, leb-true _ _ i));
  meet_left = λ x y. le-leb _ _ (omega arith);
  meet_right = λ x y. le-leb _ _ (omega arith);
  meet_highest = λ x y z h i. le-leb _ _ (omega (arith, leb-true _ _ h, leb-true _ _ i));
  least_under = λ x. le-leb _ _ (omega arith);
  greatest_over = λ x. le-leb _ _ (omega (arith, x.fits));
}

pub level_numbered : Numbered level_values written_level
level_numbered = record {
  restored = λ x. made 256 level x.value x x.fits (λ fits. same_level _ x refl);
  named = made_of 256 level level_number (λ n fits. refl);
  least_is_zero = refl;
  some_code = omega arith;
  few_codes = omega arith;
  few_numbers = λ x. omega (arith, x.fits);
}
