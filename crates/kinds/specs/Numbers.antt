-- How the values of a kind are written as numbers. Assumes nothing.
use Rattle.std.specs.Prelude.{◌≡◌, ℕ, ◌<◌, ◌≤◌, Bool, true, false, Some, None, Option, nat_lt, refl}
use Rattle.std.proofs.Common.{ltb-true}
use Rattle.kinds.specs.Lattices.{Values}

-- the code of the kind, the number of each value, and the value of a number or none
pub record Written (V : Type 0) : Type 0 where
  pub code : ℕ
  pub number : V → ℕ
  pub value : ℕ → Option V

-- The laws of every written kind. A value and its number fix each other.
pub record Numbered {V : Type 0} (k : Values V) (w : Written V) : Type 0 where
  pub restored : (x : V) → w.value (w.number x) ≡ Some x
  pub named : (n : ℕ) (x : V) → w.value n ≡ Some x → w.number x ≡ n
  -- the least value is number 0
  pub least_is_zero : w.number k.least ≡ 0
  -- codes run from 1 to 3, numbers up to 65,535
  pub some_code : 1 ≤ w.code
  pub few_codes : w.code ≤ 3
  pub few_numbers : (x : V) → w.number x < 65536

-- the value that is made of a number below the limit; none for any other number
abbrev pub made_if : {V : Type 0} (n limit : ℕ) → (n < limit → V) → (b : Bool) → nat_lt n limit ≡ b → Option V
made_if n limit make true is = Some (make (ltb-true n limit is))
made_if n limit make false is = None

abbrev pub made_below : {V : Type 0} (n limit : ℕ) → (n < limit → V) → Option V
made_below n limit make = made_if n limit make (nat_lt n limit) refl
