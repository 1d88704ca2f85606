-- Values that are made of a number below a limit. Assumes nothing.
use Rattle.std.specs.Prelude.{◌≡◌, ℕ, ◌<◌, Bool, true, false, ltb, Some, nat_lt, refl}
use Rattle.std.proofs.Common.{sym, ap, ◌∙◌, arith, ltb-true}
use Rattle.std.proofs.lemmas.Bool.{ltb-false}
use Rattle.kinds.specs.Numbers.{made_if, made_below}

module _ {V : Type 0} (limit : ℕ) (make : (n : ℕ) → n < limit → V) where
  -- a number below the limit has a value, whichever proof says that it is below
  pub made : (n : ℕ) (x : V) → n < limit → ((fits : n < limit) → make n fits ≡ x) → made_below n limit (make n) ≡ Some x
  made n x below same = step (nat_lt n limit) refl
    where
      step : (b : Bool) (is : ltb n limit ≡ b) → made_if n limit (make n) b is ≡ Some x
      step true is = ap Some (same _)
      step false is = absurd (omega (arith, ltb-false n limit is))

  -- the number of a value that was made is the number it was made of
  pub made_of : (number : V → ℕ) → ((n : ℕ) (fits : n < limit) → number (make n fits) ≡ n) → (n : ℕ) (x : V) → made_below n limit (make n) ≡ Some x → number x ≡ n
  made_of number numbered n x = step (nat_lt n limit) refl
    where
      step : (b : Bool) (is : ltb n limit ≡ b) → made_if n limit (make n) b is ≡ Some x → number x ≡ n
      step true is h =
          let fits : n < limit = ltb-true n limit is in
          let same : make n fits ≡ x = cc in
          ap number (sym same) ∙ numbered n fits
      step false is h = cc
