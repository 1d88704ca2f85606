-- How the value of a number is found: the number is narrowed, and the value made of it. Assumes nothing.
use Rattle.std.proofs.Common.{◌≡◌, ℕ, ◌<◌, Bool, true, false, ltb, Ok, Err, Some, None, Option, Result, MatchOption, ap, ◌∙◌, refl, arith, ltb-true}
use Rattle.std.specs.Option.{IsSomeAnd}
use Rattle.std.specs.Result.{OkIff, result_ok}
use Rattle.std.proofs.lemmas.Bool.{ltb-false}
use Rattle.kinds.specs.Numbers.{made_if, made_below}

module _ {V E : Type 0} (limit : ℕ) (make : (n : ℕ) → n < limit → V) (number : V → ℕ) (same : (n : ℕ) (fits : n < limit) (x : V) → number x ≡ n → x ≡ make n fits) where
  pub found : (n : ℕ) (narrowed : Result ℕ E) (r : Option V) → OkIff narrowed (n < limit) n → MatchOption (result_ok narrowed) (r ≡ None) (λ v. IsSomeAnd r (λ x. number x ≡ v)) → r ≡ made_below n limit (make n)
  found n = step (ltb n limit) refl
    where
      step : (b : Bool) (is : ltb n limit ≡ b) (narrowed : Result ℕ E) (r : Option V) → OkIff narrowed (n < limit) n → MatchOption (result_ok narrowed) (r ≡ None) (λ v. IsSomeAnd r (λ x. number x ≡ v)) → r ≡ made_if n limit (make n) b is
      step true is (Ok v) (Some x) h numbered = ap Some (same n _ x (numbered ∙ h.1))
      step true is (Ok v) None h numbered = absurd numbered
      step true is (Err e) r h numbered = absurd (h (ltb-true n limit is))
      step false is (Ok v) r h numbered = absurd (omega (arith, ltb-false n limit is, h.0))
      step false is (Err e) r h none = none
