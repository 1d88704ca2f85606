-- The numbers that are due. Assumes nothing.
use Rattle.std.proofs.Common.{◌≡◌, ℕ, zero, suc, ◌<◌, true, false, List, [], ◌∷◌, length, get_or, take, drop, Some, None, Ok, Err, IfOk, IfErr, Option, Result, sym, ap, arith}
use Rattle.std.proofs.lemmas.List.{get_or-take, length-take}
use Rattle.std.specs.List.{list_any}
use Rattle.std.specs.Option.{is_some}
use Rattle.lines.specs.declared.faults.LineFault.{LineFault}
use Rattle.lines.specs.declared.faults.LineFault.TheVariants.{Field}
use Rattle.lines.specs.declared.numbers.Number.{Number}
use Rattle.lines.specs.Numbers.{numbers_of}

-- a field that is not due is filled
pub one_filled : (n : ℕ) (fields : List (Option Number)) → list_any is_some (drop n fields) ≡ true → numbers_of n fields ≡ Err Field
one_filled zero [] filled = absurd cc
one_filled zero (o ∷ fields) filled = grind (arith, one_filled zero fields)
one_filled (suc n) [] filled = grind arith
one_filled (suc n) (o ∷ fields) filled = grind (arith, one_filled n fields)

-- a field that is due is blank
one_blank : (n i : ℕ) (fields : List (Option Number)) → i < n → get_or fields i None ≡ None → numbers_of n fields ≡ Err Field
one_blank zero i fields lt blank = absurd (omega arith)
one_blank (suc n) i [] lt blank = grind arith
one_blank (suc n) zero (o ∷ fields) lt blank = grind arith
one_blank (suc n) (suc i) (o ∷ fields) lt blank = grind (arith, one_blank n i fields)

-- all that are due are there, and no other
all_due : (n : ℕ) (fields : List (Option Number)) (xs : List Number) → length xs ≡ n → ((k : ℕ) (d : Number) → k < n → get_or fields k None ≡ Some (get_or xs k d)) → list_any is_some (drop n fields) ≡ false → numbers_of n fields ≡ Ok xs
all_due zero [] [] long each none = grind arith
all_due zero (o ∷ fields) [] long each none = grind (arith, all_due zero fields [] long (λ k d lt. absurd (omega arith)))
all_due zero fields (x ∷ xs) long each none = absurd (omega arith)
all_due (suc n) fields [] long each none = absurd (omega arith)
all_due (suc n) [] (x ∷ xs) long each none = grind (arith, each 0 x)
all_due (suc n) (o ∷ fields) (x ∷ xs) long each none = grind (arith, each 0 x, all_due n fields xs (omega arith) (λ k d lt. each (suc k) d (omega arith)))

-- what is said of an answer: each field that is due holds its number, or one of them is blank
pub record Due (due : List (Option Number)) (n : ℕ) (xs : List Number) : Type 0 where
  pub long : length xs ≡ n
  pub each : (k : ℕ) (d : Number) → k < n → get_or due k None ≡ Some (get_or xs k d)

pub record Lacks (due : List (Option Number)) (fault : LineFault) : Type 0 where
  pub fault_is : fault ≡ Field
  pub at : ℕ
  pub within : at < length due
  pub blank : get_or due at None ≡ None

pub answered : (n : ℕ) (fields due : List (Option Number)) (r : Result (List Number) LineFault) → due ≡ take n fields → list_any is_some (drop n fields) ≡ false
    → IfOk r (Due due n) → IfErr r (Lacks due) → r ≡ numbers_of n fields
answered n fields due (Ok xs) first none ok err =
    sym (all_due n fields xs ok.long (λ k d lt. grind (arith, ok.each k d lt, get_or-take n fields k None lt)) none)
answered n fields due (Err f) first none ok err =
    let lt : err.at < n = omega (arith, err.within, ap length first, length-take n fields) in
    grind (arith, one_blank n err.at fields lt, get_or-take n fields err.at None lt)
