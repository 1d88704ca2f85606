use Rattle.std.proofs.Common.{◌≡◌, ℕ, zero, suc, ◌+◌, ◌-◌, ◌/◌, ◌%◌, ◌^◌, ◌<◌, ◌≤◌, List, [], ◌∷◌, ◌++◌, length, replicate, decimal, sym, refl, ap, ◌∙◌, ⊎_elim, append_assoc, append-nil, arith}
use Rattle.std.proofs.lemmas.Fmt.{decimal_digit, decimal_step, decimal_nonempty, length-decimal-le}
use Rattle.std.proofs.lemmas.List.{length-append, replicate_more}
use Rattle.std.proofs.lemmas.Bool.{cases_lt}
use Rattle.lines.specs.declared.numbers.Number.TheVariants.{Natural, Below}
use Rattle.lines.specs.Fields.{columns, field_bytes, justified}
use Rattle.lines.proofs.SixColumns.{last_digit, begun_bytes}
use Rattle.lines.proofs.laws.right_justified.Goals as goal

abbrev right : ℕ → List ℕ → List ℕ
right k text = replicate (k - length text) 32 ++ text

-- one byte more, and one column more
right-push : (k : ℕ) (text : List ℕ) (b : ℕ) → right k text ++ (b ∷ []) ≡ right (suc k) (text ++ (b ∷ []))
right-push k text b = grind (arith, length-append text (b ∷ []), append_assoc (replicate (k - length text) 32) text (b ∷ []))

spaces : (k : ℕ) → columns 32 k 0 ≡ replicate k 32
spaces zero = refl
spaces (suc k) = grind (arith, spaces k, replicate_more {X = ℕ} k 32)

blank-base : (k : ℕ) → 0 ≤ k → columns 32 k 0 ≡ right k []
blank-base k le = grind (arith, spaces k, append-nil {A = ℕ} (replicate (k - 0) 32))

minus-base : (k : ℕ) → 1 ≤ k → columns 45 k 0 ≡ right k (45 ∷ [])
minus-base zero le = absurd (omega arith)
minus-base (suc k) le = grind (arith, spaces k)

module _ (mark : ℕ) (pre : List ℕ) (base : (k : ℕ) → length pre ≤ k → columns mark k 0 ≡ right k pre) where
  number : (k n : ℕ) → 0 < n → n < 2 ^ 64 → length pre + length (decimal n) ≤ k → columns mark k n ≡ right k (pre ++ decimal n)
  number zero n more small le = absurd (omega (arith, decimal_nonempty n small))
  number (suc k) n more small le =
      let b = 48 + n % 10 in
      let last = last_digit mark k (n / 10) n b refl refl more in
      ⊎_elim
      (λ (one : n < 10). let d = decimal_digit n one in grind (arith, base k, right-push k pre b))
      (λ (ten : 10 ≤ n). let d = decimal_step n ten small in grind (arith, length-append {A = ℕ}, number k (n / 10), right-push k (pre ++ decimal (n / 10)) b, append_assoc pre (decimal (n / 10)) (b ∷ [])))
      (cases_lt n 10)

pub returns : goal.returns
unfolding field_bytes
returns c (Natural zero) fits = ap justified (sym (decimal_digit 0 (omega arith)))
returns c (Natural (suc n)) fits =
    sym (begun_bytes (suc n) (omega arith)) ∙ number 32 [] blank-base 6 (suc n) (omega arith) (omega arith) (omega (arith, length-decimal-le 6 (suc n) (omega arith) fits (omega arith)))
returns c (Below n) fits = number 45 (45 ∷ []) minus-base 6 n fits.0 (omega arith) (omega (arith, length-decimal-le 5 n (omega arith) fits.1 (omega arith)))
