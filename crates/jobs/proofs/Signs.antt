-- No line that is read holds a number below 0 that is 0. Assumes nothing.
use Rattle.std.proofs.Common.{◌≡◌, ℕ, zero, suc, ◌<◌, eqb, ltb, List, [], ◌∷◌, length, Some, None, Ok, Err, Option, Result, refl, arith}
use Rattle.std.proofs.lemmas.Bool.{and_parts, leb-true, cond_both}
use Rattle.std.specs.List.{between}
use Rattle.std.specs.Result.{IfOk}
use Rattle.lines.specs.Fields.{digit, first_digit, next_of, through, ended, field_of}
use Rattle.lines.specs.Lines.{then, fields_of}
use Rattle.lines.specs.declared.faults.LineFault.{LineFault}
use Rattle.lines.specs.declared.fields.Seen.{Seen}
use Rattle.lines.specs.declared.fields.Seen.TheVariants.{Blank, Minus, Zero, Plus, Negative}
use Rattle.lines.specs.declared.line.Line.{Line}
use Rattle.lines.specs.declared.numbers.Number.{Number}
use Rattle.lines.specs.declared.numbers.Number.TheVariants.{Below}
use Rattle.lines.specs.declared.words.Word.{Word}
use Rattle.lines.specs.Numbers.{number_of}
use Rattle.jobs.specs.Steps.{whole_number}
use Rattle.jobs.proofs.Accepted.{then_of}

-- a number that is its whole number again
abbrev pub Signed : Option Number → Type 0
Signed None = Unit {0}
Signed (Some n) = number_of (whole_number n) ≡ n

below : (n : ℕ) → 0 < n → Signed (Some (Below n))
below zero more = absurd (omega arith)
below (suc n) more = refl

-- after a minus stands a digit that is not 0
abbrev Begun : Seen → Type 0
Begun Blank = Unit {0}
Begun Minus = Unit {0}
Begun Zero = Unit {0}
Begun (Plus n) = Unit {0}
Begun (Negative n) = 0 < n

next_begun : (s : Seen) (b : ℕ) → Begun s → IfOk (next_of s b) Begun
next_begun Blank b is =
    let P : Result Seen LineFault → Type 0 = λ r. IfOk r Begun in
    cond_both (eqb b 32) _ _ P (λ _. tt) (λ _. cond_both (eqb b 45) _ _ P (λ _. tt) (λ _. cond_both (eqb b 48) _ _ P (λ _. tt) (λ _. cond_both (first_digit b) _ _ P (λ _. tt) (λ _. tt))))
next_begun Minus b is = cond_both (first_digit b) _ _ (λ r. IfOk r Begun) (λ y. let low = leb-true 49 b (and_parts _ _ y).0 in omega arith) (λ _. tt)
next_begun Zero b is = tt
next_begun (Plus n) b is = cond_both (digit b) _ _ (λ r. IfOk r Begun) (λ _. tt) (λ _. tt)
next_begun (Negative n) b is = cond_both (digit b) _ _ (λ r. IfOk r Begun) (λ _. omega arith) (λ _. tt)

all_begun : (r : Result Seen LineFault) (bs : List ℕ) → IfOk r Begun → IfOk (through r bs) Begun
all_begun (Err f) [] is = tt
all_begun (Err f) (b ∷ bs) is = tt
all_begun (Ok s) [] is = is
all_begun (Ok s) (b ∷ bs) is = all_begun (next_of s b) bs (next_begun s b is)

end_signed : (r : Result Seen LineFault) → IfOk r Begun → IfOk (ended r) Signed
end_signed (Err f) is = tt
end_signed (Ok Blank) is = tt
end_signed (Ok Minus) is = tt
end_signed (Ok Zero) is = refl
end_signed (Ok (Plus n)) is = refl
end_signed (Ok (Negative n)) is = below n is

field_signed : (bs : List ℕ) → IfOk (field_of bs) Signed
field_signed bs = end_signed (through (Ok Blank) bs) (all_begun (Ok Blank) bs tt)

abbrev pub AllSigned : Line → Type 0
AllSigned l = Signed l.two × Signed l.three × Signed l.four

field_then : (bs : List ℕ) (f : Option Number → Result Line LineFault) → ((o : Option Number) → Signed o → IfOk (f o) AllSigned) → IfOk (then (field_of bs) f) AllSigned
field_then bs f more = then_of Signed AllSigned (field_of bs) f (field_signed bs) more

pub fields_signed : (w : Word) (bs : List ℕ) → IfOk (fields_of w bs) AllSigned
fields_signed w bs =
    cond_both (ltb (length bs) 29) _ _ (λ r. IfOk r AllSigned) (λ _. tt) (λ _.
    field_then (between 4 10 bs) _ (λ one _.
    field_then (between 10 16 bs) _ (λ two h₂. field_then (between 16 22 bs) _ (λ three h₃. field_then (between 22 28 bs) _ (λ four h₄. (h₂, h₃, h₄))))))
