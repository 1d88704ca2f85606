-- The numbers of a line by how many are due. Assumes nothing.
use Rattle.std.proofs.Common.{◌≡◌, List, [], ◌∷◌, get_or, Ok, Err, Option, Result, sym, ◌∙◌, arith}
use Rattle.lines.specs.declared.faults.LineFault.{LineFault}
use Rattle.lines.specs.declared.line.Line.{Line}
use Rattle.lines.specs.declared.numbers.Number.{Number}
use Rattle.lines.specs.Lines.{then}
use Rattle.lines.specs.Numbers.{none_of, one_of, two_of, four_of, no_number, one_number, two_numbers, four_numbers, four_fields, numbers_of}

none_due : (a b c d : Option Number) → numbers_of 0 (a ∷ b ∷ c ∷ d ∷ []) ≡ then (none_of a b c d) (λ _. Ok [])
none_due a b c d = grind arith

one_due : (a b c d : Option Number) → numbers_of 1 (a ∷ b ∷ c ∷ d ∷ []) ≡ then (one_of a b c d) (λ x. Ok (x ∷ []))
one_due a b c d = grind arith

two_due : (a b c d : Option Number) → numbers_of 2 (a ∷ b ∷ c ∷ d ∷ []) ≡ then (two_of a b c d) (λ x. Ok (x.0 ∷ x.1 ∷ []))
two_due a b c d = grind arith

four_due : (a b c d : Option Number) → numbers_of 4 (a ∷ b ∷ c ∷ d ∷ []) ≡ then (four_of a b c d) (λ x. Ok (x.0 ∷ x.1 ∷ x.2 ∷ x.3 ∷ []))
four_due a b c d = grind arith

pub no_number_is : (l : Line) → numbers_of 0 (four_fields l) ≡ then (no_number l) (λ _. Ok [])
no_number_is l = none_due l.one l.two l.three l.four

pub one_number_is : (l : Line) → numbers_of 1 (four_fields l) ≡ then (one_number l) (λ x. Ok (x ∷ []))
one_number_is l = one_due l.one l.two l.three l.four

pub two_numbers_are : (l : Line) → numbers_of 2 (four_fields l) ≡ then (two_numbers l) (λ x. Ok (x.0 ∷ x.1 ∷ []))
two_numbers_are l = two_due l.one l.two l.three l.four

pub four_numbers_are : (l : Line) → numbers_of 4 (four_fields l) ≡ then (four_numbers l) (λ x. Ok (x.0 ∷ x.1 ∷ x.2 ∷ x.3 ∷ []))
four_numbers_are l = four_due l.one l.two l.three l.four

pub four_numbers_from : (l : Line) (xs : List Number) (x : Number) → numbers_of 4 (four_fields l) ≡ Ok xs → four_numbers l ≡ Ok (get_or xs 0 x, get_or xs 1 x, get_or xs 2 x, get_or xs 3 x)
four_numbers_from l xs x is = read (four_numbers l) (sym (four_numbers_are l) ∙ is)
  where
    read : (r : Result (Number × Number × Number × Number) LineFault) → then r (λ x. Ok (x.0 ∷ x.1 ∷ x.2 ∷ x.3 ∷ [])) ≡ Ok xs → r ≡ Ok (get_or xs 0 x, get_or xs 1 x, get_or xs 2 x, get_or xs 3 x)
    read (Ok (a, b, c, d)) same = grind arith
    read (Err f) same = absurd cc
