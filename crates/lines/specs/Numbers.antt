-- The numbers of a line: those that are due stand in the first fields, and the other fields are blank. Assumes nothing.
use Rattle.std.specs.Prelude.{ℕ, zero, suc, List, [], ◌∷◌, Some, None, Ok, Err, ℤ, pos, negsuc, Option, Result}
use Rattle.lines.specs.declared.faults.LineFault.{LineFault}
use Rattle.lines.specs.declared.faults.LineFault.TheVariants.{Field}
use Rattle.lines.specs.declared.line.Line.{Line}
use Rattle.lines.specs.declared.numbers.Number.{Number}
use Rattle.lines.specs.declared.numbers.Number.TheVariants.{Natural, Below}

abbrev pub none_of : Option Number → Option Number → Option Number → Option Number → Result (Unit {0}) LineFault
none_of (Some x) b c d = Err Field
none_of None (Some y) c d = Err Field
none_of None None (Some z) d = Err Field
none_of None None None (Some t) = Err Field
none_of None None None None = Ok tt

abbrev pub one_of : Option Number → Option Number → Option Number → Option Number → Result Number LineFault
one_of None b c d = Err Field
one_of (Some x) (Some y) c d = Err Field
one_of (Some x) None (Some z) d = Err Field
one_of (Some x) None None (Some t) = Err Field
one_of (Some x) None None None = Ok x

abbrev pub two_of : Option Number → Option Number → Option Number → Option Number → Result (Number × Number) LineFault
two_of None b c d = Err Field
two_of (Some x) None c d = Err Field
two_of (Some x) (Some y) (Some z) d = Err Field
two_of (Some x) (Some y) None (Some t) = Err Field
two_of (Some x) (Some y) None None = Ok (x, y)

abbrev pub four_of : Option Number → Option Number → Option Number → Option Number → Result (Number × Number × Number × Number) LineFault
four_of None b c d = Err Field
four_of (Some x) None c d = Err Field
four_of (Some x) (Some y) None d = Err Field
four_of (Some x) (Some y) (Some z) None = Err Field
four_of (Some x) (Some y) (Some z) (Some t) = Ok (x, y, z, t)

-- all fields are blank
abbrev pub no_number : Line → Result (Unit {0}) LineFault
no_number l = none_of l.one l.two l.three l.four

-- the number of a line that has just the first
abbrev pub one_number : Line → Result Number LineFault
one_number l = one_of l.one l.two l.three l.four

-- the numbers of a line that has just the first two
abbrev pub two_numbers : Line → Result (Number × Number) LineFault
two_numbers l = two_of l.one l.two l.three l.four

-- the numbers of a line that has all four
abbrev pub four_numbers : Line → Result (Number × Number × Number × Number) LineFault
four_numbers l = four_of l.one l.two l.three l.four

-- what the four fields hold
abbrev pub four_fields : Line → List (Option Number)
four_fields l = l.one ∷ l.two ∷ l.three ∷ l.four ∷ []

-- one number more before those of the fields after it
abbrev pub onto : Number → Result (List Number) LineFault → Result (List Number) LineFault
onto x (Ok xs) = Ok (x ∷ xs)
onto x (Err f) = Err f

-- the numbers of the first n fields, where those hold one each and the others none
abbrev pub numbers_of : ℕ → List (Option Number) → Result (List Number) LineFault
numbers_of zero [] = Ok []
numbers_of zero (None ∷ fields) = numbers_of zero fields
numbers_of zero (Some x ∷ fields) = Err Field
numbers_of (suc n) [] = Err Field
numbers_of (suc n) (None ∷ fields) = Err Field
numbers_of (suc n) (Some x ∷ fields) = onto x (numbers_of n fields)

-- a signed number as a number of a field
abbrev pub number_of : ℤ → Number
number_of (pos n) = Natural n
number_of (negsuc n) = Below (suc n)
