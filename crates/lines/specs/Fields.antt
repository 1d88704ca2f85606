-- A field of six columns: spaces, or a decimal number right-justified after spaces. Assumes nothing.
use Rattle.std.specs.Prelude.{◌≡◌, ℕ, zero, suc, ◌+◌, ◌-◌, ◌*◌, ◌/◌, ◌%◌, ◌^◌, ◌<◌, ◌≤◌, Bool, cond, ◌&&◌, List, [], ◌∷◌, ◌++◌, length, replicate, Some, None, Ok, Err, decimal, Option, Result, ◌==◌, nat_le}
use Rattle.lines.specs.declared.faults.LineFault.{LineFault}
use Rattle.lines.specs.declared.faults.LineFault.TheVariants.{Field}
use Rattle.lines.specs.declared.fields.Seen.{Seen}
use Rattle.lines.specs.declared.fields.Seen.TheVariants.{Blank, Minus, Zero, Plus, Negative}
use Rattle.lines.specs.declared.numbers.Number.{Number}
use Rattle.lines.specs.declared.numbers.Number.TheVariants.{Natural, Below}

-- k columns that end in the last digits of n: left of the first digit stands the mark, and spaces left of that
abbrev pub columns : ℕ → ℕ → ℕ → List ℕ
columns mark zero n = []
columns mark (suc k) n = cond (n == 0) (columns 32 k 0 ++ (mark ∷ [])) (columns mark k (n / 10) ++ ((48 + n % 10) ∷ []))

-- what stands left of the digits: a space, a minus sign, or the `0` of zero, which has no digit of its own
abbrev pub mark_of : Option Number → ℕ
mark_of None = 32
mark_of (Some (Natural n)) = cond (n == 0) 48 32
mark_of (Some (Below n)) = 45

-- the number whose digits are written
abbrev pub size_of : Option Number → ℕ
size_of None = 0
size_of (Some (Natural n)) = n
size_of (Some (Below n)) = n

-- what is written in six columns
unfoldable pub field_bytes : Option Number → List ℕ
field_bytes o = columns (mark_of o) 6 (size_of o)

-- what fits six columns: -99999 to 999999, with no minus before 0
abbrev pub Fitting : Option Number → Type 0
Fitting None = Unit {0}
Fitting (Some (Natural n)) = n < 10 ^ 6
Fitting (Some (Below n)) = (0 < n) × (n < 10 ^ 5)

abbrev pub digit : ℕ → Bool
digit b = nat_le 48 b && nat_le b 57

abbrev pub first_digit : ℕ → Bool
first_digit b = nat_le 49 b && nat_le b 57

-- a number with one more digit
abbrev pub longer_of : ℕ → ℕ → Result ℕ LineFault
longer_of n b = cond (digit b) (Ok (n * 10 + (b - 48))) (Err Field)

-- what the columns hold with one more byte: a zero stands alone, and a minus stands before a first digit
abbrev pub next_of : Seen → ℕ → Result Seen LineFault
next_of Blank b = cond (b == 32) (Ok Blank) (cond (b == 45) (Ok Minus) (cond (b == 48) (Ok Zero) (cond (first_digit b) (Ok (Plus (b - 48))) (Err Field))))
next_of Minus b = cond (first_digit b) (Ok (Negative (b - 48))) (Err Field)
next_of Zero b = Err Field
next_of (Plus n) b = cond (digit b) (Ok (Plus (n * 10 + (b - 48)))) (Err Field)
next_of (Negative n) b = cond (digit b) (Ok (Negative (n * 10 + (b - 48)))) (Err Field)

-- the columns from the left, until the first fault
abbrev pub through : Result Seen LineFault → List ℕ → Result Seen LineFault
through (Err f) [] = Err f
through (Err f) (b ∷ bs) = Err f
through (Ok s) [] = Ok s
through (Ok s) (b ∷ bs) = through (next_of s b) bs

-- a minus alone is no number
abbrev pub end_of : Seen → Result (Option Number) LineFault
end_of Blank = Ok None
end_of Minus = Err Field
end_of Zero = Ok (Some (Natural 0))
end_of (Plus n) = Ok (Some (Natural n))
end_of (Negative n) = Ok (Some (Below n))

abbrev pub ended : Result Seen LineFault → Result (Option Number) LineFault
ended (Ok s) = end_of s
ended (Err f) = Err f

-- the number, none, or the fault that the columns hold
abbrev pub field_of : List ℕ → Result (Option Number) LineFault
field_of bs = ended (through (Ok Blank) bs)

-- the number so far is below n, the power of ten that the columns so far make: a minus takes one of them
abbrev pub Short : Seen → ℕ → Type 0
Short Blank n = 0 < n
Short Minus n = 10 ≤ n
Short Zero n = 0 < n
Short (Plus m) n = m < n
Short (Negative m) n = (0 < m) × (m * 10 + 10 ≤ n)

-- text right-justified in six columns
abbrev pub justified : List ℕ → List ℕ
justified text = replicate (6 - length text) 32 ++ text

-- the decimal text of a number, with a minus sign where it is below 0
abbrev pub decimal_text : Number → List ℕ
decimal_text (Natural n) = decimal n
decimal_text (Below n) = 45 ∷ decimal n

-- a number in its columns is its decimal text, right-justified
abbrev pub RightJustified : Type 0
RightJustified = (n : Number) → Fitting (Some n) → field_bytes (Some n) ≡ justified (decimal_text n)
