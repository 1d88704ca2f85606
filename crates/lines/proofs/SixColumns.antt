-- A field and its six columns fix each other. Assumes nothing.
use Rattle.std.proofs.Common.{◌≡◌, ℕ, zero, suc, ◌+◌, ◌-◌, ◌*◌, ◌/◌, ◌%◌, ◌^◌, ◌<◌, cond, eqb, List, [], ◌∷◌, ◌++◌, length, Some, None, Ok, Err, Option, Result, sym, refl, ap, ◌∙◌, append_assoc, append-nil, pow-suc, arith}
use Rattle.std.proofs.lemmas.Bool.Decides.{nat_tests}
use Rattle.lines.specs.declared.faults.LineFault.{LineFault}
use Rattle.lines.specs.declared.fields.Seen.{Seen}
use Rattle.lines.specs.declared.fields.Seen.TheVariants.{Blank, Minus, Zero, Plus, Negative}
use Rattle.lines.specs.declared.numbers.Number.{Number}
use Rattle.lines.specs.declared.numbers.Number.TheVariants.{Natural, Below}
use Rattle.lines.specs.Fields.{columns, field_bytes, Fitting, next_of, through, end_of, ended, field_of}

pub stuck : (f : LineFault) (bs : List ℕ) → through (Err f) bs ≡ Err f
stuck f [] = refl
stuck f (b ∷ bs) = refl

pub through_append : (r : Result Seen LineFault) (xs ys : List ℕ) → through r (xs ++ ys) ≡ through (through r xs) ys
through_append (Err f) [] ys = refl
through_append (Err f) (x ∷ xs) ys = sym (stuck f ys)
through_append (Ok s) [] ys = refl
through_append (Ok s) (x ∷ xs) ys = through_append (next_of s x) xs ys

-- one column more after columns that read as s
push : (xs : List ℕ) (b : ℕ) (s : Seen) → through (Ok Blank) xs ≡ Ok s → through (Ok Blank) (xs ++ (b ∷ [])) ≡ through (next_of s b) []
push xs b s is = through_append (Ok Blank) xs (b ∷ []) ∙ ap (λ r. through r (b ∷ [])) is

spaces : (k : ℕ) → through (Ok Blank) (columns 32 k 0) ≡ Ok Blank
spaces zero = refl
spaces (suc k) = push (columns 32 k 0) 32 Blank (spaces k)

-- columns with a last digit
pub last_digit : (mark k n v b : ℕ) → v / 10 ≡ n → 48 + v % 10 ≡ b → 0 < v → columns mark k n ++ (b ∷ []) ≡ columns mark (suc k) v
last_digit mark k n v b q r more = grind (arith, nat_tests)

-- reading what is written

abbrev plus : ℕ → Seen
plus n = cond (eqb n 0) Blank (Plus n)

abbrev minus : ℕ → Seen
minus n = cond (eqb n 0) Minus (Negative n)

plus_digit : (n : ℕ) → 0 < n → through (next_of (plus (n / 10)) (48 + n % 10)) [] ≡ Ok (plus n)
plus_digit n more = grind (arith, nat_tests)

minus_digit : (n : ℕ) → 0 < n → through (next_of (minus (n / 10)) (48 + n % 10)) [] ≡ Ok (minus n)
minus_digit n more = grind (arith, nat_tests)

-- s n is what columns with this mark and the digits of n read as; it does so with one digit more
digit_more : (mark k n : ℕ) (s : ℕ → Seen) → 0 < n → through (next_of (s (n / 10)) (48 + n % 10)) [] ≡ Ok (s n) → through (Ok Blank) (columns mark k (n / 10)) ≡ Ok (s (n / 10)) → through (Ok Blank) (columns mark (suc k) n) ≡ Ok (s n)
digit_more mark k n s more next is = grind (arith, last_digit mark k (n / 10) n (48 + n % 10), push (columns mark k (n / 10)) (48 + n % 10) (s (n / 10)))

plus_reads : (k n : ℕ) → n < 10 ^ k → through (Ok Blank) (columns 32 k n) ≡ Ok (plus n)
plus_reads zero n lt = grind arith
plus_reads (suc k) n lt =
    grind (arith, nat_tests, spaces (suc k), digit_more 32 k n plus, plus_digit n, plus_reads k (n / 10), pow-suc 10 k)

minus_none : (k : ℕ) → through (Ok Blank) (columns 45 (suc k) 0) ≡ Ok Minus
minus_none k = push (columns 32 k 0) 45 Blank (spaces k)

minus_reads : (k n : ℕ) → n < 10 ^ k → through (Ok Blank) (columns 45 (suc k) n) ≡ Ok (minus n)
minus_reads zero n lt = grind (arith, minus_none 0)
minus_reads (suc k) n lt =
    grind (arith, nat_tests, minus_none (suc k), digit_more 45 (suc k) n minus, minus_digit n, minus_reads k (n / 10), pow-suc 10 k)

pub begun_bytes : (n : ℕ) → 0 < n → columns 32 6 n ≡ field_bytes (Some (Natural n))
unfolding field_bytes
begun_bytes n more = grind (arith, nat_tests)

pub field_written_is_read : (o : Option Number) → Fitting o → field_of (field_bytes o) ≡ Ok o
unfolding field_bytes
field_written_is_read None fits = refl
field_written_is_read (Some (Natural zero)) fits = refl
field_written_is_read (Some (Natural (suc n))) fits = grind (arith, nat_tests, ap ended (plus_reads 6 (suc n) fits), begun_bytes (suc n))
field_written_is_read (Some (Below n)) fits = grind (arith, nat_tests, ap ended (minus_reads 5 n fits.1), fits.0)

-- writing what is read

-- the k columns that read as s
abbrev text : Seen → ℕ → List ℕ
text Blank k = columns 32 k 0
text Minus k = columns 45 k 0
text Zero k = columns 48 k 0
text (Plus n) k = columns 32 k n
text (Negative n) k = columns 45 k n

-- a number that began with a digit is not 0
abbrev Begun : Seen → Type 0
Begun Blank = Unit {0}
Begun Minus = Unit {0}
Begun Zero = Unit {0}
Begun (Plus n) = 0 < n
Begun (Negative n) = 0 < n

-- the columns ys read as r; nothing is said after a fault
abbrev Held : List ℕ → ℕ → Result Seen LineFault → Type 0
Held ys k (Ok s) = (ys ≡ text s k) × Begun s
Held ys k (Err f) = Unit {0}

-- a byte that is accepted is what the columns gain
gains : (s : Seen) (k b : ℕ) → Begun s → Held (text s k ++ (b ∷ [])) (suc k) (next_of s b)
gains Blank k b begun = grind (arith, nat_tests, last_digit 32 k 0 (b - 48) b)
gains Minus k b begun = grind (arith, nat_tests, last_digit 45 k 0 (b - 48) b)
gains Zero k b begun = tt
gains (Plus n) k b begun = grind (arith, nat_tests, last_digit 32 k n (n * 10 + (b - 48)) b)
gains (Negative n) k b begun = grind (arith, nat_tests, last_digit 45 k n (n * 10 + (b - 48)) b)

all_gained : (r : Result Seen LineFault) (k n : ℕ) (ys xs : List ℕ) → k + length xs ≡ n → Held ys k r → Held (ys ++ xs) n (through r xs)
all_gained (Err f) k n ys [] size h = tt
all_gained (Err f) k n ys (b ∷ xs) size h = tt
all_gained (Ok s) k n ys [] size h = let same : k ≡ n = omega arith in (append-nil ys ∙ h.0 ∙ ap (text s) same, h.1)
all_gained (Ok s) k n ys (b ∷ xs) size h =
    rw (← append_assoc ys (b ∷ []) xs) (all_gained (next_of s b) (suc k) n (ys ++ (b ∷ [])) xs (omega arith) (rw h.0 (gains s k b h.1)))

end_written : (s : Seen) (o : Option Number) → Begun s → end_of s ≡ Ok o → field_bytes o ≡ text s 6
unfolding field_bytes
end_written Blank o begun is = grind arith
end_written Minus o begun is = grind arith
end_written Zero o begun is = grind arith
end_written (Plus n) o begun is = grind (arith, nat_tests)
end_written (Negative n) o begun is = grind arith

pub field_read_is_written : (bs : List ℕ) (o : Option Number) → length bs ≡ 6 → field_of bs ≡ Ok o → field_bytes o ≡ bs
field_read_is_written bs o six is = step (through (Ok Blank) bs) is (all_gained (Ok Blank) 0 6 [] bs (omega arith) (refl, tt))
  where
    step : (r : Result Seen LineFault) → ended r ≡ Ok o → Held bs 6 r → field_bytes o ≡ bs
    step (Err f) is h = absurd cc
    step (Ok s) is h = end_written s o h.1 is ∙ sym h.0
