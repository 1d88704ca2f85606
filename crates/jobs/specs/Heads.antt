-- Line 1 of a file: what it holds, and how it is refused. Assumes nothing.
use Rattle.std.specs.Prelude.{ℕ, zero, suc, Bool, true, false, cond, List, [], ◌∷◌, Ok, Err, Result}
use Rattle.lines.specs.Lines.{then, word_in, fields_of}
use Rattle.lines.specs.Numbers.{four_numbers}
use Rattle.lines.specs.declared.faults.LineFault.{LineFault}
use Rattle.lines.specs.declared.faults.LineFault.TheVariants as line
use Rattle.lines.specs.declared.line.Line.{Line}
use Rattle.lines.specs.declared.numbers.Number.{Number}
use Rattle.lines.specs.declared.numbers.Number.TheVariants.{Natural, Below}
use Rattle.lines.specs.declared.words.Word.{Word}
use Rattle.lines.specs.declared.words.Word.TheVariants.{Plat, Elem, Vect, Dead, Cell, Move, Last, Done, Area, Wide, Stop as Stopped}
use Rattle.plans.specs.Plans.{cells_planned}
use Rattle.plans.specs.declared.faults.PlanFault.{PlanFault}
use Rattle.jobs.specs.declared.faults.FileFault.{FileFault}
use Rattle.jobs.specs.declared.faults.FileFault.TheVariants as fault
use Rattle.jobs.specs.declared.faults.Stop.{Stop}
use Rattle.jobs.specs.declared.heads.CellKind.{CellKind}
use Rattle.jobs.specs.declared.heads.CellKind.TheVariants.{Touch, Level, Frames}
use Rattle.jobs.specs.declared.heads.Head.{Head}

-- a condition that is to hold, the refusal where it does not, and the answer where it does
abbrev pub must : {X F : Type 0} → Bool → F → Result X F → Result X F
must holds f answer = cond holds answer (Err f)

-- a fault of the line, and one of the plan, inside a fault of the file
abbrev pub of_line : {X : Type 0} → Result X LineFault → Result X FileFault
of_line (Ok x) = Ok x
of_line (Err f) = Err (fault.Line f)

abbrev pub of_plan : {X : Type 0} → Result X PlanFault → Result X FileFault
of_plan (Ok x) = Ok x
of_plan (Err f) = Err (fault.Plan f)

-- a fault with its line
abbrev pub at_line : {X : Type 0} → ℕ → Result X FileFault → Result X Stop
at_line n (Ok x) = Ok x
at_line n (Err f) = Err (record { fault = f; line = n })

-- a number that may not lie below 0
abbrev pub natural : Number → Result ℕ FileFault
natural (Natural n) = Ok n
natural (Below n) = Err fault.Number

abbrev pub none : {X : Type 0} → List X → Bool
none [] = true
none (x ∷ xs) = false

abbrev pub is_plat : Word → Bool
is_plat Plat = true
is_plat Elem = false
is_plat Vect = false
is_plat Dead = false
is_plat Cell = false
is_plat Move = false
is_plat Last = false
is_plat Done = false
is_plat Area = false
is_plat Wide = false
is_plat Stopped = false

-- the code of a kind, and the kind of a code
abbrev pub kind_code : CellKind → ℕ
kind_code Touch = 1
kind_code Level = 2
kind_code Frames = 3

abbrev pub kind_of : ℕ → Result CellKind FileFault
kind_of zero = Err fault.Number
kind_of (suc zero) = Ok Touch
kind_of (suc (suc zero)) = Ok Level
kind_of (suc (suc (suc zero))) = Ok Frames
kind_of (suc (suc (suc (suc n)))) = Err fault.Number

-- mode, width, height and the code of a kind, judged in this order: none below 0, the code, then as the plan would
abbrev pub judged : ℕ → ℕ → ℕ → ℕ → Result Head FileFault
judged mode w h code =
    then (kind_of code) (λ kind. then (of_plan (cells_planned mode w h)) (λ n. Ok (record { mode = mode; width = w; height = h; kind = kind; cells = n })))

abbrev pub head_in : Line → Result Head FileFault
head_in l =
    then (of_line (four_numbers l)) (λ x.
    then (natural x.0) (λ mode. then (natural x.1) (λ w. then (natural x.2) (λ h. then (natural x.3) (λ code. judged mode w h code)))))

abbrev pub head_by : Word → List ℕ → Result Head FileFault
head_by w bs = must (is_plat w) (fault.Line line.Word) (then (of_line (fields_of w bs)) head_in)

-- no byte at all is a file without LAST
abbrev pub head_of : List ℕ → Result Head FileFault
head_of bs = cond (none bs) (Err fault.NoLast) (then (of_line (word_in bs)) (λ w. head_by w bs))

-- what measuring a file answers
abbrev pub measured : List ℕ → Result Head Stop
measured bs = at_line 1 (head_of bs)
