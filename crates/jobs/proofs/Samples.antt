-- A file and its job, and some files that are refused. Assumes nothing.
use Rattle.std.proofs.Common.{◌≡◌, ℕ, List, [], ◌∷◌, ◌++◌, pos, Ok, Err, codes, Result, refl, arith}
use Rattle.kinds.specs.Touches.{touch_values, written_touch}
use Rattle.kinds.specs.declared.values.Touch.{Touch}
use Rattle.kinds.specs.declared.values.Touch.TheVariants.{No, Yes}
use Rattle.lines.specs.Fields.{field_bytes}
use Rattle.lines.specs.Lines.{line_bytes}
use Rattle.lines.specs.declared.faults.LineFault.TheVariants as line
use Rattle.plans.specs.Vectors.{vector}
use Rattle.plans.specs.declared.faults.PlanFault.TheVariants as plan
use Rattle.plans.specs.declared.modes.Mode.TheVariants.{Weak}
use Rattle.jobs.specs.Files.{decode}
use Rattle.jobs.specs.Jobs.{Job, LawfulJob, encode}
use Rattle.jobs.specs.declared.faults.FileFault.{FileFault}
use Rattle.jobs.specs.declared.faults.FileFault.TheVariants as fault
use Rattle.jobs.specs.declared.faults.Stop.{Stop}

-- one element that moves every cell to the odd one beside it; the even cell is touched, and two moves are listed
abbrev sample : Job Touch
sample = record {
  design = record {
    drawing = record { mode = Weak; width = 1; height = 1; elements = record { first = vector (pos 0) (pos 0) (pos 1) ∷ []; second = [] } ∷ [] };
    dead = [];
  };
  picture = Yes ∷ No ∷ [];
  orders = record { action = 1; element = 0 } ∷ record { action = 3; element = 7 } ∷ [];
}

lawful : LawfulJob sample
lawful = record {
  design = record {
    size = refl;
    few = omega arith;
    lists = (
      record {
        first = record { few = omega arith; near = refl; apart = refl; fair = refl };
        second = record { few = omega arith; near = refl; apart = refl; fair = refl };
      },
      tt,
    );
    living = refl;
    apart = refl;
    few_dead = omega arith;
  };
  picture = refl;
  orders = refl;
}

abbrev row : List ℕ → List ℕ
row text = text ++ (10 ∷ [])

abbrev start : List ℕ
start = row (codes "PLAT     2     1     1     1") ++ row (codes "ELEM     0                  ")

abbrev middle : List ℕ
middle =
    row (codes "CELL     0     1            ") ++ (row (codes "MOVE     1     0            ") ++ row (codes "MOVE     3     7            "))

abbrev end : List ℕ
end = row (codes "LAST                        ")

abbrev file : List ℕ
file = start ++ (row (codes "VECT     0     0     0     1") ++ (middle ++ end))

encoded : encode touch_values written_touch sample ≡ file
unfolding encode line_bytes field_bytes
encoded = refl

abbrev read : List ℕ → Result (Job Touch) Stop
read bs = decode touch_values written_touch 2 2 bs

abbrev refused : FileFault → ℕ → Result (Job Touch) Stop
refused f n = Err (record { fault = f; line = n })

decoded : read file ≡ Ok sample
decoded = refl

nothing : read [] ≡ refused fault.NoLast 1
nothing = refl

no_number : read (start ++ (row (codes "VECT     0     0   12x     1") ++ (middle ++ end))) ≡ refused (fault.Line line.Field) 3
no_number = refl

without_last : read (start ++ (row (codes "VECT     0     0     0     1") ++ middle)) ≡ refused fault.NoLast 7
without_last = refl

after_last : read (file ++ (32 ∷ [])) ≡ refused fault.AfterLast 8
after_last = refl

other_side : read (start ++ (row (codes "VECT     1     0     0     1") ++ (middle ++ end))) ≡ refused (fault.Plan plan.Side) 3
other_side = refl

-- records for one move, and a picture of three cells
one_record : decode touch_values written_touch 2 1 file ≡ refused fault.Moves 6
one_record = refl

three_cells : decode touch_values written_touch 3 2 file ≡ refused fault.PictureLength 1
three_cells = refl
