-- Every number in the lines of a lawful job fits its columns. Assumes nothing.
use Rattle.std.proofs.Common.{◌≡◌, ℕ, suc, ◌+◌, ◌*◌, ◌≤◌, Bool, true, false, cond, ltb, leb, List, [], ◌∷◌, ◌++◌, length, ℤ, pos, negsuc, Some, None, mul-le-mul_right, arith}
use Rattle.std.specs.Option.{option_to_list}
use Rattle.std.proofs.lemmas.Bool.{and_parts, leb-true, ltb-true}
use Rattle.kinds.specs.Lattices.{Values, not_least}
use Rattle.kinds.specs.Numbers.{Written, Numbered}
use Rattle.plates.specs.Lists.{below}
use Rattle.grids.specs.Extents.{lawful_size, sum_count}
use Rattle.grids.specs.declared.shapes.Form.{Form}
use Rattle.grids.specs.declared.shapes.Form.TheVariants.{Flat, Stack}
use Rattle.grids.specs.declared.vectors.Vector.{Vector}
use Rattle.lines.specs.Fields.{Fitting}
use Rattle.lines.specs.Lines.{Fits}
use Rattle.lines.specs.declared.line.Line.{Line}
use Rattle.plans.specs.Drawings.{Drawing, Lists}
use Rattle.plans.specs.LawfulDesigns.{AllLawful, LawfulDesign}
use Rattle.plans.specs.Modes.{mode_number, form_of}
use Rattle.plans.specs.Plans.{Design, cells_in}
use Rattle.plans.specs.Vectors.{is_coordinate, near, every}
use Rattle.plans.specs.declared.modes.Mode.{Mode}
use Rattle.plans.specs.declared.modes.Mode.TheVariants.{Strict, Weak, Independent, Strong}
use Rattle.jobs.specs.Entries.{coordinate, first_side, listed, plat_line, elem_line, vect_line, dead_line, cell_line, move_line, last_line, vect_entry, dead_entry, cell_entry, move_entry, element_lines, elements_lines}
use Rattle.jobs.specs.Jobs.{Job, fair_order, all_fair, LawfulJob, job_lines}
use Rattle.jobs.specs.declared.orders.Order.{Order}

abbrev pub AllFit : List Line → Type 0
AllFit [] = Unit {0}
AllFit (l ∷ ls) = Fits l × AllFit ls

pub all_fit : (ls ms : List Line) → AllFit ls → AllFit ms → AllFit (ls ++ ms)
all_fit [] ms h g = g
all_fit (l ∷ ls) ms h g = (h.0, all_fit ls ms h.1 g)

-- the limits of what is written

mode_small : (m : Mode) → mode_number m ≤ 4
mode_small Strict = omega arith
mode_small Weak = omega arith
mode_small Independent = omega arith
mode_small Strong = omega arith

side_small : (m : Mode) → first_side m ≤ 2
side_small Strict = omega arith
side_small Weak = omega arith
side_small Independent = omega arith
side_small Strong = omega arith

sums_few : (f : Form) → sum_count f ≤ 6
sums_few Flat = omega arith
sums_few Stack = omega arith

wide : (w h : ℕ) → lawful_size w h ≡ true → (w ≤ 64) × (h ≤ 64)
wide w h is =
    let p = and_parts _ _ is in
    (leb-true _ _ (and_parts _ _ p.0).1, leb-true _ _ (and_parts _ _ p.1).1)

cells_few : (d : Design) → LawfulDesign d → cells_in d ≤ 24576
cells_few d ok =
    let s = wide d.drawing.width d.drawing.height ok.size in
    let area : d.drawing.width * d.drawing.height ≤ 64 * d.drawing.height = mul-le-mul_right d.drawing.height s.0 in
    let n = sum_count (form_of d.drawing.mode) in
    let all : n * (d.drawing.width * d.drawing.height) ≤ 6 * (d.drawing.width * d.drawing.height) = mul-le-mul_right (d.drawing.width * d.drawing.height) (sums_few (form_of d.drawing.mode)) in
    omega (arith, s.1)

-- a row of small numbers

coordinate_fits : (z : ℤ) → is_coordinate z ≡ true → Fitting (coordinate z)
coordinate_fits (pos n) h = omega (arith, leb-true n 63 h)
coordinate_fits (negsuc n) h = (omega arith, omega (arith, leb-true (suc n) 63 h))

vect_fits : (side : ℕ) (v : Vector) → side ≤ 2 → near v ≡ true → Fits (vect_line side v)
vect_fits side v small h =
    let a = and_parts _ _ h in
    let b = and_parts _ _ a.1 in
    record { one = omega arith; two = coordinate_fits v.a a.0; three = coordinate_fits v.b b.0; four = coordinate_fits v.c b.1 }

-- the lines of each list

vectors_fit : (side i : ℕ) (vs : List Vector) → side ≤ 2 → every near vs ≡ true → AllFit (listed (vect_entry side) i vs)
vectors_fit side i [] small h = tt
vectors_fit side i (v ∷ vs) small h = let p = and_parts (near v) _ h in (vect_fits side v small p.0, vectors_fit side (suc i) vs small p.1)

elements_fit : (m : Mode) (i : ℕ) (ls : List Lists) → i + length ls ≤ 8 → AllLawful m ls → AllFit (elements_lines m i ls)
elements_fit m i [] few ok = tt
elements_fit m i (l ∷ ls) few ok =
    let one : Fits (elem_line i) = record { one = omega arith; two = tt; three = tt; four = tt } in
    let lists = all_fit _ _ (vectors_fit (first_side m) 0 l.first (side_small m) ok.0.first.near) (vectors_fit 2 0 l.second (omega arith) ok.0.second.near) in
    all_fit (element_lines m i l) _ (one, lists) (elements_fit m (suc i) ls (omega arith) ok.1)

dead_fit : (n i : ℕ) (ds : List ℕ) → n ≤ 24576 → below n ds ≡ true → AllFit (listed dead_entry i ds)
dead_fit n i [] small h = tt
dead_fit n i (c ∷ ds) small h =
    let p = and_parts (ltb c n) _ h in
    let one : Fits (dead_line c) = record { one = omega (arith, ltb-true c n p.0); two = tt; three = tt; four = tt } in
    (one, dead_fit n (suc i) ds small p.1)

order_fits : (o : Order) → fair_order o ≡ true → Fits (move_line o)
order_fits o h =
    let p = and_parts (leb o.action 4) _ (and_parts (leb 1 o.action) _ h).1 in
    record { one = omega (arith, leb-true o.action 4 p.0); two = omega (arith, leb-true o.element 99 p.1); three = tt; four = tt }

moves_fit : (i : ℕ) (os : List Order) → all_fair os ≡ true → AllFit (listed move_entry i os)
moves_fit i [] h = tt
moves_fit i (o ∷ os) h = let p = and_parts (fair_order o) _ h in (order_fits o p.0, moves_fit (suc i) os p.1)

module _ {V : Type 0} (k : Values V) (w : Written V) (numbered : Numbered k w) where
  cells_fit : (i : ℕ) (xs : List V) → i + length xs ≤ 24576 → AllFit (listed (cell_entry k w) i xs)
  cells_fit i [] small = tt
  cells_fit i (x ∷ xs) small = all_fit _ _ (one (not_least k x)) (cells_fit (suc i) xs (omega arith))
    where
      one : (b : Bool) → AllFit (option_to_list (cond b (Some (cell_line i (w.number x))) None))
      one false = tt
      one true = (record { one = omega arith; two = omega (arith, numbered.few_numbers x); three = tt; four = tt }, tt)

  plat_fits : (d : Drawing) → lawful_size d.width d.height ≡ true → Fits (plat_line w.code d)
  plat_fits d ok =
      let s = wide d.width d.height ok in
      record { one = omega (arith, mode_small d.mode); two = omega (arith, s.0); three = omega (arith, s.1); four = omega (arith, numbered.few_codes) }

  last_fits : Fits last_line
  last_fits = record { one = tt; two = tt; three = tt; four = tt }

  pub job_fits : (j : Job V) → LawfulJob j → AllFit (job_lines k w j)
  job_fits j ok =
      let few = cells_few j.design ok.design in (
        plat_fits j.design.drawing ok.design.size,
        all_fit _ _
            (all_fit _ _ (elements_fit j.design.drawing.mode 0 j.design.drawing.elements (omega (arith, ok.design.few)) ok.design.lists)
            (all_fit _ _ (dead_fit (cells_in j.design) 0 j.design.dead few ok.design.living)
            (all_fit _ _ (cells_fit 0 j.picture (omega (arith, ok.picture))) (moves_fit 0 j.orders ok.orders))))
            (last_fits, tt),
      )
