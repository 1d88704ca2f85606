-- How many lines a job has. Assumes nothing.
use Rattle.std.proofs.Common.{◌≡◌, ℕ, suc, ◌+◌, ◌<◌, Bool, true, false, cond, List, [], ◌∷◌, ◌++◌, length, get_or, drop, Some, None, sym, refl, ap, ◌∙◌, arith, length-append}
use Rattle.std.specs.Option.{option_to_list}
use Rattle.std.proofs.lemmas.List.{at_drop_more}
use Rattle.std.proofs.lemmas.List.Sums.{sum_by-cons}
use Rattle.kinds.specs.Lattices.{Values, not_least}
use Rattle.kinds.specs.Numbers.{Written}
use Rattle.morphology.specs.Pictures.{area}
use Rattle.lines.specs.declared.line.Line.{Line}
use Rattle.plans.specs.Drawings.{Lists, blank, fan_of}
use Rattle.plans.specs.declared.modes.Mode.{Mode}
use Rattle.jobs.specs.Entries.{listed, cell_line, vect_line, vect_entry, dead_line, dead_entry, cell_entry, move_line, move_entry, first_side, element_lines, elements_lines, plat_line, last_line}
use Rattle.jobs.specs.Jobs.{Job, job_lines}

-- a line for each item
pub each_listed : {X : Type 0} (line : ℕ → X → Line) (i : ℕ) (xs : List X) → length (listed (λ n x. Some (line n x)) i xs) ≡ length xs
each_listed line i [] = refl
each_listed line i (x ∷ xs) = ap suc (each_listed line (suc i) xs)

-- a line for each cell that is not least
one_or_none : (b : Bool) (l : Line) (ls : List Line) (n : ℕ) → length ls ≡ n → length (option_to_list (cond b (Some l) None) ++ ls) ≡ cond b 1 0 + n
one_or_none true l ls n h = omega arith
one_or_none false l ls n h = omega arith

pub cells_listed : {V : Type 0} (k : Values V) (w : Written V) (i : ℕ) (a : List V) → length (listed (cell_entry k w) i a) ≡ area k a
cells_listed k w i [] = refl
cells_listed k w i (x ∷ a) =
    one_or_none (not_least k x) (cell_line i (w.number x)) (listed (cell_entry k w) (suc i) a) (area k a) (cells_listed k w (suc i) a)
    ∙ sym (sum_by-cons (λ y. cond (not_least k y) 1 0) x a)

-- a line for the element, and one for each of its places
pub element_count : (m : Mode) (i : ℕ) (l : Lists) → length (element_lines m i l) ≡ 1 + fan_of l
element_count m i l =
    omega (arith, length-append (listed (vect_entry (first_side m)) 0 l.first) (listed (vect_entry 2) 0 l.second), each_listed (λ n. vect_line (first_side m)) 0 l.first, each_listed (λ n. vect_line 2) 0 l.second)

-- the lines of the elements from one on
pub elements_more : (m : Mode) (ls : List Lists) (i : ℕ) → i < length ls → elements_lines m i (drop i ls) ≡ element_lines m i (get_or ls i blank) ++ elements_lines m (i + 1) (drop (i + 1) ls)
elements_more m ls i lt =
    let next : suc i ≡ i + 1 = omega arith in
    at_drop_more (elements_lines m i) ls i blank lt ∙ ap (λ n. element_lines m i (get_or ls i blank) ++ elements_lines m n (drop (i + 1) ls)) next

-- the first line, the elements, the dead cells, the cells, the moves and the last line
pub parts_count : (p l : Line) (e d c m : List Line) → length ((p ∷ (e ++ (d ++ (c ++ m)))) ++ (l ∷ [])) ≡ 2 + length e + length d + length c + length m
parts_count p l e d c m = omega (arith, length-append (e ++ (d ++ (c ++ m))) (l ∷ []), length-append e (d ++ (c ++ m)), length-append d (c ++ m), length-append c m)

pub job_count : {V : Type 0} (k : Values V) (w : Written V) (j : Job V)
    → length (job_lines k w j) ≡ 2 + length (elements_lines j.design.drawing.mode 0 j.design.drawing.elements) + length j.design.dead + area k j.picture + length j.orders
job_count k w j =
    let e = elements_lines j.design.drawing.mode 0 j.design.drawing.elements in
    omega (
      arith,
      parts_count (plat_line w.code j.design.drawing) last_line e (listed dead_entry 0 j.design.dead) (listed (cell_entry k w) 0 j.picture) (listed move_entry 0 j.orders),
      each_listed (λ n. dead_line) 0 j.design.dead,
      cells_listed k w 0 j.picture,
      each_listed (λ n. move_line) 0 j.orders,
    )
