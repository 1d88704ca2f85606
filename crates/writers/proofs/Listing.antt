-- The lines that iterators give are those of a job. Assumes nothing.
use Rattle.std.proofs.Common.{◌≡◌, ℕ, zero, suc, ◌+◌, ◌*◌, ◌<◌, ◌≤◌, ◌&&◌, List, [], ◌∷◌, ◌++◌, map, length, sum_by, get_or, drop, Some, None, Option, sym, refl, ap, ◌∙◌, ap₂, append_assoc, arith}
use Rattle.std.specs.List.{flat_map, filter_map, cons_option, enumerate_from, range_with_len, list_all}
use Rattle.std.specs.Option.{option_to_list}
use Rattle.std.proofs.lemmas.List.{at_drop_all}
use Rattle.std.proofs.lemmas.List.FromFn.{length-range_with_len}
use Rattle.std.proofs.lemmas.List.Sums.{sum_by-cons}
use Rattle.std.proofs.lemmas.List.Concat.{length-flat_map}
use Rattle.kinds.specs.Lattices.{Values}
use Rattle.kinds.specs.Numbers.{Written}
use Rattle.morphology.specs.declared.words.Record.{Record}
use Rattle.lines.specs.declared.line.Line.{Line}
use Rattle.plans.specs.Drawings.{Lists, blank}
use Rattle.plans.specs.Plans.{Design, design_of}
use Rattle.plans.specs.declared.plan.Plan.{Plan}
use Rattle.plans.specs.declared.modes.Mode.{Mode}
use Rattle.jobs.specs.Entries.{listed, plat_line, elem_line, vect_line, dead_line, dead_entry, cell_entry, move_entry, move_line, last_line, first_side, element_lines, elements_lines}
use Rattle.jobs.specs.Jobs.{fair_order, all_fair, job_lines}
use Rattle.writers.specs.Writing.{asked, job_of, lines_of_element, lines_of_elements}
use Rattle.writers.proofs.LineCounts.{element_count, elements_more}
use Rattle.writers.proofs.PlanLimits.{few_elements, few_places}

-- a line for each item
pub mapped : {X : Type 0} (line : X → Line) (i : ℕ) (xs : List X) → map line xs ≡ listed (λ n x. Some (line x)) i xs
mapped line i [] = refl
mapped line i (x ∷ xs) = ap (λ ls. line x ∷ ls) (mapped line (suc i) xs)

one_or_none : (o : Option Line) (ls ms : List Line) → ls ≡ ms → cons_option o ls ≡ option_to_list o ++ ms
one_or_none None ls ms same = same
one_or_none (Some l) ls ms same = ap (λ xs. l ∷ xs) same

-- a line for the items that have one, by their places
pub filtered : {X : Type 0} (line : ℕ → X → Option Line) (i : ℕ) (xs : List X) → filter_map (λ p. line p.0 p.1) (enumerate_from i xs) ≡ listed line i xs
filtered line i [] = refl
filtered line i (x ∷ xs) =
    let next : i + 1 ≡ suc i = omega arith in
    one_or_none (line i x) _ _ (ap (λ n. filter_map (λ p. line p.0 p.1) (enumerate_from n xs)) next ∙ filtered line (suc i) xs)

-- the lines of records are those of what they ask for
pub moves : (i : ℕ) (rs : List Record) → map (λ r. move_line (asked r)) rs ≡ listed move_entry i (map asked rs)
moves i [] = refl
moves i (r ∷ rs) = ap (λ ls. move_line (asked r) ∷ ls) (moves (suc i) rs)

-- an element, its first list and its second, as an iterator gives them
abbrev pub element_given : ℕ → List Lists → ℕ → List Line
element_given side ls e = ((elem_line e ∷ []) ++ map (vect_line side) (get_or ls e blank).first) ++ map (vect_line 2) (get_or ls e blank).second

element_is : (m : Mode) (ls : List Lists) (e : ℕ) → element_given (first_side m) ls e ≡ element_lines m e (get_or ls e blank)
element_is m ls e = ap₂ (λ xs ys. elem_line e ∷ (xs ++ ys)) (mapped (vect_line (first_side m)) 0 (get_or ls e blank).first) (mapped (vect_line 2) 0 (get_or ls e blank).second)

-- the lines of the elements from one on, each as it is written
written_from : (m : Mode) (ls : List Lists) (n i : ℕ) → i + n ≡ length ls → flat_map (λ e. element_lines m e (get_or ls e blank)) (range_with_len i n) ≡ elements_lines m i (drop i ls)
written_from m ls zero i all = sym (at_drop_all (elements_lines m i) ls i (omega arith))
written_from m ls (suc n) i all =
    let within : i < length ls = omega arith in
    let left : (i + 1) + n ≡ length ls = omega arith in
    ap (λ x. element_lines m i (get_or ls i blank) ++ x) (written_from m ls n (i + 1) left) ∙ sym (elements_more m ls i within)

pub elements_counted : (d : Design) (n : ℕ) → n ≡ length d.drawing.elements → sum_by (λ e. length (lines_of_element d e)) (range_with_len 0 n) ≡ length (lines_of_elements d)
elements_counted d n all =
    sym (length-flat_map (lines_of_element d) (range_with_len 0 n)) ∙ ap length (written_from d.drawing.mode d.drawing.elements n 0 (omega arith))

sum_small : (h : ℕ → ℕ) (top : ℕ) → ((e : ℕ) → h e ≤ top) → (es : List ℕ) → sum_by h es ≤ top * length es
sum_small h top small [] = omega arith
sum_small h top small (e ∷ es) = omega (arith, sum_by-cons h e es, small e, sum_small h top small es)

pub few_counted : (p : Plan) (n : ℕ) → n ≡ length (design_of p).drawing.elements → sum_by (λ e. length (lines_of_element (design_of p) e)) (range_with_len 0 n) ≤ 520
few_counted p n all =
    omega (arith, all, few_elements p, length-range_with_len 0 n, sum_small (λ e. length (lines_of_element (design_of p) e)) 65 (λ e. omega (arith, element_count (design_of p).drawing.mode e (get_or (design_of p).drawing.elements e blank), few_places p e)) (range_with_len 0 n))

elements_given : (m : Mode) (ls : List Lists) (es : List ℕ) → flat_map (element_given (first_side m) ls) es ≡ flat_map (λ e. element_lines m e (get_or ls e blank)) es
elements_given m ls [] = refl
elements_given m ls (e ∷ es) = ap₂ (λ x y. x ++ y) (element_is m ls e) (elements_given m ls es)

pub fair_all : (rs : List Record) → list_all (λ r. fair_order (asked r)) rs ≡ all_fair (map asked rs)
fair_all [] = refl
fair_all (r ∷ rs) = ap (λ t. fair_order (asked r) && t) (fair_all rs)

in_order : (e d c m : List Line) → ((e ++ d) ++ c) ++ m ≡ e ++ (d ++ (c ++ m))
in_order e d c m = simp append_assoc

-- what the iterator of a job gives
pub job_given : {V : Type 0} (k : Values V) (w : Written V) (d : Design) (a : List V) (rs : List Record) (side n : ℕ) (p l : Line)
    → side ≡ first_side d.drawing.mode → n ≡ length d.drawing.elements → p ≡ plat_line w.code d.drawing → l ≡ last_line
    → (((((p ∷ []) ++ flat_map (element_given side d.drawing.elements) (range_with_len 0 n)) ++ map dead_line d.dead) ++ filter_map (λ x. cell_entry k w x.0 x.1) (enumerate_from 0 a)) ++ map (λ r. move_line (asked r)) rs) ++ (l ∷ []) ≡ job_lines k w (job_of d a rs)
job_given k w d a rs side n p l side_is all plat last =
    let es = elements_lines d.drawing.mode 0 d.drawing.elements in
    let elements : flat_map (element_given side d.drawing.elements) (range_with_len 0 n) ≡ es =
    ap (λ s. flat_map (element_given s d.drawing.elements) (range_with_len 0 n)) side_is
    ∙ elements_given d.drawing.mode d.drawing.elements (range_with_len 0 n)
    ∙ written_from d.drawing.mode d.drawing.elements n 0 (omega arith) in
    let ds = mapped dead_line 0 d.dead in
    let cs = filtered (cell_entry k w) 0 a in
    let ms = moves 0 rs in
    ap₂ (λ x y. (((((x ∷ []) ++ y) ++ map dead_line d.dead) ++ filter_map (λ x. cell_entry k w x.0 x.1) (enumerate_from 0 a)) ++ map (λ r. move_line (asked r)) rs) ++ (l ∷ [])) plat elements
    ∙ ap₂ (λ x y. ((((plat_line w.code d.drawing ∷ es) ++ x) ++ y) ++ map (λ r. move_line (asked r)) rs) ++ (l ∷ [])) ds cs
    ∙ ap₂ (λ x y. ((((plat_line w.code d.drawing ∷ es) ++ listed dead_entry 0 d.dead) ++ listed (cell_entry k w) 0 a) ++ x) ++ (y ∷ [])) ms last
    ∙ ap (λ x. (plat_line w.code d.drawing ∷ x) ++ (last_line ∷ [])) (in_order es (listed dead_entry 0 d.dead) (listed (cell_entry k w) 0 a) (listed move_entry 0 (map asked rs)))
