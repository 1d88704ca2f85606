-- An accepted line is exactly what the lines of a job gain. Assumes nothing.
use Rattle.std.proofs.Common.{◌≡◌, ℕ, zero, suc, ◌+◌, ◌-◌, ◌<◌, ◌≤◌, Bool, true, false, cond, not, ◌&&◌, eqb, ltb, leb, List, [], ◌∷◌, ◌++◌, length, get_or, Some, None, Ok, Err, Option, Result, sym, refl, ap, ◌∙◌, subst, append_assoc, append-nil, arith}
use Rattle.std.proofs.lemmas.List.{length_push}
use Rattle.std.proofs.lemmas.Result.{IfOk-at_ok}
use Rattle.std.specs.Result.{IfOk}
use Rattle.std.proofs.lemmas.Bool.{eqb-true, eq-eqb, leb-true, le-leb, ltb-true, and_parts, cond_both, cond-true}
use Rattle.kinds.specs.Lattices.{Values, Lawful}
use Rattle.kinds.specs.Numbers.{Written, Numbered}
use Rattle.grids.specs.declared.vectors.Vector.{Vector}
use Rattle.layers.specs.Layers.{kill_answer, dead_after}
use Rattle.layers.specs.declared.faults.KillFault.{KillFault}
use Rattle.lines.specs.Lines.{then, word_in, fields_of, line_of}
use Rattle.lines.specs.Numbers.{none_of, one_of, two_of, four_of}
use Rattle.lines.specs.declared.faults.LineFault.{LineFault}
use Rattle.lines.specs.declared.faults.LineFault.TheVariants as line
use Rattle.lines.specs.declared.line.Line.{Line}
use Rattle.lines.specs.declared.numbers.Number.{Number}
use Rattle.lines.specs.declared.numbers.Number.TheVariants.{Natural, Below}
use Rattle.lines.specs.declared.words.Word.{Word}
use Rattle.lines.specs.declared.words.Word.TheVariants.{Plat, Elem, Vect, Dead, Cell, Move, Last, Done, Area, Wide, Stop}
use Rattle.lines.proofs.Whole.{word_kept, line_accepted}
use Rattle.plans.specs.Drawings.{Drawing, Lists, blank}
use Rattle.plans.specs.Fitting.{with_elements, element_answer, element_after, sided_answer, vector_answer, vector_after, put_on}
use Rattle.plans.specs.Modes.{only_side, either_side, side_of}
use Rattle.plans.specs.Plans.{cells_in, in_plan}
use Rattle.plans.specs.Vectors.{vector}
use Rattle.plans.specs.declared.faults.PlanFault.{PlanFault}
use Rattle.plans.specs.declared.modes.Mode.{Mode}
use Rattle.plans.specs.declared.modes.Mode.TheVariants.{Strict, Weak, Independent, Strong}
use Rattle.plans.specs.declared.modes.Side.{Side}
use Rattle.plans.specs.declared.modes.Side.TheVariants.{First, Second}
use Rattle.jobs.specs.Entries.{row, count, plat_line, elem_line, vect_line, dead_line, cell_line, move_line, listed, first_side, dead_entry, cell_entry, move_entry, element_lines, elements_lines}
use Rattle.jobs.specs.Heads.{of_line, of_plan, natural, none}
use Rattle.jobs.specs.Jobs.{Job, padded, fair_order, body_lines, job_lines}
use Rattle.jobs.specs.Steps.{Draft, place, opens, whole_number, late, drafted, element_more, vector_more, dead_more, valued, cell_more, move_more, more, line_more}
use Rattle.jobs.specs.declared.faults.FileFault.{FileFault}
use Rattle.jobs.specs.declared.faults.FileFault.TheVariants as fault
use Rattle.jobs.specs.declared.orders.Order.{Order}
use Rattle.jobs.specs.declared.sections.Section.{Section}
use Rattle.jobs.specs.declared.sections.Section.TheVariants as section
use Rattle.jobs.proofs.Accepted.{passed}
use Rattle.jobs.proofs.Listings.{listed_push, padded_listed, length_padded, element_push, last_more, first_more, second_more}
use Rattle.jobs.proofs.Signs.{AllSigned, fields_signed}

-- what the parts of a step keep, for a fact P of the line and the answer that holds of every refusal

module _ {X : Type 0} (P : Line → Result X FileFault → Type 0) (bad : (l : Line) (f : FileFault) → P l (Err f)) where
  none_both : (w : Word) (a b c d : Option Number) (r : Result X FileFault) → P (row w None None None None) r → P (row w a b c d) (then (of_line (none_of a b c d)) (λ _. r))
  none_both w (Some a) b c d r good = bad _ _
  none_both w None (Some b) c d r good = bad _ _
  none_both w None None (Some c) d r good = bad _ _
  none_both w None None None (Some d) r good = bad _ _
  none_both w None None None None r good = good

  one_both : (w : Word) (a b c d : Option Number) (f : Number → Result X FileFault) → ((x : Number) → P (row w (Some x) None None None) (f x)) → P (row w a b c d) (then (of_line (one_of a b c d)) f)
  one_both w None b c d f good = bad _ _
  one_both w (Some a) (Some b) c d f good = bad _ _
  one_both w (Some a) None (Some c) d f good = bad _ _
  one_both w (Some a) None None (Some d) f good = bad _ _
  one_both w (Some a) None None None f good = good a

  two_both : (w : Word) (a b c d : Option Number) (f : Number × Number → Result X FileFault)
      → ((x y : Number) → P (row w (Some x) (Some y) None None) (f (x, y))) → P (row w a b c d) (then (of_line (two_of a b c d)) f)
  two_both w None b c d f good = bad _ _
  two_both w (Some a) None c d f good = bad _ _
  two_both w (Some a) (Some b) (Some c) d f good = bad _ _
  two_both w (Some a) (Some b) None (Some d) f good = bad _ _
  two_both w (Some a) (Some b) None None f good = good a b

  pub four_both : (w : Word) (a b c d : Option Number) (f : Number × Number × Number × Number → Result X FileFault)
      → ((x y z u : Number) → P (row w (Some x) (Some y) (Some z) (Some u)) (f (x, y, z, u))) → P (row w a b c d) (then (of_line (four_of a b c d)) f)
  four_both w None b c d f good = bad _ _
  four_both w (Some a) None c d f good = bad _ _
  four_both w (Some a) (Some b) None d f good = bad _ _
  four_both w (Some a) (Some b) (Some c) None f good = bad _ _
  four_both w (Some a) (Some b) (Some c) (Some d) f good = good a b c d

  pub natural_both : (line : Number → Line) (x : Number) (f : ℕ → Result X FileFault) → ((n : ℕ) → P (line (Natural n)) (f n)) → P (line x) (then (natural x) f)
  natural_both line (Natural n) f good = good n
  natural_both line (Below n) f good = bad _ _

  plan_both : (l : Line) (r : Result (Unit {0}) PlanFault) (f : Unit {0} → Result X FileFault) → (r ≡ Ok tt → P l (f tt)) → P l (then (of_plan r) f)
  plan_both l (Ok u) f good = good refl
  plan_both l (Err f) g good = bad _ _

-- a list of lines in four parts gains one line at the end of a part that nothing follows

module _ (l : Line) (g d c m : List Line) where
  end_move : g ++ (d ++ (c ++ (m ++ (l ∷ [])))) ≡ (g ++ (d ++ (c ++ m))) ++ (l ∷ [])
  end_move = simp append_assoc

  end_cell : m ≡ [] → g ++ (d ++ ((c ++ (l ∷ [])) ++ m)) ≡ (g ++ (d ++ (c ++ m))) ++ (l ∷ [])
  end_cell hm = rw hm (simp append-nil (simp append_assoc))

  end_dead : c ≡ [] → m ≡ [] → g ++ ((d ++ (l ∷ [])) ++ (c ++ m)) ≡ (g ++ (d ++ (c ++ m))) ++ (l ∷ [])
  end_dead hc hm = rw (hc, hm) (simp append-nil (simp append_assoc))

  end_element : d ≡ [] → c ≡ [] → m ≡ [] → (g ++ (l ∷ [])) ++ (d ++ (c ++ m)) ≡ (g ++ (d ++ (c ++ m))) ++ (l ∷ [])
  end_element hd hc hm = rw (hd, hc, hm) (simp append-nil)

-- tests that passed

sooner : (n a b : ℕ) → leb n a ≡ true → a ≤ b → leb n b ≡ true
sooner n a b y le = let h = leb-true n a y in le-leb n b (omega arith)

and_rest : (a b : Bool) → a ≡ true → (a && b) ≡ false → b ≡ false
and_rest true b y is = is
and_rest false b y is = cc

none_is : {X : Type 0} (xs : List X) → not (none xs) ≡ false → xs ≡ []
none_is [] is = refl
none_is (x ∷ xs) is = cc

-- the number of a side

abbrev side_number : Mode → Side → ℕ
side_number m First = first_side m
side_number m Second = 2

only_named : (n : ℕ) (s : Side) → only_side n ≡ Some s → (First ≡ s) × (0 ≡ n)
only_named zero s is = (cc, refl)
only_named (suc n) s is = cc

either_named : (n : ℕ) (s : Side) → either_side n ≡ Some s → side_number Independent s ≡ n
either_named zero s is = cc
either_named (suc zero) s is = let same : s ≡ First = cc in ap (side_number Independent) same
either_named (suc (suc zero)) s is = let same : s ≡ Second = cc in ap (side_number Independent) same
either_named (suc (suc (suc n))) s is = cc

side_named : (m : Mode) (n : ℕ) (s : Side) → side_of m n ≡ Some s → side_number m s ≡ n
side_named Strict n s is = let h = only_named n s is in ap (side_number Strict) (sym h.0) ∙ h.1
side_named Weak n s is = let h = only_named n s is in ap (side_number Weak) (sym h.0) ∙ h.1
side_named Independent n s is = either_named n s is
side_named Strong n s is = let h = only_named n s is in ap (side_number Strong) (sym h.0) ∙ h.1

-- an accepted vector is the line that its element gains
put_more : (m : Mode) (side : ℕ) (l : Lists) (v : Vector) (o : Option Side) → side_of m side ≡ o → sided_answer m o l v ≡ Ok tt → (eqb side (first_side m) && not (none l.second)) ≡ false
    → (n : ℕ) → element_lines m n (put_on o l v) ≡ element_lines m n l ++ (vect_line side v ∷ [])
put_more m side l v None is ok early n = cc
put_more m side l v (Some First) is ok early n =
    let same = side_named m side First is in
    first_more m n l v (none_is l.second (and_rest _ _ (eq-eqb side (first_side m) (sym same)) early)) ∙ ap (λ x. element_lines m n l ++ (vect_line x v ∷ [])) same
put_more m side l v (Some Second) is ok early n = second_more m n l v ∙ ap (λ x. element_lines m n l ++ (vect_line x v ∷ [])) (side_named m side Second is)

in_plan_ok : (r : Result (Unit {0}) KillFault) → in_plan r ≡ Ok tt → r ≡ Ok tt
in_plan_ok (Ok u) is = refl
in_plan_ok (Err f) is = cc

-- the lists of the sections after that of a draft are empty, and its picture is within the plan
pub record Tidy {V : Type 0} (s : Draft V) : Type 0 where
  pub dead : leb (place s.section) 1 ≡ true → s.job.design.dead ≡ []
  pub picture : leb (place s.section) 2 ≡ true → s.job.picture ≡ []
  pub orders : leb (place s.section) 3 ≡ true → s.job.orders ≡ []
  pub within : length s.job.picture ≤ cells_in s.job.design

module _ {V : Type 0} (k : Values V) (w : Written V) where
  -- the lines that a draft was read from
  abbrev pub lines_by : Section → Job V → List Line
  lines_by section.Plan j = body_lines k w j
  lines_by section.Elements j = body_lines k w j
  lines_by section.Dead j = body_lines k w j
  lines_by section.Cells j = body_lines k w j
  lines_by section.Moves j = body_lines k w j
  lines_by section.Last j = job_lines k w j

  -- the line l is what the lines of j gain
  abbrev Gained : Job V → Line → Result (Draft V) FileFault → Type 0
  Gained j l (Ok t) = (lines_by t.section t.job ≡ body_lines k w j ++ (l ∷ [])) × Tidy t
  Gained j l (Err f) = Unit {0}

  module _ (lawful : Lawful k) (numbered : Numbered k w) (room : ℕ) (s : Draft V) (tidy : Tidy s) where
    abbrev j : Job V
    j = s.job

    abbrev G : List Line
    G = elements_lines j.design.drawing.mode 0 j.design.drawing.elements

    abbrev D : List Line
    D = listed dead_entry 0 j.design.dead

    abbrev C : List Line
    C = listed (cell_entry k w) 0 j.picture

    abbrev M : List Line
    M = listed move_entry 0 j.orders

    abbrev head : List Line → List Line
    head ls = plat_line w.code j.design.drawing ∷ ls

    abbrev P : Line → Result (Draft V) FileFault → Type 0
    P = Gained j

    bad : (l : Line) (f : FileFault) → P l (Err f)
    bad l f = tt

    -- elements

    abbrev drawn_as : Drawing → Result (Draft V) FileFault
    drawn_as d = drafted section.Elements j (record { drawing = d; dead = j.design.dead })

    elements_gain : (es : List Lists) (l : Line) → leb (place s.section) 1 ≡ true → elements_lines j.design.drawing.mode 0 es ≡ G ++ (l ∷ []) → P l (drawn_as (with_elements j.design.drawing es))
    elements_gain es l may is =
        let hd = tidy.dead may in
        let hp = tidy.picture (sooner _ 1 2 may (omega arith)) in
        let ho = tidy.orders (sooner _ 1 3 may (omega arith)) in (
          ap (λ x. head (x ++ (D ++ (C ++ M)))) is ∙ ap head (end_element l G D C M (ap (listed dead_entry 0) hd) (ap (listed (cell_entry k w) 0) hp) (ap (listed move_entry 0) ho)),
          record { dead = λ _. hd; picture = λ _. hp; orders = λ _. ho; within = let none : length j.picture ≡ 0 = ap length hp in omega arith },
        )

    element_gains : (n : ℕ) → leb (place s.section) 1 ≡ true → P (elem_line n) (element_more j n)
    element_gains n may =
        let es = j.design.drawing.elements in
        cond_both (eqb n (length es)) _ _ (P (elem_line n)) (λ same.
        plan_both P bad (elem_line n) (element_answer j.design.drawing) _ (λ ok.
        let here : 0 + length es ≡ n = sym (eqb-true n (length es) same ∙ omega arith) in
        subst (λ r. P (elem_line n) (drawn_as (element_after r j.design.drawing))) (sym ok)
        (elements_gain (es ++ (blank ∷ [])) (elem_line n) may (element_push j.design.drawing.mode 0 es ∙ ap (λ i. G ++ (elem_line i ∷ [])) here)))) (λ _. tt)

    vector_gains : (side : ℕ) (v : Vector) → eqb (place s.section) 1 ≡ true → P (vect_line side v) (vector_more j side v)
    vector_gains side v may =
        let d = j.design.drawing in
        let e = length d.elements - 1 in
        let l = vect_line side v in
        let at = eqb-true _ 1 may in
        cond_both (late d side) _ _ (P l) (λ _. tt) (λ early.
        plan_both P bad l (vector_answer d e side v) _ (λ ok.
        let h = passed _ _ _ _ ok in
        let lt = ltb-true e (length d.elements) h.0 in
        subst (λ r. P l (drawn_as (vector_after r d e side v))) (sym ok)
        (elements_gain _ l (le-leb _ 1 (omega arith)) (last_more d.mode 0 d.elements e _ l (omega arith) (put_more d.mode side (get_or d.elements e blank) v (side_of d.mode side) refl h.1 early)))))

    -- dead cells

    dead_gains : (c : ℕ) → leb (place s.section) 2 ≡ true → P (dead_line c) (dead_more j c)
    dead_gains c may =
        let d = j.design in
        let hp = tidy.picture may in
        let ho = tidy.orders (sooner _ 2 3 may (omega arith)) in
        plan_both P bad (dead_line c) (in_plan (kill_answer (cells_in d) d.dead c)) _ (λ ok.
        subst (λ r. P (dead_line c) (drafted section.Dead j (record { drawing = d.drawing; dead = dead_after r d.dead c }))) (sym (in_plan_ok _ ok)) (
          ap (λ x. head (G ++ (x ++ (C ++ M)))) (listed_push dead_entry d.dead c _ refl) ∙ ap head (end_dead (dead_line c) G D C M (ap (listed (cell_entry k w) 0) hp) (ap (listed move_entry 0) ho)),
          record { dead = λ y. cc; picture = λ _. hp; orders = λ _. ho; within = tidy.within },
        ))

    -- cells

    value_written : (n : ℕ) (x : V) → 0 < n → w.value n ≡ Some x → (i c : ℕ) → i ≡ c → cell_entry k w i x ≡ Some (cell_line c n)
    value_written n x above is i c same = cond-true _ _ _ (high (k.under x k.least) refl) ∙ (λ t. Some (cell_line (same t) (named t)))
      where
        named : w.number x ≡ n
        named = numbered.named n x is

        high : (b : Bool) → k.under x k.least ≡ b → not b ≡ true
        high false low = refl
        high true low = let zero : w.number x ≡ 0 = ap w.number (lawful.equal x k.least low (lawful.least_under x)) ∙ numbered.least_is_zero in absurd (omega (arith, named))

    value_gains : (c n : ℕ) → leb (place s.section) 3 ≡ true → c < cells_in j.design → 0 < n → (o : Option V) → w.value n ≡ o → P (cell_line c n) (valued k w j c o)
    value_gains c n may lt above None is = tt
    value_gains c n may lt above (Some x) is =
        let a = j.picture in
        let ho = tidy.orders may in
        cond_both (leb (length a) c) _ _ (P (cell_line c n)) (λ y.
        let le = leb-true (length a) c y in
        let size = length_padded k c a le in (
          ap (λ x. head (G ++ (D ++ (x ++ M)))) (listed_push (cell_entry k w) (padded k c a) x (cell_line c n) (value_written n x above is _ c size) ∙ ap (λ x. x ++ (cell_line c n ∷ [])) (padded_listed k w lawful c a le))
              ∙ ap head (end_cell (cell_line c n) G D C M (ap (listed move_entry 0) ho)),
          record { dead = λ y. cc; picture = λ y. cc; orders = λ _. ho; within = omega (arith, length_push (padded k c a) x) },
        )) (λ _. tt)

    cell_gains : (c n : ℕ) → leb (place s.section) 3 ≡ true → P (cell_line c n) (cell_more k w j c n)
    cell_gains c n may =
        cond_both (ltb c (cells_in j.design) && ltb 0 n) _ _ (P (cell_line c n)) (λ y.
        let h = and_parts _ _ y in
        value_gains c n may (ltb-true c _ h.0) (ltb-true 0 n h.1) (w.value n) refl) (λ _. tt)

    -- moves

    move_gains : (o : Order) → P (move_line o) (move_more room j o)
    move_gains o =
        cond_both (fair_order o) _ _ (P (move_line o)) (λ _.
        cond_both (ltb (length j.orders) room) _ _ (P (move_line o)) (λ _. (
          ap (λ x. head (G ++ (D ++ (C ++ x)))) (listed_push move_entry j.orders o _ refl) ∙ ap head (end_move (move_line o) G D C M),
          record { dead = λ y. cc; picture = λ y. cc; orders = λ y. cc; within = tidy.within },
        )) (λ _. tt)) (λ _. tt)

    -- one line more, by its word

    abbrev Q : Line → Result (Draft V) FileFault → Type 0
    Q l r = AllSigned l → P l r

    vector_same : (side : ℕ) (x y z : Number) → AllSigned (row Vect (count side) (Some x) (Some y) (Some z)) → vect_line side (vector (whole_number x) (whole_number y) (whole_number z)) ≡ row Vect (count side) (Some x) (Some y) (Some z)
    vector_same side x y z signs t = row Vect (count side) (Some (signs.0 t)) (Some (signs.1 t)) (Some (signs.2 t))

    more_gains : (word : Word) (a b c d : Option Number) → opens s.section word ≡ true → Q (row word a b c d) (more k w room j word (row word a b c d))
    more_gains Plat a b c d may signs = tt
    more_gains Elem a b c d may signs = one_both P bad Elem a b c d _ (λ x. natural_both P bad (λ x. row Elem (Some x) None None None) x _ (λ n. element_gains n may))
    more_gains Vect a b c d may signs =
        four_both Q (λ _ _ _. tt) Vect a b c d _ (λ side x y z.
        natural_both Q (λ _ _ _. tt) (λ side. row Vect (Some side) (Some x) (Some y) (Some z)) side _ (λ n signs.
        let v = vector (whole_number x) (whole_number y) (whole_number z) in
        subst (λ l. P l (vector_more j n v)) (vector_same n x y z signs) (vector_gains n v may))) signs
    more_gains Dead a b c d may signs = one_both P bad Dead a b c d _ (λ x. natural_both P bad (λ x. row Dead (Some x) None None None) x _ (λ n. dead_gains n may))
    more_gains Cell a b c d may signs =
        two_both P bad Cell a b c d _ (λ x y.
        natural_both P bad (λ x. row Cell (Some x) (Some y) None None) x _ (λ m. natural_both P bad (λ y. row Cell (count m) (Some y) None None) y _ (λ n. cell_gains m n may)))
    more_gains Move a b c d may signs =
        two_both P bad Move a b c d _ (λ x y.
        natural_both P bad (λ x. row Move (Some x) (Some y) None None) x _ (λ m.
        natural_both P bad (λ y. row Move (count m) (Some y) None None) y _ (λ n. move_gains (record { action = m; element = n }))))
    more_gains Last a b c d may signs =
        none_both P bad Last a b c d _ (refl, record { dead = λ y. cc; picture = λ y. cc; orders = λ y. cc; within = tidy.within })
    more_gains Done a b c d may signs = tt
    more_gains Area a b c d may signs = tt
    more_gains Wide a b c d may signs = tt
    more_gains Stop a b c d may signs = tt

    -- what the next bytes give: a line that the lines of the job gain
    abbrev pub Taken : List ℕ → Draft V → Type 0
    Taken bs t = (l : Line) × (line_of bs ≡ Ok l) × (lines_by t.section t.job ≡ body_lines k w j ++ (l ∷ [])) × Tidy t

    found : (bs : List ℕ) (l : Line) (r : Result (Draft V) FileFault) → line_of bs ≡ Ok l → P l r → IfOk r (Taken bs)
    found bs l (Ok t) is gained = (l, is, gained.0, gained.1)
    found bs l (Err f) is gained = tt

    fields_taken : (bs : List ℕ) (word : Word) → word_in bs ≡ Ok word → opens s.section word ≡ true → (r : Result Line LineFault) → fields_of word bs ≡ r → IfOk (then (of_line r) (more k w room j word)) (Taken bs)
    fields_taken bs word worded may (Err f) is = tt
    fields_taken bs word worded may (Ok l) is =
        let same = word_kept word bs l is in
        let signs : AllSigned l = IfOk-at_ok AllSigned is (fields_signed word bs) in
        found bs l _ (line_accepted bs word l worded is) (subst (λ x. P l (more k w room j x l)) same (more_gains l.word l.one l.two l.three l.four (ap (opens s.section) same ∙ may) signs))

    word_taken : (bs : List ℕ) (r : Result Word LineFault) → word_in bs ≡ r
        → IfOk (then (of_line r) (λ word. cond (opens s.section word) (then (of_line (fields_of word bs)) (more k w room j word)) (Err (fault.Line line.Word)))) (Taken bs)
    word_taken bs (Err f) is = tt
    word_taken bs (Ok word) is = cond_both (opens s.section word) _ _ (λ r. IfOk r (Taken bs)) (λ may. fields_taken bs word is may (fields_of word bs) refl) (λ _. tt)

    pub line_taken : (bs : List ℕ) → IfOk (line_more k w room s bs) (Taken bs)
    line_taken bs = word_taken bs (word_in bs) refl
