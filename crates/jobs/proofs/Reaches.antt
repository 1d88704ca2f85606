-- The lines of a lawful job are accepted one after another and lead to the job. Assumes nothing.
use Rattle.std.proofs.Common.{◌≡◌, ℕ, suc, ◌+◌, ◌-◌, ◌<◌, ◌≤◌, Bool, true, false, cond, not, eqb, ltb, List, [], ◌∷◌, ◌++◌, length, set, replicate, ℤ, pos, negsuc, Some, None, Ok, Result, sym, refl, ap, ◌∙◌, subst, ⊎_elim, arith}
use Rattle.std.proofs.lemmas.List.{append-nil, append_assoc, length-append, length-replicate, get_or_at, set_at, take_all, replicate_more}
use Rattle.std.proofs.lemmas.List.Folds.{list_all-append}
use Rattle.std.proofs.lemmas.Bool.{true≢false, and_parts, and_from, and_left, and_right, not_from_true, not-false, cases_eq, le-leb, lt-ltb, eq-eqb, cond-true, cond-false}
use Rattle.std.specs.Option.{option_to_list}
use Rattle.kinds.specs.Lattices.{Values, Lawful, not_least}
use Rattle.kinds.specs.Numbers.{Written, Numbered}
use Rattle.plates.specs.Lists.{below}
use Rattle.layers.specs.Layers.{distinct, dead_after, kill_answer}
use Rattle.grids.specs.Cells.{vector_sum}
use Rattle.grids.specs.declared.vectors.Vector.{Vector}
use Rattle.lines.specs.Lines.{then}
use Rattle.lines.specs.declared.faults.LineFault.TheVariants as line
use Rattle.lines.specs.declared.line.Line.{Line}
use Rattle.plans.specs.Drawings.{Drawing, Lists, blank}
use Rattle.plans.specs.Fitting.{element_answer, element_after, vector_answer, vector_after, sided_answer, list_answer, list_on, put, put_on}
use Rattle.plans.specs.LawfulDesigns.{LawfulList, LawfulLists, AllLawful}
use Rattle.plans.specs.Modes.{side_of, allowed}
use Rattle.plans.specs.Plans.{Design, cells_in, in_plan, vector_added}
use Rattle.plans.specs.Vectors.{vector, near, every}
use Rattle.plans.specs.declared.modes.Mode.{Mode}
use Rattle.plans.specs.declared.modes.Mode.TheVariants.{Strict, Weak, Independent, Strong}
use Rattle.plans.specs.declared.modes.Side.{Side}
use Rattle.plans.specs.declared.modes.Side.TheVariants.{First, Second}
use Rattle.plans.proofs.Entering.{list_takes, dead_takes}
use Rattle.lines.specs.Numbers.{number_of}
use Rattle.jobs.specs.Entries.{first_side, listed, elem_line, vect_line, dead_line, cell_line, move_line, last_line, vect_entry, dead_entry, cell_entry, move_entry, element_lines, elements_lines}
use Rattle.jobs.specs.Heads.{must, of_plan, none}
use Rattle.jobs.specs.Jobs.{Job, padded, fair_order, all_fair, LawfulJob}
use Rattle.jobs.specs.Steps.{Draft, place, opens, whole_number, newest, late, drafted, vector_more, valued, more}
use Rattle.jobs.specs.declared.faults.FileFault.{FileFault}
use Rattle.jobs.specs.declared.faults.FileFault.TheVariants as fault
use Rattle.jobs.specs.declared.orders.Order.{Order}
use Rattle.jobs.specs.declared.sections.Section.{Section}
use Rattle.jobs.specs.declared.sections.Section.TheVariants as section

whole_number_of : (z : ℤ) → whole_number (number_of z) ≡ z
whole_number_of (pos n) = refl
whole_number_of (negsuc n) = refl

same_vector : (v : Vector) → vector (whole_number (number_of v.a)) (whole_number (number_of v.b)) (whole_number (number_of v.c)) ≡ v
same_vector v = λ i. vector (whole_number_of v.a i) (whole_number_of v.b i) (whole_number_of v.c i)

-- sides

first_is : (m : Mode) → side_of m (first_side m) ≡ Some First
first_is Strict = refl
first_is Weak = refl
first_is Independent = refl
first_is Strong = refl

-- only the independent mode takes a vector on the second list
second_is : (m : Mode) (z : ℤ) → allowed m Second z ≡ true → (side_of m 2 ≡ Some Second) × (eqb 2 (first_side m) ≡ false)
second_is Strict z is = cc
second_is Weak z is = cc
second_is Independent z is = (refl, refl)
second_is Strong z is = cc

every_one : (test : Vector → Bool) (p q : List Vector) (v : Vector) → every test (p ++ v ∷ q) ≡ true → test v ≡ true
every_one test [] q v h = (and_parts (test v) _ h).0
every_one test (u ∷ p) q v h = every_one test p q v (and_parts (test u) _ h).1

fair_one : (p q : List Order) (o : Order) → all_fair (p ++ o ∷ q) ≡ true → fair_order o ≡ true
fair_one p q o h = (and_parts (fair_order o) _ (and_parts (all_fair p) _ (sym (list_all-append fair_order p (o ∷ q)) ∙ h)).1).0

-- a vector that the list of a side takes
pub record Taken (m : Mode) (s : Side) (vs : List Vector) (v : Vector) : Type 0 where
  pub near : near v ≡ true
  pub fair : allowed m s (vector_sum v) ≡ true
  pub list : list_answer vs v ≡ Ok tt

taken : (m : Mode) (s : Side) (p q : List Vector) (v : Vector) → LawfulList m s (p ++ v ∷ q) → Taken m s p v
taken m s p q v h = record { near = every_one near p q v h.near; fair = every_one _ p q v h.fair; list = list_takes p q v h.apart h.few }

-- the place of the newest element
module _ (p : List Lists) (l : Lists) where
  newest_place : length p ≡ length (p ++ l ∷ []) - 1
  newest_place = omega (arith, length-append p (l ∷ []))

  newest_is : newest (p ++ l ∷ []) ≡ l
  newest_is = get_or_at p l [] blank _ newest_place

  newest_set : (y : Lists) → set (p ++ l ∷ []) (length (p ++ l ∷ []) - 1) y ≡ p ++ y ∷ []
  newest_set y = set_at p l [] y _ newest_place

  newest_there : ltb (length (p ++ l ∷ []) - 1) (length (p ++ l ∷ [])) ≡ true
  newest_there = lt-ltb _ _ (omega (arith, length-append p (l ∷ [])))

module _ (m : Mode) (w h : ℕ) where
  -- the drawing of this mode and size with some elements
  abbrev pub with_lists : List Lists → Drawing
  with_lists es = record { mode = m; width = w; height = h; elements = es }

  module _ (p : List Lists) (l : Lists) (side : ℕ) (s : Side) (v : Vector) (is : side_of m side ≡ Some s) (t : Taken m s (list_on s l) v) where
    newest_answers : vector_answer (with_lists (p ++ l ∷ [])) (length (p ++ l ∷ []) - 1) side v ≡ Ok tt
    newest_answers =
        cond-true _ _ _ (newest_there p l)
        ∙ (λ i. sided_answer m (is i) (newest_is p l i) v)
        ∙ cond-true _ _ _ t.near ∙ cond-true _ _ _ t.fair ∙ t.list

    newest_takes : (dead : List ℕ) → vector_added (record { drawing = with_lists (p ++ l ∷ []); dead = dead }) (length (p ++ l ∷ []) - 1) side v ≡ record { drawing = with_lists (p ++ put s l v ∷ []); dead = dead }
    newest_takes dead =
        ap (λ r. record { drawing = vector_after r (with_lists (p ++ l ∷ [])) (length (p ++ l ∷ []) - 1) side v; dead = dead }) newest_answers
        ∙ (λ i. record { drawing = with_lists (set (p ++ l ∷ []) (length (p ++ l ∷ []) - 1) (put_on (is i) (newest_is p l i) v)); dead = dead })
        ∙ ap (λ es. record { drawing = with_lists es; dead = dead }) (newest_set p l (put s l v))

-- the plan of a drawing without its elements, no cell and no move
abbrev pub bare : {V : Type 0} → Drawing → Job V
bare d = record { design = record { drawing = with_lists d.mode d.width d.height []; dead = [] }; picture = []; orders = [] }

abbrev pub draft : {V : Type 0} → Section → Job V → Draft V
draft t j = record { section = t; job = j }

-- a section that is not past the n-th
abbrev pub UpTo : ℕ → Section → Type 0
UpTo n t = place t ≤ n

abbrev pub InElements : Section → Type 0
InElements t = t ≡ section.Elements

module _ {V : Type 0} (k : Values V) where
  -- a is p without some least cells at its end
  abbrev pub Held : List V → List V → Type 0
  Held a p = (n : ℕ) × (a ++ replicate n k.least ≡ p)

  held_length : (a p : List V) → Held a p → length a ≤ length p
  held_length a p h = omega (arith, ap length h.1, length-append a (replicate h.0 k.least))

  pub held_padded : (a p : List V) (n : ℕ) → Held a p → length p ≡ n → padded k n a ≡ p
  held_padded a p n h is =
      let some : length a ≤ n = omega (arith, held_length a p h) in
      let left : n - length a ≡ h.0 = omega (arith, ap length h.1, length-append a (replicate h.0 k.least), length-replicate h.0 k.least) in
      (λ i. take_all n a some i ++ replicate (left i) k.least) ∙ h.1

  held_more : (a p : List V) (x : V) → Held a p → x ≡ k.least → Held a (p ++ x ∷ [])
  held_more a p x h is =
      (h.0 + 1, ap (λ r. a ++ r) (sym (replicate_more h.0 k.least)) ∙ sym (append_assoc a (replicate h.0 k.least) (k.least ∷ [])) ∙ (λ i. h.1 i ++ sym is i ∷ []))

module _ {V : Type 0} (k : Values V) (w : Written V) where
  -- all lines but the first and LAST
  abbrev pub middle_lines : Job V → List Line
  middle_lines j =
      elements_lines j.design.drawing.mode 0 j.design.drawing.elements
      ++ (listed dead_entry 0 j.design.dead ++ (listed (cell_entry k w) 0 j.picture ++ listed move_entry 0 j.orders))

module _ {V : Type 0} (k : Values V) (w : Written V) (room : ℕ) where
  -- one line more
  abbrev pub step : Draft V → Line → Result (Draft V) FileFault
  step s l = must (opens s.section l.word) (fault.Line line.Word) (more k w room s.job l.word l)

  -- line after line, from one draft to another
  abbrev pub Leads : Draft V → List Line → Draft V → Type 0
  Leads s [] t = s ≡ t
  Leads s (l ∷ ls) t = (u : Draft V) × (step s l ≡ Ok u) × Leads u ls t

  pub leads_on : (ls ms : List Line) (s t u : Draft V) → Leads s ls t → Leads t ms u → Leads s (ls ++ ms) u
  leads_on [] ms s t u h g = subst (λ s. Leads s ms u) (sym h) g
  leads_on (l ∷ ls) ms s t u h g = (h.0, h.1, leads_on ls ms h.0 t u h.2 g)

  -- the lines lead to the job, in one of some sections
  abbrev pub Arrives : (Section → Type 0) → Draft V → List Line → Job V → Type 0
  Arrives May s ls j = (t : Section) × May t × Leads s ls (draft t j)

  here : (May : Section → Type 0) (t : Section) (i j : Job V) → May t → i ≡ j → Arrives May (draft t i) [] j
  here May t i j may is = (t, may, ap (draft t) is)

  first : (May : Section → Type 0) (s u : Draft V) (l : Line) (ls : List Line) (j : Job V) → step s l ≡ Ok u → Arrives May u ls j → Arrives May s (l ∷ ls) j
  first May s u l ls j is h = (h.0, h.1, (u, is, h.2))

  pub onwards : (May Might : Section → Type 0) (s : Draft V) (ls ms : List Line) (j i : Job V)
      → Arrives May s ls j → ((t : Section) → May t → Arrives Might (draft t j) ms i) → Arrives Might s (ls ++ ms) i
  onwards May Might s ls ms j i h g = let n = g h.0 h.1 in (n.0, n.1, leads_on ls ms s (draft h.0 j) (draft n.0 i) h.2 n.2)

  -- A list that has a line for each item: where each line is accepted after those before it, all lead to the whole list.
  module _ {X : Type 0} (May : Section → Type 0) (to : Section) (may : May to) (line-for : X → Line) (J : List X → Job V) (all : List X)
      (takes : (t : Section) (p q : List X) (x : X) → May t → p ++ x ∷ q ≡ all → step (draft t (J p)) (line-for x) ≡ Ok (draft to (J (p ++ x ∷ [])))) where
    items_arrive : (i : ℕ) (t : Section) (p q : List X) → May t → p ++ q ≡ all → Arrives May (draft t (J p)) (listed (λ i x. Some (line-for x)) i q) (J all)
    items_arrive i t p [] h is = here May t (J p) (J all) h (ap J (sym (append-nil p) ∙ is))
    items_arrive i t p (x ∷ q) h is =
        first May _ (draft to (J (p ++ x ∷ []))) (line-for x) _ (J all) (takes t p q x h is)
        (items_arrive (suc i) to (p ++ x ∷ []) q may (append_assoc p (x ∷ []) q ∙ is))

  -- moves

  abbrev moved : Design → List V → List Order → Job V
  moved d a os = record { design = d; picture = a; orders = os }

  module _ (d : Design) (a : List V) (all : List Order) (fair : all_fair all ≡ true) (few : length all ≤ room) where
    move_taken : (t : Section) (p q : List Order) (o : Order) → UpTo 4 t → p ++ o ∷ q ≡ all → step (draft t (moved d a p)) (move_line o) ≡ Ok (draft section.Moves (moved d a (p ++ o ∷ [])))
    move_taken t p q o h is =
        let space : length p < room = omega (arith, few, ap length is, length-append p (o ∷ q)) in
        cond-true _ _ _ (le-leb _ _ h) ∙ cond-true _ _ _ (fair_one p q o (ap all_fair is ∙ fair)) ∙ cond-true _ _ _ (lt-ltb _ _ space)

    pub moves_arrive : (t : Section) → UpTo 4 t → Arrives (UpTo 4) (draft t (moved d a [])) (listed move_entry 0 all) (moved d a all)
    moves_arrive t h = items_arrive (UpTo 4) section.Moves (omega arith) move_line (moved d a) all move_taken 0 t [] all h refl

  -- dead cells

  abbrev mourned : Drawing → List ℕ → Job V
  mourned drawing ds = record { design = record { drawing = drawing; dead = ds }; picture = []; orders = [] }

  module _ (drawing : Drawing) (all : List ℕ) (living : below (cells_in (record { drawing = drawing; dead = [] })) all ≡ true) (apart : distinct all ≡ true) (few : length all ≤ 64) where
    dead_taken : (t : Section) (p q : List ℕ) (c : ℕ) → UpTo 2 t → p ++ c ∷ q ≡ all → step (draft t (mourned drawing p)) (dead_line c) ≡ Ok (draft section.Dead (mourned drawing (p ++ c ∷ [])))
    dead_taken t p q c h is =
        let n = cells_in (mourned drawing p).design in
        let ok : kill_answer n p c ≡ Ok tt = dead_takes n p q c (ap (below n) is ∙ living) (ap distinct is ∙ apart) (subst (λ x. length x ≤ 64) (sym is) few) in
        cond-true _ _ _ (le-leb _ _ h)
        ∙ ap (λ r. then (of_plan (in_plan r)) (λ _. drafted section.Dead (mourned drawing p) (record { drawing = drawing; dead = dead_after r p c }))) ok

    pub dead_arrive : (t : Section) → UpTo 2 t → Arrives (UpTo 2) (draft t (mourned drawing [])) (listed dead_entry 0 all) (mourned drawing all)
    dead_arrive t h = items_arrive (UpTo 2) section.Dead (omega arith) dead_line (mourned drawing) all dead_taken 0 t [] all h refl

  -- elements and their vectors

  module _ (m : Mode) (wide high : ℕ) where
    abbrev shaped : List Lists → Job V
    shaped es = record { design = record { drawing = with_lists m wide high es; dead = [] }; picture = []; orders = [] }

    element_taken : (t : Section) (p : List Lists) (i : ℕ) → UpTo 1 t → length p ≡ i → length p < 8 → step (draft t (shaped p)) (elem_line i) ≡ Ok (draft section.Elements (shaped (p ++ blank ∷ [])))
    element_taken t p i h is few =
        let d = with_lists m wide high p in
        let ok : element_answer d ≡ Ok tt = cond-true _ _ _ (lt-ltb _ _ few) in
        cond-true _ _ _ (le-leb _ _ h)
        ∙ cond-true _ _ _ (eq-eqb _ _ (sym is))
        ∙ ap (λ r. then (of_plan r) (λ _. drafted section.Elements (shaped p) (record { drawing = element_after r d; dead = [] }))) ok

    module _ (p : List Lists) where
      vector_taken : (l : Lists) (side : ℕ) (s : Side) (v : Vector) (t : Section) → InElements t → side_of m side ≡ Some s → late (with_lists m wide high (p ++ l ∷ [])) side ≡ false
          → Taken m s (list_on s l) v → step (draft t (shaped (p ++ l ∷ []))) (vect_line side v) ≡ Ok (draft section.Elements (shaped (p ++ put s l v ∷ [])))
      vector_taken l side s v t h is early ok =
          let e = length (p ++ l ∷ []) - 1 in
          let d : Design = record { drawing = with_lists m wide high (p ++ l ∷ []); dead = [] } in
          cond-true _ _ _ (ap (λ t. eqb (place t) 1) h)
          ∙ ap (vector_more (shaped (p ++ l ∷ [])) side) (same_vector v)
          ∙ cond-false _ _ _ early
          ∙ ap (λ r. then (of_plan r) (λ _. drafted section.Elements (shaped (p ++ l ∷ [])) (vector_added d e side v))) (newest_answers m wide high p l side s v is ok)
          ∙ ap (drafted section.Elements (shaped (p ++ l ∷ []))) (newest_takes m wide high p l side s v is ok [])

      module _ (l : Lists) (ok : LawfulLists m l) where
        abbrev first_only : List Vector → Job V
        first_only vs = shaped (p ++ record { first = vs; second = [] } ∷ [])

        first_taken : (t : Section) (vs q : List Vector) (v : Vector) → InElements t → vs ++ v ∷ q ≡ l.first → step (draft t (first_only vs)) (vect_line (first_side m) v) ≡ Ok (draft section.Elements (first_only (vs ++ v ∷ [])))
        first_taken t vs q v h is =
            let x : Lists = record { first = vs; second = [] } in
            vector_taken x (first_side m) First v t h (first_is m) (and_right _ _ (ap (λ l. not (none l.second)) (newest_is p x))) (taken m First vs q v (subst (LawfulList m First) (sym is) ok.first))

        abbrev then_second : List Vector → Job V
        then_second vs = shaped (p ++ record { first = l.first; second = vs } ∷ [])

        second_taken : (t : Section) (vs q : List Vector) (v : Vector) → InElements t → vs ++ v ∷ q ≡ l.second → step (draft t (then_second vs)) (vect_line 2 v) ≡ Ok (draft section.Elements (then_second (vs ++ v ∷ [])))
        second_taken t vs q v h is =
            let x : Lists = record { first = l.first; second = vs } in
            let may = taken m Second vs q v (subst (LawfulList m Second) (sym is) ok.second) in
            let two = second_is m _ may.fair in
            vector_taken x 2 Second v t h two.0 (and_left _ _ two.1) may

        lists_arrive : Arrives InElements (draft section.Elements (shaped (p ++ blank ∷ []))) (listed (vect_entry (first_side m)) 0 l.first ++ listed (vect_entry 2) 0 l.second) (shaped (p ++ l ∷ []))
        lists_arrive =
            onwards InElements InElements _ _ _ (first_only l.first) _
            (items_arrive InElements section.Elements refl (vect_line (first_side m)) first_only l.first first_taken 0 section.Elements [] l.first refl refl)
            (λ t h. items_arrive InElements section.Elements refl (vect_line 2) then_second l.second second_taken 0 t [] l.second h refl)

    elements_arrive : (i : ℕ) (t : Section) (p q : List Lists) → UpTo 1 t → length p ≡ i → i + length q ≤ 8 → AllLawful m q → Arrives (UpTo 1) (draft t (shaped p)) (elements_lines m i q) (shaped (p ++ q))
    elements_arrive i t p [] h is few ok = here (UpTo 1) t (shaped p) _ h (ap shaped (sym (append-nil p)))
    elements_arrive i t p (l ∷ q) h is few ok =
        let next : length (p ++ l ∷ []) ≡ suc i = omega (arith, length-append p (l ∷ [])) in
        subst (λ es. Arrives (UpTo 1) (draft t (shaped p)) (elements_lines m i (l ∷ q)) (shaped es)) (append_assoc p (l ∷ []) q)
        (onwards InElements (UpTo 1) _ (element_lines m i l) (elements_lines m (suc i) q) (shaped (p ++ l ∷ [])) _
        (first InElements _ _ (elem_line i) _ _ (element_taken t p i h is (omega arith)) (lists_arrive p l ok.0))
        (λ u at. elements_arrive (suc i) u (p ++ l ∷ []) q (subst (UpTo 1) (sym at) (omega arith)) next (omega arith) ok.1))

  -- the picture

  abbrev pictured : Design → List V → Job V
  pictured d a = record { design = d; picture = a; orders = [] }

  module _ (laws : Lawful k) (numbered : Numbered k w) where
    least_is : (x : V) → not_least k x ≡ false → x ≡ k.least
    least_is x h = laws.equal x k.least (not-false _ h) (laws.least_under x)

    least_at_zero : (x : V) → w.number x ≡ 0 → x ≡ k.least
    least_at_zero x is =
        let same : Some x ≡ Some k.least = sym (numbered.restored x) ∙ ap w.value (is ∙ sym numbered.least_is_zero) ∙ numbered.restored k.least in
        cc

    numbered_above : (x : V) → not_least k x ≡ true → 0 < w.number x
    numbered_above x h =
        ⊎_elim (λ (zero : w.number x ≡ 0). absurd (true≢false (sym h ∙ ap (not_least k) (least_at_zero x zero) ∙ not_from_true _ (laws.itself k.least))))
        (λ (some : w.number x ≡ 0 → ⊥). omega arith) (cases_eq (w.number x) 0)

    module _ (d : Design) (all : List V) (size : length all ≡ cells_in d) where
      cell_taken : (t : Section) (a p q : List V) (x : V) → UpTo 3 t → Held k a p → p ++ x ∷ q ≡ all → not_least k x ≡ true
          → step (draft t (pictured d a)) (cell_line (length p) (w.number x)) ≡ Ok (draft section.Cells (pictured d (p ++ x ∷ [])))
      cell_taken t a p q x h held is not =
          let within : length p < cells_in d = omega (arith, size, ap length is, length-append p (x ∷ q)) in
          cond-true _ _ _ (le-leb _ _ h)
          ∙ cond-true _ _ _ (and_from _ _ (lt-ltb _ _ within) (lt-ltb _ _ (numbered_above x not)))
          ∙ ap (valued k w (pictured d a) (length p)) (numbered.restored x)
          ∙ cond-true _ _ _ (le-leb _ _ (held_length k a p held))
          ∙ ap (λ b. Ok (draft section.Cells (pictured d (b ++ x ∷ [])))) (held_padded k a p (length p) held refl)

      -- the cells that have a line lead to the picture without its last least cells
      abbrev Filled : Draft V → List Line → Type 0
      Filled s ls = (b : List V) × Held k b all × Arrives (UpTo 3) s ls (pictured d b)

      cells_arrive : (i : ℕ) (t : Section) (a p q : List V) → UpTo 3 t → Held k a p → length p ≡ i → p ++ q ≡ all → Filled (draft t (pictured d a)) (listed (cell_entry k w) i q)
      cells_arrive i t a p [] h held at is = (a, subst (Held k a) (sym (append-nil p) ∙ is) held, here (UpTo 3) t _ _ h refl)
      cells_arrive i t a p (x ∷ q) h held at is =
          by_test (not_least k x) refl (λ u b may of. cells_arrive (suc i) u b (p ++ x ∷ []) q may of (omega (arith, length-append p (x ∷ []))) (append_assoc p (x ∷ []) q ∙ is))
        where
          by_test : (b : Bool) → not_least k x ≡ b
              → ((u : Section) (b : List V) → UpTo 3 u → Held k b (p ++ x ∷ []) → Filled (draft u (pictured d b)) (listed (cell_entry k w) (suc i) q))
              → Filled (draft t (pictured d a)) (option_to_list (cond b (Some (cell_line i (w.number x))) None) ++ listed (cell_entry k w) (suc i) q)
          by_test false least rest = rest t a h (held_more k a p x held (least_is x least))
          by_test true more rest =
              let r = rest section.Cells (p ++ x ∷ []) (omega arith) (0, append-nil (p ++ x ∷ [])) in
              (r.0, r.1, first (UpTo 3) _ _ (cell_line i (w.number x)) _ _ (subst (λ i. step (draft t (pictured d a)) (cell_line i (w.number x)) ≡ Ok (draft section.Cells (pictured d (p ++ x ∷ [])))) at (cell_taken t a p q x h held is more)) r.2)

    -- the whole job

    module _ (j : Job V) (ok : LawfulJob j) (few : length j.orders ≤ room) where
      -- the job with these cells
      abbrev pub holding : List V → Job V
      holding b = record { design = j.design; picture = b; orders = j.orders }

      -- the lines and LAST after them lead to the job, but for least cells at the end of its picture
      abbrev pub Ended : Draft V → List Line → Type 0
      Ended s ls = (b : List V) × Held k b j.picture × Leads s (ls ++ (last_line ∷ [])) (draft section.Last (holding b))

      ends_on : (ls ms : List Line) (s t : Draft V) → Leads s ls t → Ended t ms → Ended s (ls ++ ms)
      ends_on ls ms s t h g =
          (g.0, g.1, subst (λ x. Leads s x (draft section.Last (holding g.0))) (sym (append_assoc ls ms (last_line ∷ []))) (leads_on ls _ s t _ h g.2))

      from_moves : (t : Section) (b : List V) → UpTo 3 t → Held k b j.picture → Ended (draft t (pictured j.design b)) (listed move_entry 0 j.orders)
      from_moves t b h held =
          let m = moves_arrive j.design b j.orders ok.orders few t (omega arith) in
          let last : step (draft m.0 (holding b)) last_line ≡ Ok (draft section.Last (holding b)) = cond-true _ _ _ (le-leb _ _ m.1) in
          (b, held, leads_on _ _ _ (draft m.0 (holding b)) _ m.2 (draft section.Last (holding b), last, refl))

      from_cells : (t : Section) → UpTo 2 t → Ended (draft t (pictured j.design [])) (listed (cell_entry k w) 0 j.picture ++ listed move_entry 0 j.orders)
      from_cells t h =
          let c = cells_arrive j.design j.picture ok.picture 0 t [] [] j.picture (omega arith) (0, refl) refl refl in
          ends_on _ _ _ _ c.2.2 (from_moves c.2.0 c.0 c.2.1 c.1)

      from_dead : (t : Section) → UpTo 1 t → Ended (draft t (mourned j.design.drawing []))
          (listed dead_entry 0 j.design.dead ++ (listed (cell_entry k w) 0 j.picture ++ listed move_entry 0 j.orders))
      from_dead t h =
          let d = dead_arrive j.design.drawing j.design.dead ok.design.living ok.design.apart ok.design.few_dead t (omega arith) in
          ends_on _ _ _ _ d.2 (from_cells d.0 d.1)

      pub job_reached : Ended (draft section.Plan (bare j.design.drawing)) (middle_lines k w j)
      job_reached =
          let d = j.design.drawing in
          let e = elements_arrive d.mode d.width d.height 0 section.Plan [] d.elements (omega arith) refl (omega (arith, ok.design.few)) ok.design.lists in
          ends_on _ _ _ _ e.2 (from_dead e.0 e.1)
