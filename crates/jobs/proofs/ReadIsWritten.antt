-- A job that is read from a file is written as that file. Assumes nothing.
use Rattle.std.proofs.Common.{◌≡◌, ℕ, zero, suc, true, eqb, List, [], ◌∷◌, ◌++◌, length, drop, Some, Ok, Err, Option, Result, sym, refl, ap, ◌∙◌, subst, append_assoc, append-nil, arith}
use Rattle.std.proofs.lemmas.List.{flat_map_more}
use Rattle.std.proofs.lemmas.Result.{IfOk-at_ok}
use Rattle.std.proofs.lemmas.Bool.{eqb-true}
use Rattle.std.specs.List.{flat_map}
use Rattle.kinds.specs.Lattices.{Values, Lawful}
use Rattle.kinds.specs.Numbers.{Written, Numbered}
use Rattle.lines.specs.Lines.{line_bytes, then, word_in, fields_of, line_of}
use Rattle.lines.specs.declared.faults.LineFault.TheVariants as line
use Rattle.lines.specs.declared.line.Line.{Line}
use Rattle.lines.specs.declared.numbers.Number.{Number}
use Rattle.lines.specs.declared.words.Word.{Word}
use Rattle.lines.specs.declared.words.Word.TheVariants.{Plat, Elem, Vect, Dead, Cell, Move, Last, Done, Area, Wide, Stop as Stopped}
use Rattle.lines.proofs.Whole.{then_ok, word_kept, line_accepted, read_is_written}
use Rattle.plans.specs.Plans.{Design, cells_in, cells_planned, planned}
use Rattle.plans.proofs.Entering.{planned_parts}
use Rattle.jobs.specs.Entries.{row, count, plat_line, last_line, listed, dead_entry, move_entry, elements_lines}
use Rattle.jobs.specs.Files.{read_from, begun, finished, rest_read, decode}
use Rattle.jobs.specs.Heads.{must, of_line, of_plan, at_line, none, is_plat, kind_code, kind_of, judged, head_in, head_of, measured}
use Rattle.jobs.specs.Jobs.{Job, body_lines, job_lines, encode}
use Rattle.jobs.specs.Steps.{Draft, next_by, end_by, line_more}
use Rattle.jobs.specs.declared.faults.FileFault.{FileFault}
use Rattle.jobs.specs.declared.faults.FileFault.TheVariants as fault
use Rattle.jobs.specs.declared.heads.CellKind.{CellKind}
use Rattle.jobs.specs.declared.heads.Head.{Head}
use Rattle.jobs.specs.declared.sections.Section.{Section}
use Rattle.jobs.specs.declared.sections.Section.TheVariants as section
use Rattle.jobs.proofs.Accepted.{ended_as, passed, spared, of_line_ok, of_plan_ok, at_line_ok}
use Rattle.jobs.proofs.Codes.{code_kept}
use Rattle.jobs.proofs.Listings.{padded_listed}
use Rattle.jobs.proofs.Gains.{four_both, natural_both, Tidy, lines_by, Taken, line_taken}

-- line 1

abbrev plat_of : Head → Line
plat_of h = row Plat (count h.mode) (count h.width) (count h.height) (count (kind_code h.kind))

-- the line is that of the head
abbrev Headed : Line → Result Head FileFault → Type 0
Headed l (Ok h) = plat_of h ≡ l
Headed l (Err f) = Unit {0}

judged_headed : (mode w h code : ℕ) → Headed (row Plat (count mode) (count w) (count h) (count code)) (judged mode w h code)
judged_headed mode w h code = kinded (kind_of code) refl
  where
    l : Line
    l = row Plat (count mode) (count w) (count h) (count code)

    sized : (c : CellKind) → kind_code c ≡ code → (r : Result ℕ FileFault) → Headed l (then r (λ n. Ok (record { mode = mode; width = w; height = h; kind = c; cells = n })))
    sized c same (Ok n) = ap (λ code. row Plat (count mode) (count w) (count h) (count code)) same
    sized c same (Err f) = tt

    kinded : (r : Result CellKind FileFault) → kind_of code ≡ r
        → Headed l (then r (λ c. then (of_plan (cells_planned mode w h)) (λ n. Ok (record { mode = mode; width = w; height = h; kind = c; cells = n }))))
    kinded (Ok c) is = sized c (code_kept code c is) (of_plan (cells_planned mode w h))
    kinded (Err f) is = tt

head_headed : (a b c d : Option Number) → Headed (row Plat a b c d) (head_in (row Plat a b c d))
head_headed a b c d =
    let bad = λ (l : Line) (f : FileFault). tt in
    four_both Headed bad Plat a b c d _ (λ x y z u.
    natural_both Headed bad (λ x. row Plat (Some x) (Some y) (Some z) (Some u)) x _ (λ mode.
    natural_both Headed bad (λ y. row Plat (count mode) (Some y) (Some z) (Some u)) y _ (λ w.
    natural_both Headed bad (λ z. row Plat (count mode) (count w) (Some z) (Some u)) z _ (λ h.
    natural_both Headed bad (λ u. row Plat (count mode) (count w) (count h) (Some u)) u _ (λ code. judged_headed mode w h code)))))

plat_is : (w : Word) → is_plat w ≡ true → w ≡ Plat
plat_is Plat is = refl
plat_is Elem is = cc
plat_is Vect is = cc
plat_is Dead is = cc
plat_is Cell is = cc
plat_is Move is = cc
plat_is Last is = cc
plat_is Done is = cc
plat_is Area is = cc
plat_is Wide is = cc
plat_is Stopped is = cc

plat_headed : (l : Line) (h : Head) → l.word ≡ Plat → head_in l ≡ Ok h → plat_of h ≡ l
plat_headed l h word is = subst (Headed (row Plat l.one l.two l.three l.four)) is (head_headed l.one l.two l.three l.four) ∙ ap (λ w. row w l.one l.two l.three l.four) (sym word)

-- the head of some bytes is their first line
head_line : (bs : List ℕ) (h : Head) → head_of bs ≡ Ok h → line_of bs ≡ Ok (plat_of h)
head_line bs h is =
    let worded = then_ok (of_line (word_in bs)) _ _ (spared (none bs) fault.NoLast _ h is) in
    let word = worded.0 in
    let plat = passed (is_plat word) (fault.Line line.Word) _ h worded.2 in
    let read = then_ok (of_line (fields_of word bs)) head_in h plat.1 in
    let l = read.0 in
    let held = of_line_ok (fields_of word bs) l read.1 in
    line_accepted bs word l (of_line_ok (word_in bs) word worded.1) held ∙ ap Ok (sym (plat_headed l h (word_kept word bs l held ∙ plat_is word plat.0) read.2))

module _ {V : Type 0} (k : Values V) (w : Written V) (lawful : Lawful k) (numbered : Numbered k w) where
  -- the line of the plan that line 1 asked for is line 1
  planned_line : (h : Head) (d : Design) → kind_code h.kind ≡ w.code → planned h.mode h.width h.height ≡ Ok d → body_lines k w (begun d).job ≡ plat_of h ∷ []
  planned_line h d code made =
      let p = planned_parts h.mode h.width h.height d made in
      let same = sym code in
      λ i. row Plat (count (p.0 i)) (count (p.1 i)) (count (p.2 i)) (count (same i)) ∷ (elements_lines d.drawing.mode 0 (p.3 i) ++ (listed dead_entry 0 (p.4 i) ++ []))

  module _ (room : ℕ) where
    next_is : (x : Section) (s t : Draft V) (bs : List ℕ) → next_by k w room x s bs ≡ Ok t → (line_more k w room s bs ≡ Ok t) × (lines_by k w x s.job ≡ body_lines k w s.job)
    next_is section.Plan s t bs is = (is, refl)
    next_is section.Elements s t bs is = (is, refl)
    next_is section.Dead s t bs is = (is, refl)
    next_is section.Cells s t bs is = (is, refl)
    next_is section.Moves s t bs is = (is, refl)
    next_is section.Last s t bs is = cc

    end_is : (x : Section) (s t : Draft V) → end_by x s ≡ Ok t → lines_by k w x s.job ≡ job_lines k w s.job
    end_is section.Plan s t is = cc
    end_is section.Elements s t is = cc
    end_is section.Dead s t is = cc
    end_is section.Cells s t is = cc
    end_is section.Moves s t is = cc
    end_is section.Last s t is = refl

    -- the cells that a finished job has more are least and have no line
    finished_lines : (s : Draft V) → Tidy s → job_lines k w s.job ≡ job_lines k w (finished k s)
    finished_lines s tidy =
        let j = s.job in
        ap (λ c. (plat_line w.code j.design.drawing ∷ (elements_lines j.design.drawing.mode 0 j.design.drawing.elements ++ (listed dead_entry 0 j.design.dead ++ (c ++ listed move_entry 0 j.orders)))) ++ (last_line ∷ []))
        (sym (padded_listed k w lawful (cells_in j.design) j.picture tidy.within))

    abbrev bytes_by : Draft V → List ℕ
    bytes_by s = flat_map line_bytes (lines_by k w s.section s.job)

    ends : (s t : Draft V) → Tidy s → end_by s.section s ≡ Ok t → bytes_by s ≡ encode k w (finished k t)
    unfolding encode
    ends s t tidy is = ap (flat_map line_bytes) (end_is s.section s t is ∙ finished_lines s tidy) ∙ ap (λ s. flat_map line_bytes (job_lines k w (finished k s))) (ended_as s.section s t is)

    -- the bytes of what was read, and those that are left, are those of the finished job
    writes : (turns n : ℕ) (s t : Draft V) (bs : List ℕ) → Tidy s → read_from k w room turns n s bs ≡ Ok t → bytes_by s ++ bs ≡ encode k w (finished k t)
    writes zero n s t bs tidy is = cc
    writes (suc turns) n s t [] tidy is = append-nil _ ∙ ends s t tidy (at_line_ok n _ t is)
    writes (suc turns) n s t (b ∷ bs) tidy is =
        let all = b ∷ bs in
        let one = then_ok (at_line n (next_by k w room s.section s all)) _ _ is in
        let u = one.0 in
        let next = next_is s.section s u all (at_line_ok n _ u one.1) in
        let line : Taken k w lawful numbered room s tidy all u = IfOk-at_ok (Taken k w lawful numbered room s tidy all) next.0 (line_taken k w lawful numbered room s tidy all) in
        let l = (line).0 in
        ap (λ x. bytes_by s ++ x) (sym (read_is_written all l (line).1))
        ∙ sym (append_assoc (bytes_by s) (line_bytes l) (drop 29 all))
        ∙ ap (λ x. x ++ drop 29 all) (flat_map_more line_bytes [] (lines_by k w s.section s.job) l ∙ ap (flat_map line_bytes) (ap (λ x. x ++ (l ∷ [])) next.1 ∙ sym (line).2))
        ∙ writes turns (suc n) u t (drop 29 all) (line).3 one.2

    begun_tidy : (d : Design) → d.dead ≡ [] → Tidy {V = V} (begun d)
    begun_tidy d none = record { dead = λ _. none; picture = λ _. refl; orders = λ _. refl; within = omega arith }

    rest_written : (bs : List ℕ) (h : Head) (d : Design) (j : Job V) → line_of bs ≡ Ok (plat_of h) → kind_code h.kind ≡ w.code → planned h.mode h.width h.height ≡ Ok d → rest_read k w room bs d ≡ Ok j → bs ≡ encode k w j
    rest_written bs h d j line code made is =
        let read = then_ok (read_from k w room (suc (length bs)) 2 (begun d) (drop 29 bs)) _ _ is in
        let same : finished k read.0 ≡ j = cc in
        sym (read_is_written bs (plat_of h) line)
        ∙ ap (λ x. x ++ drop 29 bs) (sym (append-nil (line_bytes (plat_of h))) ∙ ap (flat_map line_bytes) (sym (planned_line h d code made)))
        ∙ writes (suc (length bs)) 2 (begun d) read.0 (drop 29 bs) (begun_tidy d (planned_parts h.mode h.width h.height d made).4) read.1
        ∙ ap (encode k w) same

pub job_read_is_written : {V : Type 0} (k : Values V) (w : Written V) → Lawful k → Numbered k w → (size room : ℕ) (bs : List ℕ) (j : Job V) → decode k w size room bs ≡ Ok j → encode k w j ≡ bs
job_read_is_written k w lawful numbered size room bs j is =
    let head = then_ok (measured bs) _ _ is in
    let h = head.0 in
    let plan = then_ok (at_line 1 (must (eqb (kind_code h.kind) w.code) fault.OtherKind (must (eqb size h.cells) fault.PictureLength (of_plan (planned h.mode h.width h.height))))) _ _ head.2 in
    let d = plan.0 in
    let kind = passed (eqb (kind_code h.kind) w.code) fault.OtherKind _ d (at_line_ok 1 _ d plan.1) in
    let sized = passed (eqb size h.cells) fault.PictureLength _ d kind.1 in
    sym (rest_written k w lawful numbered room bs h d j (head_line bs h (at_line_ok 1 _ h head.1)) (eqb-true _ _ kind.0) (of_plan_ok _ d sized.1) plan.2)
