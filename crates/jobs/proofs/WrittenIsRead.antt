-- The bytes that a lawful job is written as are read as the job. Assumes nothing.
use Rattle.std.proofs.Common.{◌≡◌, ℕ, zero, suc, ◌<◌, ◌≤◌, true, false, eqb, List, [], ◌∷◌, ◌++◌, length, drop, Ok, Err, Result, sym, refl, ap, ◌∙◌, arith}
use Rattle.std.specs.List.{flat_map}
use Rattle.std.specs.Result.{result_map_both}
use Rattle.std.proofs.lemmas.List.{length-append, drop_at}
use Rattle.std.proofs.lemmas.Bool.{eq-eqb, cond-true, cond-false}
use Rattle.kinds.specs.Lattices.{Values, Lawful}
use Rattle.kinds.specs.Numbers.{Written, Numbered}
use Rattle.grids.specs.Extents.{lawful_size}
use Rattle.lines.specs.Lines.{line_bytes, Fits, then, fields_of}
use Rattle.lines.specs.declared.faults.LineFault.TheVariants as line
use Rattle.lines.specs.declared.line.Line.{Line}
use Rattle.lines.specs.declared.words.Word.{Word}
use Rattle.lines.specs.declared.words.Word.TheVariants.{Plat, Elem, Vect, Dead, Cell, Move, Last, Done, Area, Wide, Stop as Stopped}
use Rattle.lines.proofs.Whole.{line_length, then_at, word_found, fields_found}
use Rattle.plans.specs.Drawings.{Drawing}
use Rattle.plans.specs.Modes.{mode_number}
use Rattle.plans.specs.Plans.{Design, cells_in, planned}
use Rattle.plans.proofs.Entering.{planned_design}
use Rattle.jobs.specs.Entries.{plat_line, last_line}
use Rattle.jobs.specs.Files.{read_from, begun, decode}
use Rattle.jobs.specs.Heads.{must, of_line, of_plan, at_line, none, is_plat, kind_code, kind_of, judged, head_in, measured}
use Rattle.jobs.specs.Jobs.{Job, LawfulJob, encode}
use Rattle.jobs.specs.Steps.{Draft, opens, more, line_more, next_by, end_by}
use Rattle.jobs.specs.declared.faults.FileFault.{FileFault}
use Rattle.jobs.specs.declared.faults.FileFault.TheVariants as fault
use Rattle.jobs.specs.declared.heads.CellKind.{CellKind}
use Rattle.jobs.specs.declared.heads.Head.{Head}
use Rattle.jobs.specs.declared.sections.Section.{Section}
use Rattle.jobs.specs.declared.sections.Section.TheVariants as section
use Rattle.jobs.proofs.Fitted.{AllFit, job_fits}
use Rattle.jobs.proofs.Codes.{code_kept, kind_found}
use Rattle.jobs.proofs.Reaches.{step, Leads, draft, held_padded, middle_lines, job_reached}

-- the bytes of a line and some after them

some_left : (xs ys : List ℕ) → length xs ≡ 29 → none (xs ++ ys) ≡ false
some_left [] ys is = absurd (omega arith)
some_left (x ∷ xs) ys is = refl

module _ (l : Line) (rest : List ℕ) where
  line_there : none (line_bytes l ++ rest) ≡ false
  line_there = some_left (line_bytes l) rest (line_length l)

  line_dropped : drop 29 (line_bytes l ++ rest) ≡ rest
  line_dropped = drop_at (line_bytes l) rest 29 (line_length l)

-- a file has no more lines than bytes
lines_few : (ls : List Line) → length ls ≤ length (flat_map line_bytes ls)
lines_few [] = omega arith
lines_few (l ∷ ls) = omega (arith, lines_few ls, length-append (line_bytes l) (flat_map line_bytes ls), line_length l)

-- no word may follow LAST
nothing_after : (word : Word) → opens section.Last word ≡ false
nothing_after Plat = refl
nothing_after Elem = refl
nothing_after Vect = refl
nothing_after Dead = refl
nothing_after Cell = refl
nothing_after Move = refl
nothing_after Last = refl
nothing_after Done = refl
nothing_after Area = refl
nothing_after Wide = refl
nothing_after Stopped = refl

module _ {V : Type 0} (k : Values V) (w : Written V) where
  module _ (room : ℕ) where
    -- a written line is read as the line
    line_read : (s : Draft V) (l : Line) (rest : List ℕ) → Fits l → line_more k w room s (line_bytes l ++ rest) ≡ step k w room s l
    line_read s l rest fits =
        ap (λ r. then (of_line r) (λ word. must (opens s.section word) (fault.Line line.Word) (then (of_line (fields_of word (line_bytes l ++ rest))) (more k w room s.job word)))) (word_found l rest fits)
        ∙ ap (λ r. must (opens s.section l.word) (fault.Line line.Word) (then (of_line r) (more k w room s.job l.word))) (fields_found l rest fits)

    -- an accepted line does not stand after LAST
    before_last : (t : Section) (s u : Draft V) (word : Word) (r : Result (Draft V) FileFault) (bs : List ℕ)
        → must (opens t word) (fault.Line line.Word) r ≡ Ok u → line_more k w room s bs ≡ Ok u → next_by k w room t s bs ≡ Ok u
    before_last section.Plan s u word r bs h is = is
    before_last section.Elements s u word r bs h is = is
    before_last section.Dead s u word r bs h is = is
    before_last section.Cells s u word r bs h is = is
    before_last section.Moves s u word r bs h is = is
    before_last section.Last s u word r bs h is =
        let never : Err (fault.Line line.Word) ≡ Ok u = sym (cond-false _ _ _ (nothing_after word)) ∙ h in
        cc

    lines_read : (ls : List Line) (turns n : ℕ) (s : Draft V) (j : Job V) → length ls < turns → AllFit ls → Leads k w room s ls (draft section.Last j)
        → read_from k w room turns n s (flat_map line_bytes ls) ≡ Ok (draft section.Last j)
    lines_read [] zero n s j lt fit h = absurd (omega arith)
    lines_read [] (suc turns) n s j lt fit h = ap (λ s. at_line n (end_by s.section s)) h
    lines_read (l ∷ ls) zero n s j lt fit h = absurd (omega arith)
    lines_read (l ∷ ls) (suc turns) n s j lt fit h =
        let rest = flat_map line_bytes ls in
        let next = before_last s.section s h.0 l.word _ (line_bytes l ++ rest) h.1 (line_read s l rest fit.0 ∙ h.1) in
        cond-false _ _ _ (line_there l rest)
        ∙ then_at _ (ap (at_line n) next)
        ∙ ap (read_from k w room turns (suc n) h.0) (line_dropped l rest)
        ∙ lines_read ls turns (suc n) h.0 j (omega arith) fit.1 h.2

  module _ (laws : Lawful k) (numbered : Numbered k w) where
    abbrev outset : Drawing → Design
    outset d = record { drawing = record { mode = d.mode; width = d.width; height = d.height; elements = [] }; dead = [] }

    -- the kind that has the code
    named : (c : CellKind) × (kind_of w.code ≡ Ok c)
    named = kind_found w.code numbered.some_code numbered.few_codes

    abbrev heading : Drawing → Head
    heading d = record { mode = mode_number d.mode; width = d.width; height = d.height; kind = named.0; cells = cells_in (outset d) }

    module _ (d : Drawing) (ok : lawful_size d.width d.height ≡ true) (rest : List ℕ) (fits : Fits (plat_line w.code d)) where
      is_planned : planned (mode_number d.mode) d.width d.height ≡ Ok (outset d)
      is_planned = planned_design d.mode d.width d.height ok

      heading_judged : judged (mode_number d.mode) d.width d.height w.code ≡ Ok (heading d)
      heading_judged =
          then_at _ named.1
          ∙ ap (λ r. then (of_plan (result_map_both cells_in (λ f. f) r)) (λ n. Ok (record { mode = mode_number d.mode; width = d.width; height = d.height; kind = named.0; cells = n }))) is_planned

      heading_read : measured (line_bytes (plat_line w.code d) ++ rest) ≡ Ok (heading d)
      heading_read =
          let l = plat_line w.code d in
          let bs = line_bytes l ++ rest in
          ap (at_line 1)
          (cond-false _ _ _ (line_there l rest)
          ∙ ap (λ r. then (of_line r) (λ word. must (is_plat word) (fault.Line line.Word) (then (of_line (fields_of word bs)) head_in))) (word_found l rest fits)
          ∙ ap (λ r. then (of_line r) head_in) (fields_found l rest fits)
          ∙ heading_judged)

      -- the kind and the size of the picture are judged, and the plan is begun
      plan_begun : (size : ℕ) → size ≡ cells_in (outset d)
          → at_line 1 (must (eqb (kind_code named.0) w.code) fault.OtherKind (must (eqb size (cells_in (outset d))) fault.PictureLength (of_plan (planned (mode_number d.mode) d.width d.height)))) ≡ Ok (outset d)
      plan_begun size is = ap (at_line 1) (cond-true _ _ _ (eq-eqb _ _ (code_kept w.code named.0 named.1)) ∙ cond-true _ _ _ (eq-eqb size _ is) ∙ ap of_plan is_planned)

    pub job_written_is_read : (j : Job V) (room : ℕ) → LawfulJob j → length j.orders ≤ room → decode k w (length j.picture) room (encode k w j) ≡ Ok j
    unfolding encode
    job_written_is_read j room ok few =
        let d = j.design.drawing in
        let ls = middle_lines k w j ++ (last_line ∷ []) in
        let fit = job_fits k w numbered j ok in
        let rest = flat_map line_bytes ls in
        let l = plat_line w.code d in
        let bs = line_bytes l ++ rest in
        let h = job_reached k w room laws numbered j ok few in
        let short : length ls < suc (length bs) = omega (arith, lines_few ls, length-append (line_bytes l) rest) in
        then_at _ (heading_read d ok.design.size rest fit.0)
        ∙ then_at _ (plan_begun d ok.design.size rest fit.0 (length j.picture) ok.picture)
        ∙ then_at _ (ap (read_from k w room (suc (length bs)) 2 (begun (outset d))) (line_dropped l rest) ∙ lines_read room ls (suc (length bs)) 2 _ _ short fit.1 h.2)
        ∙ ap (λ a. Ok (record { design = j.design; picture = a; orders = j.orders })) (held_padded k h.0 j.picture (cells_in j.design) h.1 ok.picture)
