-- The job that the bytes of a file hold, and that a job and its file fix each other. Assumes nothing.
use Rattle.std.specs.Prelude.{◌≡◌, ℕ, zero, suc, ◌≤◌, cond, List, [], length, drop, Ok, Err, Result, ◌==◌}
use Rattle.kinds.specs.Lattices.{Values}
use Rattle.kinds.specs.Numbers.{Written}
use Rattle.lines.specs.Lines.{then}
use Rattle.plans.specs.Plans.{Design, cells_in, planned}
use Rattle.jobs.specs.Heads.{must, of_plan, at_line, none, kind_code, measured}
use Rattle.jobs.specs.Jobs.{Job, padded, LawfulJob, encode}
use Rattle.jobs.specs.Steps.{Draft, next_by, end_by}
use Rattle.jobs.specs.declared.faults.FileFault.TheVariants as fault
use Rattle.jobs.specs.declared.faults.Stop.{Stop}
use Rattle.jobs.specs.declared.heads.Head.{Head}
use Rattle.jobs.specs.declared.sections.Section.TheVariants as section

-- a plan without elements, no cell and no move yet
abbrev pub begun : {V : Type 0} → Design → Draft V
begun d = record { section = section.Plan; job = record { design = d; picture = []; orders = [] } }

-- the cells after the last one that has a line are least
abbrev pub finished : {V : Type 0} → Values V → Draft V → Job V
finished k s = record { design = s.job.design; picture = padded k (cells_in s.job.design) s.job.picture; orders = s.job.orders }

module _ {V : Type 0} (k : Values V) (w : Written V) where
  module _ (room : ℕ) where
    -- line n and those after it; turns bounds their number
    abbrev pub read_from : ℕ → ℕ → Draft V → List ℕ → Result (Draft V) Stop
    read_from zero n s bs = at_line n (Err fault.NoLast)
    read_from (suc turns) n s bs =
        cond (none bs) (at_line n (end_by s.section s)) (then (at_line n (next_by k w room s.section s bs)) (λ t. read_from turns (suc n) t (drop 29 bs)))

  -- what stands after line 1
  abbrev pub rest_read : ℕ → List ℕ → Design → Result (Job V) Stop
  rest_read room bs d = then (read_from room (suc (length bs)) 2 (begun d) (drop 29 bs)) (λ s. Ok (finished k s))

  -- the plan that line 1 asks for, where the kind and the size of the picture agree with it
  abbrev pub opened : ℕ → Head → Result Design Stop
  opened size h = at_line 1 (must (kind_code h.kind == w.code) fault.OtherKind (must (size == h.cells) fault.PictureLength (of_plan (planned h.mode h.width h.height))))

  -- The job in some bytes, read into a picture of that size and records for so many moves. The kind and the size of the picture are
  -- judged after line 1 and before line 2.
  abbrev pub decode : ℕ → ℕ → List ℕ → Result (Job V) Stop
  decode size room bs = then (measured bs) (λ h. then (opened size h) (rest_read room bs))

  -- a job and its file fix each other byte by byte
  pub record JobAndFile : Type 0 where
    pub written_is_read : (j : Job V) (room : ℕ) → LawfulJob j → length j.orders ≤ room → decode (length j.picture) room (encode k w j) ≡ Ok j
    pub read_is_written : (size room : ℕ) (bs : List ℕ) (j : Job V) → decode size room bs ≡ Ok j → encode k w j ≡ bs
