-- What a reader that was led over the lines of a file says about the file. Assumes nothing.
use Rattle.std.proofs.Common.{◌≡◌, ℕ, suc, List, length, drop, Ok, Err, sym, ap, ◌∙◌}
use Rattle.kinds.specs.Lattices.{Values}
use Rattle.kinds.specs.Numbers.{Written}
use Rattle.lines.specs.Lines.{then}
use Rattle.plans.specs.Plans.{Design, design_of}
use Rattle.jobs.specs.Files.{begun, finished, opened, rest_read, read_from, decode}
use Rattle.jobs.specs.Heads.{measured}
use Rattle.jobs.specs.declared.faults.Stop.{Stop}
use Rattle.jobs.specs.declared.heads.Head.{Head}
use Rattle.drafts.specs.Drafts.{draft_of, Led}
use Rattle.readers.specs.Reading.{Opens}
use Rattle.drafts.specs.declared.drafts.Reader.{Reader}
use Rattle.drafts.proofs.Turns.{accepted_by, refused_by}

module _ {V : Type 0} (k : Values V) (w : Written V) (size room : ℕ) (bs : List ℕ) where
  -- the file by what follows line 1
  begins : (h : Head) (d : Design) → measured bs ≡ Ok h → opened k w size h ≡ Ok d → decode k w size room bs ≡ rest_read k w room bs d
  begins h d head plan = ap (λ r. then r (λ h. then (opened k w size h) (rest_read k w room bs))) head ∙ ap (λ r. then r (rest_read k w room bs)) plan

  module _ (h : Head) (r t : Reader V) (head : Ok h ≡ measured bs) (begin : Opens k w size room h (Ok r)) where
    -- the draft that the loop began with is that of a new plan
    afresh : read_from k w r.room (suc (length bs)) 2 (draft_of r) (drop 29 bs) ≡ read_from k w room (suc (length bs)) 2 (begun (design_of r.plan)) (drop 29 bs)
    afresh = ap (λ n. read_from k w n (suc (length bs)) 2 (draft_of r) (drop 29 bs)) begin.3 ∙ ap (λ s. read_from k w room (suc (length bs)) 2 s (drop 29 bs)) begin.1

    pub read_to_the_end : Led r t (Ok tt) (read_from k w r.room (suc (length bs)) 2 (draft_of r) (drop 29 bs)) → decode k w size room bs ≡ Ok (finished k (draft_of t))
    read_to_the_end led =
        begins h (design_of r.plan) (sym head) begin.0
        ∙ ap (λ r. then r (λ s. Ok (finished k s))) (sym afresh ∙ accepted_by _ (draft_of t) led.answers led.drafts)

    pub read_to_a_fault : (s : Stop) → Led r t (Err s) (read_from k w r.room (suc (length bs)) 2 (draft_of r) (drop 29 bs)) → decode k w size room bs ≡ Err s
    read_to_a_fault s led =
        begins h (design_of r.plan) (sym head) begin.0
        ∙ ap (λ r. then r (λ s. Ok (finished k s))) (sym afresh ∙ refused_by _ s led.answers)
