-- What reading a file does: how it begins, and what is filled at the end. Assumes nothing.
use Rattle.std.specs.Prelude.{◌≡◌, ℕ, true, List, ◌++◌, map, length, drop, is_ok, Ok, Err, Result}
use Rattle.kinds.specs.Lattices.{Values}
use Rattle.kinds.specs.Numbers.{Written}
use Rattle.morphology.specs.declared.words.Record.{Record}
use Rattle.plans.specs.Plans.{design_of, cells_in, cells_planned}
use Rattle.plans.specs.declared.plan.Plan.{Plan}
use Rattle.lines.specs.Lines.{then}
use Rattle.jobs.specs.Files.{begun, finished, decode, opened}
use Rattle.jobs.specs.Heads.{measured}
use Rattle.jobs.specs.Jobs.{Job, encode}
use Rattle.plans.specs.declared.faults.NoPlan.{NoPlan}
use Rattle.plans.specs.declared.faults.NoPlan.TheVariants as plan
use Rattle.jobs.specs.declared.faults.FileFault.{FileFault}
use Rattle.jobs.specs.declared.faults.FileFault.TheVariants as fault
use Rattle.jobs.specs.declared.faults.Stop.{Stop}
use Rattle.jobs.specs.declared.heads.Head.{Head}
use Rattle.jobs.specs.declared.orders.Order.{Order}
use Rattle.drafts.specs.Drafts.{draft_of}
use Rattle.drafts.specs.declared.drafts.Reader.{Reader}
use Rattle.readers.specs.declared.faults.NoJob.{NoJob}
use Rattle.readers.specs.declared.faults.NoJob.TheVariants.{Refused, Memory}

-- a fault of line 1
abbrev pub first : FileFault → Stop
first f = record { fault = f; line = 1 }

-- why no job is read where no plan is made: only line 1 asks for a plan
abbrev pub without_plan : NoPlan → NoJob
without_plan (plan.Refused f) = Refused (first (fault.Plan f))
without_plan plan.Memory = Memory

-- a record for an order, not yet run
abbrev pub fresh : Order → Record
fresh o = record { action = o.action; element = o.element; answer = 0; area = 0 }

-- the head has the number of cells of the plan that it asks for
abbrev pub Counted : Head → Type 0
Counted h = cells_planned h.mode h.width h.height ≡ Ok h.cells

module _ {V : Type 0} (k : Values V) (w : Written V) where
  -- A reader for what stands after line 1: the plan that line 1 asks for, and nothing else yet. Without one line 1 is refused, or it
  -- is accepted and memory is wanting.
  abbrev pub Opens : ℕ → ℕ → Head → Result (Reader V) NoJob → Type 0
  Opens size room h (Ok r) = (opened k w size h ≡ Ok (design_of r.plan)) × (draft_of r ≡ begun (design_of r.plan)) × (cells_in (design_of r.plan) ≡ size) × (r.room ≡ room)
  Opens size room h (Err (Refused s)) = opened k w size h ≡ Err s
  Opens size room h (Err Memory) = is_ok (opened k w size h) ≡ true

  -- A file that was not read. Memory can be wanting only after line 1 was accepted.
  abbrev pub Rejected : ℕ → ℕ → List ℕ → NoJob → Type 0
  Rejected size room bs (Refused s) = decode k w size room bs ≡ Err s
  Rejected size room bs Memory = is_ok (then (measured bs) (opened k w size)) ≡ true

  -- a reader that holds the job of a file
  abbrev pub Drafts : ℕ → ℕ → List ℕ → Result (Reader V) NoJob → Type 0
  Drafts size room bs (Ok r) = (decode k w size room bs ≡ Ok (finished k (draft_of r))) × (cells_in (design_of r.plan) ≡ size) × (r.room ≡ room)
  Drafts size room bs (Err f) = Rejected size room bs f

  -- A file that was read: its job, and where that stands. The records beyond the moves are left.
  pub record Accepted (size : ℕ) (bs : List ℕ) (p : Plan) (n : ℕ) (b : List V) (qs rs : List Record) : Type 0 where
    pub job : Job V
    pub read : decode k w size (length qs) bs ≡ Ok job
    pub plan : design_of p ≡ job.design
    pub moves : n ≡ length job.orders
    pub picture : b ≡ job.picture
    pub cells : length b ≡ cells_in job.design
    pub records : rs ≡ map fresh job.orders ++ drop n qs
    -- the file is, byte for byte, what writing its job gives
    pub file : encode k w job ≡ bs

  -- What reading the bytes into the picture a and the records qs answers, and leaves as b and rs: nothing is altered where the file is not read.
  abbrev pub Reads : List ℕ → Result (Plan × ℕ) NoJob → List V → List V → List Record → List Record → Type 0
  Reads bs (Ok r) a b qs rs = Accepted (length a) bs r.0 r.1 b qs rs
  Reads bs (Err f) a b qs rs = Rejected (length a) (length qs) bs f × (b ≡ a) × (rs ≡ qs)
