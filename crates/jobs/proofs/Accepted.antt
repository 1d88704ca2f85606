-- What follows of an answer that is accepted. Assumes nothing.
use Rattle.std.proofs.Common.{◌≡◌, ℕ, Bool, true, false, cond, Ok, Err, Result, refl}
use Rattle.std.specs.Result.{IfOk}
use Rattle.lines.specs.Lines.{then}
use Rattle.lines.specs.declared.faults.LineFault.{LineFault}
use Rattle.plans.specs.declared.faults.PlanFault.{PlanFault}
use Rattle.jobs.specs.Heads.{of_line, of_plan, at_line}
use Rattle.jobs.specs.Steps.{Draft, end_by}
use Rattle.jobs.specs.declared.faults.FileFault.{FileFault}
use Rattle.jobs.specs.declared.sections.Section.{Section}
use Rattle.jobs.specs.declared.sections.Section.TheVariants as section

-- a fact of what follows on an accepted value
pub then_of : {X Y E : Type 0} (P : X → Type 0) (Q : Y → Type 0) (r : Result X E) (f : X → Result Y E) → IfOk r P → ((x : X) → P x → IfOk (f x) Q) → IfOk (then r f) Q
then_of P Q (Ok x) f is more = more x is
then_of P Q (Err e) f is more = tt

-- past a test that is to hold, and past one that is not

pub passed : {X E : Type 0} (b : Bool) (e : E) (r : Result X E) (x : X) → cond b r (Err e) ≡ Ok x → (b ≡ true) × (r ≡ Ok x)
passed true e r x is = (refl, is)
passed false e r x is = cc

pub spared : {X E : Type 0} (b : Bool) (e : E) (r : Result X E) (x : X) → cond b (Err e) r ≡ Ok x → r ≡ Ok x
spared true e r x is = cc
spared false e r x is = is

-- where a file may end, the draft is the one that is there
pub ended_as : {V : Type 0} (x : Section) (s t : Draft V) → end_by x s ≡ Ok t → s ≡ t
ended_as section.Plan s t is = cc
ended_as section.Elements s t is = cc
ended_as section.Dead s t is = cc
ended_as section.Cells s t is = cc
ended_as section.Moves s t is = cc
ended_as section.Last s t is = cc

-- under the faults of a line, of a plan and of a file

pub of_line_ok : {X : Type 0} (r : Result X LineFault) (x : X) → of_line r ≡ Ok x → r ≡ Ok x
of_line_ok (Ok y) x is = cc
of_line_ok (Err f) x is = cc

pub of_plan_ok : {X : Type 0} (r : Result X PlanFault) (x : X) → of_plan r ≡ Ok x → r ≡ Ok x
of_plan_ok (Ok y) x is = cc
of_plan_ok (Err f) x is = cc

pub at_line_ok : {X : Type 0} (n : ℕ) (r : Result X FileFault) (x : X) → at_line n r ≡ Ok x → r ≡ Ok x
at_line_ok n (Ok y) x is = cc
at_line_ok n (Err f) x is = cc
