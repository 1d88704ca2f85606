-- The draft that a reader holds, and what lines do to it. Assumes nothing.
use Rattle.std.specs.Prelude.{◌≡◌, Ok, Err, vec_items, Result}
use Rattle.kinds.specs.Lattices.{Values}
use Rattle.kinds.specs.Numbers.{Written}
use Rattle.lines.specs.declared.line.Line.{Line}
use Rattle.lines.specs.declared.words.Word.{Word}
use Rattle.plans.specs.Plans.{design_of, cells_in}
use Rattle.jobs.specs.Steps.{Draft, more}
use Rattle.jobs.specs.declared.faults.FileFault.{FileFault}
use Rattle.jobs.specs.declared.faults.Stop.{Stop}
use Rattle.drafts.specs.declared.drafts.Reader.{Reader}

-- the answer of a step, and the state after it: a refusal leaves the state
abbrev pub answer : {X F : Type 0} → Result X F → Result (Unit {0}) F
answer (Ok x) = Ok tt
answer (Err f) = Err f

abbrev pub or_stay : {X F : Type 0} → X → Result X F → X
or_stay x (Ok y) = y
or_stay x (Err f) = x

module _ {V : Type 0} where
  -- the draft that a reader holds
  abbrev pub draft_of : Reader V → Draft V
  draft_of r = record { section = r.section; job = record { design = design_of r.plan; picture = vec_items r.cells; orders = vec_items r.orders } }

  -- what one step does to a reader: its answer a, the reader t after s
  pub record Stepped (s t : Reader V) (a : Result (Unit {0}) FileFault) (asked : Result (Draft V) FileFault) : Type 0 where
    pub answers : a ≡ answer asked
    pub drafts : draft_of t ≡ or_stay (draft_of s) asked
    pub rooms : t.room ≡ s.room
    pub sizes : cells_in (design_of t.plan) ≡ cells_in (design_of s.plan)

  -- what a line does to one, where its word may follow
  abbrev pub Takes : Values V → Written V → Word → Line → Reader V → Reader V → Result (Unit {0}) FileFault → Type 0
  Takes k w word l s t a = Stepped s t a (more k w s.room (draft_of s).job word l)

  -- what a whole file does to one; after a refusal the draft is of no more use
  pub record Led (s t : Reader V) (a : Result (Unit {0}) Stop) (asked : Result (Draft V) Stop) : Type 0 where
    pub answers : a ≡ answer asked
    pub drafts : (d : Draft V) → asked ≡ Ok d → draft_of t ≡ d
    pub rooms : t.room ≡ s.room
    pub sizes : cells_in (design_of t.plan) ≡ cells_in (design_of s.plan)
