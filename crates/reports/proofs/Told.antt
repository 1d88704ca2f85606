-- What is told of a job that was read and run. Assumes nothing.
use Rattle.std.proofs.Common.{◌≡◌, ℕ, ◌≤◌, List, ◌++◌, map, length, take, drop, ap, ◌∙◌, subst, ap₂, arith}
use Rattle.std.proofs.lemmas.List.{length-append, length-map, length-drop, take_all, take-append-le}
use Rattle.kinds.specs.Lattices.{Values}
use Rattle.kinds.specs.Numbers.{Written}
use Rattle.morphology.specs.Runs.{Ran, calls, ran}
use Rattle.morphology.specs.Histories.{end}
use Rattle.morphology.specs.declared.words.Record.{Record}
use Rattle.grids.specs.Cells.{Extent}
use Rattle.plans.specs.Drawings.{extent_in}
use Rattle.plans.specs.Plans.{Design, plate_of}
use Rattle.jobs.specs.Jobs.{Job}
use Rattle.jobs.specs.declared.orders.Order.{Order}
use Rattle.readers.specs.Reading.{fresh}
use Rattle.reports.specs.Reports.{run_lines, job_told}

-- the records of the moves are the first ones
module _ (n : ℕ) (os : List Order) (qs rs : List Record) (count : n ≡ length os) (is : rs ≡ map fresh os ++ drop n qs) where
  pub few_moves : length rs ≡ length qs → n ≤ length rs
  few_moves same = omega (arith, count, ap length is, same, length-append (map fresh os) (drop n qs), length-map os fresh, length-drop n qs)

  pub first_records : take n rs ≡ map fresh os
  first_records =
      ap (take n) is ∙ take-append-le n (map fresh os) (drop n qs) (omega (arith, count, length-map os fresh)) ∙ take_all n (map fresh os) (omega (arith, count, length-map os fresh))

module _ {V : Type 0} (k : Values V) (w : Written V) where
  -- the lines on the run of a job, as they are found
  told_of : (j : Job V) (a b v u : List V) (rs : List Record) → a ≡ j.picture → length v ≡ length a → Ran k (plate_of j.design) (map fresh j.orders) rs a b v u
      → run_lines k w (extent_in j.design.drawing) rs b ≡ job_told k w j
  told_of j a b v u rs picture size run =
      let m = plate_of j.design in
      let qs = map fresh j.orders in
      let long : length v ≡ length j.picture = size ∙ ap length picture in
      ap₂ (run_lines k w (extent_in j.design.drawing))
      (run.writes ∙ ap₂ (λ n x. ran k m n x qs) long picture)
      (run.leaves ∙ ap₂ (λ n x. end k m (calls n qs) x) long picture)

  pub told_same : (j : Job V) (d : Design) (g : Extent) (a b v u : List V) (qs rs : List Record) → d ≡ j.design → g ≡ extent_in d.drawing → a ≡ j.picture → qs ≡ map fresh j.orders → length v ≡ length a
      → Ran k (plate_of d) qs rs a b v u → run_lines k w g rs b ≡ job_told k w j
  told_same j d g a b v u qs rs design extent picture records size run =
      ap (λ g. run_lines k w g rs b) (extent ∙ ap (λ d. extent_in d.drawing) design)
      ∙ told_of j a b v u rs picture size (subst (λ d. Ran k (plate_of d) (map fresh j.orders) rs a b v u) design (subst (λ qs. Ran k (plate_of d) qs rs a b v u) records run))
