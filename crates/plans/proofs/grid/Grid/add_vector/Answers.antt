use Rattle.std.proofs.Common.{◌≡◌, true, is_ok, ap, ◌∙◌, rules}
use Rattle.grids.specs.Cells.{vector_sum}
use Rattle.plans.specs.Drawings.{all_fair}
use Rattle.plans.specs.Holdings.{elements_of}
use Rattle.plans.specs.Modes.{allowed}
use Rattle.plans.proofs.Fairness.{fair_added}
use Rattle.plans.proofs.grid.Grid.add_vector.Goals as goal

pub invariant_of-self : goal.invariant_of-self
invariant_of-self c =
    let g = c.args.self.now in
    let mode = g.outline.mode in
    let side = c.in_ok-side.side in
    let near = c.in_ok-near.near in
    let is : near.vector ≡ c.args.v = search rules in
    let ok : allowed mode side (vector_sum near.vector) ≡ true = ap (λ v. allowed mode side (vector_sum v)) is ∙ search rules in
    record { fair = ap (all_fair mode) c.add_vector.ensures.after ∙ fair_added mode side (elements_of g.table) _ near.vector (is_ok c.add_vector.result) g.fair ok }
