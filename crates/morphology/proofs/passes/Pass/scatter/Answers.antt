use Rattle.std.proofs.Common.{◌≡◌, ◌<◌, cond, length, ap, ◌∙◌, arith}
use Rattle.std.proofs.lemmas.List.FromFn.{fill_by_all}
use Rattle.plates.specs.Lists.{among}
use Rattle.morphology.specs.Moves.{reached, dilated_at}
use Rattle.morphology.specs.Pictures.{at}
use Rattle.morphology.proofs.Passing.{joined_below, joined_more_cells}
use Rattle.morphology.proofs.passes.Pass.scatter.Goals as goal

pub loop-cell-preserved : goal.loop-cell-preserved
loop-cell-preserved g c x h =
    let k = g.K.Kind.values in
    let m = g.P.Plate.meaning c.args.self.now.plate.now in
    let e = c.args.self.now.element in
    let a = c.args.self.now.picture.now in
    let i = c.loop-cell.cell in
    let lt : x < length c.loop-cell.work = omega arith in
    c.spread_cell.ensures x lt
    ∙ (λ j. cond (among x (reached m e i)) (k.join (c.loop-cell.invariant x lt j) (at k a i)) (c.loop-cell.invariant x lt j))
    ∙ joined_more_cells k m e a i x

pub returns : goal.returns
returns g c =
    let k = g.K.Kind.values in
    let m = g.P.Plate.meaning c.args.self.now.plate.now in
    let e = c.args.self.now.element in
    let a = c.args.self.now.picture.now in
    let all : c.loop-cell.cell ≡ m.cells = omega (arith, c.args.self.now.fits) in
    fill_by_all (dilated_at k m e a) c.loop-cell.work m.cells k.least (omega (arith, c.requires))
    (λ x h. c.loop-cell.invariant x (omega (arith, c.requires)) ∙ ap (λ n. joined_below k m e a n x) all)
