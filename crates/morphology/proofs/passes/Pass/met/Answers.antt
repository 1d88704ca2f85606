use Rattle.std.proofs.Common.{rules, tests, ◌≡◌, length, ◌<◌, map, arith}
use Rattle.std.specs.List.{All}
use Rattle.std.proofs.lemmas.Grind.{common_steps}
use Rattle.std.proofs.lemmas.List.{get_or_read}
use Rattle.std.proofs.lemmas.Iterator.{YieldsList-from_range}
use Rattle.std.proofs.lemmas.Iterator.Consumers.{YieldsList-from_filter_map}
use Rattle.kinds.specs.Lattices.{meet_all}
use Rattle.morphology.specs.Pictures.{at}
use Rattle.morphology.proofs.Folding.{serves_in_fold, fold_along}
use Rattle.morphology.proofs.Reaches.{reached_within}
use Rattle.morphology.proofs.Passing.{met_more}
use Rattle.morphology.proofs.passes.Pass.met.Goals as goal

pub fold-requires-clause-callable : goal.fold-requires-clause-callable
fold-requires-clause-callable g c =
    let m = g.P.Plate.meaning c.args.self.now.plate.now in
    let e = c.args.self.now.element in
    serves_in_fold
    (YieldsList-from_filter_map _ (λ p. m.target e p c.args.cell) (YieldsList-from_range 0 c.fan.result (m.fan e) c.filter_map.ensures.source (omega arith)) c.filter_map.ensures.closure (λ x r q k. search (rules, tests)))
    (λ n x q r. search rules)
    (λ n x k lt is. let within : x < m.cells = omega (arith, is, reached_within m (g.met.P.Plate.sound c.args.self.now.plate.now) e c.args.cell k x lt) in let inside : x < length c.args.self.now.picture.now = omega (arith, c.args.self.now.fits) in search rules)

pub returns : goal.returns
returns g c =
    let k = g.K.Kind.values in
    let m = g.P.Plate.meaning c.args.self.now.plate.now in
    let e = c.args.self.now.element in
    let a = c.args.self.now.picture.now in
    fold_along c.fold.ensures.ran
    (YieldsList-from_filter_map _ (λ p. m.target e p c.args.cell) (YieldsList-from_range 0 c.fan.result (m.fan e) c.filter_map.ensures.source (omega arith)) c.filter_map.ensures.closure (λ x r q k. search (rules, tests)))
    (λ xs met. All (λ t. t < length a) xs → met ≡ meet_all k (map (at k a) xs)) (λ _. c.greatest.ensures)
    (λ xs v x w f' inv called. (met_more k a xs x v w inv (λ lt. grind (arith, common_steps, get_or_read)), search rules))
    (λ i d lt. omega (arith, c.args.self.now.fits, reached_within m (g.met.P.Plate.sound c.args.self.now.plate.now) e c.args.cell i d lt))
