use Rattle.std.proofs.Common.{length, ◌<◌, sym, subst, arith}
use Rattle.std.proofs.lemmas.List.{get_or_read}
use Rattle.morphology.specs.Passes.{Spread}
use Rattle.morphology.proofs.Listed.{by_places, by_places_some, by_places_none}
use Rattle.morphology.proofs.Passing.{spread_more}
use Rattle.morphology.proofs.passes.Pass.spread.Goals as goal
use Rattle.morphology.proofs.passes.Pass.spread.Goals.{in-Some, in_default}

pub loop-place-preserved : goal.loop-place-preserved
loop-place-preserved g c =
    let k = g.K.Kind.values in
    let m = g.P.Plate.meaning c.args.self.now.plate.now in
    let e = c.args.self.now.element in
    let n = c.loop-place.place in
    let v = c.args.value in
    let w₀ = c.args.work.now in
    let w = c.loop-place.work in
    elim c.match-target.branch [
      | in-Some h ↦
          let t = h.in-Some.target in
          let lt : t < length w = omega (arith, c.requires, (g.met.P.Plate.sound c.args.self.now.plate.now).ends e n c.args.cell t (sym h.in-Some.ensures)) in
          subst (λ xs. Spread k xs v w₀ c.match-target.work) (sym (by_places_some m e c.args.cell n t h.in-Some.ensures))
          (spread_more k g.met.K.Kind.lawful (by_places m e c.args.cell n) t v w₀ w c.match-target.work (omega arith) lt c.loop-place.invariant (grind (arith, get_or_read w t h.index-work-target.result lt h.index-work-target.is k.least)))
      | in_default h ↦
          subst (λ xs. Spread k xs v w₀ c.match-target.work) (sym (by_places_none m e c.args.cell n h.in_default.ensures)) (subst (Spread k (by_places m e c.args.cell n) v w₀) (sym h.work-is) c.loop-place.invariant)
    ]
