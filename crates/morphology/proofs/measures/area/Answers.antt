use Rattle.std.proofs.Common.{◌≡◌, ℕ, ◌+◌, ◌<◌, Bool, true, false, cond, List, length, get_or, take, sym, ap, ◌∙◌, arith}
use Rattle.std.proofs.lemmas.List.{take_all}
use Rattle.std.proofs.lemmas.List.Sums.{sum_by_more}
use Rattle.kinds.specs.Lattices.{Values, not_least}
use Rattle.morphology.specs.Pictures.{area}
use Rattle.morphology.proofs.measures.area.Goals as goal
use Rattle.morphology.proofs.measures.area.Goals.{then-is_not_least, else-is_not_least}

-- one cell more
area-more : {V : Type 0} (k : Values V) (a : List V) (i : ℕ) (x : V) (b : Bool) → i < length a → x ≡ get_or a i x → b ≡ not_least k x → area k (take (i + 1) a) ≡ area k (take i a) + cond b 1 0
area-more k a i x b lt is told =
    sum_by_more (λ y. cond (not_least k y) 1 0) a i x lt
    ∙ ap (λ y. area k (take i a) + cond (not_least k y) 1 0) (sym is)
    ∙ ap (λ t. area k (take i a) + cond t 1 0) (sym told)

pub loop-cell-preserved : goal.loop-cell-preserved
loop-cell-preserved g c =
    let more : (b : Bool) → b ≡ not_least g.K.Kind.values c.cell-item.result → area g.K.Kind.values (take (c.loop-cell.cell-index + 1) c.args.picture.now) ≡ area g.K.Kind.values (take c.loop-cell.cell-index c.args.picture.now) + cond b 1 0 =
    λ b told. area-more g.K.Kind.values c.args.picture.now c.loop-cell.cell-index c.cell-item.result b c.loop-cell-test.true c.cell-item.is told in
    elim c.if-is_not_least.branch [
      | then-is_not_least w ↦ let step = more true w.if-is_not_least.ensures in (omega (arith, w.count-is), omega (arith, w.count-is, step))
      | else-is_not_least w ↦ let step = more false w.if-is_not_least.ensures in (omega (arith, w.count-is), omega (arith, w.count-is, step))
    ]

pub returns : goal.returns
returns g c = c.loop-cell.invariant.1 ∙ ap (area g.K.Kind.values) (take_all _ _ c.loop-cell-test.false)
