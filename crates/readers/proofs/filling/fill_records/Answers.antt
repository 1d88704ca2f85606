use Rattle.std.proofs.Common.{◌≡◌, ◌+◌, [], ◌∷◌, ◌++◌, map, length, take, drop, set, sym, ap, ◌∙◌, append_assoc, arith}
use Rattle.std.proofs.lemmas.List.{drop_more, set_at, map_more, length-map, length-take-le}
use Rattle.readers.specs.Reading.{fresh}
use Rattle.readers.proofs.filling.fill_records.Goals as goal

pub loop-at-preserved : goal.loop-at-preserved
loop-at-preserved c =
    let i = c.loop-at.at in
    let os = c.args.orders.now in
    let rs = c.args.records.now in
    let x = c.fresh.result in
    let done = map fresh (take i os) in
    let left = drop (i + 1) rs in
    let size : length done ≡ i = length-map (take i os) fresh ∙ length-take-le i os (omega arith) in
    ap (λ rs. set rs i x) (c.loop-at.invariant ∙ ap (λ r. done ++ r) (drop_more rs i x (omega arith)))
    ∙ set_at done _ left x i size
    ∙ sym (append_assoc done (x ∷ []) left)
    ∙ ap (λ xs. xs ++ left) (ap (λ y. done ++ y ∷ []) c.fresh.ensures ∙ sym (map_more fresh os i _ (omega arith)))
