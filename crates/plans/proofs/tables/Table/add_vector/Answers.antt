use Rattle.std.proofs.Common.{◌≡◌, ◌<◌, cond, length, get_or, set, is_ok, refl, ap, ◌∙◌, arith}
use Rattle.std.proofs.lemmas.List.{length-map}
use Rattle.plans.specs.Drawings.{blank}
use Rattle.plans.specs.Fitting.{put}
use Rattle.plans.specs.Holdings.{lists_of, elements_of}
use Rattle.plans.specs.Reading.{present, written, kept}
use Rattle.plans.proofs.tables.Table.add_vector.Goals as goal

pub returns-clause-after : goal.returns-clause-after
returns-clause-after c =
    let t = c.args.self.now in
    let e = c.args.e in
    let es = t.elements.items in
    let ls = elements_of t in
    let x = c.index_mut.result.now in
    let within : e < length es = omega (arith, length-map es lists_of) in
    let was : lists_of x ≡ get_or ls e blank = ap lists_of c.index_mut.ensures.value ∙ present t es e x refl within in
    written es e c.add.new.self
    ∙ ap (set ls e) (c.add.ensures.after ∙ ap (λ l. cond (is_ok c.add.result) (put c.args.side l c.args.v.vector) l) was)
    ∙ kept (is_ok c.add.result) ls e (put c.args.side (get_or ls e blank) c.args.v.vector)
