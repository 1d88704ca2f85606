use Rattle.std.proofs.Common.{◌≡◌, length, sum_by, ◌∙◌, arith, rules}
use borrow.Author.Tests.{tests}
use Rattle.std.specs.List.{range_with_len}
use Rattle.std.proofs.lemmas.Iterator.{YieldsList-from_map, YieldsList-from_range}
use Rattle.std.proofs.lemmas.Iterator.Consumers.{YieldsList-at, sum_by_from_yields_List, fits_by_from_yields_list}
use Rattle.plans.specs.Plans.{design_of}
use Rattle.writers.specs.Writing.{lines_of_element}
use Rattle.writers.proofs.Listing.{elements_counted, few_counted}
use Rattle.writers.proofs.counting.elements_lines.Goals as goal

pub sum-requires-clause-fits : goal.sum-requires-clause-fits
sum-requires-clause-fits c =
    let d = design_of c.args.plan.now in
    let n = c.elements.result in
    fits_by_from_yields_list (λ e. length (lines_of_element d e)) (range_with_len 0 n) c.map.result _
    (YieldsList-from_map _ (λ e. length (lines_of_element d e)) (YieldsList-at c.map.ensures.source (YieldsList-from_range 0 n n (cc) (omega arith))) c.map.ensures.closure (λ x r q k. search (rules, tests)))
    (omega (arith, few_counted c.args.plan.now n (c.elements.ensures)))

pub returns : goal.returns
returns c =
    let d = design_of c.args.plan.now in
    let n = c.elements.result in
    let all : c.sum.result ≡ sum_by (λ e. length (lines_of_element d e)) (range_with_len 0 n) =
    sum_by_from_yields_List (λ e. length (lines_of_element d e)) (range_with_len 0 n) c.map.result _ c.sum.ensures.ran
    (YieldsList-from_map _ (λ e. length (lines_of_element d e)) (YieldsList-at c.map.ensures.source (YieldsList-from_range 0 n n (cc) (omega arith))) c.map.ensures.closure (λ x r q k. search (rules, tests))) in
    record { count = all ∙ elements_counted d n c.elements.ensures; few = omega (arith, all, few_counted c.args.plan.now n c.elements.ensures) }
