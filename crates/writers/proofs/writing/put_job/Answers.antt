use Rattle.std.proofs.Common.{◌≡◌, get_or, Some, refl, ap, ◌∙◌, arith, rules, of_calls}
use borrow.Author.Tests.{tests}
use Rattle.std.proofs.lemmas.Iterator.{YieldsList-from_slice, YieldsList-from_map, YieldsList-from_range}
use Rattle.std.proofs.lemmas.Iterator.Consumers.{YieldsList-at, YieldsList-from_chain, YieldsList-from_enumerate, YieldsList-from_filter_map}
use Rattle.std.proofs.lemmas.Iterator.Adapters.{YieldsList-from_once, YieldsList-from_flat_map}
use Rattle.plans.specs.Drawings.{blank}
use Rattle.plans.specs.Plans.{design_of}
use Rattle.jobs.specs.Jobs.{job_lines}
use Rattle.jobs.specs.Entries.{plat_line, first_side, elem_line, vect_line, dead_line, cell_entry, move_line}
use Rattle.writers.specs.Writing.{asked, job_of}
use Rattle.writers.proofs.Leftovers.{each_made, few_left}
use Rattle.writers.proofs.Listing.{element_given, job_given}
use Rattle.writers.proofs.Placing.{gives}
use Rattle.writers.proofs.PlanLimits.{few_places}
use Rattle.writers.proofs.writing.put_job.Goals as goal

-- each part of the chain may be asked for its lines; an element has few of them, since its lists are the plan's
pub put_lines-requires-clause-can : goal.put_lines-requires-clause-can
put_lines-requires-clause-can g c =
    let d = (design_of c.args.plan.now).drawing in (
      λ _. (
        λ _. (
          λ _. (
            λ _. (
              λ _. tt,
              λ _. (
                (
                  λ _. (
                    search of_calls,
                    each_made _ (λ s. s.f.0.now ≡ c.args.plan.now) _ (λ t u v step plan.
                        let called = step.2 in (
                          search rules,
                          λ j is. rw is (few_left (λ _. (λ _. tt, λ _. search of_calls), λ _. search of_calls) u.a_done u.a.a_done u.a.b_done u.b_done u.a.a.item u.a.b.iter.rest.now u.b.iter.rest.now (get_or d.elements step.0 blank)
                              (search rules) (search rules) (few_places c.args.plan.now step.0)),
                        )) (search rules),
                  ),
                  tt,
                  λ j is. absurd cc,
                ),
                λ j is. absurd cc,
              ),
            ),
            λ _. search of_calls,
          ),
          λ _. search (rules, of_calls),
        ),
        λ _. search of_calls,
      ),
      λ _. tt,
    )

-- the chain gives the lines of the job: each part those that its lists have, whatever is read of them
pub put_lines-requires-clause-told : goal.put_lines-requires-clause-told
put_lines-requires-clause-told g c =
    let k = g.K.Kind.values in
    let w = g.K.WrittenKind.written in
    let d = (design_of c.args.plan.now).drawing in
    let n = c.elements.result in
    let all = job_given k w (design_of c.args.plan.now) c.args.picture.now c.args.records.now c.first_side-side.result n c.plat_line.result c.last_line.result
    (c.first_side-side.ensures ∙ ap first_side c.mode.ensures) c.elements.ensures (c.plat_line.ensures ∙ ap (λ x. plat_line x d) c.code.ensures) c.last_line.ensures in (
      job_lines k w (job_of (design_of c.args.plan.now) c.args.picture.now c.args.records.now),
      gives
          (YieldsList-from_chain
          (YieldsList-at c.chain-lines.ensures.first (YieldsList-from_chain
          (YieldsList-at c.chain-4.ensures.first (YieldsList-from_chain
          (YieldsList-at c.chain-3.ensures.first (YieldsList-from_chain
          (YieldsList-at c.chain-2.ensures.first (YieldsList-from_chain
          (YieldsList-at c.chain.ensures.first (YieldsList-from_once (Some c.plat_line.result) c.once.ensures.item))
          (YieldsList-at c.chain.ensures.second (YieldsList-from_flat_map _ _ _ (λ l. l) (element_given c.first_side-side.result d.elements) _
          (λ x u q called. (
            search rules,
            λ j is. YieldsList-at is (YieldsList-from_chain
                (YieldsList-from_chain (YieldsList-from_once (Some (elem_line x)) (search rules))
                (YieldsList-from_map _ (vect_line c.first_side-side.result) (YieldsList-from_slice (get_or d.elements x blank).first (search rules)) refl (λ v r f k. search (rules, tests))) (search rules) (search rules))
                (YieldsList-from_map _ (vect_line 2) (YieldsList-from_slice (get_or d.elements x blank).second (search rules)) (search rules) (λ v r f k. search (rules, tests))) (search rules) (search rules)),
          ))
          (YieldsList-at c.flat_map-elements.ensures.source (YieldsList-from_range 0 n n (cc) (omega arith))) c.flat_map-elements.ensures.closure c.flat_map-elements.ensures.front c.flat_map-elements.ensures.back c.flat_map-elements.ensures.done))
          c.chain.ensures.first_done c.chain.ensures.second_done))
          (YieldsList-at c.chain-2.ensures.second (YieldsList-from_map _ dead_line (YieldsList-from_slice (design_of c.args.plan.now).dead (cc)) c.map-dead.ensures.closure (λ x r q k. search (rules, tests))))
          c.chain-2.ensures.first_done c.chain-2.ensures.second_done))
          (YieldsList-at c.chain-3.ensures.second (YieldsList-from_filter_map _ (λ p. cell_entry k w p.0 p.1) (YieldsList-from_enumerate (YieldsList-from_slice c.args.picture.now (cc)) (cc)) c.filter_map-cells.ensures.closure (λ x r q k. search (rules, tests))))
          c.chain-3.ensures.first_done c.chain-3.ensures.second_done))
          (YieldsList-at c.chain-4.ensures.second (YieldsList-from_map _ (λ r. move_line (asked r)) (YieldsList-from_slice c.args.records.now (cc)) c.map-moves.ensures.closure (λ x r q k. search (rules, tests))))
          c.chain-4.ensures.first_done c.chain-4.ensures.second_done))
          (YieldsList-at c.chain-lines.ensures.second (YieldsList-from_once (Some c.last_line.result) c.once-2.ensures.item))
          c.chain-lines.ensures.first_done c.chain-lines.ensures.second_done)
          all,
      c.requires,
    )

-- by the same chain, as no definition can name what it gives
pub returns : goal.returns
returns g c =
    let k = g.K.Kind.values in
    let w = g.K.WrittenKind.written in
    let d = (design_of c.args.plan.now).drawing in
    let n = c.elements.result in
    let all = job_given k w (design_of c.args.plan.now) c.args.picture.now c.args.records.now c.first_side-side.result n c.plat_line.result c.last_line.result
    (c.first_side-side.ensures ∙ ap first_side c.mode.ensures) c.elements.ensures (c.plat_line.ensures ∙ ap (λ x. plat_line x d) c.code.ensures) c.last_line.ensures in
    let put = c.put_lines.ensures _
    (gives
    (YieldsList-from_chain
    (YieldsList-at c.chain-lines.ensures.first (YieldsList-from_chain
    (YieldsList-at c.chain-4.ensures.first (YieldsList-from_chain
    (YieldsList-at c.chain-3.ensures.first (YieldsList-from_chain
    (YieldsList-at c.chain-2.ensures.first (YieldsList-from_chain
    (YieldsList-at c.chain.ensures.first (YieldsList-from_once (Some c.plat_line.result) c.once.ensures.item))
    (YieldsList-at c.chain.ensures.second (YieldsList-from_flat_map _ _ _ (λ l. l) (element_given c.first_side-side.result d.elements) _
    (λ x u q called. (
      search rules,
      λ j is. YieldsList-at is (YieldsList-from_chain
          (YieldsList-from_chain (YieldsList-from_once (Some (elem_line x)) (search rules))
          (YieldsList-from_map _ (vect_line c.first_side-side.result) (YieldsList-from_slice (get_or d.elements x blank).first (search rules)) refl (λ v r f k. search (rules, tests))) (search rules) (search rules))
          (YieldsList-from_map _ (vect_line 2) (YieldsList-from_slice (get_or d.elements x blank).second (search rules)) (search rules) (λ v r f k. search (rules, tests))) (search rules) (search rules)),
    ))
    (YieldsList-at c.flat_map-elements.ensures.source (YieldsList-from_range 0 n n (cc) (omega arith))) c.flat_map-elements.ensures.closure c.flat_map-elements.ensures.front c.flat_map-elements.ensures.back c.flat_map-elements.ensures.done))
    c.chain.ensures.first_done c.chain.ensures.second_done))
    (YieldsList-at c.chain-2.ensures.second (YieldsList-from_map _ dead_line (YieldsList-from_slice (design_of c.args.plan.now).dead (cc)) c.map-dead.ensures.closure (λ x r q k. search (rules, tests))))
    c.chain-2.ensures.first_done c.chain-2.ensures.second_done))
    (YieldsList-at c.chain-3.ensures.second (YieldsList-from_filter_map _ (λ p. cell_entry k w p.0 p.1) (YieldsList-from_enumerate (YieldsList-from_slice c.args.picture.now (cc)) (cc)) c.filter_map-cells.ensures.closure (λ x r q k. search (rules, tests))))
    c.chain-3.ensures.first_done c.chain-3.ensures.second_done))
    (YieldsList-at c.chain-4.ensures.second (YieldsList-from_map _ (λ r. move_line (asked r)) (YieldsList-from_slice c.args.records.now (cc)) c.map-moves.ensures.closure (λ x r q k. search (rules, tests))))
    c.chain-4.ensures.first_done c.chain-4.ensures.second_done))
    (YieldsList-at c.chain-lines.ensures.second (YieldsList-from_once (Some c.last_line.result) c.once-2.ensures.item))
    c.chain-lines.ensures.first_done c.chain-lines.ensures.second_done)
    all) in
    record { end = put.0; bytes = put.1 }
