use Rattle.std.proofs.Common.{sym, ◌∙◌, rules}
use Rattle.lines.specs.declared.numbers.Number.TheVariants.{Natural}
use Rattle.lines.proofs.Instances.{four_numbers_from}
use Rattle.drafts.proofs.drafts.Reader.vector.Goals as goal

pub returns-in_err-add_vector : goal.returns-in_err-add_vector
returns-in_err-add_vector g c =
    let all = four_numbers_from c.args.line c.in_ok-side.field-0 (Natural 0) (sym c.numbers.ensures ∙ c.in_ok-side.was) in
    let side = sym c.natural.ensures ∙ c.in_ok-side-2.was in
    rw (all, side) (search rules)

pub returns : goal.returns
returns g c =
    let all = four_numbers_from c.args.line c.in_ok-side.field-0 (Natural 0) (sym c.numbers.ensures ∙ c.in_ok-side.was) in
    let side = sym c.natural.ensures ∙ c.in_ok-side-2.was in
    rw (all, side) (search rules)
