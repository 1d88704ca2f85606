use Rattle.std.proofs.Common.{◌≡◌, ℕ, List, get_or, vec_items, Some, None, Option, option_copied, sym, ap, ◌∙◌}
use Rattle.std.specs.Borrow.{Bor}
use Rattle.std.specs.Option.{option_map_or}
use Rattle.std.specs.Slice.{IsItemAt}
use Rattle.plans.specs.declared.tables.Element.{Element}
use Rattle.plans.specs.declared.tables.Table.{Table}
use Rattle.plans.specs.Drawings.{blank}
use Rattle.plans.specs.Holdings.{lists_of, elements_of}
use Rattle.plans.specs.Reading.{past, present}
use Rattle.plans.proofs.tables.Table.get.Goals as goal

-- es is what the table holds
lent : (t : Table) (es : List Element) (e : ℕ) (r : Option (Bor Element)) → es ≡ vec_items t.elements → IsItemAt es e r → option_map_or lists_of (option_copied r) blank ≡ get_or (elements_of t) e blank
lent t es e None same is = sym (past t e (rw (← same) is.3))
lent t es e (Some x) same is = ap lists_of is.1 ∙ present t es e x.now same is.3.0

pub returns : goal.returns
returns c = lent c.args.self.now _ c.args.e c.get.result c.deref.ensures.value c.get.ensures.lookup
