use Rattle.std.proofs.Common.{◌∙◌, rules}
use borrow.Author.Tests.{tests}
use Rattle.std.proofs.lemmas.Iterator.{YieldsList-from_slice}
use Rattle.std.proofs.lemmas.Iterator.Search.{all_from_yields_List}
use Rattle.jobs.specs.Jobs.{fair_order}
use Rattle.writers.specs.Writing.{asked}
use Rattle.writers.proofs.Listing.{fair_all}
use Rattle.writers.proofs.writing.all_fair.Goals as goal

pub returns : goal.returns
returns c = all_from_yields_List (λ r. fair_order (asked r)) _ _ _ c.all.ensures.ran (YieldsList-from_slice c.args.records.now cc) (λ x b q k. search (rules, tests)) ∙ fair_all c.args.records.now
