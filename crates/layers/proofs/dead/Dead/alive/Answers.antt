use Rattle.std.proofs.Common.{rules, ◌==◌, arith}
use borrow.Author.Tests.{tests}
use Rattle.std.proofs.lemmas.Iterator.{YieldsList-from_slice}
use Rattle.std.proofs.lemmas.Iterator.Search.{any_from_yields_List}
use Rattle.layers.proofs.dead.Dead.alive.Goals as goal

pub returns : goal.returns
returns g c =
    let found = any_from_yields_List (λ dead. dead == c.args.cell) _ _ c.any-lives.result c.any-lives.ensures.ran (YieldsList-from_slice _ c.iter.ensures.rest) (λ x b q k. search (rules, tests)) in
    grind (arith, found, c.then_some.ensures, c.deref.ensures.value)
