-- What the table of a grid holds. Assumes nothing.
use Rattle.std.specs.Prelude.{List, map, vec_items}
use Rattle.plans.specs.declared.tables.Element.{Element}
use Rattle.plans.specs.declared.tables.Table.{Table}
use Rattle.plans.specs.Drawings.{Lists}

abbrev pub lists_of : Element → Lists
lists_of e = record { first = e.first.items.items; second = e.second.items.items }

abbrev pub elements_of : Table → List Lists
elements_of t = map lists_of (vec_items t.elements)
