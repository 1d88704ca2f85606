use Rattle.std.proofs.Common.{◌≡◌, ◌++◌, map, take, drop}
use Rattle.readers.specs.Reading.{fresh}
use Rattle.readers.proofs.filling.fill_records.Given as goal

abbrev pub invariant-loop-at : goal.invariant-loop-at
invariant-loop-at l = l.records ≡ map fresh (take l.at l.orders) ++ drop l.at l.initial.records
