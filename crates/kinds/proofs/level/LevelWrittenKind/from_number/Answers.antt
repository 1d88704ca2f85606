use Rattle.std.proofs.Common.{rules}
use Rattle.kinds.specs.Levels.{level, level_number}
use Rattle.kinds.specs.LevelLaws.{same_level}
use Rattle.kinds.proofs.Finding.{found}
use Rattle.kinds.proofs.level.LevelWrittenKind.from_number.Goals as goal

pub returns : goal.returns
returns c = found 256 level level_number (λ n fits x is. same_level x _ is) c.args.number c.try_from.result _ (search rules) (rw c.ok.ensures.value at c.map.ensures.cases)
