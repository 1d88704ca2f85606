use Rattle.morphology.proofs.Settling.{histories_hold}
use Rattle.morphology.proofs.promises.histories_hold.Goals as goal

pub returns : goal.returns
returns g c = histories_hold g.K.Kind.values g.met.K.Kind.lawful
