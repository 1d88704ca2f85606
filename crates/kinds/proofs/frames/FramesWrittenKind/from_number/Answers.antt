use Rattle.std.proofs.Common.{rules}
use Rattle.kinds.specs.FrameSets.{frames, frames_number}
use Rattle.kinds.specs.FrameLaws.{same_frames}
use Rattle.kinds.proofs.Finding.{found}
use Rattle.kinds.proofs.frames.FramesWrittenKind.from_number.Goals as goal

pub returns : goal.returns
returns c = found 65536 frames frames_number (λ n fits x is. same_frames x _ is) c.args.number c.try_from.result _ (search rules) (rw c.ok.ensures.value at c.map.ensures.cases)
