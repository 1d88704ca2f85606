use Rattle.std.proofs.Common.{◌≡◌, suc, ◌+◌, ◌*◌, length, drop}
use Rattle.std.specs.Iterator.Adapters.{enumerate_source, enumerate_count}
use Rattle.std.specs.Slice.Iter.{chunks_rest, chunks_size}
use Rattle.plans.specs.Plans.{design_of, cells_in}
use Rattle.jobs.specs.Files.{read_from}
use Rattle.drafts.specs.Drafts.{draft_of}
use Rattle.drafts.proofs.Turns.{Left}
use Rattle.drafts.proofs.drafts.Reader.lines.Given as goal

abbrev pub invariant-loop-at : goal.invariant-loop-at
invariant-loop-at g l = record {
  size : chunks_size (enumerate_source l.at-iterator) ≡ 29;
  count : 29 * enumerate_count l.at-iterator + length (chunks_rest (enumerate_source l.at-iterator)) ≡ length l.rest;
  rooms : l.self.room ≡ l.initial.self.room;
  sizes : cells_in (design_of l.self.plan) ≡ cells_in (design_of l.initial.self.plan);
  left : Left g.K.Kind.values g.K.WrittenKind.written l.initial.self.room (enumerate_count l.at-iterator + 2) (draft_of l.self) (chunks_rest (enumerate_source l.at-iterator))
      (read_from g.K.Kind.values g.K.WrittenKind.written l.initial.self.room (suc (length l.bytes)) 2 (draft_of l.initial.self) (drop 29 l.bytes));
}
