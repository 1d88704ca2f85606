-- A run: records worked one after the other on one picture with one working memory. Assumes nothing.
use Rattle.std.specs.Prelude.{◌≡◌, ℕ, List, [], ◌∷◌, map, length}
use Rattle.kinds.specs.Lattices.{Values}
use Rattle.plates.specs.Meanings.{Meaning}
use Rattle.morphology.specs.Pictures.{area}
use Rattle.morphology.specs.Histories.{Call, numbered_call, answer, answer_number, after, memory_after, end}
use Rattle.morphology.specs.declared.words.Record.{Record}

-- the calls that records ask for, with a working memory of that length
abbrev pub call_of : ℕ → Record → Call
call_of memory r = numbered_call r.action r.element memory

abbrev pub calls : ℕ → List Record → List Call
calls memory = map (call_of memory)

module _ {V : Type 0} (k : Values V) (m : Meaning) where
  -- a record with the answer to its call on a picture, and the area afterwards
  abbrev pub noted : ℕ → List V → Record → Record
  noted memory a r = record {
    action = r.action;
    element = r.element;
    answer = answer_number (answer m (length a) (call_of memory r));
    area = area k (after k m (call_of memory r) a);
  }

  -- the records after the run
  abbrev pub ran : ℕ → List V → List Record → List Record
  ran memory a [] = []
  ran memory a (r ∷ rs) = noted memory a r ∷ ran memory (after k m (call_of memory r) a) rs

  -- the working memory after calls that share it
  abbrev pub memory_end : List Call → List V → List V → List V
  memory_end [] a w = w
  memory_end (c ∷ cs) a w = memory_end cs (after k m c a) (memory_after k m c a w)

  -- What a run does: the records rs after the records qs, the picture b after a, the working memory v after w.
  pub record Ran (qs rs : List Record) (a b w v : List V) : Type 0 where
    pub writes : rs ≡ ran (length w) a qs
    pub leaves : b ≡ end k m (calls (length w) qs) a
    pub keeps : v ≡ memory_end (calls (length w) qs) a w
