-- Calls of the moves, what they answer and what they leave; histories, which are calls one after the other. Assumes nothing.
use Rattle.std.specs.Prelude.{◌≡◌, ℕ, zero, suc, Bool, cond, List, [], ◌∷◌, length, is_some, is_ok, Some, None, Ok, Err, Option, Result, ◌==◌, nat_lt}
use Rattle.std.specs.List.{flat_map}
use Rattle.std.specs.Option.{option_to_list}
use Rattle.kinds.specs.Lattices.{Values}
use Rattle.plates.specs.Meanings.{Meaning}
use Rattle.morphology.specs.Moves.{dilated, eroded, opened, closed}
use Rattle.morphology.specs.declared.words.Move.{Move}
use Rattle.morphology.specs.declared.words.Move.TheVariants.{Dilate, Erode, Open, Close}
use Rattle.morphology.specs.declared.faults.Refusal.{Refusal}
use Rattle.morphology.specs.declared.faults.Refusal.TheVariants.{UnknownMove, PictureLength, MemoryLength, NoElement}

-- every refusal of a move, and its number
abbrev pub refusal_number : Refusal → ℕ
refusal_number PictureLength = 21
refusal_number MemoryLength = 22
refusal_number NoElement = 23
refusal_number UnknownMove = 26

-- what stands in a record: 0, or the number of the refusal
abbrev pub answer_number : Result (Unit {0}) Refusal → ℕ
answer_number (Ok u) = 0
answer_number (Err f) = refusal_number f

abbrev pub move_number : Move → ℕ
move_number Dilate = 1
move_number Erode = 2
move_number Open = 3
move_number Close = 4

-- the move that a number stands for, or none
abbrev pub move_of : ℕ → Option Move
move_of zero = None
move_of (suc zero) = Some Dilate
move_of (suc (suc zero)) = Some Erode
move_of (suc (suc (suc zero))) = Some Open
move_of (suc (suc (suc (suc zero)))) = Some Close
move_of (suc (suc (suc (suc (suc n))))) = None

-- A call: the number of its move, its element, and the length of the working memory that it brings.
pub record Call : Type 0 where
  pub move : ℕ
  pub element : ℕ
  pub memory : ℕ

abbrev pub numbered_call : ℕ → ℕ → ℕ → Call
numbered_call n e memory = record { move = n; element = e; memory = memory }

-- a condition that is to hold, the refusal where it does not, and the answer where it does
abbrev pub must : Bool → Refusal → Result (Unit {0}) Refusal → Result (Unit {0}) Refusal
must holds f answer = cond holds answer (Err f)

-- the checks of every move in their order, at a picture and a working memory of these lengths
abbrev pub admitted : Meaning → ℕ → ℕ → ℕ → Result (Unit {0}) Refusal
admitted m long memory e =
    must (long == m.cells) PictureLength (must (memory == m.cells) MemoryLength (must (nat_lt e m.elements) NoElement (Ok tt)))

-- the answer to a call at a picture of that length
abbrev pub answer : Meaning → ℕ → Call → Result (Unit {0}) Refusal
answer m long c = must (is_some (move_of c.move)) UnknownMove (admitted m long c.memory c.element)

-- A step: a move by an element that was accepted.
pub record Step : Type 0 where
  pub move : Move
  pub element : ℕ

abbrev pub by : Move → ℕ → Step
by v e = record { move = v; element = e }

abbrev pub step_by : Option Move → ℕ → Option Step
step_by None e = None
step_by (Some v) e = Some (by v e)

-- the step that a call takes at a picture of that length; none where it is refused
abbrev pub step : Meaning → ℕ → Call → Option Step
step m long c = cond (is_ok (answer m long c)) (step_by (move_of c.move) c.element) None

-- the steps that the calls of a history take, in order
abbrev pub accepted : Meaning → List Call → List Step
accepted m = flat_map (λ c. option_to_list (step m m.cells c))

module _ {V : Type 0} (k : Values V) (m : Meaning) where
  -- what a move makes of a picture
  abbrev pub made : Move → ℕ → List V → List V
  made Dilate e a = dilated k m e a
  made Erode e a = eroded k m e a
  made Open e a = opened k m e a
  made Close e a = closed k m e a

  -- what a move leaves in the working memory: its first pass over the picture
  abbrev pub passed : Move → ℕ → List V → List V
  passed Dilate e a = dilated k m e a
  passed Erode e a = eroded k m e a
  passed Open e a = eroded k m e a
  passed Close e a = dilated k m e a

  -- a step makes something of the picture; without one the picture stays
  abbrev pub stepped : Option Step → List V → List V
  stepped None a = a
  stepped (Some s) a = made s.move s.element a

  -- likewise of the working memory w
  abbrev pub kept : Option Step → List V → List V → List V
  kept None a w = w
  kept (Some s) a w = passed s.move s.element a

  -- the picture after a call
  abbrev pub after : Call → List V → List V
  after c a = stepped (step m (length a) c) a

  -- the working memory after a call
  abbrev pub memory_after : Call → List V → List V → List V
  memory_after c a w = kept (step m (length a) c) a w

  -- the picture after a history
  abbrev pub end : List Call → List V → List V
  end [] a = a
  end (c ∷ cs) a = end cs (after c a)

  -- the answers of a history
  abbrev pub answers : List Call → List V → List (Result (Unit {0}) Refusal)
  answers [] a = []
  answers (c ∷ cs) a = answer m (length a) c ∷ answers cs (after c a)

  -- What a call of the move with number n by the element e does: its answer r, the picture b after a, the working memory v after w.
  pub record Called (n e : ℕ) (r : Result (Unit {0}) Refusal) (a b w v : List V) : Type 0 where
    pub answers : r ≡ answer m (length a) (numbered_call n e (length w))
    pub leaves : b ≡ after (numbered_call n e (length w)) a
    pub keeps : v ≡ memory_after (numbered_call n e (length w)) a w
