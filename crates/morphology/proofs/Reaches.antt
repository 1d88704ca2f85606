-- What holds of all cells that steps reach, and of all cells with a step to one. Assumes nothing.
use Rattle.std.proofs.Common.{◌≡◌, ℕ, zero, suc, ◌+◌, ◌<◌, ◌≤◌, Bool, true, List, [], ◌∷◌, Some, filter, Option, refl, ap, ◌∙◌, arith}
use Rattle.std.specs.List.{All, range_with_len, filter_map}
use Rattle.std.proofs.lemmas.List.FromFn.{length-range_with_len, get_or-range_with_len}
use Rattle.std.proofs.lemmas.List.Elements.{All-nil, All-head, All-tail, All-filter, filter_passes}
use Rattle.plates.specs.Lists.{among}
use Rattle.plates.specs.Meanings.{Meaning, Sound}
use Rattle.morphology.specs.Moves.{reached, reaching}

-- what holds of every number below n holds of all that are counted
below_all : (P : ℕ → Type 0) (n : ℕ) → ((i : ℕ) → i < n → P i) → All P (range_with_len 0 n)
below_all P n h i d lt = grind (arith, get_or-range_with_len, length-range_with_len, h i)

-- what holds of all elements of a list holds of what is among it
among_each : (P : ℕ → Type 0) (xs : List ℕ) → All P xs → (x : ℕ) → among x xs ≡ true → P x
among_each P [] all x h = grind arith
among_each P (y ∷ ys) all x h =
    let first = All-head P y ys all in
    let rest = among_each P ys (All-tail P y ys all) x in
    grind (arith, first, rest)

counted : (a n x : ℕ) → a ≤ x → x < a + n → among x (range_with_len a n) ≡ true
counted a zero x from below = grind arith
counted a (suc n) x from below = grind (arith, counted (a + 1) n x)

module _ (f : ℕ → Option ℕ) (P : ℕ → Type 0) where
  abbrev AtTarget : ℕ → Type 0
  AtTarget p = (t : ℕ) → f p ≡ Some t → P t

  -- what holds of the target of each place of a list holds of all that they lead to
  targets_all : (ps : List ℕ) → All AtTarget ps → All P (filter_map f ps)
  targets_all [] all = All-nil P
  targets_all (p ∷ ps) all =
      let first = All-head AtTarget p ps all in
      let rest = targets_all ps (All-tail AtTarget p ps all) in
      grind (arith, first, rest)

-- the target of a place of a list is among all that they lead to
target_among : (f : ℕ → Option ℕ) (ps : List ℕ) (p t : ℕ) → among p ps ≡ true → f p ≡ Some t → among t (filter_map f ps) ≡ true
target_among f [] p t h is = grind arith
target_among f (q ∷ ps) p t h is = grind (arith, target_among f ps p t)

-- what is kept is what passes the test
kept_all : (test : ℕ → Bool) (P : ℕ → Type 0) (xs : List ℕ) → All (λ x. test x ≡ true → P x) xs → All P (filter test xs)
kept_all test P xs all i d lt = All-filter test (λ x. test x ≡ true → P x) xs all i d lt (filter_passes test xs i d lt)

kept_among : (test : ℕ → Bool) (xs : List ℕ) (x : ℕ) → among x xs ≡ true → test x ≡ true → among x (filter test xs) ≡ true
kept_among test [] x h is = grind arith
kept_among test (y ∷ ys) x h is = grind (arith, kept_among test ys x)

module _ (m : Meaning) (s : Sound m) (e : ℕ) where
  -- P of every cell that the steps of c reach
  pub reached_all : (P : ℕ → Type 0) (c : ℕ) → ((p t : ℕ) → m.target e p c ≡ Some t → P t) → All P (reached m e c)
  reached_all P c h =
      targets_all (λ p. m.target e p c) P (range_with_len 0 (m.fan e)) (below_all (AtTarget (λ p. m.target e p c) P) (m.fan e) (λ p _. h p))

  among_reached : (p c t : ℕ) → m.target e p c ≡ Some t → among t (reached m e c) ≡ true
  among_reached p c t is = target_among (λ q. m.target e q c) (range_with_len 0 (m.fan e)) p t (counted 0 (m.fan e) p (omega arith) (omega (arith, s.placed e p c t is))) is

  pub reached_each : (P : ℕ → Type 0) (c : ℕ) → All P (reached m e c) → (p t : ℕ) → m.target e p c ≡ Some t → P t
  reached_each P c all p t is = among_each P (reached m e c) all t (among_reached p c t is)

  -- P of every cell with a step to x
  pub reaching_all : (P : ℕ → Type 0) (x : ℕ) → ((p c : ℕ) → m.target e p c ≡ Some x → P c) → All P (reaching m e x)
  reaching_all P x h =
      kept_all (λ c. among x (reached m e c)) P (range_with_len 0 m.cells)
      (below_all (λ c. among x (reached m e c) ≡ true → P c) m.cells (λ c _ here. among_each (λ t. t ≡ x → P c) (reached m e c) (reached_all (λ t. t ≡ x → P c) c (λ p t is same. h p c (is ∙ ap Some same))) x here refl))

  pub reaching_each : (P : ℕ → Type 0) (x : ℕ) → All P (reaching m e x) → (p c : ℕ) → m.target e p c ≡ Some x → P c
  reaching_each P x all p c is =
      among_each P (reaching m e x) all c
      (kept_among (λ d. among x (reached m e d)) (range_with_len 0 m.cells) c (counted 0 m.cells c (omega arith) (omega (arith, s.starts e p c x is))) (among_reached p c x is))

  -- every target is a cell
  pub reached_within : (c : ℕ) → All (λ t. t < m.cells) (reached m e c)
  reached_within c = reached_all (λ t. t < m.cells) c (λ p t is. s.ends e p c t is)
