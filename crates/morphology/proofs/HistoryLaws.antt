-- A history ends where its accepted moves lead; so it keeps the order, and dilates and erodes are adjoint. Assumes nothing.
use Rattle.std.proofs.Common.{◌≡◌, ℕ, ◌↔◌, List, [], ◌∷◌, ◌++◌, map, reverse, take, sym, refl, ◌∙◌, subst, arith}
use mathlib.Core.List.{reverse-cons}
use Rattle.std.specs.Option.{option_to_list}
use Rattle.std.proofs.lemmas.Grind.{common_steps}
use Rattle.std.proofs.lemmas.List.{map-append}
use Rattle.kinds.specs.Lattices.{Values, Lawful}
use Rattle.plates.specs.Meanings.{Meaning, Sound}
use Rattle.morphology.specs.Pictures.{Below}
use Rattle.morphology.specs.Moves.{dilated, eroded}
use Rattle.morphology.specs.Histories.{Call, Step, by, step, accepted, made, after, end, answers}
use Rattle.morphology.specs.Statements.{Footprint, KeepsUnder}
use Rattle.morphology.specs.declared.words.Move.{Move}
use Rattle.morphology.specs.declared.words.Move.TheVariants.{Dilate, Erode, Open, Close}
use Rattle.morphology.proofs.Adjoints.{flipped, turned, keeps}
use Rattle.morphology.proofs.Adjunction.{pictures, dilate_erode, closed_up, opened_down}
use Rattle.morphology.proofs.Orders.{area_under}

module _ {V : Type 0} (k : Values V) (l : Lawful k) (m : Meaning) (s : Sound m) where
  made_fits : (v : Move) (e : ℕ) (a : List V) → Footprint m (made k m v e a)
  made_fits Dilate e a = (dilate_erode k l m s e).δ_fits a
  made_fits Erode e a = (dilate_erode k l m s e).ε_fits a
  made_fits Open e a = (opened_down k l m s e).fits a
  made_fits Close e a = (closed_up k l m s e).fits a

  made_keeps : (v : Move) (e : ℕ) (a b : List V) → Footprint m a → Footprint m b → Below k a b → Below k (made k m v e a) (made k m v e b)
  made_keeps Dilate e a b fa fb h = keeps (pictures k l m s) (dilate_erode k l m s e) a b fa fb h
  made_keeps Erode e a b fa fb h = keeps (flipped (pictures k l m s)) (turned (dilate_erode k l m s e)) b a fb fa h
  made_keeps Open e a b fa fb h = (opened_down k l m s e).keeps b a fb fa h
  made_keeps Close e a b fa fb h = (closed_up k l m s e).keeps a b fa fb h

  -- what a list of steps makes of a picture
  abbrev pub walked : List Step → List V → List V
  walked [] a = a
  walked (x ∷ xs) a = walked xs (made k m x.move x.element a)

  pub walked_fits : (xs : List Step) (a : List V) → Footprint m a → Footprint m (walked xs a)
  walked_fits [] a fa = fa
  walked_fits (x ∷ xs) a fa = walked_fits xs (made k m x.move x.element a) (made_fits x.move x.element a)

  walked_append : (xs ys : List Step) (a : List V) → walked (xs ++ ys) a ≡ walked ys (walked xs a)
  walked_append [] ys a = refl
  walked_append (x ∷ xs) ys a = walked_append xs ys (made k m x.move x.element a)

  walked_keeps : (xs : List Step) (a b : List V) → Footprint m a → Footprint m b → Below k a b → Below k (walked xs a) (walked xs b)
  walked_keeps [] a b fa fb h = h
  walked_keeps (x ∷ xs) a b fa fb h =
      walked_keeps xs _ _ (made_fits x.move x.element a) (made_fits x.move x.element b) (made_keeps x.move x.element a b fa fb h)

  -- a call leads where its step does, if it takes one
  after_walked : (c : Call) (a : List V) → Footprint m a → after k m c a ≡ walked (option_to_list (step m m.cells c)) a
  after_walked c a fa = grind (arith, common_steps)

  after_fits : (c : Call) (a : List V) → Footprint m a → Footprint m (after k m c a)
  after_fits c a fa = subst (Footprint m) (sym (after_walked c a fa)) (walked_fits (option_to_list (step m m.cells c)) a fa)

  pub end_walked : (cs : List Call) (a : List V) → Footprint m a → end k m cs a ≡ walked (accepted m cs) a
  end_walked [] a fa = refl
  end_walked (c ∷ cs) a fa =
      grind (arith, end_walked cs (after k m c a), after_fits c a, after_walked c a, walked_append)

  end_keeps : (cs : List Call) (a b : List V) → Footprint m a → Footprint m b → Below k a b → Below k (end k m cs a) (end k m cs b)
  end_keeps cs a b fa fb h = rw (end_walked cs a fa, end_walked cs b fb) (walked_keeps (accepted m cs) a b fa fb h)

  same_answers : (cs : List Call) (a b : List V) → Footprint m a → Footprint m b → Below k a b → answers k m cs a ≡ answers k m cs b
  same_answers [] a b fa fb h = refl
  same_answers (c ∷ cs) a b fa fb h =
      grind (arith, h.lengths, same_answers cs (after k m c a) (after k m c b) (after_fits c a fa) (after_fits c b fb) (end_keeps (c ∷ []) a b fa fb h))

  pub monotone : (cs : List Call) (a b : List V) → Footprint m a → Below k a b → KeepsUnder k m cs a b
  monotone cs a b fa h =
      let fb : Footprint m b = sym h.lengths ∙ fa in
      record {
        equal_answers = same_answers cs a b fa fb h;
        stays_under = λ i. end_keeps (take i cs) a b fa fb h;
        no_larger = λ i. area_under k l _ _ (end_keeps (take i cs) a b fa fb h);
      }

  -- dilates by a list are adjoint to erodes by the reversed list
  dilates_erodes : (es : List ℕ) (a b : List V) → Footprint m a → Footprint m b → Below k (walked (map (by Dilate) es) a) b ↔ Below k a (walked (map (by Erode) (reverse es)) b)
  dilates_erodes [] a b fa fb = (λ h. h, λ h. h)
  dilates_erodes (e ∷ es) a b fa fb =
      let back : walked (map (by Erode) (reverse (e ∷ es))) b ≡ eroded k m e (walked (map (by Erode) (reverse es)) b) =
      grind (arith, common_steps, reverse-cons e es, map-append, walked_append) in
      let rest = dilates_erodes es (dilated k m e a) b (made_fits Dilate e a) fb in
      let one = (dilate_erode k l m s e).adjoint a (walked (map (by Erode) (reverse es)) b) fa (walked_fits (map (by Erode) (reverse es)) b fb) in
      (λ h. subst (Below k a) (sym back) (one.0 (rest.0 h)), λ h. rest.1 (one.1 (subst (Below k a) back h)))

  pub adjoint : (es : List ℕ) (cs ds : List Call) (a b : List V) → Footprint m a → Footprint m b → accepted m cs ≡ map (by Dilate) es → accepted m ds ≡ map (by Erode) (reverse es) → Below k (end k m cs a) b ↔ Below k a (end k m ds b)
  adjoint es cs ds a b fa fb p q =
      let h = dilates_erodes es a b fa fb in
      rw (end_walked cs a fa, end_walked ds b fb, p, q) h
