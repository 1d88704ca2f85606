-- A `fold` over a chain whose items are known. Assumes nothing.
use Rattle.std.proofs.Common.{◌≡◌, ℕ, ◌<◌, List, [], ◌∷◌, ◌++◌, length, get_or, Option, Some, refl, sym, subst}
use denote.Param.Members.{Mut}
use Rattle.std.specs.Fn.{Called}
use Rattle.std.specs.Iterator.{CallableAtEachTurn, Drains}
use Rattle.std.specs.List.{FoldsTo}
use Rattle.std.proofs.lemmas.Fn.{serves_by, fold_over}
use Rattle.std.proofs.lemmas.Iterator.{YieldsList}
use Rattle.std.proofs.lemmas.Iterator.Consumers.{YieldsList-turn}

module _ {S A B C F : Type 0} {steps : S → Option A → S → Type 0} {v : A → B} {s : S} {all : List B} (road : YieldsList steps v s all) where
  -- a closure that calls leave as it was may be called at each item, if it may at each of the known list
  pub serves_in_fold : {R : F × C → A → F × C → Type 0} {Q : F × C → A → Type 0} {f : F} {a : C} → ((b : C) (x : A) (q : F × C) → R (f, b) x q → q.0 ≡ f) → ((b : C) (x : A) (k : ℕ) → k < length all → v x ≡ get_or all k (v x) → Q (f, b) x) → CallableAtEachTurn {P = F × C} steps R Q s (f, a)
  serves_in_fold {R} {Q} {f} {a} keeps serves =
      serves_by R (λ _ q. q.0 ≡ f) (λ xs q x u same r. keeps q.1 x u (subst (λ h. R (h, q.1) x u) same r)) steps Q s (f, a) refl
      (λ xs t q x u y st same. let at = YieldsList-turn road xs t y (Some x) u x refl st in subst (λ h. Q (h, q.1) x) (sym same) (serves q.1 x (length xs) at.0 at.1))

-- what each call keeps true of the items so far is true of all of them at the end
pub fold_along : {S A B C F : Type 0} {steps : S → Option A → S → Type 0} {v : A → B} {s : S} {all : List B} {g : Mut F (C × (A × Unit {0})) C} {f : F} {a r : C} → (xs : List A) × (f' : F) × Drains steps s xs × FoldsTo {P = F × C} (λ p x q. Called g p.0 (p.1, (x, tt)) q.1 q.0) (f, a) xs (f', r) → YieldsList steps v s all → (J : List B → C → Type 0) → J [] a → ((ys : List B) (b : C) (x : A) (w : C) (f' : F) → J ys b → Called g f (b, (x, tt)) w f' → J (ys ++ (v x ∷ [])) w × (f' ≡ f)) → J all r
fold_along {steps = steps} {v = v} {s = s} {all = all} {g = g} {f = f} {a = a} {r = r} ran road J start step = fold_over steps v g J f step s all a r road.runs start ran
