-- Two adjoint maps of an order: what follows for them and their compositions. Assumes nothing.
use Rattle.std.proofs.Common.{◌≡◌, ◌↔◌, subst}

-- An order. `Flip` turns it round: what is shown of every order holds of that too, so each lemma below serves twice.
pub record Order {X : Type 0} (R : X → X → Type 0) : Type 0 where
  pub itself : (a : X) → R a a
  pub chain : (a b c : X) → R a b → R b c → R a c
  pub equal : (a b : X) → R a b → R b a → a ≡ b

abbrev pub Flip : {X : Type 0} → (X → X → Type 0) → X → X → Type 0
Flip R a b = R b a

pub flipped : {X : Type 0} {R : X → X → Type 0} → Order R → Order (Flip R)
flipped o = record { itself = o.itself; chain = λ a b c h i. o.chain c b a i h; equal = λ a b h i. o.equal a b i h }

-- Among the things that fit, δ is lower adjoint to ε.
pub record Adjoint {X : Type 0} (Fits : X → Type 0) (R : X → X → Type 0) (δ ε : X → X) : Type 0 where
  pub δ_fits : (a : X) → Fits (δ a)
  pub ε_fits : (a : X) → Fits (ε a)
  pub adjoint : (a b : X) → Fits a → Fits b → R (δ a) b ↔ R a (ε b)

-- in the order turned round, ε is lower adjoint to δ
pub turned : {X : Type 0} {Fits : X → Type 0} {R : X → X → Type 0} {δ ε : X → X} → Adjoint Fits R δ ε → Adjoint Fits (Flip R) ε δ
turned d = record {
  δ_fits = d.ε_fits;
  ε_fits = d.δ_fits;
  adjoint = λ a b fa fb. ((d.adjoint b a fb fa).1, (d.adjoint b a fb fa).0);
}

module _ {X : Type 0} {Fits : X → Type 0} {R : X → X → Type 0} (o : Order R) {δ ε : X → X} (d : Adjoint Fits R δ ε) where
  -- a lies under ε (δ a)
  pub over : (a : X) → Fits a → R a (ε (δ a))
  over a fa = (d.adjoint a (δ a) fa (d.δ_fits a)).0 (o.itself (δ a))

  -- δ keeps the order
  pub keeps : (a b : X) → Fits a → Fits b → R a b → R (δ a) (δ b)
  keeps a b fa fb h = (d.adjoint a (δ b) fa (d.δ_fits b)).1 (o.chain a b (ε (δ b)) h (over b fb))

-- A map that keeps the order, leads up and is idempotent; in the order turned round, one that leads down.
pub record Closing {X : Type 0} (Fits : X → Type 0) (R : X → X → Type 0) (φ : X → X) : Type 0 where
  pub fits : (a : X) → Fits (φ a)
  pub keeps : (a b : X) → Fits a → Fits b → R a b → R (φ a) (φ b)
  pub over : (a : X) → Fits a → R a (φ a)
  pub again : (a : X) → Fits a → φ (φ a) ≡ φ a

-- first δ, then ε is such a map
pub closing : {X : Type 0} {Fits : X → Type 0} {R : X → X → Type 0} → Order R → {δ ε : X → X} → Adjoint Fits R δ ε → Closing Fits R (λ a. ε (δ a))
closing o {δ} {ε} d = record {
  fits = λ a. d.ε_fits (δ a);
  keeps = λ a b fa fb h. keeps (flipped o) (turned d) (δ b) (δ a) (d.δ_fits b) (d.δ_fits a) (keeps o d a b fa fb h);
  over = over o d;
  again = λ a fa.
      o.equal (ε (δ (ε (δ a)))) (ε (δ a))
      (keeps (flipped o) (turned d) (δ a) (δ (ε (δ a))) (d.δ_fits a) (d.δ_fits _) (over (flipped o) (turned d) (δ a) (d.δ_fits a)))
      (over o d (ε (δ a)) (d.ε_fits (δ a)));
}

-- of a map γ that leads down and a map φ that leads up, each idempotent: γ, φ, γ, φ is γ, φ
pub alternates : {X : Type 0} {Fits : X → Type 0} {R : X → X → Type 0} → Order R → {γ φ : X → X} → Closing Fits (Flip R) γ → Closing Fits R φ → (a : X) → Fits a → φ (γ (φ (γ a))) ≡ φ (γ a)
alternates {R = R} o {γ} {φ} down up a fa =
    o.equal (φ (γ (φ (γ a)))) (φ (γ a))
    (subst (λ b. R (φ (γ (φ (γ a)))) b) (up.again (γ a) (down.fits a)) (up.keeps (γ (φ (γ a))) (φ (γ a)) (down.fits _) (up.fits _) (down.over (φ (γ a)) (up.fits _))))
    (up.keeps (γ a) (γ (φ (γ a))) (down.fits a) (down.fits _) (subst (λ b. R b (γ (φ (γ a)))) (down.again a fa) (down.keeps (φ (γ a)) (γ a) (up.fits _) (down.fits a) (up.over (γ a) (down.fits a)))))
