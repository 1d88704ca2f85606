-- Lying under is an order of pictures, and the area follows it. Assumes nothing.
use Rattle.std.proofs.Common.{◌≡◌, suc, ◌≤◌, List, [], ◌∷◌, ◌∙◌, arith, rules}
use Rattle.std.proofs.lemmas.Grind.{common_steps}
use Rattle.std.proofs.lemmas.List.{ext_get_or}
use Rattle.kinds.specs.Lattices.{Values, Lawful}
use Rattle.morphology.specs.Pictures.{Below, area}

module _ {V : Type 0} (k : Values V) (l : Lawful k) where
  pub below_itself : (a : List V) → Below k a a
  below_itself a = search (rules, l.itself)

  pub below_chain : (a b c : List V) → Below k a b → Below k b c → Below k a c
  below_chain a b c h i = record {
    lengths = h.lengths ∙ i.lengths;
    cells = λ x lt. l.chain _ _ _ (h.cells x lt) (i.cells x (omega (arith, h.lengths)));
  }

  pub below_equal : (a b : List V) → Below k a b → Below k b a → a ≡ b
  below_equal a b h i = ext_get_or k.least a b h.lengths (λ x lt. grind (arith, l.equal, h.cells x, i.cells x))

  -- a picture under another has no larger area
  pub area_under : (a b : List V) → Below k a b → area k a ≤ area k b
  area_under [] [] h = omega arith
  area_under [] (y ∷ b) h = absurd (omega (arith, h.lengths))
  area_under (x ∷ a) [] h = absurd (omega (arith, h.lengths))
  area_under (x ∷ a) (y ∷ b) h =
      let rest : area k a ≤ area k b = area_under a b (record { lengths = omega (arith, h.lengths); cells = λ c lt. h.cells (suc c) (omega arith) }) in
      grind (arith, common_steps, h.cells 0, l.chain x y k.least)
