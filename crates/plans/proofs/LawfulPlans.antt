-- What every plan keeps, by what its parts keep. Assumes nothing.
use Rattle.std.proofs.Common.{◌≡◌, ℕ, ◌≤◌, true, List, [], ◌∷◌, map, vec_items, arith}
use Rattle.std.proofs.lemmas.List.{length-map}
use Rattle.std.proofs.lemmas.Bool.{and_parts, and_from, le-leb}
use Rattle.grids.specs.Extents.{lawful_side}
use Rattle.plans.specs.declared.modes.Mode.{Mode}
use Rattle.plans.specs.declared.plan.Plan.{Plan}
use Rattle.plans.specs.declared.tables.Element.{Element}
use Rattle.plans.specs.Drawings.{fair, all_fair}
use Rattle.plans.specs.Holdings.{lists_of}
use Rattle.plans.specs.LawfulDesigns.{LawfulLists, AllLawful, LawfulDesign}
use Rattle.plans.specs.Plans.{design_of}

side_from : (n : ℕ) → 1 ≤ n → n ≤ 64 → lawful_side n ≡ true
side_from n h k = and_from _ _ (le-leb 1 n h) (le-leb n 64 k)

lists : (m : Mode) (x : Element) → fair m (lists_of x) ≡ true → LawfulLists m (lists_of x)
lists m x h = record {
  first = record { few = x.first.few; near = x.first.near; apart = x.first.apart; fair = (and_parts _ _ h).0 };
  second = record { few = x.second.few; near = x.second.near; apart = x.second.apart; fair = (and_parts _ _ h).1 };
}

all : (m : Mode) (es : List Element) → all_fair m (map lists_of es) ≡ true → AllLawful m (map lists_of es)
all m [] h = tt
all m (x ∷ es) h = let p = and_parts (fair m (lists_of x)) _ h in (lists m x p.0, all m es p.1)

pub lawful_plan : (p : Plan) → LawfulDesign (design_of p)
lawful_plan p =
    let g = p.plate.lower in
    let s = g.outline.shape in
    let es = g.table.elements in
    record {
      size = and_from _ _ (side_from s.width s.wide s.narrow) (side_from s.height s.high s.low);
      few = omega (arith, g.table.few, es.ok, length-map (vec_items es) lists_of);
      lists = all g.outline.mode (vec_items es) g.fair;
      living = p.within;
      apart = p.plate.apart;
      few_dead = omega (arith, p.plate.few, p.plate.dead.ok);
    }
