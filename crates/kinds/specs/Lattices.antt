-- What a kind of cell value is: a bounded lattice. Assumes nothing.
use Rattle.std.specs.Prelude.{◌≡◌, Bool, true, not, List, fold}

-- the least and the greatest value, the join and the meet of two values, and whether one value lies under another
pub record Values (V : Type 0) : Type 0 where
  pub least : V
  pub greatest : V
  pub join : V → V → V
  pub meet : V → V → V
  pub under : V → V → Bool

module _ {V : Type 0} (k : Values V) where
  -- x lies under y
  abbrev pub Under : V → V → Type 0
  Under x y = k.under x y ≡ true

  -- The laws of every kind. Lying under is an order.
  pub record Lawful : Type 0 where
    pub itself : (x : V) → Under x x
    pub equal : (x y : V) → Under x y → Under y x → x ≡ y
    pub chain : (x y z : V) → Under x y → Under y z → Under x z
    -- the join is the lowest value over both
    pub join_left : (x y : V) → Under x (k.join x y)
    pub join_right : (x y : V) → Under y (k.join x y)
    pub join_lowest : (x y z : V) → Under x z → Under y z → Under (k.join x y) z
    -- the meet is the highest value under both
    pub meet_left : (x y : V) → Under (k.meet x y) x
    pub meet_right : (x y : V) → Under (k.meet x y) y
    pub meet_highest : (x y z : V) → Under z x → Under z y → Under z (k.meet x y)
    -- every value lies between the least and the greatest
    pub least_under : (x : V) → Under k.least x
    pub greatest_over : (x : V) → Under x k.greatest

  -- the join of a list of values; a join of nothing is least
  abbrev pub join_all : List V → V
  join_all = fold k.join k.least

  -- the meet of a list of values; a meet of nothing is greatest
  abbrev pub meet_all : List V → V
  meet_all = fold k.meet k.greatest

  -- whether a value is not least: by the laws only the least value lies under the least
  abbrev pub not_least : V → Bool
  not_least x = not (k.under x k.least)
