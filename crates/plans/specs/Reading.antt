-- What is read of a table of elements, and what a write to it leaves. Assumes nothing.
use Rattle.std.specs.Prelude.{◌≡◌, ℕ, zero, suc, ◌+◌, ◌<◌, ◌≤◌, Bool, true, false, cond, List, [], ◌∷◌, ◌++◌, map, length, take, None, vec_items, slice_index_or, slice_set, refl}
use Rattle.std.proofs.Common.{sym, ap, ◌∙◌, arith}
use Rattle.std.proofs.lemmas.List.{get_or_past, get_or-map, length-map, map-set, map-append, set-get_or, take_more_set}
use Rattle.std.proofs.Math.Seq.{take-set-lt}
use Rattle.std.proofs.lemmas.Bool.Decides.{nat_tests}
use Rattle.plans.specs.declared.modes.Mode.{Mode}
use Rattle.plans.specs.declared.modes.Side.{Side}
use Rattle.plans.specs.declared.modes.Side.TheVariants.{First, Second}
use Rattle.plans.specs.declared.tables.Element.{Element}
use Rattle.plans.specs.declared.tables.Table.{Table}
use Rattle.plans.specs.Drawings.{Lists, blank, place_at, fan_of}
use Rattle.plans.specs.Fitting.{list_on}
use Rattle.plans.specs.Holdings.{lists_of, elements_of}

pub past : (t : Table) (e : ℕ) → length (vec_items t.elements) ≤ e → slice_index_or (elements_of t) e blank ≡ blank
past t e h = get_or_past (elements_of t) e blank (omega (arith, length-map (vec_items t.elements) lists_of))

-- es is what the table holds
pub present : (t : Table) (es : List Element) (e : ℕ) (d : Element) → es ≡ vec_items t.elements → e < length es → lists_of (slice_index_or es e d) ≡ slice_index_or (elements_of t) e blank
present t es e d is lt = sym (get_or-map lists_of es e d blank lt) ∙ ap (λ xs. slice_index_or (map lists_of xs) e blank) is

-- a blank element has no vectors
pub none_on : (s : Side) → [] ≡ list_on s blank
none_on First = refl
none_on Second = refl

-- there is no place past the fan
pub no_place : (m : Mode) (l : Lists) (p : ℕ) → fan_of l ≤ p → None ≡ place_at m l p
no_place m l p h = grind (arith, nat_tests)

-- a list of an element is as long as it may be
pub few : (t : Table) (e : ℕ) → fan_of (slice_index_or (elements_of t) e blank) ≤ 64
few t e = each (vec_items t.elements) e
  where
    each : (es : List Element) (e : ℕ) → fan_of (slice_index_or (map lists_of es) e blank) ≤ 64
    each [] e = omega arith
    each (x ∷ es) zero = omega (arith, x.first.few, x.second.few)
    each (x ∷ es) (suc e) = each es e

-- a write to one element changes that one and no other
pub written : (es : List Element) (e : ℕ) (x : Element) → map lists_of (slice_set es e x) ≡ slice_set (map lists_of es) e (lists_of x)
written es e x = map-set lists_of es e x

-- the same of the first n elements, where it is one of those
pub written_of_first : (n : ℕ) (es : List Element) (e : ℕ) (x : Element) → e < n → take n (map lists_of (slice_set es e x)) ≡ slice_set (take n (map lists_of es)) e (lists_of x)
written_of_first n es e x h = ap (take n) (written es e x) ∙ take-set-lt n (map lists_of es) e (lists_of x) h

-- an answer that was a refusal left the element as it was
pub kept : (b : Bool) (ls : List Lists) (e : ℕ) (l : Lists) → slice_set ls e (cond b l (slice_index_or ls e blank)) ≡ cond b (slice_set ls e l) ls
kept true ls e l = refl
kept false ls e l = set-get_or ls e blank

-- one element more, which is blank
pub one_more : (es : List Element) (x : Element) → lists_of x ≡ blank → map lists_of (es ++ x ∷ []) ≡ map lists_of es ++ blank ∷ []
one_more es x is = map-append lists_of es (x ∷ []) ∙ ap (λ l. map lists_of es ++ l ∷ []) is

-- the same where it is written over the one behind the first n
pub one_more_of_first : (n : ℕ) (es : List Element) (x : Element) → n < length es → lists_of x ≡ blank → take (n + 1) (map lists_of (slice_set es n x)) ≡ take n (map lists_of es) ++ blank ∷ []
one_more_of_first n es x h is =
    ap (take (n + 1)) (written es n x) ∙ take_more_set (map lists_of es) n (lists_of x) (omega (arith, length-map es lists_of)) ∙ ap (λ l. take n (map lists_of es) ++ l ∷ []) is
