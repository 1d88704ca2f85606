-- The widest of some rows, one row more at a time. Assumes nothing.
use Rattle.std.proofs.Common.{◌≡◌, ℕ, zero, suc, ◌+◌, ◌<◌, max, List, [], ◌∷◌, ◌++◌, map, length, None, Option, fold, sym, refl, ap, ◌∙◌, subst, add-one, arith}
use Rattle.std.specs.List.{range_with_len}
use Rattle.std.proofs.lemmas.List.Sums.{fold-append}
use Rattle.std.proofs.lemmas.List.FromFn.{length-map-range_with_len, map-range_with_len_more}
use Rattle.std.proofs.lemmas.Bool.Decides.{nat_tests}
use Rattle.std.proofs.lemmas.Grind.{common_steps}
use Rattle.grids.specs.declared.rows.Row.{Row}
use Rattle.grids.specs.WideRows.{most, first_at, widest_of, wider, Widest}

-- the largest of one number more
most_more : (ns : List ℕ) (n : ℕ) → most (ns ++ n ∷ []) ≡ max (most ns) n
most_more [] n = omega arith
most_more (m ∷ ns) n = ap (max m) (most_more ns n) ∙ omega arith

-- a number above all stands last
first_new : (ns : List ℕ) (n : ℕ) → most ns < n → first_at n (ns ++ n ∷ []) ≡ length ns
first_new [] n h = grind (arith, nat_tests)
first_new (m ∷ ns) n h = grind (arith, nat_tests, first_new ns n)

-- one that is there already stays where it is
first_old : (ns : List ℕ) (n x : ℕ) → first_at x ns < length ns → first_at x (ns ++ n ∷ []) ≡ first_at x ns
first_old [] n x h = absurd (omega arith)
first_old (m ∷ ns) n x h = grind (arith, nat_tests, first_old ns n x)

-- the largest stands among the numbers
first_within : (x : ℕ) (ns : List ℕ) → 0 < x → x ≡ most ns → first_at x ns < length ns
first_within x [] h is = absurd (omega arith)
first_within x (m ∷ ns) h is = grind (arith, nat_tests, first_within x ns h)

-- the widest of one row more
wider_push : (ns : List ℕ) (n : ℕ) → wider (widest_of ns) (record { y = length ns; count = n }) ≡ widest_of (ns ++ n ∷ [])
wider_push ns n =
    let all = most_more ns n in
    let new = first_new ns n in
    let old : 0 < most ns → first_at (most ns) (ns ++ n ∷ []) ≡ first_at (most ns) ns = λ h. first_old ns n (most ns) (first_within (most ns) ns h refl) in
    grind (arith, nat_tests, common_steps)

-- the same, with the counts as a function of the row
wider_more : (f : ℕ → ℕ) (y : ℕ) → wider (widest_of (map f (range_with_len 0 y))) (record { y = y; count = f y }) ≡ widest_of (map f (range_with_len 0 (y + 1)))
wider_more f y =
    ap (λ n. wider (widest_of (map f (range_with_len 0 y))) (record { y = n; count = f y })) (sym (length-map-range_with_len f 0 y))
    ∙ wider_push (map f (range_with_len 0 y)) (f y)
    ∙ ap widest_of (sym (map-range_with_len_more f 0 y y (omega arith)))

-- the widest of the rows below h, taken in one after the other
pub widest_fold : (f : ℕ → ℕ) (h : ℕ) → fold wider None (map (λ y. record { y = y; count = f y }) (range_with_len 0 h)) ≡ widest_of (map f (range_with_len 0 h))
widest_fold f zero = refl
widest_fold f (suc h) =
    let row : ℕ → Row = λ y. record { y = y; count = f y } in
    let rows : List Row = map row (range_with_len 0 h) in
    let step : fold wider None (map row (range_with_len 0 (h + 1))) ≡ widest_of (map f (range_with_len 0 (h + 1))) =
    ap (fold wider None) (map-range_with_len_more row 0 h h (omega arith)) ∙ fold-append wider None rows (row h ∷ []) ∙ ap (λ o. wider o (row h)) (widest_fold f h)
    ∙ wider_more f h
    in
    subst (λ n. fold wider None (map row (range_with_len 0 n)) ≡ widest_of (map f (range_with_len 0 n))) (add-one h) step

-- one row more, and the wider is the widest still
wider_widest : (h : ℕ) (f : ℕ → ℕ) (b : Option Row) → Widest h f b → Widest (h + 1) f (wider b (record { y = h; count = f h }))
wider_widest h f b is = grind (arith, nat_tests)

widest_all : (h : ℕ) (f : ℕ → ℕ) → Widest h f (widest_of (map f (range_with_len 0 h)))
widest_all zero f = λ y lt. absurd (omega arith)
widest_all (suc h) f =
    let more = subst (Widest (h + 1) f) (wider_more f h) (wider_widest h f _ (widest_all h f)) in
    subst (λ n. Widest n f (widest_of (map f (range_with_len 0 n)))) (add-one h) more

-- what the definition answers has the most, and is the first that has
pub widest_is : (h : ℕ) (f : ℕ → ℕ) (r : Option Row) → r ≡ widest_of (map f (range_with_len 0 h)) → Widest h f r
widest_is h f r is = subst (Widest h f) (sym is) (widest_all h f)
