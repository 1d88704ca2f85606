use Rattle.std.proofs.Common.{◌≡◌, ℕ, List, [], ◌∷◌, ◌++◌, length, drop, set, replicate, sym, refl, ap, ◌∙◌, append_assoc, arith}
use Rattle.std.proofs.lemmas.List.{length-append, take_at, drop_at, set_at}
use borrow.Rule.Slice.PartMut.{put_mid}
use Rattle.lines.specs.Lines.{line_bytes}
use Rattle.lines.proofs.line.Line.bytes.Goals as goal

-- a field is written right after what is written
put_next : (a : ℕ) (xs w f r : List ℕ) → xs ≡ w ++ r → length w ≡ a → put_mid a 6 xs f ≡ (w ++ f) ++ drop 6 r
put_next a xs w f r is long = ap (λ x. put_mid a 6 x f) is ∙ (λ i. take_at w r a long i ++ (f ++ drop 6 (drop_at w r a long i))) ∙ sym (append_assoc w f (drop 6 r))

two : (w a b : List ℕ) → length w ≡ 4 → length a ≡ 6 → put_mid 10 6 (put_mid 4 6 (w ++ replicate 25 32) a) b ≡ (w ++ a ++ b) ++ replicate 13 32
two w a b lw la = put_next 10 _ (w ++ a) b (replicate 19 32) (put_next 4 _ w a (replicate 25 32) refl lw) (omega (arith, length-append w a))

three : (w a b c : List ℕ) → length w ≡ 4 → length a ≡ 6 → length b ≡ 6 → put_mid 16 6 (put_mid 10 6 (put_mid 4 6 (w ++ replicate 25 32) a) b) c ≡ (w ++ a ++ b ++ c) ++ replicate 7 32
three w a b c lw la lb = put_next 16 _ (w ++ a ++ b) c (replicate 13 32) (two w a b lw la) (omega (arith, length-append {A = ℕ}))

four : (w a b c d : List ℕ) → length w ≡ 4 → length a ≡ 6 → length b ≡ 6 → length c ≡ 6
    → put_mid 22 6 (put_mid 16 6 (put_mid 10 6 (put_mid 4 6 (w ++ replicate 25 32) a) b) c) d ≡ (w ++ a ++ b ++ c ++ d) ++ (32 ∷ [])
four w a b c d lw la lb lc = put_next 22 _ (w ++ a ++ b ++ c) d (replicate 7 32) (three w a b c lw la lb) (omega (arith, length-append {A = ℕ}))

pub slice_bounds-bytes-end-4 : goal.slice_bounds-bytes-end-4
slice_bounds-bytes-end-4 c = omega (arith, length-append {A = ℕ}, ap length (two c.copy_from_slice.new.self c.copy_from_slice-2.new.self c.copy_from_slice-3.new.self (omega arith) (omega arith)))

pub slice_bounds-bytes-end-5 : goal.slice_bounds-bytes-end-5
slice_bounds-bytes-end-5 c =
    omega (arith, length-append {A = ℕ}, ap length (three c.copy_from_slice.new.self c.copy_from_slice-2.new.self c.copy_from_slice-3.new.self c.copy_from_slice-4.new.self (omega arith) (omega arith) (omega arith)))

pub returns : goal.returns
unfolding line_bytes
returns c =
    let w = c.copy_from_slice.new.self in
    let a = c.copy_from_slice-2.new.self in
    let b = c.copy_from_slice-3.new.self in
    let d = c.copy_from_slice-4.new.self in
    let e = c.copy_from_slice-5.new.self in
    ap (λ xs. set xs 28 10) (four w a b d e (omega arith) (omega arith) (omega arith) (omega arith))
    ∙ set_at (w ++ a ++ b ++ d ++ e) 32 [] 10 28 (omega (arith, length-append {A = ℕ}))
    ∙ simp append_assoc cc
