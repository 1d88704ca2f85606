-- One turn of the loop over the lines of a file. Assumes nothing.
use Rattle.std.proofs.Common.{◌≡◌, ℕ, zero, suc, ◌<◌, List, [], ◌∷◌, length, drop, ◌++◌, ◌≤◌, min, Ok, Err, Result, sym, refl, ap, ◌∙◌, subst, arith}
use Rattle.std.proofs.lemmas.List.{length-drop, drop_at}
use Rattle.kinds.specs.Lattices.{Values}
use Rattle.kinds.specs.Numbers.{Written}
use Rattle.lines.specs.Lines.{then}
use Rattle.plans.specs.Plans.{design_of, cells_in}
use Rattle.jobs.specs.Files.{read_from}
use Rattle.jobs.specs.Heads.{at_line}
use Rattle.jobs.specs.Steps.{Draft, next_by, end_by}
use Rattle.jobs.specs.declared.faults.FileFault.{FileFault}
use Rattle.jobs.specs.declared.faults.Stop.{Stop}
use Rattle.jobs.proofs.Accepted.{ended_as, at_line_ok}
use Rattle.drafts.proofs.Chunks.{chunk_judged}
use Rattle.drafts.specs.Drafts.{answer, or_stay, draft_of, Led}
use Rattle.drafts.specs.declared.drafts.Reader.{Reader}

-- what an answer and the state after it say together
pub accepted : {X F : Type 0} (r : Result X F) (s u : X) → Ok tt ≡ answer r → u ≡ or_stay s r → r ≡ Ok u
accepted (Ok t) s u is state = cc
accepted (Err f) s u is state = cc

pub accepted_by : {X F : Type 0} (r : Result X F) (u : X) → Ok tt ≡ answer r → ((x : X) → r ≡ Ok x → u ≡ x) → r ≡ Ok u
accepted_by (Ok t) u is state = ap Ok (sym (state t refl))
accepted_by (Err f) u is state = cc

pub refused_by : {X F : Type 0} (r : Result X F) (f : F) → Err f ≡ answer r → r ≡ Err f
refused_by (Ok t) f is = cc
refused_by (Err g) f is = cc

module _ {V : Type 0} (k : Values V) (w : Written V) (room : ℕ) where
  -- with turns enough, line n and those after it are read as all is
  abbrev pub Left : ℕ → Draft V → List ℕ → Result (Draft V) Stop → Type 0
  Left n s bs all = (turns : ℕ) × (length bs < turns) × (read_from k w room turns n s bs ≡ all)

  line_read : (turns n : ℕ) (s t : Draft V) (bs : List ℕ) (all : Result (Draft V) Stop) → 0 < length bs → length bs < turns → read_from k w room turns n s bs ≡ all
      → next_by k w room s.section s bs ≡ Ok t → Left (suc n) t (drop 29 bs) all
  line_read zero n s t bs all some lt left is = absurd (omega arith)
  line_read (suc turns) n s t [] all some lt left is = absurd (omega arith)
  line_read (suc turns) n s t (b ∷ bs) all some lt left is =
      (turns, omega (arith, length-drop 29 (b ∷ bs)), sym (ap (λ r. then (at_line n r) (λ t. read_from k w room turns (suc n) t (drop 29 (b ∷ bs)))) is) ∙ left)

  -- an accepted chunk leaves the lines after it
  pub turn : (n next most : ℕ) (s t : Draft V) (bs chunk rest : List ℕ) (all : Result (Draft V) Stop) → next ≡ suc n → most ≡ 29 → bs ≡ chunk ++ rest → length chunk ≡ min most (length bs) → 29 ≤ length chunk
      → Left n s bs all → next_by k w room s.section s chunk ≡ Ok t → Left next t rest all
  turn n next most s t bs chunk rest all after here parts size long left is =
      let some : 0 < length bs = omega arith in
      let exact : length chunk ≡ 29 = omega arith in
      let dropped : drop 29 bs ≡ rest = ap (drop 29) parts ∙ drop_at chunk rest 29 exact in
      subst (λ n. Left n t rest all) (sym after)
      (subst (λ rest. Left (suc n) t rest all) dropped (line_read left.0 n s t bs all some left.1 left.2 (chunk_judged k w room s s.section most bs chunk rest here parts size ∙ is)))

  refused : (turns n : ℕ) (s : Draft V) (bs : List ℕ) (f : FileFault) → 0 < length bs → length bs < turns → next_by k w room s.section s bs ≡ Err f
      → read_from k w room turns n s bs ≡ Err (record { fault = f; line = n })
  refused zero n s bs f some lt is = absurd (omega arith)
  refused (suc turns) n s [] f some lt is = absurd (omega arith)
  refused (suc turns) n s (b ∷ bs) f some lt is = ap (λ r. then (at_line n r) (λ t. read_from k w room turns (suc n) t (drop 29 (b ∷ bs)))) is

  ended : (turns n : ℕ) (s : Draft V) (bs : List ℕ) → length bs ≡ 0 → length bs < turns → read_from k w room turns n s bs ≡ at_line n (end_by s.section s)
  ended zero n s bs none lt = absurd (omega arith)
  ended (suc turns) n s [] none lt = refl
  ended (suc turns) n s (b ∷ bs) none lt = absurd (omega arith)

-- what the loop has done to a reader s when it is left with the reader t before line n: no byte is left, or a line is refused
module _ {V : Type 0} (k : Values V) (w : Written V) (s t : Reader V) (n : ℕ) (bs : List ℕ) (all : Result (Draft V) Stop) where
  pub led_to_the_end : (a : Result (Unit {0}) Stop) (line : ℕ) → line ≡ n → length bs ≡ 0 → t.room ≡ s.room → cells_in (design_of t.plan) ≡ cells_in (design_of s.plan) → Left k w s.room n (draft_of t) bs all
      → a ≡ answer (at_line line (end_by t.section (draft_of t))) → Led s t a all
  led_to_the_end a line same none rooms sizes left is =
      let end : all ≡ at_line n (end_by t.section (draft_of t)) = sym left.2 ∙ ended k w s.room left.0 n (draft_of t) bs none left.1 in
      record {
        answers = is ∙ ap (λ n. answer (at_line n (end_by t.section (draft_of t)))) same ∙ ap answer (sym end);
        drafts = λ d found. ended_as t.section (draft_of t) d (at_line_ok n _ d (sym end ∙ found));
        rooms = rooms;
        sizes = sizes;
      }

  pub led_to_a_fault : (line : ℕ) (u : Reader V) (f : FileFault) (most : ℕ) (chunk rest : List ℕ) → line ≡ n → most ≡ 29 → bs ≡ chunk ++ rest → length chunk ≡ min most (length bs) → 0 < length bs → u.room ≡ s.room → t.room ≡ s.room → cells_in (design_of t.plan) ≡ cells_in (design_of s.plan) → Left k w s.room n (draft_of u) bs all
      → next_by k w u.room u.section (draft_of u) chunk ≡ Err f → Led s t (Err (record { fault = f; line = line })) all
  led_to_a_fault line u f most chunk rest same here parts size some was rooms sizes left is =
      let judged : next_by k w s.room u.section (draft_of u) chunk ≡ Err f = sym (ap (λ room. next_by k w room u.section (draft_of u) chunk) was) ∙ is in
      let next = chunk_judged k w s.room (draft_of u) u.section most bs chunk rest here parts size ∙ judged in
      let stop : all ≡ Err (record { fault = f; line = n }) = sym left.2 ∙ refused k w s.room left.0 n (draft_of u) bs f some left.1 next in
      record { answers = ap (λ n. Err (record { fault = f; line = n })) same ∙ ap answer (sym stop); drafts = λ d found. let never = sym stop ∙ found in cc; rooms = rooms; sizes = sizes }
