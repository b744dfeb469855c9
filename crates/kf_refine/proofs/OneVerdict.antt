-- Two hypers have at most one verdict, and it isn't the budget's where the pivots are enough.
use Rattle.std.proofs.Common.{◌≡◌, ◌≢◌, ℕ, suc, ◌+◌, ◌*◌, ◌<◌, ◌≤◌, min, sym, ap, ◌∙◌, subst, refl, arith, ◌⊎◌, ⊎_elim, inl, inr, List, ◌∷◌, length, Result, Ok, Err}
use Rattle.kf_frac.specs.Fractions.{limit}
use Rattle.kf_gain.specs.Gains.{TableTree}
use Rattle.kf_simplex.specs.declared.outcome.Outcome.{Outcome}
use Rattle.kf_simplex.specs.declared.outcome.Outcome.TheVariants as outcome
use Rattle.kf_simplex.specs.declared.outcome.SimplexError.{SimplexError}
use Rattle.kf_simplex.specs.declared.outcome.SimplexError.TheVariants as simplex
use Rattle.kf_simplex.specs.Laws.{OneResult, NoRunIsLong, ways}
use Rattle.kf_refine.specs.declared.verdict.RefineError.{RefineError}
use Rattle.kf_refine.specs.declared.verdict.RefineError.TheVariants as error
use Rattle.kf_refine.specs.Refinements.{HyperTree, count, Fraction}
use Rattle.kf_refine.specs.Equations.{cells_of}
use Rattle.kf_refine.specs.Verdicts.{VerdictTree, Yes, No, IsVerdict, Runs, HasManyCells, IsMatrixOf, IsTableOf}
use Rattle.kf_refine.specs.Views.{IsProper}
use Rattle.kf_refine.specs.Laws.{OneVerdict, EnoughPivots}
use Rattle.kf_refine.proofs.OneSystem.{one_kept, one_system}
use Rattle.kf_refine.proofs.OneTable.{one_matrix, one_table}

abbrev pub Verdict : Type 0
Verdict = Result VerdictTree RefineError

abbrev pub Answer : Type 0
Answer = Result Outcome SimplexError

-- what follows from an answer of the run, for m and n inners
abbrev pub Follows : ℕ → ℕ → List ℕ → Answer → Verdict → Type 0
Follows m n values (Ok (outcome.Solution xs)) r = (rows : List (List Fraction)) × IsMatrixOf m n xs rows × (r ≡ Ok (Yes rows))
Follows m n values (Ok (outcome.Multipliers ys)) r = (t : TableTree) × IsTableOf values n ys t × (r ≡ Ok (No t))
Follows m n values (Err (simplex.Wide p)) r = r ≡ Err (error.Wide p)
Follows m n values (Err simplex.Budget) r = r ≡ Err error.Budget
Follows m n values (Err simplex.Mem) r = ⊥

one_follows : (m n : ℕ) (values : List ℕ) (x : Answer) (r q : Verdict) → Follows m n values x r → Follows m n values x q → r ≡ q
one_follows m n values (Ok (outcome.Solution xs)) r q h k = h.2 ∙ ap (λ (rows : List (List Fraction)). Ok (Yes rows)) (one_matrix m n xs h.0 k.0 h.1 k.1) ∙ sym k.2
one_follows m n values (Ok (outcome.Multipliers ys)) r q h k = h.2 ∙ ap (λ (t : TableTree). Ok (No t)) (one_table values n ys h.0 k.0 h.1 k.1) ∙ sym k.2
one_follows m n values (Err (simplex.Wide p)) r q h k = h ∙ sym k
one_follows m n values (Err simplex.Budget) r q h k = h ∙ sym k
one_follows m n values (Err simplex.Mem) r q h k = absurd h

-- nothing follows from want of memory
has_answer : (m n : ℕ) (values : List ℕ) (x : Answer) (r : Verdict) → Follows m n values x r → x ≢ Err simplex.Mem
has_answer m n values (Ok x) r h e = absurd (cc)
has_answer m n values (Err (simplex.Wide p)) r h e = absurd (cc)
has_answer m n values (Err simplex.Budget) r h e = absurd (cc)
has_answer m n values (Err simplex.Mem) r h e = h

-- the three ways to a verdict
module _ (a b : HyperTree) (pivots : ℕ) where
  record Ran (r : Verdict) : Type 0 where
    answer : Answer
    run : Runs a b pivots answer
    follows : Follows (count a) (count b) run.equations.values answer r

  record Counted (r : Verdict) : Type 0 where
    cells : ℕ
    many : HasManyCells a b cells
    is : r ≡ Err (error.Cells cells)

  record Differs (r : Verdict) : Type 0 where
    targets : a.target ≢ b.target
    is : r ≡ Err error.Targets

  abbrev Told : Verdict → Type 0
  Told r = Ran r ⊎ (Counted r ⊎ Differs r)

  told : (r : Verdict) → IsVerdict a b pivots r → Told r
  told (Ok (Yes rows)) h = inl (record { answer = Ok (outcome.Solution h.0); run = h.1; follows = (rows, h.2, refl) })
  told (Ok (No t)) h = inl (record { answer = Ok (outcome.Multipliers h.0); run = h.1; follows = (t, h.2, refl) })
  told (Err error.Targets) h = inr (inr (record { targets = h; is = refl }))
  told (Err (error.Cells cells)) h = inr (inl (record { cells = cells; many = h; is = refl }))
  told (Err (error.Wide p)) h = inl (record { answer = Err (simplex.Wide p); run = h; follows = refl })
  told (Err error.Budget) h = inl (record { answer = Err simplex.Budget; run = h; follows = refl })
  told (Err error.Mem) h = absurd h

  same_cells : (xs ys : List ℕ) → xs ≡ ys → cells_of (length xs) (count a) (count b) ≡ cells_of (length ys) (count a) (count b)
  same_cells xs ys same = ap (λ (zs : List ℕ). cells_of (length zs) (count a) (count b)) same

  beyond : (most x y : ℕ) → x ≡ y → most < x → y ≤ most → ⊥
  beyond most x y e p q = absurd (omega arith)

  -- a run's tableau hasn't too many cells
  not_both_ways : (x : Answer) (cells : ℕ) → Runs a b pivots x → HasManyCells a b cells → ⊥
  not_both_ways x cells run many =
      beyond 4000000 (cells_of (length many.values) (count a) (count b)) (cells_of (length run.equations.values) (count a) (count b))
      (same_cells many.values run.equations.values (one_kept a b many.values run.equations.values many.are_kept run.equations.are_kept)) many.many run.few

  one_count : (r q : Verdict) → Counted r → Counted q → r ≡ q
  one_count r q h k =
      let cells : h.cells ≡ k.cells = h.many.is
      ∙ ap (min limit) (same_cells h.many.values k.many.values (one_kept a b h.many.values k.many.values h.many.are_kept k.many.are_kept)) ∙ sym k.many.is in
      h.is ∙ ap (λ (n : ℕ). Err (error.Cells n)) cells ∙ sym k.is

  module _ (law : OneResult) (of_a : IsProper a) (of_b : IsProper b) where
    one_ran : (r q : Verdict) → Ran r → Ran q → r ≡ q
    one_ran r q h k =
        let hs = h.run.equations.values in
        let ks = k.run.equations.values in
        let values : ks ≡ hs = one_kept a b ks hs k.run.equations.are_kept h.run.equations.are_kept in
        let same : k.answer ≡ h.answer =
        law k.run.system h.run.system pivots k.answer h.answer
        (one_system a b k.run.system h.run.system of_a.some of_b.some k.run.equations h.run.equations) k.run.equations.system
        (has_answer (count a) (count b) ks k.answer q k.follows) (has_answer (count a) (count b) hs h.answer r h.follows) k.run.is_answer h.run.is_answer in
        one_follows (count a) (count b) hs h.answer r q h.follows
        (subst (λ (x : Answer). Follows (count a) (count b) hs x q) same (subst (λ (xs : List ℕ). Follows (count a) (count b) xs k.answer q) values k.follows))

    one_told : (r q : Verdict) → Told r → Told q → r ≡ q
    one_told r q h k =
        ⊎_elim
        (λ (ran : Ran r). ⊎_elim
        (λ (also : Ran q). one_ran r q ran also)
        (λ (other : Counted q ⊎ Differs q). ⊎_elim
        (λ (counted : Counted q). absurd (not_both_ways ran.answer counted.cells ran.run counted.many))
        (λ (differs : Differs q). absurd (differs.targets ran.run.targets)) other) k)
        (λ (rest : Counted r ⊎ Differs r). ⊎_elim
        (λ (counted : Counted r). ⊎_elim
        (λ (ran : Ran q). absurd (not_both_ways ran.answer counted.cells ran.run counted.many))
        (λ (other : Counted q ⊎ Differs q). ⊎_elim
        (λ (also : Counted q). one_count r q counted also)
        (λ (differs : Differs q). absurd (differs.targets counted.many.targets)) other) k)
        (λ (differs : Differs r). ⊎_elim
        (λ (ran : Ran q). absurd (differs.targets ran.run.targets))
        (λ (other : Counted q ⊎ Differs q). ⊎_elim
        (λ (counted : Counted q). absurd (differs.targets counted.many.targets))
        (λ (also : Differs q). differs.is ∙ sym also.is) other) k) rest) h

pub one_verdict : OneResult → OneVerdict
one_verdict law a b pivots r q of_a of_b h k = one_told a b pivots law of_a of_b r q (told a b pivots r h) (told a b pivots q k)

-- ---- pivots

too_many : (before pivots most : ℕ) → pivots ≡ before → suc before ≤ most → most ≤ pivots → ⊥
too_many before pivots most e p q = absurd (omega arith)

pub enough_pivots : NoRunIsLong → EnoughPivots
enough_pivots law a b pivots xs of_a of_b kept room run =
    let s = run.system in
    let end = run.is_answer.1 in
    let values : run.equations.values ≡ xs = one_kept a b run.equations.values xs run.equations.are_kept kept in
    let equations : s.equations ≡ length xs * count b + count a =
    run.equations.equations ∙ ap (λ (zs : List ℕ). length zs * count b + count a) values in
    let long : length (run.is_answer.0 ∷ end.before) ≤ ways (s.unknowns + s.equations) s.equations =
    law s pivots (run.is_answer.0 ∷ end.before) run.equations.system end.run in
    let most : ways (s.unknowns + s.equations) s.equations ≡ ways (count a * count b + (length xs * count b + count a)) (length xs * count b + count a) =
    λ i. ways (run.equations.unknowns i + equations i) (equations i) in
    too_many (length end.before) pivots (ways (count a * count b + (length xs * count b + count a)) (length xs * count b + count a)) end.pivots
    (subst (λ (n : ℕ). suc (length end.before) ≤ n) most long) room
