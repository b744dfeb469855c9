-- A matrix that carries the hyper of one full program to that of another carries at every prior, and a table that separates them does so at
-- the uniform one.
use Rattle.std.proofs.Common.{◌≡◌, ◌≢◌, ℕ, suc, zero, ◌+◌, ◌<◌, List, [], ◌∷◌, ◌++◌, length, map, take, refl, sym, ◌∙◌, ap, subst, arith, ⊎_elim, Contains, Result, Ok, Err}
use Rattle.std.specs.Prelude.{replicate, ℤ, pos, ◌+ℤ◌, ◌*ℤ◌, ◌≤ℤ◌, ◌<ℤ◌}
use Rattle.std.specs.List.{range_with_len}
use Rattle.std.proofs.Math.IntN.{zero-*ℤ}
use Rattle.std.proofs.Math.Nat.{one-mul}
use Rattle.std.proofs.Math.Seq.{take-append_seam}
use Rattle.std.proofs.lemmas.Bool.{cases_eq}
use Rattle.std.proofs.lemmas.Int.{ints}
use Rattle.std.proofs.lemmas.List.{length-append, length-replicate}
use Rattle.kf_frac.proofs.Ring.{mul_assoc, mul_add}
use Rattle.kf_value.specs.Types.{TypeTree}
use Rattle.kf_value.proofs.ListLemmas.{each_any}
use Rattle.kf_column.specs.Averages.{joint_column}
use Rattle.kf_column.specs.Hypers.{Inner}
use Rattle.kf_column.specs.declared.entry.Entry.{Entry}
use Rattle.kf_column.specs.Traces.{Row}
use Rattle.kf_core.specs.Checked.{IsChecked}
use Rattle.kf_core.specs.Joint.{joint_of, target_number}
use Rattle.kf_core.specs.Programs.{ProgramTree}
use Rattle.kf_core.specs.Rows.{AreRowsOf}
use Rattle.kf_core.specs.Runs.{Run, Halted}
use Rattle.kf_core.specs.SupportLaws.{ScalesArePositive, CommonScaleIsLeast}
use Rattle.kf_core.proofs.Filled.{declared_full}
use Rattle.kf_core.proofs.Measures.{Full}
use Rattle.kf_core.proofs.Solid.{decls_solid}
use Rattle.kf_check.specs.Laws.{CheckedIfTyped}
use Rattle.kf_check.specs.Sources.{types_of}
use Rattle.kf_gain.specs.declared.table.Action.{Action}
use Rattle.kf_gain.specs.Gains.{Table, TableTree}
use Rattle.kf_gain.specs.Vulnerabilities.{IsPosterior}
use Rattle.kf_simplex.specs.Base.{total}
use Rattle.kf_simplex.proofs.Signs.{product_strict}
use Rattle.kf_refine.specs.Refinements.{HyperTree, Fraction, Carries, Separates}
use Rattle.kf_refine.proofs.Separating.{parts, no_better}
use Rattle.kf_prior.specs.Laws.{FullBeginsUniformly, FullIsBuilt, BeginsUniformly, HasHyper, CarriesForAllPriors, SeparatesAtUniform, initial_run}
use Rattle.kf_prior.specs.Priors.{AreWorth, IsPosteriorAt, initial_count}
use Rattle.kf_prior.proofs.PriorCells.{AllFit, Fits, runs_from, cells_are}
use Rattle.kf_prior.proofs.PriorFull.{full_paired}
use Rattle.kf_prior.proofs.PriorHypers.{weighed_hyper, weighed_inner, count_weighed, carries_weighed, bounds_weighed, posterior_weighed, top_in}
use Rattle.kf_prior.proofs.PriorRows.{posterior_is}
use Rattle.kf_prior.proofs.PriorTargets.{IsPaired, by_prior, count_is, prior_fits}
use Rattle.kf_prior.proofs.PriorStores.{size}
use Rattle.kf_prior.proofs.PriorWorth.{sum_z, sum_same, worth, the_worth, worth_scaled, weighed_worth}

-- ---- tables without actions

none_contained : (actions : List Action) (a : Action) → actions ≡ [] → Contains actions a → ⊥
none_contained [] a none h = omega (arith, h.1)
none_contained (b ∷ actions) a none h = absurd (cc)

no_columns : (t : TableTree) → t.actions ≡ [] → (columns : List (List Entry)) (y : ℤ) → AreWorth (Table t) columns y → y ≡ pos 0
no_columns t none [] y is = is
no_columns t none (c ∷ columns) y is = absurd (none_contained t.actions is.2.reached.0 none is.2.reached.1)

no_inners : (t : TableTree) → t.actions ≡ [] → (inners : List Inner) (y : ℤ) → IsPosterior (Table t) inners y → y ≡ pos 0
no_inners t none [] y is = is
no_inners t none (i ∷ inners) y is = absurd (none_contained t.actions is.2.reached.0 none is.2.reached.1)

zero_times : (y : ℤ) (n : ℕ) → y ≡ pos 0 → y *ℤ pos n ≡ pos 0
zero_times y n none = ap (λ z. z *ℤ pos n) none ∙ zero-*ℤ (pos n)

-- ---- inners at one weight

sum_times : {X : Type 0} (k : ℤ) (g : X → ℤ) (xs : List X) → sum_z (λ x. k *ℤ g x) xs ≡ k *ℤ sum_z g xs
sum_times k g [] = omega (arith, ints)
sum_times k g (x ∷ xs) = ap (λ z. k *ℤ g x +ℤ z) (sum_times k g xs) ∙ sym (mul_add k (g x) (sum_z g xs))

module _ (t : TableTree) (some : t.actions ≢ []) where
  posterior_sum : (inners : List Inner) (y : ℤ) → IsPosterior (Table t) inners y → y ≡ sum_z (λ (i : Inner). worth t some (joint_column i)) inners
  posterior_sum [] y is = is
  posterior_sum (i ∷ inners) y (first, others, v, rest, is) = is ∙ (λ k. the_worth t some (joint_column i) first v k +ℤ posterior_sum inners others rest k)

  -- where all weights are multiplied by one number, so is what is gained
  alike : (k : ℕ) (inners : List Inner) → sum_z (λ (i : Inner). weighed_worth t some (λ z. k) (joint_column i)) inners ≡ pos k *ℤ sum_z (λ (i : Inner). worth t some (joint_column i)) inners
  alike k inners =
      sum_same (λ (i : Inner). weighed_worth t some (λ z. k) (joint_column i)) (λ (i : Inner). pos k *ℤ worth t some (joint_column i)) inners
      (each_any (λ (i : Inner). weighed_worth t some (λ z. k) (joint_column i) ≡ pos k *ℤ worth t some (joint_column i)) (λ i. worth_scaled t some k (joint_column i)) inners)
      ∙ sum_times (pos k) (λ (i : Inner). worth t some (joint_column i)) inners

-- ---- the uniform prior

one_fits : (p : ProgramTree) (e : Result ℕ Halted) → Fits (target_number p) (initial_count p) (λ z. initial_count p) 1 e
one_fits p (Ok n) = sym (one-mul (initial_count p))
one_fits p (Err h) = tt

uniform_fits : (turns : ℕ) (p : ProgramTree) (n x : ℕ) → AllFit turns p (λ z. initial_count p) x (replicate n 1)
uniform_fits turns p zero x = tt
uniform_fits turns p (suc n) x =
    (each_any (λ (r : Run). Fits (target_number p) (initial_count p) (λ z. initial_count p) 1 r.end) (λ r. one_fits p r.end) (runs_from turns p x), uniform_fits turns p n (x + 1))

-- there is an initial store
some_store : (p : ProgramTree) → IsChecked p → BeginsUniformly p → 0 < initial_count p
some_store p checked begins =
    ⊎_elim
    (λ (e : initial_count p ≡ 0).
    absurd (subst Full (begins ∙ ap (λ n. map (initial_run p) (range_with_len 0 n)) e) (declared_full p.types 0 p.decls (decls_solid p checked) 0)))
    (λ (d : initial_count p ≡ 0 → ⊥). omega (arith, d))
    (cases_eq (initial_count p) 0)

same_types : (ts us : List TypeTree) → ts ++ ts ≡ us ++ us → ts ≡ us
same_types ts us same =
    let long : length ts ≡ length us = omega (arith, length-append ts ts, length-append us us, ap length same) in
    sym (take-append_seam ts ts) ∙ (λ i. take (long i) (same i)) ∙ take-append_seam us us

module _ (built : FullIsBuilt) (checked : CheckedIfTyped) (begins : FullBeginsUniformly) (scales : ScalesArePositive) (least : CommonScaleIsLeast) where
  abbrev pair_of : (turns : ℕ) (p : ProgramTree) (a : HyperTree) → HasHyper turns p a → (ts : List TypeTree) × IsPaired p ts
  pair_of turns p a has = (types_of has.full.full.variables, full_paired built checked p has.full)

  -- programs of one target have as many initial stores
  same_count : (turns : ℕ) (p q : ProgramTree) (a b : HyperTree) → HasHyper turns p a → HasHyper turns q b → a.target ≡ b.target → initial_count p ≡ initial_count q
  same_count turns p q a b of_p of_q same =
      let ts = pair_of turns p a of_p in
      let us = pair_of turns q b of_q in
      let targets : ts.0 ++ ts.0 ≡ us.0 ++ us.0 = sym ts.1.about ∙ ap (map (λ i. i.ty)) (sym of_p.about ∙ same ∙ of_q.about) ∙ us.1.about in
      count_is p ts.0 ts.1 ∙ ap size (same_types ts.0 us.0 targets) ∙ sym (count_is q us.0 us.1)

  -- what is best done at a prior, from the hyper
  module _ (turns : ℕ) (p : ProgramTree) (a : HyperTree) (has : HasHyper turns p a) (f : ℕ → ℕ) (prior : List ℕ) (long : length prior ≡ initial_count p) (fit : AllFit turns p f 0 prior) where
    at_prior : (t : TableTree) (some : t.actions ≢ []) (y : ℤ) → IsPosteriorAt turns p prior (Table t) y → y ≡ sum_z (λ (i : Inner). weighed_worth t some f (joint_column i)) a.inners
    at_prior t some y is =
        posterior_is t some f (joint_of turns p) a.inners is.rows y has.is_hyper
        (subst (λ cs. AreRowsOf cs is.rows) (cells_are turns p f scales least (begins p has.full) prior long fit) is.are_rows) is.is_worth

  -- ---- a matrix

  module _ (a b : HyperTree) (rows : List (List Fraction)) (is : Carries a b rows) (t : TableTree) (some : t.actions ≢ []) (f : ℕ → ℕ) where
    abbrev gain_of : HyperTree → ℤ
    gain_of h = sum_z (λ (i : Inner). weighed_worth t some f (joint_column i)) h.inners

    no_more : (pos a.scale *ℤ gain_of b) ≤ℤ (pos b.scale *ℤ gain_of a)
    no_more =
        let top : ℕ = top_in (map (weighed_inner f) a.inners) + top_in (map (weighed_inner f) b.inners) in
        no_better (weighed_hyper f a) (weighed_hyper f b) t top is.over is.number (gain_of a) (gain_of b)
        (bounds_weighed f a top (omega arith)) (bounds_weighed f b top (omega arith)) (carries_weighed f a b is.over is.number is.carries)
        (parts t (map (weighed_inner f) a.inners) (gain_of a) (posterior_weighed f t some a.inners))
        (parts t (map (weighed_inner f) b.inners) (gain_of b) (posterior_weighed f t some b.inners))
        (λ i j l k. is.stochastic.not_negative i j (subst (λ n. i < n) (count_weighed f a) l) (subst (λ n. j < n) (count_weighed f b) k))
        (λ i l. ap (λ n. total n (is.number i)) (count_weighed f b) ∙ is.stochastic.rows i (subst (λ n. i < n) (count_weighed f a) l))
        is.is_over.positive

  carries_with : (actions : List Action) (turns : ℕ) (p q : ProgramTree) (a b : HyperTree) (rows : List (List Fraction)) (prior : List ℕ) (t : TableTree) (y z : ℤ) → t.actions ≡ actions
      → HasHyper turns p a → HasHyper turns q b → a.target ≡ b.target → Carries a b rows → length prior ≡ initial_count p
      → IsPosteriorAt turns p prior (Table t) y → IsPosteriorAt turns q prior (Table t) z
      → (z *ℤ pos a.scale) ≤ℤ (y *ℤ pos b.scale)
  carries_with [] turns p q a b rows prior t y z none of_p of_q same is long at_p at_q =
      omega (
        arith,
        ints,
        zero_times y b.scale (no_columns t none (map (λ (r : Row). r.column) at_p.rows) y at_p.is_worth),
        zero_times z a.scale (no_columns t none (map (λ (r : Row). r.column) at_q.rows) z at_q.is_worth),
      )
  carries_with (action ∷ actions) turns p q a b rows prior t y z known of_p of_q same is long at_p at_q =
      let some : t.actions ≢ [] = λ e. let both : action ∷ actions ≡ [] = sym known ∙ e in absurd (cc) in
      let f : ℕ → ℕ = by_prior (initial_count p) prior in
      let stores : initial_count p ≡ initial_count q = same_count turns p q a b of_p of_q same in
      let long_q : length prior ≡ initial_count q = long ∙ stores in
      let ts = pair_of turns p a of_p in
      let us = pair_of turns q b of_q in
      let fit_p : AllFit turns p f 0 prior = prior_fits p ts.0 ts.1 turns prior long in
      let fit_q : AllFit turns q f 0 prior = subst (λ n. AllFit turns q (by_prior n prior) 0 prior) (sym stores) (prior_fits q us.0 us.1 turns prior long_q) in
      let of_y = at_prior turns p a of_p f prior long fit_p t some y at_p in
      let of_z = at_prior turns q b of_q f prior long_q fit_q t some z at_q in
      let less = no_more a b rows is t some f in
      omega (arith, ints, less, ap (λ v. v *ℤ pos b.scale) of_y, ap (λ v. v *ℤ pos a.scale) of_z)

  pub carries_for_all : CarriesForAllPriors
  carries_for_all turns p q a b rows prior t y z = carries_with t.actions turns p q a b rows prior t y z refl

  -- ---- a table

  -- at the uniform prior all is gained as often as there are stores
  at_uniform : (turns : ℕ) (p : ProgramTree) (a : HyperTree) (t : TableTree) (some : t.actions ≢ []) (of_a y : ℤ) → HasHyper turns p a → IsPosterior (Table t) a.inners of_a
      → IsPosteriorAt turns p (replicate (initial_count p) 1) (Table t) y → y ≡ pos (initial_count p) *ℤ of_a
  at_uniform turns p a t some of_a y has is at =
      let n = initial_count p in
      at_prior turns p a has (λ z. n) (replicate n 1) (length-replicate n 1) (uniform_fits turns p n 0) t some y at
      ∙ alike t some n a.inners
      ∙ ap (λ v. pos n *ℤ v) (sym (posterior_sum t some a.inners of_a is))

  separates_with : (actions : List Action) (turns : ℕ) (p q : ProgramTree) (a b : HyperTree) (t : TableTree) (y z : ℤ) → t.actions ≡ actions
      → HasHyper turns p a → HasHyper turns q b → a.target ≡ b.target → Separates t a b
      → IsPosteriorAt turns p (replicate (initial_count p) 1) (Table t) y → IsPosteriorAt turns q (replicate (initial_count p) 1) (Table t) z
      → (y *ℤ pos b.scale) <ℤ (z *ℤ pos a.scale)
  separates_with [] turns p q a b t y z none of_p of_q same is at_p at_q =
      absurd (
      omega (
        arith,
        ints,
        zero_times is.of_a b.scale (no_inners t none a.inners is.of_a is.is_of_a),
        zero_times is.of_b a.scale (no_inners t none b.inners is.of_b is.is_of_b),
        is.below,
      )
      )
  separates_with (action ∷ actions) turns p q a b t y z known of_p of_q same is at_p at_q =
      let some : t.actions ≢ [] = λ e. let both : action ∷ actions ≡ [] = sym known ∙ e in absurd (cc) in
      let n = initial_count p in
      let stores : n ≡ initial_count q = same_count turns p q a b of_p of_q same in
      let of_y : y ≡ pos n *ℤ is.of_a = at_uniform turns p a t some is.of_a y of_p is.is_of_a at_p in
      let of_z : z ≡ pos n *ℤ is.of_b = at_uniform turns q b t some is.of_b z of_q is.is_of_b (subst (λ m. IsPosteriorAt turns q (replicate m 1) (Table t) z) stores at_q) ∙ ap (λ m. pos m *ℤ is.of_b) (sym stores) in
      let positive : 0 < n = some_store p (pair_of turns p a of_p).1.checked (begins p of_p.full) in
      let less = product_strict (is.of_a *ℤ pos b.scale) (is.of_b *ℤ pos a.scale) (pos n) (omega (arith, ints, positive)) is.below in
      let left : y *ℤ pos b.scale ≡ pos n *ℤ (is.of_a *ℤ pos b.scale) = ap (λ v. v *ℤ pos b.scale) of_y ∙ mul_assoc (pos n) is.of_a (pos b.scale) in
      let right : z *ℤ pos a.scale ≡ pos n *ℤ (is.of_b *ℤ pos a.scale) = ap (λ v. v *ℤ pos a.scale) of_z ∙ mul_assoc (pos n) is.of_b (pos a.scale) in
      omega (arith, ints, less, left, right)

  pub separates_at_uniform : SeparatesAtUniform
  separates_at_uniform turns p q a b t y z = separates_with t.actions turns p q a b t y z refl
