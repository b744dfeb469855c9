-- The cells of a program at a prior are those of its joint, each with its weight multiplied by what its value is given.
use Rattle.std.proofs.Common.{◌≡◌, ℕ, ◌+◌, ◌*◌, ◌/◌, ◌<◌, List, [], ◌∷◌, ◌++◌, length, map, drop, Result, Ok, Err, refl, sym, ap, subst, ◌∙◌, arith}
use Rattle.std.specs.List.{AllByRecursion as Each, range_with_len}
use Rattle.std.specs.Int.{◌∣◌}
use Rattle.std.proofs.Math.Nat.{mul-div_cancel', mul-div_cancel_left}
use Rattle.std.proofs.lemmas.Grind.{flat_map-append}
use Rattle.std.proofs.lemmas.List.{map-append}
use Rattle.kf_value.specs.Types.{count, product}
use Rattle.kf_core.specs.Joint.{cell_of, cells, target_number, joint_of}
use Rattle.kf_core.specs.Programs.{ProgramTree}
use Rattle.kf_core.specs.Runs.{Run, Halted, joined, chain, all_runs, copied, program_runs}
use Rattle.kf_core.specs.Scale.{scale_of}
use Rattle.kf_core.specs.Sts.{sts}
use Rattle.kf_core.specs.SupportLaws.{ScalesArePositive, CommonScaleIsLeast}
use Rattle.kf_core.proofs.Sums.{first_positive, second_positive}
use Rattle.kf_core.proofs.WholeJoint.{all_divide}
use Rattle.kf_prior.specs.Priors.{initial_count, begun, cells_from, cells_at}
use Rattle.kf_prior.specs.Laws.{initial_run, BeginsUniformly}
use Rattle.kf_prior.proofs.PriorRows.{weighed_cell}

-- ---- lists

each_front : {X : Type 0} (P : X → Type 0) (xs ys : List X) → Each P (xs ++ ys) → Each P xs
each_front P [] ys h = tt
each_front P (x ∷ xs) ys h = (h.0, each_front P xs ys h.1)

each_back : {X : Type 0} (P : X → Type 0) (xs ys : List X) → Each P (xs ++ ys) → Each P ys
each_back P [] ys h = h
each_back P (x ∷ xs) ys h = each_back P xs ys h.1

-- ---- one initial store

-- a share of the whole, taken in two steps and in one
shared : (a w s stores whole : ℕ) → 0 < whole → stores * s ∣ whole → a * (w * whole) / s ≡ (w * stores) * ((1 * a) * whole / (stores * s))
shared a w s stores whole some d =
    let q : ℕ = whole / (stores * s) in
    let all : (stores * s) * q ≡ whole = mul-div_cancel' (stores * s) d in
    let both : 0 < stores * s = first_positive (stores * s) q (subst (λ n. 0 < n) (sym all) some) in
    let left : a * (w * whole) / s ≡ a * w * stores * q =
    ap (λ n. a * (w * n) / s) (sym all) ∙ ap (λ n. n / s) (turned a w s stores q) ∙ mul-div_cancel_left (a * w * stores * q) (second_positive stores s both) in
    let right : (1 * a) * whole / (stores * s) ≡ a * q =
    ap (λ n. (1 * a) * n / (stores * s)) (sym all) ∙ ap (λ n. n / (stores * s)) (brought a (stores * s) q) ∙ mul-div_cancel_left (a * q) both in
    left ∙ joined_up a w stores q ∙ ap (λ n. (w * stores) * n) (sym right)
  where
    turned : (a w s stores q : ℕ) → a * (w * ((stores * s) * q)) ≡ s * (a * w * stores * q)
    turned a w s stores q = omega arith

    brought : (a m q : ℕ) → (1 * a) * (m * q) ≡ m * (a * q)
    brought a m q = omega arith

    joined_up : (a w stores q : ℕ) → a * w * stores * q ≡ (w * stores) * (a * q)
    joined_up a w stores q = omega arith

-- where a run ends, its target value is given the weight of its initial store, times their number
abbrev pub Fits : (ℕ → ℕ) → ℕ → (ℕ → ℕ) → ℕ → Result ℕ Halted → Type 0
Fits number stores f w (Ok n) = f (number n) ≡ w * stores
Fits number stores f w (Err h) = Unit {0}

module _ (number : ℕ → ℕ) (stores whole : ℕ) (some : 0 < whole) (f : ℕ → ℕ) where
  module _ (first : ℕ) (w : ℕ) where
    abbrev start : Run
    start = record { trace = []; end = Ok first; weight = 1; scale = stores }

    one_cell : (r : Run) (e : Result ℕ Halted) → r.end ≡ e → stores * r.scale ∣ whole → Fits number stores f w e → cell_of number (w * whole) r ≡ map (weighed_cell f) (cell_of number whole (joined start r))
    one_cell r (Ok n) is d fits =
        let share : r.weight * (w * whole) / r.scale ≡ f (number n) * ((1 * r.weight) * whole / (stores * r.scale)) =
        shared r.weight w r.scale stores whole some d ∙ ap (λ m. m * ((1 * r.weight) * whole / (stores * r.scale))) (sym fits) in
        rw is (λ i. record { trace = r.trace; value = number n; weight = share i } ∷ [])
    one_cell r (Err h) is d fits = rw is refl

    store_cells : (rs : List Run) → Each (λ r. r.scale ∣ whole) (map (joined start) rs) → Each (λ r. Fits number stores f w r.end) rs
        → cells number (w * whole) rs ≡ map (weighed_cell f) (cells number whole (map (joined start) rs))
    store_cells [] d h = refl
    store_cells (r ∷ rs) d h =
        let here = one_cell r r.end refl d.0 h.0 in
        let others = store_cells rs d.1 h.1 in
        (λ i. here i ++ others i) ∙ sym (map-append (weighed_cell f) (cell_of number whole (joined start r)) (cells number whole (map (joined start) rs)))

-- ---- all initial stores

-- the runs of the statements from the x-th initial store
abbrev pub runs_from : ℕ → ProgramTree → ℕ → List Run
runs_from turns p x = all_runs p.types turns (sts p.body) (begun p x)

module _ (turns : ℕ) (p : ProgramTree) (f : ℕ → ℕ) where
  -- each of these weights fits the runs from its store
  abbrev pub AllFit : ℕ → List ℕ → Type 0
  AllFit x [] = Unit {0}
  AllFit x (w ∷ ws) = Each (λ r. Fits (target_number p) (initial_count p) f w r.end) (runs_from turns p x) × AllFit (x + 1) ws

  -- the number of the x-th initial store, before its carried copies are set
  abbrev place : ℕ → ℕ
  place x = x * product (map count (drop (length p.decls) p.types))

  abbrev behind : ℕ → List Run
  behind n = all_runs p.types turns (sts p.body) (copied p n)

  abbrev begins : ℕ → ℕ → List Run
  begins x n = chain (map (initial_run p) (range_with_len x n)) behind

  module _ (some : 0 < scale_of turns p) where
    cells_weighed : (ws : List ℕ) (x : ℕ) → Each (λ r. r.scale ∣ scale_of turns p) (begins x (length ws)) → AllFit x ws
        → cells_from turns p x ws ≡ map (weighed_cell f) (cells (target_number p) (scale_of turns p) (begins x (length ws)))
    cells_weighed [] x d h = refl
    cells_weighed (w ∷ ws) x d h =
        let whole = scale_of turns p in
        let scales : Run → Type 0 = λ r. r.scale ∣ whole in
        let mine = map (joined (initial_run p x)) (runs_from turns p x) in
        let others = begins (x + 1) (length ws) in
        let here = store_cells (target_number p) (initial_count p) whole some f (place x) w (runs_from turns p x) (each_front scales mine others d) h.0 in
        let later = cells_weighed ws (x + 1) (each_back scales mine others d) h.1 in
        (λ i. here i ++ later i)
        ∙ sym (map-append (weighed_cell f) (cells (target_number p) whole mine) (cells (target_number p) whole others))
        ∙ ap (map (weighed_cell f)) (sym (flat_map-append (cell_of (target_number p) whole) mine others))

  -- the cells at a prior that fits are those of the joint, weighed
  pub cells_are : ScalesArePositive → CommonScaleIsLeast → BeginsUniformly p → (prior : List ℕ) → length prior ≡ initial_count p → AllFit 0 prior
      → cells_at turns p prior ≡ map (weighed_cell f) (joint_of turns p)
  cells_are scales least uniform prior long fit =
      let all : begins 0 (length prior) ≡ program_runs turns p =
      ap (λ n. begins 0 n) long ∙ ap (λ rs. chain rs behind) (sym uniform) in
      cells_weighed (least (program_runs turns p) (scales turns p)).positive prior 0
      (subst (Each (λ r. r.scale ∣ scale_of turns p)) (sym all) (all_divide turns p scales least)) fit
      ∙ ap (λ rs. map (weighed_cell f) (cells (target_number p) (scale_of turns p) rs)) all
