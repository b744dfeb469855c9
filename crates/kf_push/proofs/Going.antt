-- What can go through runs can go through their parts.
use Rattle.std.proofs.Common.{◌≡◌, ℕ, ◌*◌, ◌<◌, Bool, true, false, List, [], ◌∷◌, All, map, Result, Ok, Err, inl, inr, refl, sym, ap, subst, ◌∙◌, true≢false}
use Rattle.std.specs.Prelude.{is_ok, IsOk, if◌then◌else◌}
use Rattle.std.specs.Int.{◌∣◌}
use Rattle.std.proofs.Math.Nat.{dvd-mul_right, mul-one}
use Rattle.std.proofs.lemmas.Nat.Gcd.{dvd_trans}
use Rattle.kf_value.specs.Values.{ValueTree, truth}
use Rattle.kf_column.specs.declared.entry.Entry.{Entry}
use Rattle.kf_column.proofs.AtMostOne.{In}
use Rattle.kf_column.specs.Columns.{IsColumn}
use Rattle.kf_core.specs.Choices.{Weighted, total}
use Rattle.kf_core.specs.Ready.{IsPushed}
use Rattle.kf_core.specs.Runs.{Run, Halted, Tried, joined, chain, choice_run, branched, stay, guarded}
use Rattle.kf_core.proofs.Filled.{Filled}
use Rattle.kf_core.proofs.Measures.{Full}
use Rattle.kf_core.proofs.Sums.{first_positive}
use Rattle.kf_core.specs.Leaks.{shown}
use Rattle.kf_push.specs.Following.{Takes, Goes, observed, side}
use Rattle.kf_push.proofs.Carrying.{Runner, Matrix, goes_behind, pushed_chain}
use Rattle.kf_push.proofs.Sides.{where_wanted, on, chain_side}
use Rattle.kf_push.proofs.Splitting.{splits_once, side_splits}
use Rattle.kf_push.proofs.Members.{Every, every_all, all_every, in_chain, halts_in_chain, in_branched, of_flat, of_map}

-- each run takes its share of this weight
abbrev pub AllTake : ℕ → List Run → Type 0
AllTake w rs = Every (Takes w) rs

-- runs that can be taken, wherever others can
pub goes_over : (from other : Runner) (columns : Matrix) → ((n w : ℕ) → AllTake w (from n) → AllTake w (other n)) → Goes from columns → Goes other columns
goes_over from other columns over goes =
    every_all (λ column. All (λ (e : Entry). All (Takes e.weight) (other e.value)) column) columns
    (λ column has. every_all (λ (e : Entry). All (Takes e.weight) (other e.value)) column
    (λ e is. every_all (Takes e.weight) (other e.value)
    (over e.value e.weight (all_every (Takes e.weight) (from e.value)
    (all_every (λ (e : Entry). All (Takes e.weight) (from e.value)) column
    (all_every (λ column. All (λ (e : Entry). All (Takes e.weight) (from e.value)) column) columns goes column has) e is)))))

some_run : (rs : List Run) → Full rs → (r : Run) × In r rs
some_run [] full = absurd full
some_run (r ∷ rs) full = (r, inl refl)

module _ (w : ℕ) where
  takes_first : (r q : Run) (x : Result ℕ Halted) → x ≡ r.end → IsOk x → Takes w (joined r q) → Takes w r
  takes_first r q x is ends t = record {
    positive = first_positive r.scale q.scale t.positive;
    divides = dvd_trans r.scale (dvd-mul_right r.scale q.scale) t.divides;
    ends = subst IsOk is ends;
  }

  halts : (r : Run) (f : Halted) → r.end ≡ Err f → Takes w r → ⊥
  halts r f is t = true≢false (sym t.ends ∙ ap is_ok is)

  module _ (next : Runner) (full : (n : ℕ) → Full (next n)) (rs : List Run) (all : AllTake w (chain rs next)) where
    first_by : (r : Run) (x : Result ℕ Halted) → r.end ≡ x → In r rs → Takes w r
    first_by r (Ok n) is has =
        let q = some_run (next n) (full n) in
        takes_first r q.0 (Ok n) (sym is) refl (all (joined r q.0) (in_chain next rs r n q.0 has is q.1))
    first_by r (Err f) is has = all r (halts_in_chain next rs r f has is)

    pub all_first : AllTake w rs
    all_first r has = first_by r r.end refl has

  -- ---- guards

  module _ (n : ℕ) (taken left : List Run) (full_taken : Full taken) (full_left : Full left) where
    abbrev next : ValueTree → List Run
    next v = if truth v then taken else left

    some_side : (b : Bool) → (r : Run) × In r (if b then taken else left)
    some_side true = some_run taken full_taken
    some_side false = some_run left full_left

    module _ (ws : List Weighted) (all : AllTake w (branched shown n next (Ok ws))) where
      choice_takes : (c : Weighted) (q : Run) → In c ws → In q (next c.value) → Takes w (joined (choice_run shown n (total ws) c) q)
      choice_takes c q has is = all (joined (choice_run shown n (total ws) c) q) (in_branched shown n next ws c q has is)

      stays : (c : Weighted) → In c ws → Takes w (joined (choice_run shown n (total ws) c) (record { trace = []; end = Ok n; weight = 1; scale = 1 }))
      stays c has =
          let q = some_side (truth c.value) in
          let t = choice_takes c q.0 has q.1 in
          let whole : total ws * 1 ≡ total ws = mul-one (total ws) in
          record {
            positive = subst (λ (k : ℕ). 0 < k) (sym whole) (first_positive (total ws) q.0.scale t.positive);
            divides = subst (λ (k : ℕ). k ∣ w) (sym whole) (dvd_trans (total ws) (dvd-mul_right (total ws) q.0.scale) t.divides);
            ends = refl;
          }

    abbrev Stay : ValueTree → List Run
    Stay v = stay n

    all_observed : (g : Tried) → AllTake w (branched shown n next g) → AllTake w (branched shown n Stay g)
    all_observed (Ok ws) all r has = here (of_flat (λ c. map (joined (choice_run shown n (total ws) c)) (stay n)) r ws has)
      where
        here : (c : Weighted) × In c ws × In r (map (joined (choice_run shown n (total ws) c)) (stay n)) → Takes w r
        here m = at m.0 m.1 m.2
          where
            at : (c : Weighted) → In c ws → In r (map (joined (choice_run shown n (total ws) c)) (stay n)) → Takes w r
            at c is (inl same) = subst (Takes w) (sym same) (stays ws all c is)
            at c is (inr none) = absurd none
    all_observed (Err f) all r has = all r has

  module _ (n : ℕ) (small big : ValueTree → List Run) (within : (v : ValueTree) (q : Run) → In q (small v) → In q (big v)) where
    all_fewer : (g : Tried) → AllTake w (branched shown n big g) → AllTake w (branched shown n small g)
    all_fewer (Ok ws) all r has =
        let m = of_flat (λ c. map (joined (choice_run shown n (total ws) c)) (small c.value)) r ws has in
        let q = of_map (joined (choice_run shown n (total ws) m.0)) r (small m.0.value) m.2 in
        subst (Takes w) (sym q.2) (all (joined (choice_run shown n (total ws) m.0) q.0) (in_branched shown n big ws m.0 q.0 m.1 (within m.0.value q.0 q.1)))
    all_fewer (Err f) all r has = all r has

pub first_goes : (from next : Runner) (columns : Matrix) → ((n : ℕ) → Full (next n)) → Goes (λ n. chain (from n) next) columns → Goes from columns
first_goes from next columns full goes = goes_over (λ n. chain (from n) next) from columns (λ n w all. all_first w next full (from n) all) goes

-- ---- one side of a guard

module _ (guard : ℕ → Tried) (taken left : Runner) (columns : Matrix) where
  -- what follows where the guard's value is this one
  abbrev pub branch : Bool → Runner
  branch true = taken
  branch false = left

  branch_in : (n : ℕ) (q : Run) (b wanted : Bool) → In q (where_wanted wanted (branch wanted n) b) → In q (if b then taken n else left n)
  branch_in n q true true has = has
  branch_in n q true false has = absurd has
  branch_in n q false true has = absurd has
  branch_in n q false false has = has

  stay_in : (n : ℕ) (q : Run) (b wanted : Bool) → In q (where_wanted wanted (stay n) b) → In q (stay n)
  stay_in n q true true has = has
  stay_in n q true false has = absurd has
  stay_in n q false true has = absurd has
  stay_in n q false false has = has

  branch_goes : (wanted : Bool) → Goes (guarded guard taken left) columns → Goes (λ n. chain (side wanted guard n) (branch wanted)) columns
  branch_goes wanted goes =
      subst (λ (f : Runner). Goes f columns) (λ i n. sym (chain_side wanted guard (branch wanted) n) i)
      (goes_over (guarded guard taken left) (on wanted guard (branch wanted)) columns
      (λ n w all.
      all_fewer w n (λ v. where_wanted wanted (branch wanted n) (truth v)) (λ v. if truth v then taken n else left n)
      (λ v q. branch_in n q (truth v) wanted) (guard n) all) goes)

  module _ (filled : (n : ℕ) → Filled (guard n)) (full_taken : (n : ℕ) → Full (taken n)) (full_left : (n : ℕ) → Full (left n))
      (goes : Goes (guarded guard taken left) columns) where
    pub guard_goes : Goes (observed guard) columns
    guard_goes =
        goes_over (guarded guard taken left) (observed guard) columns
        (λ n w all. all_observed w n (taken n) (left n) (full_taken n) (full_left n) (guard n) all) goes

    side_goes : (wanted : Bool) → Goes (side wanted guard) columns
    side_goes wanted =
        goes_over (observed guard) (side wanted guard) columns
        (λ n w all. all_fewer w n (λ v. where_wanted wanted (stay n) (truth v)) (λ v. stay n) (λ v q. stay_in n q (truth v) wanted) (guard n) all) guard_goes

    module _ (are : All IsColumn columns) (wanted : Bool) (between : Matrix) (pushed : IsPushed (side wanted guard) columns between) where
      -- what stands on a side can go through its branch
      pub behind_goes : Goes (branch wanted) between
      behind_goes = goes_behind (side wanted guard) (branch wanted) columns between are (side_goes wanted) (branch_goes wanted goes) pushed

      -- a side, and then its branch
      pub branch_pushed : (after : Matrix) → IsPushed (branch wanted) between after → IsPushed (on wanted guard (branch wanted)) columns after
      branch_pushed after p =
          subst (λ (f : Runner). IsPushed f columns after) (λ i n. chain_side wanted guard (branch wanted) n i)
          (pushed_chain (side wanted guard) (branch wanted) columns between after (splits_once (side wanted guard) (side_splits guard wanted))
          are (side_goes wanted) (branch_goes wanted goes) pushed p)
