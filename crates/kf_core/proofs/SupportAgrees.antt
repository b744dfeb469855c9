-- The support pass agrees with the runs from single stores.
use Rattle.std.proofs.Common.{◌≡◌, ℕ, suc, List, [], ◌∷◌, map, Ok, Err, refl, sym, subst, true≢false, ◌↔◌}
use Rattle.std.specs.Prelude.{IsOk}
use Rattle.std.specs.FinSet.{from_list, items}
use Rattle.kf_value.specs.Types.{TypeTree}
use Rattle.kf_core.specs.Dxs.{DxTree}
use Rattle.kf_core.specs.Sts.{StTree, StTrees, Skip, Assign, Observe, If, While, no_sts, more_sts, sts}
use Rattle.kf_core.specs.Programs.{ProgramTree}
use Rattle.kf_core.specs.Runs.{Run, Halted, tried, place, chain, assigned, runs, all_runs, declared, copied, program_runs, leaks}
use Rattle.kf_core.specs.Support.{StoreSet, Passed, assign_pass, pass, all_pass, declare_pass, program_pass}
use Rattle.kf_core.specs.SupportLaws.{Agrees, PassAgrees, BlockAgrees, ProgramAgrees, FaultIsOfARun}
use Rattle.kf_core.proofs.Among.{any_from_among, among_from_any}
use Rattle.kf_core.proofs.RunEnds.{End, HasEnd, all_end, none_halts}
use Rattle.kf_core.proofs.PassTells.{Tells, From, Holds, tells_same, from_first, first_from, from_moved, moved_from}
use Rattle.kf_core.proofs.PassFollows.{Follows, stay_follows, chain_follows, guard_follows, observe_follows, assign_follows, loop_follows}
use Rattle.kf_core.specs.Leaks.{silent}

-- ---- statements, blocks and declarations

module _ (ts : List TypeTree) (turns : ℕ) where
  mutual
    pub pass_follows : (x : StTree) → Follows (pass ts turns x) (runs ts turns x)
    pass_follows Skip = stay_follows
    pass_follows (Assign i d visible) = assign_follows (leaks visible) ts i d
    pass_follows (Observe d) = observe_follows (tried ts d)
    pass_follows (If d xs ys) =
        guard_follows (tried ts d) (all_pass ts turns xs) (all_pass ts turns ys) (all_runs ts turns xs) (all_runs ts turns ys) (all_follow xs) (all_follow ys)
    pass_follows (While d xs) = loop_follows (tried ts d) (place d) (all_pass ts turns xs) (all_runs ts turns xs) (all_follow xs) turns

    pub all_follow : (xs : StTrees) → Follows (all_pass ts turns xs) (all_runs ts turns xs)
    all_follow no_sts = stay_follows
    all_follow (more_sts x xs) = chain_follows (pass ts turns x) (all_pass ts turns xs) (runs ts turns x) (all_runs ts turns xs) (pass_follows x) (all_follow xs)

declare_follows : (ts : List TypeTree) (i : ℕ) (ds : List DxTree) → Follows (declare_pass ts i ds) (declared ts i ds)
declare_follows ts i [] = stay_follows
declare_follows ts i (d ∷ ds) = chain_follows (assign_pass ts i d) (declare_pass ts (suc i) ds) (assigned silent ts i d) (declared ts (suc i) ds) (assign_follows silent ts i d) (declare_follows ts (suc i) ds)

-- ---- in the words of contracts

module _ (S : End → Type 0) where
  ok_safe : (p : Passed StoreSet) → Tells Holds p S → IsOk p → (f : Halted) → S (Err f) → ⊥
  ok_safe (Ok ms) h is = h.0
  ok_safe (Err f) h is = absurd (true≢false (sym is))

  safe_ok : (p : Passed StoreSet) → Tells Holds p S → ((f : Halted) → S (Err f) → ⊥) → IsOk p
  safe_ok (Ok ms) h safe = refl
  safe_ok (Err f) h safe = absurd (safe f h)

  reached_ends : (p : Passed StoreSet) (ms : StoreSet) → Tells Holds p S → p ≡ Ok ms → (m : ℕ) → Holds ms m ↔ S (Ok m)
  reached_ends p ms h is = let r : Tells Holds (Ok ms) S = subst (λ (q : Passed StoreSet). Tells Holds q S) is h in r.1

  told_end : (p : Passed StoreSet) (f : Halted) → Tells Holds p S → p ≡ Err f → S (Err f)
  told_end p f h is = subst (λ (q : Passed StoreSet). Tells Holds q S) is h

module _ (f : StoreSet → Passed StoreSet) (a : ℕ → List Run) (follows : Follows f a) where
  pub agrees : Agrees f a
  agrees = record {
    clear = λ ns. (
      λ is n c. all_end (a n) (λ e h. ok_safe (From Holds ns (λ k. HasEnd (a k))) (f ns) (follows ns) is e (n, c, h)),
      λ all. safe_ok (From Holds ns (λ k. HasEnd (a k))) (f ns) (follows ns) (λ e r. none_halts (a r.0) (all r.0 r.1) e r.2),
    );
    reached = λ ns ms is m. (
      λ c. let r = (reached_ends (From Holds ns (λ k. HasEnd (a k))) (f ns) ms (follows ns) is m).0 c in (r.0, r.1, any_from_among (λ x. x.end ≡ Ok m) (a r.0) r.2),
      λ r. (reached_ends (From Holds ns (λ k. HasEnd (a k))) (f ns) ms (follows ns) is m).1 (r.0, r.1, among_from_any (λ x. x.end ≡ Ok m) (a r.0) r.2),
    );
    told = λ ns fault is.
        let r = told_end (From Holds ns (λ k. HasEnd (a k))) (f ns) fault (follows ns) is in
        (r.0, r.1, any_from_among (λ x. x.end ≡ Err fault) (a r.0) r.2);
  }

pub pass_agrees : PassAgrees
pass_agrees ts turns x = agrees (pass ts turns x) (runs ts turns x) (pass_follows ts turns x)

pub block_agrees : BlockAgrees
block_agrees ts turns xs = agrees (all_pass ts turns (sts xs)) (all_runs ts turns (sts xs)) (all_follow ts turns (sts xs))

-- ---- programs

module _ (turns : ℕ) (p : ProgramTree) where
  abbrev body_pass : StoreSet → Passed StoreSet
  body_pass ns = all_pass p.types turns (sts p.body) (from_list (map (copied p) (items ns)))

  abbrev body_runs : ℕ → List Run
  body_runs n = all_runs p.types turns (sts p.body) (copied p n)

  body_follows : Follows body_pass body_runs
  body_follows ns =
      tells_same Holds (From Holds (from_list (map (copied p) (items ns))) (λ n. HasEnd (all_runs p.types turns (sts p.body) n))) (From Holds ns (λ n. HasEnd (body_runs n)))
      (λ e. from_moved (λ n. HasEnd (all_runs p.types turns (sts p.body) n)) e (copied p) ns)
      (λ e. moved_from (λ n. HasEnd (all_runs p.types turns (sts p.body) n)) e (copied p) ns)
      (body_pass ns)
      (all_follow p.types turns (sts p.body) (from_list (map (copied p) (items ns))))

  program_tells : Tells Holds (program_pass turns p) (HasEnd (program_runs turns p))
  program_tells =
      tells_same Holds (From Holds (from_list (0 ∷ [])) (λ n. HasEnd (chain (declared p.types 0 p.decls n) body_runs))) (HasEnd (program_runs turns p))
      (λ e. from_first (λ n. HasEnd (chain (declared p.types 0 p.decls n) body_runs)) e 0)
      (λ e. first_from (λ n. HasEnd (chain (declared p.types 0 p.decls n) body_runs)) e 0)
      (program_pass turns p)
      (chain_follows (declare_pass p.types 0 p.decls) body_pass (declared p.types 0 p.decls) body_runs (declare_follows p.types 0 p.decls) body_follows (from_list (0 ∷ [])))

pub program_agrees : ProgramAgrees
program_agrees turns p =
    let rs = program_runs turns p in
    let tells = program_tells turns p in (
      (
        λ is. all_end rs (ok_safe (HasEnd rs) (program_pass turns p) tells is),
        λ all. safe_ok (HasEnd rs) (program_pass turns p) tells (none_halts rs all),
      ),
      λ ms is m. (
        λ c. any_from_among (λ x. x.end ≡ Ok m) rs ((reached_ends (HasEnd rs) (program_pass turns p) ms tells is m).0 c),
        λ h. (reached_ends (HasEnd rs) (program_pass turns p) ms tells is m).1 (among_from_any (λ x. x.end ≡ Ok m) rs h),
      ),
    )

pub fault_is_of_a_run : FaultIsOfARun
fault_is_of_a_run turns p f is =
    let rs = program_runs turns p in
    any_from_among (λ x. x.end ≡ Err f) rs (told_end (HasEnd rs) (program_pass turns p) f (program_tells turns p) is)
