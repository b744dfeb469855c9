-- The reported fault is that of the shortest prefix of the statements which has one.
use Rattle.std.proofs.Common.{◌≡◌, ℕ, zero, suc, ◌+◌, ◌-◌, ◌≤◌, List, [], ◌∷◌, take, length, map, Ok, Err, refl, sym, ap, subst, ◌∙◌, true≢false, arith}
use Rattle.std.specs.Prelude.{is_ok, IsOk}
use Rattle.std.specs.FinSet.{from_list, items}
use Rattle.std.proofs.Math.Seq.{take-length}
use Rattle.std.proofs.lemmas.List.{take_all}
use Rattle.kf_value.specs.Types.{TypeTree}
use Rattle.kf_core.specs.Results.{then_ok}
use Rattle.kf_core.specs.Programs.{ProgramTree}
use Rattle.kf_core.specs.Runs.{Halted, copied}
use Rattle.kf_core.specs.Sts.{StTree, sts}
use Rattle.kf_core.specs.Support.{Passed, StoreSet, pass, all_pass, declare_pass, program_pass}
use Rattle.kf_core.specs.SupportLaws.{FaultIsOfARun, ProgramAgrees}
use Rattle.kf_meaning.specs.Faults.{BlockFaultIsFirst, FirstFaultOfProgram, FirstFaultOfRuns, IsFirst, NoFaultBefore, front}

not_both : (ns : StoreSet) (g : Halted) (q : Passed StoreSet) → q ≡ Ok ns → q ≡ Err g → ⊥
not_both ns g q ok err = true≢false (ap is_ok (sym ok ∙ err))

-- ---- answers of which a fault stays

module _ (passed : ℕ → Passed StoreSet) (stays : (i : ℕ) (g : Halted) → passed i ≡ Err g → passed (suc i) ≡ Err g) where
  stays_by : (d i k : ℕ) (g : Halted) → k ≡ d + i → passed i ≡ Err g → passed k ≡ Err g
  stays_by zero i k g is h = let e : i ≡ k = omega (arith, is) in subst (λ n. passed n ≡ Err g) e h
  stays_by (suc d) i k g is h =
      let e : suc (d + i) ≡ k = omega (arith, is) in subst (λ n. passed n ≡ Err g) e (stays (d + i) g (stays_by d i (d + i) g refl h))

  stays_up_to : (i k : ℕ) (g : Halted) → i ≤ k → passed i ≡ Err g → passed k ≡ Err g
  stays_up_to i k g less h = stays_by (k - i) i k g (omega (arith, less)) h

  ok_by : (k : ℕ) (ms : StoreSet) (j : ℕ) (q : Passed StoreSet) → passed k ≡ Ok ms → j ≤ k → passed j ≡ q → IsOk q
  ok_by k ms j (Ok ns) ok less was = refl
  ok_by k ms j (Err g) ok less was = absurd (not_both ms g (passed k) ok (stays_up_to j k g less was))

  first_by : (k : ℕ) (f : Halted) (q : Passed StoreSet) → passed k ≡ q → passed (suc k) ≡ Err f
      → (passed k ≡ Err f → (i : ℕ) × IsFirst passed f i) → (i : ℕ) × IsFirst passed f i
  first_by k f (Ok ms) was is earlier =
      (suc k, record { here = is; before = λ j less. ok_by k ms j (passed j) was (omega (arith, less)) refl })
  first_by k f (Err g) was is earlier = earlier (was ∙ (sym (stays k g was) ∙ is))

  first_of : (k : ℕ) (f : Halted) → passed k ≡ Err f → (i : ℕ) × IsFirst passed f i
  first_of zero f is = (zero, record { here = is; before = λ j less. absurd (omega (arith, less)) })
  first_of (suc k) f is = first_by k f (passed k) refl is (first_of k f)

  ok_before : (k : ℕ) (q : Passed StoreSet) → passed k ≡ q → IsOk q → (j : ℕ) → j ≤ k → IsOk (passed j)
  ok_before k (Ok ms) was ok j less = ok_by k ms j (passed j) was less refl
  ok_before k (Err g) was ok j less = absurd (true≢false (sym ok))

-- ---- blocks

then_stays : (g : Halted) (q : Passed StoreSet) (next more : StoreSet → Passed StoreSet) → ((ms : StoreSet) → next ms ≡ Err g → more ms ≡ Err g)
    → then_ok q next ≡ Err g → then_ok q more ≡ Err g
then_stays g (Ok ms) next more stays h = stays ms h
then_stays g (Err e) next more stays h = h

module _ (ts : List TypeTree) (turns : ℕ) where
  block_stays : (xs : List StTree) (i : ℕ) (g : Halted) (ns : StoreSet)
      → all_pass ts turns (sts (take i xs)) ns ≡ Err g → all_pass ts turns (sts (take (suc i) xs)) ns ≡ Err g
  block_stays xs zero g ns h = absurd (not_both ns g (Ok ns) refl h)
  block_stays [] (suc i) g ns h = h
  block_stays (x ∷ xs) (suc i) g ns h =
      then_stays g (pass ts turns x ns) (all_pass ts turns (sts (take i xs))) (all_pass ts turns (sts (take (suc i) xs)))
      (λ ms. block_stays xs i g ms) h

pub block_fault_is_first : BlockFaultIsFirst
block_fault_is_first ts turns xs ns f is =
    first_of (λ j. all_pass ts turns (sts (take j xs)) ns) (λ i g. block_stays ts turns xs i g ns) (length xs) f
    (ap (λ ys. all_pass ts turns (sts ys) ns) (take-length xs) ∙ is)

-- ---- programs

module _ (turns : ℕ) (p : ProgramTree) where
  abbrev fronts : ℕ → Passed StoreSet
  fronts j = program_pass turns (front j p)

  fronts_stay : (i : ℕ) (g : Halted) → fronts i ≡ Err g → fronts (suc i) ≡ Err g
  fronts_stay i g h =
      then_stays g (declare_pass p.types 0 p.decls (from_list (0 ∷ [])))
      (λ ns. all_pass p.types turns (sts (take i p.body)) (from_list (map (copied p) (items ns))))
      (λ ns. all_pass p.types turns (sts (take (suc i) p.body)) (from_list (map (copied p) (items ns))))
      (λ ns. block_stays p.types turns p.body i g (from_list (map (copied p) (items ns)))) h

  -- a front beyond the last statement is the whole
  whole_front : (j : ℕ) → length p.body ≤ j → fronts j ≡ program_pass turns p
  whole_front j beyond =
      ap (λ xs. then_ok (declare_pass p.types 0 p.decls (from_list (0 ∷ []))) (λ ns. all_pass p.types turns (sts xs) (from_list (map (copied p) (items ns)))))
      (take_all j p.body beyond)

  ok_at_all : IsOk (program_pass turns p) → (i : ℕ) → IsOk (fronts i)
  ok_at_all ok i =
      let all = whole_front (length p.body + i) (omega arith) in
      ok_before fronts fronts_stay (length p.body + i) (program_pass turns p) all ok i (omega arith)

pub first_fault_of_program : FirstFaultOfProgram
first_fault_of_program turns p f is = first_of (fronts turns p) (fronts_stay turns p) (length p.body) f (whole_front turns p (length p.body) (omega arith) ∙ is)

-- ---- no fault at all

pub no_fault_before : NoFaultBefore
no_fault_before turns p = (ok_at_all turns p, λ all. subst IsOk (whole_front turns p (length p.body) (omega arith)) (all (length p.body)))

pub first_fault_of_runs : ProgramAgrees → FaultIsOfARun → FirstFaultOfRuns
first_fault_of_runs agrees fault turns p f is =
    let r = first_fault_of_program turns p f is in
    (r.0, fault turns (front r.0 p) f r.1.here, λ j less. (agrees turns (front j p)).0.0 (r.1.before j less))
