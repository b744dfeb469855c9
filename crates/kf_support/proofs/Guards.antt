-- Guards: the stores that take each side, branches and loops.
use Rattle.std.proofs.Common.{◌≡◌, ℕ, ◌<◌, List, [], ◌∷◌, Ok, Err, refl, sym, ap, subst, ◌∙◌, arith, ◌↔◌, Bool, true, false, true≢false, ◌&&◌, nat_eq, eqb-true}
use Rattle.std.specs.Prelude.{if◌then◌else◌}
use Rattle.std.specs.List.{AllByRecursion as Each}
use Rattle.std.specs.FinSet.{contains, contains-retain, from_list, union}
use Rattle.std.specs.FinMap.{nat_cmp-IsAntisymmetric}
use Rattle.std.specs.Map.{keys_of}
use Rattle.std.proofs.lemmas.List.Sums.{sum_by-cons}
use Rattle.kf_value.proofs.ListLemmas.{each_any}
use Rattle.kf_core.specs.Choices.{Weighted, total}
use Rattle.kf_core.specs.Runs.{Run, Tried, guarded}
use Rattle.kf_core.specs.Results.{then_ok}
use Rattle.kf_core.specs.Support.{StoreSet, Passed, same, can_be, where_guard, either_pass, guard_pass}
use Rattle.kf_core.proofs.Scales.{Weighty}
use Rattle.kf_core.specs.Each.{each_pass}
use Rattle.kf_support.specs.Carried.{Reached, with_all, carry_step, guard_lead}
use Rattle.kf_support.proofs.Placing.{through, back, beside, each_same, each_pair, each_same_where, Good, Fits, Works, Positive, Lands, Stepped, stepped, good_positive, all_good, all_fit}
use Rattle.kf_support.proofs.Leading.{Leads, leads_nice, guard_to, leads_guarded, stays_if}
use Rattle.kf_support.proofs.Sets.{set_of, NotAt, not_at_nice, Out, keys_out, union_out, same_sets}
use Rattle.kf_support.proofs.Following.{SameFault, step_faults, Told, Carries, step_is, alone}

-- ---- one guard

pub total_positive : (ws : List Weighted) → Each (λ w. 0 < w.weight) ws → (n : ℕ) → Each (λ m. 0 < total ws) (if can_be true (Ok ws) then n ∷ [] else []) × Each (λ m. 0 < total ws) (if can_be false (Ok ws) then n ∷ [] else [])
total_positive [] h n = (tt, tt)
total_positive (w ∷ ws) h n =
    let head : 0 < w.weight = h.0 in
    let some : 0 < total (w ∷ ws) = omega (arith, head, sum_by-cons (λ (u : Weighted). u.weight) w ws) in
    (each_any (λ m. 0 < total (w ∷ ws)) (λ m. some) (if can_be true (Ok (w ∷ ws)) then n ∷ [] else []), each_any (λ m. 0 < total (w ∷ ws)) (λ m. some) (if can_be false (Ok (w ∷ ws)) then n ∷ [] else []))

pub guard_positive : (b : Bool) (n : ℕ) (g : Tried) → Weighty g → Positive (guard_to b n g)
guard_positive true n (Ok ws) h = (total_positive ws h n).0
guard_positive false n (Ok ws) h = (total_positive ws h n).1
guard_positive b n (Err f) h = tt

guard_faults : (b : Bool) (n : ℕ) (g : Tried) → SameFault (guard_to b n g) (same n g)
guard_faults b n (Ok ws) = tt
guard_faults b n (Err f) = refl

pub guard_works : (b : Bool) (n : ℕ) (g : Tried) → Works (guard_to b n g) → Works g
guard_works b n (Ok ws) h = tt
guard_works b n (Err f) h = h

guard_lands_out : (b : Bool) (g : Tried) (n m v : ℕ) → Lands (guard_to b n g) (NotAt m) v ↔ (can_be b g ≡ true → nat_eq n m ≡ false)
guard_lands_out b (Ok ws) n m v = stays_if (λ k. nat_eq k m ≡ false) n (can_be b (Ok ws))
guard_lands_out true (Err f) n m v = (λ h e. absurd (true≢false (sym e)), λ h. tt)
guard_lands_out false (Err f) n m v = (λ h e. absurd (true≢false (sym e)), λ h. tt)

-- ---- the stores where a guard can have the value

and_out : (a b : Bool) → (a && b ≡ false) ↔ (b ≡ true → a ≡ false)
and_out true true = (λ h e. h, λ h. h refl)
and_out true false = (λ h e. absurd (true≢false (sym e)), λ h. refl)
and_out false b = (λ h e. refl, λ h. refl)

module _ (can : ℕ → Bool) (m : ℕ) where
  one_out_at : (n : ℕ) (t : Bool) → nat_eq n m ≡ t → (can m ≡ true → t ≡ false) ↔ (can n ≡ true → t ≡ false)
  one_out_at n true is = let e = eqb-true n m is in (λ h c. h (ap can (sym e) ∙ c), λ h c. h (ap can e ∙ c))
  one_out_at n false is = (λ h c. refl, λ h c. refl)

  one_out : (n : ℕ) → (can m ≡ true → nat_eq n m ≡ false) ↔ (can n ≡ true → nat_eq n m ≡ false)
  one_out n = one_out_at n (nat_eq n m) refl

  pulled : (P : Type 0) (es : Reached) → (P → Fits (NotAt m) es) ↔ Each (λ e. P → nat_eq e.0 m ≡ false) es
  pulled P [] = (λ h. tt, λ h p. tt)
  pulled P (e ∷ es) = let l = pulled P es in (λ h. (λ p. (h p).0, l.0 (λ p. (h p).1)), λ h p. (h.0 p, l.1 h.1 p))

  under : {P A B : Type 0} → A ↔ B → (P → A) ↔ (P → B)
  under f = (λ h p. f.0 (h p), λ h p. f.1 (h p))

  pub where_out : (es : Reached) → (can m ≡ true → Out m (set_of es)) ↔ Each (λ e. can e.0 ≡ true → nat_eq e.0 m ≡ false) es
  where_out es =
      through (under (keys_out m es)) (through (pulled (can m ≡ true) es)
      (each_same (λ (e : ℕ × ℕ). can m ≡ true → nat_eq e.0 m ≡ false) (λ (e : ℕ × ℕ). can e.0 ≡ true → nat_eq e.0 m ≡ false) (λ e. one_out e.0) es))

module _ (b : Bool) (guard : ℕ → Tried) where
  retained_out : (m : ℕ) (ns : StoreSet) → Out m (where_guard b guard ns) ↔ (can_be b (guard m) ≡ true → Out m ns)
  retained_out m ns =
      let e = contains-retain ns (λ k. can_be b (guard k)) m (λ x tied. ap (λ k. can_be b (guard k)) (sym (nat_cmp-IsAntisymmetric m x tied))) in
      through (λ h. sym e ∙ h, λ h. e ∙ h) (and_out (contains ns m) (can_be b (guard m)))

  pub guard_out : (m : ℕ) (es : Reached) → Each (λ e. Lands (guard_to b e.0 (guard e.0)) (NotAt m) e.1) es ↔ Out m (where_guard b guard (set_of es))
  guard_out m es =
      through (each_same (λ (e : ℕ × ℕ). Lands (guard_to b e.0 (guard e.0)) (NotAt m) e.1) (λ (e : ℕ × ℕ). can_be b (guard e.0) ≡ true → nat_eq e.0 m ≡ false)
      (λ e. guard_lands_out b (guard e.0) e.0 m e.1) es)
      (through (back (where_out (λ n. can_be b (guard n)) m es)) (back (retained_out m (set_of es))))

  pub guard_set : (es on : Reached) → Stepped (guard_lead b guard) [] es (Ok on) → set_of on ≡ where_guard b guard (set_of es)
  guard_set es on h =
      same_sets (set_of on) (where_guard b guard (set_of es))
      (λ m. through (keys_out m on) (through (h.2 (NotAt m) (not_at_nice m)) (through alone (guard_out m es))))

-- ---- branches

module _ (guard : ℕ → Tried) (weighty : (n : ℕ) → Weighty (guard n)) where
  pub guard_stepped : (b : Bool) (acc es : Reached) → Good acc → Good es → Stepped (guard_lead b guard) acc es (carry_step (guard_lead b guard) acc es)
  guard_stepped b acc es acc_good good = stepped (guard_lead b guard) (λ n. guard_positive b n (guard n) (weighty n)) acc es acc_good (good_positive es good)

  pub guard_step_faults : (b : Bool) (acc es : Reached) → SameFault (carry_step (guard_lead b guard) acc es) (each_pass (λ n. same n (guard n)) (keys_of es))
  guard_step_faults b acc es = step_faults (guard_lead b guard) (λ n. same n (guard n)) (λ n. guard_faults b n (guard n)) acc es

  -- where both sides go on
  pub guard_fits : (a b : ℕ → List Run) (k : ℕ) (Q : ℕ → ℕ → Type 0) (es : Reached) → Each (λ e. Works (guard_lead true guard e.0)) es
      → Fits (λ n v. Leads k Q (guarded guard a b n) v) es
      ↔ (Each (λ e. Lands (guard_lead true guard e.0) (λ n v. Leads k Q (a n) v) e.1) es × Each (λ e. Lands (guard_lead false guard e.0) (λ n v. Leads k Q (b n) v) e.1) es)
  guard_fits a b k Q es works =
      through (each_same_where (λ (e : ℕ × ℕ). Works (guard_lead true guard e.0)) (λ (e : ℕ × ℕ). Leads k Q (guarded guard a b e.0) e.1)
      (λ (e : ℕ × ℕ). Lands (guard_lead true guard e.0) (λ n v. Leads k Q (a n) v) e.1 × Lands (guard_lead false guard e.0) (λ n v. Leads k Q (b n) v) e.1)
      (λ e w. leads_guarded k Q a b e.0 e.1 (guard e.0) (guard_works true e.0 (guard e.0) w)) es works)
      (each_pair (λ (e : ℕ × ℕ). Lands (guard_lead true guard e.0) (λ n v. Leads k Q (a n) v) e.1) (λ (e : ℕ × ℕ). Lands (guard_lead false guard e.0) (λ n v. Leads k Q (b n) v) e.1) es)

  module _ (f f' : Reached → Passed Reached) (g g' : StoreSet → Passed StoreSet) (a b : ℕ → List Run) (taken : Carries f g a) (left : Carries f' g' b) (es : Reached) where
    abbrev From : ℕ → List Run
    From = guarded guard a b

    module _ (on off : Reached) (h : Stepped (guard_lead true guard) [] es (Ok on)) (h' : Stepped (guard_lead false guard) [] es (Ok off)) where
      both_sides : (x y : Passed Reached) (p q : Passed StoreSet) → Told p a on x → Told q b off y
          → Told (either_pass p q) From es (then_ok x (λ one. then_ok y (λ other. Ok (with_all one other))))
      both_sides (Ok one) (Ok other) p q t u = (
        all_good one other t.0 (good_positive other u.0),
        (let l = t.1 in let r = u.1 in λ i. either_pass (l i) (r i)) ∙ (let e = joined in λ i. Ok (e i)),
        λ k low high Q nice.
            through (guard_fits a b k Q es h.1)
            (through (beside (back (through (h.2 (λ n v. Leads k Q (a n) v) (leads_nice k low high Q nice a)) alone)) (back (through (h'.2 (λ n v. Leads k Q (b n) v) (leads_nice k low high Q nice b)) alone)))
            (through (beside (t.2 k low high Q nice) (u.2 k low high Q nice)) (back (all_fit Q nice one other t.0 (good_positive other u.0))))),
      )
        where
          joined : union (set_of one) (set_of other) ≡ set_of (with_all one other)
          joined =
              same_sets (union (set_of one) (set_of other)) (set_of (with_all one other))
              (λ m. through (union_out m (set_of one) (set_of other))
              (through (beside (keys_out m one) (keys_out m other)) (back (through (keys_out m (with_all one other)) (all_fit (NotAt m) (not_at_nice m) one other t.0 (good_positive other u.0))))))
      both_sides (Ok one) (Err e) p q t u = ((let l = t.1 in let r = u.0 in λ i. either_pass (l i) (r i)), tt)
      both_sides (Err e) y p q t u = ((let l = t.0 in λ i. either_pass (l i) q), tt)

      on_off : Told (either_pass (g (where_guard true guard (set_of es))) (g' (where_guard false guard (set_of es)))) From es
          (then_ok (f on) (λ one. then_ok (f' off) (λ other. Ok (with_all one other))))
      on_off =
          both_sides (f on) (f' off) (g (where_guard true guard (set_of es))) (g' (where_guard false guard (set_of es)))
          (subst (λ (ns : StoreSet). Told (g ns) a on (f on)) (guard_set true guard es on h) (taken on h.0))
          (subst (λ (ns : StoreSet). Told (g' ns) b off (f' off)) (guard_set false guard es off h') (left off h'.0))

    told_guard : (x y : Passed Reached) (q : Passed (List ℕ)) → Stepped (guard_lead true guard) [] es x → Stepped (guard_lead false guard) [] es y → SameFault x q → SameFault y q
        → Told (then_ok (then_ok q (λ ms. Ok (from_list ms))) (λ (ns : StoreSet). either_pass (g (where_guard true guard (set_of es))) (g' (where_guard false guard (set_of es))))) From es
        (then_ok x (λ on. then_ok y (λ off. then_ok (f on) (λ one. then_ok (f' off) (λ other. Ok (with_all one other))))))
    told_guard (Ok on) (Ok off) (Ok ms) h h' s s' = on_off on off h h'
    told_guard (Ok on) (Err e) (Ok ms) h h' s s' = absurd s'
    told_guard (Ok on) y (Err e) h h' s s' = absurd s
    told_guard (Err e) y (Ok ms) h h' s s' = absurd s
    told_guard (Err e) y (Err e') h h' s s' = (λ i. Err (sym s i), tt)

    pub guard_told : Good es → Told (guard_pass guard g g' (set_of es)) From es
        (then_ok (carry_step (guard_lead true guard) [] es) (λ on. then_ok (carry_step (guard_lead false guard) [] es) (λ off. then_ok (f on) (λ one. then_ok (f' off) (λ other. Ok (with_all one other))))))
    guard_told good =
        subst (λ (p : Passed StoreSet). Told (then_ok p (λ (ns : StoreSet). either_pass (g (where_guard true guard (set_of es))) (g' (where_guard false guard (set_of es))))) From es
        (then_ok (carry_step (guard_lead true guard) [] es) (λ on. then_ok (carry_step (guard_lead false guard) [] es) (λ off. then_ok (f on) (λ one. then_ok (f' off) (λ other. Ok (with_all one other)))))))
        (sym (step_is (λ n. same n (guard n)) es good))
        (told_guard (carry_step (guard_lead true guard) [] es) (carry_step (guard_lead false guard) [] es) (each_pass (λ n. same n (guard n)) (keys_of es))
        (guard_stepped true [] es tt good) (guard_stepped false [] es tt good) (guard_step_faults true [] es) (guard_step_faults false [] es))
