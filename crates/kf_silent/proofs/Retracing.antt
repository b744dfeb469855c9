-- The cells of runs whose traces are decided by those of others are the cells of these, with a function on their traces.
use Rattle.std.proofs.Common.{◌≡◌, ℕ, ◌*◌, ◌/◌, Bool, true, false, List, [], ◌∷◌, Result, Ok, Err, refl, sym, ap, subst}
use Rattle.std.specs.Prelude.{IsOk, if◌then◌else◌}
use Rattle.std.specs.Cmp.Lexicographic.{pointwise}
use Rattle.std.specs.List.{AllZip}
use Rattle.kf_value.specs.Values.{is_equal}
use Rattle.kf_core.specs.Joint.{Cell, cell_of, cells, target_number}
use Rattle.kf_core.specs.Runs.{Run, Halted}
use Rattle.kf_core.specs.Scale.{scale_of}
use Rattle.kf_core.proofs.Stores.{lists_decide}
use Rattle.kf_push.proofs.CellWeights.{Trace}
use Rattle.kf_push.proofs.Members.{ending}
use Rattle.kf_silent.specs.Laws.{LeftOfTraces, retraced}
use Rattle.kf_silent.specs.Silent.{silent_joint}
use Rattle.kf_silent.specs.Paths.{silent_program_runs}
use Rattle.kf_silent.proofs.Leaving.{AreLike, Decides, Left, zip_append}
use Rattle.kf_silent.proofs.SilentLeads.{program_leads}

-- ---- cells that differ in their traces

record IsLeft (P : Left) (c d : Cell) : Type 0 where
  values : c.value ≡ d.value
  weights : c.weight ≡ d.weight
  traces : P c.trace d.trace

abbrev AreLeft : Left → List Cell → List Cell → Type 0
AreLeft P cs ds = AllZip (IsLeft P) cs ds

module _ (number : ℕ → ℕ) (scale : ℕ) (P : Left) where
  run_left : (r q : Run) → r.weight ≡ q.weight → r.scale ≡ q.scale → (x : Result ℕ Halted) → (IsOk x → P r.trace q.trace)
      → AreLeft P (cell_of number scale (ending r x)) (cell_of number scale (ending q x))
  run_left r q weights scales (Ok n) traces = (record { values = refl; weights = λ i. weights i * scale / scales i; traces = traces refl }, tt)
  run_left r q weights scales (Err f) traces = tt

  runs_left : (rs qs : List Run) → AreLike P rs qs → AreLeft P (cells number scale rs) (cells number scale qs)
  runs_left [] [] h = tt
  runs_left [] (q ∷ qs) h = absurd h
  runs_left (r ∷ rs) [] h = absurd h
  runs_left (r ∷ rs) (q ∷ qs) h =
      let first : AreLeft P (cell_of number scale r) (cell_of number scale q) =
      subst (λ (x : Result ℕ Halted). AreLeft P (cell_of number scale r) (cell_of number scale (ending q x))) h.0.ends
      (run_left r q h.0.weights h.0.scales r.end h.0.traces) in
      zip_append (IsLeft P) (cell_of number scale r) (cells number scale rs) (cell_of number scale q) (cells number scale qs) first (runs_left rs qs h.1)

-- ---- the function

-- what the first of these cells with the trace leaves of it
abbrev left_at : List Cell → List Cell → Trace → Trace
left_at [] ds t = t
left_at (c ∷ cs) [] t = t
left_at (c ∷ cs) (d ∷ ds) t = if pointwise is_equal c.trace t then d.trace else left_at cs ds t

module _ (P : Left) (decide : Decides P) where
  by_test : (t u v w : Trace) (b : Bool) → (b ≡ true → t ≡ u) → P t v → P u w → (rest : Trace) → w ≡ rest → w ≡ (if b then v else rest)
  by_test t u v w true told p q rest is = decide u w v q (subst (λ (s : Trace). P s v) (told refl) p)
  by_test t u v w false told p q rest is = is

  -- the cells with this function on their traces, which is that of some more cells, begun before them
  retraced_is : (f : Trace → Trace) (cs ds : List Cell) → AreLeft P cs ds → (c d : Cell) → IsLeft P c d → ds ≡ retraced f cs
      → ds ≡ retraced (λ t. if pointwise is_equal c.trace t then d.trace else f t) cs
  retraced_is f [] ds h c d one is = is
  retraced_is f (e ∷ es) [] h c d one is = absurd h
  retraced_is f (e ∷ es) (g ∷ gs) h c d one is =
      let trace : g.trace ≡ f e.trace = cc in
      let others : gs ≡ retraced f es = cc in
      let here : g.trace ≡ (if pointwise is_equal c.trace e.trace then d.trace else f e.trace) =
      by_test c.trace e.trace d.trace g.trace (pointwise is_equal c.trace e.trace) (λ b. (lists_decide c.trace e.trace).0 b) one.traces h.0.traces (f e.trace) trace in
      let values = h.0.values in
      let weights = h.0.weights in
      let rest = retraced_is f es gs h.1 c d one others in
      λ i. record { trace = here i; value = sym values i; weight = sym weights i } ∷ rest i

  all_retraced : (cs ds : List Cell) → AreLeft P cs ds → ds ≡ retraced (left_at cs ds) cs
  all_retraced [] [] h = refl
  all_retraced [] (d ∷ ds) h = absurd h
  all_retraced (c ∷ cs) [] h = absurd h
  all_retraced (c ∷ cs) (d ∷ ds) h =
      let own : d.trace ≡ (if pointwise is_equal c.trace c.trace then d.trace else left_at cs ds c.trace) =
      ap (λ (b : Bool). if b then d.trace else left_at cs ds c.trace) (sym ((lists_decide c.trace c.trace).1 refl)) in
      let values = h.0.values in
      let weights = h.0.weights in
      let rest = retraced_is (left_at cs ds) cs ds h.1 c d h.0 (all_retraced cs ds h.1) in
      λ i. record { trace = own i; value = sym values i; weight = sym weights i } ∷ rest i

pub left_of_traces : LeftOfTraces
left_of_traces silent more turns p too =
    let leads = program_leads silent more turns p too in
    let zipped = runs_left (target_number p) (scale_of turns p) leads.Leaves (silent_program_runs silent turns p) (silent_program_runs more turns p) (leads.like 0) in (
      left_at (silent_joint silent turns p) (silent_joint more turns p),
      all_retraced leads.Leaves leads.decide (silent_joint silent turns p) (silent_joint more turns p) zipped,
    )
