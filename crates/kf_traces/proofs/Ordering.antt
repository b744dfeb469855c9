-- Traced states ascend by their traces, each trace unlike the next at some place of both.
use Rattle.std.proofs.Common.{◌≡◌, ℕ, zero, suc, ◌*◌, ◌/◌, Bool, true, false, List, [], ◌∷◌, ◌++◌, map, Option, Some, None, Ok, Err, refl, sym, ap, subst, ◌∙◌, append_assoc, append-nil, ◌⊎◌, inl, inr}
use Rattle.std.specs.Prelude.{if◌then◌else◌}
use Rattle.std.specs.Ordering.{match_ordering, ordering_reverse}
use Rattle.std.specs.declared.cmp.Ordering.{Ordering}
use Rattle.std.specs.declared.cmp.Ordering.TheVariants.{Less, Equal, Greater}
use Rattle.std.specs.List.{AllByRecursion as Each, flat_map}
use Rattle.std.specs.List.Sorted.{IsStrictlySortedBy}
use Rattle.kf_value.specs.Types.{TypeTree}
use Rattle.kf_value.specs.Values.{ValueTree, order, lexicographic, truth}
use Rattle.kf_value.proofs.ListLemmas.{each_append, each_weaker}
use Rattle.kf_value.proofs.Orders.{flip, goes_on, order-itself, first_less, then_less}
use Rattle.kf_value.proofs.Sorting.{sorted-nil, sorted-cons}
use Rattle.kf_core.specs.Choices.{Weighted, total}
use Rattle.kf_core.specs.Dxs.{DxTree}
use Rattle.kf_core.specs.Sts.{StTree, StTrees, Skip, Assign, Observe, If, While, no_sts, more_sts, sts}
use Rattle.kf_core.specs.Programs.{ProgramTree}
use Rattle.kf_core.specs.Runs.{Tried, tried}
use Rattle.kf_column.specs.Traces.{trace_order}
use Rattle.kf_traces.specs.Views.{PartsAscend}
use Rattle.kf_traces.specs.Traced.{Weights, Traced, Lead, Part, unmoved, into, with_weight, with_part, with_share, with_shares, parted, split, behind, branches, alone, gone, assign_traced, guard_traced, loop_traced, traced, all_traced, declared_traced, copied_traced, program_traced}

-- ---- values at a first difference

abbrev pub Below : List ValueTree → List ValueTree → Type 0
Below [] us = ⊥
Below (v ∷ vs) [] = ⊥
Below (v ∷ vs) (u ∷ us) = (order v u ≡ Less) ⊎ ((v ≡ u) × Below vs us)

below_on : (vs us xs ys : List ValueTree) → Below vs us → Below (vs ++ xs) (us ++ ys)
below_on [] us xs ys h = absurd h
below_on (v ∷ vs) [] xs ys h = absurd h
below_on (v ∷ vs) (u ∷ us) xs ys (inl h) = inl h
below_on (v ∷ vs) (u ∷ us) xs ys (inr h) = inr (h.0, below_on vs us xs ys h.1)

below_behind : (t : List ValueTree) (v u : ValueTree) → order v u ≡ Less → Below (t ++ v ∷ []) (t ++ u ∷ [])
below_behind [] v u h = inl h
below_behind (w ∷ t) v u h = inr (refl, below_behind t v u h)

below_less : (vs us : List ValueTree) → Below vs us → trace_order vs us ≡ Less
below_less [] us h = absurd h
below_less (v ∷ vs) [] h = absurd h
below_less (v ∷ vs) (u ∷ us) (inl h) = first_less (order v u) (lexicographic (map order vs) us) h
below_less (v ∷ vs) (u ∷ us) (inr h) =
    then_less (order v u) (lexicographic (map order vs) us) (subst (λ (w : ValueTree). order v w ≡ Equal) h.0 (order-itself v)) (below_less vs us h.1)

-- ---- traces that go on from one

abbrev pub Front : List ValueTree → List ValueTree → Type 0
Front t u = (x : List ValueTree) × (u ≡ t ++ x)

front_itself : (t : List ValueTree) → Front t t
front_itself t = ([], sym (append-nil t))

front_through : (t u w : List ValueTree) → Front t u → Front u w → Front t w
front_through t u w f g = (f.0 ++ g.0, g.1 ∙ ap (λ z. z ++ g.0) f.1 ∙ append_assoc t f.0 g.0)

below_fronts : (t u a b : List ValueTree) → Front t a → Front u b → Below t u → Below a b
below_fronts t u a b f g h =
    subst (λ (z : List ValueTree). Below z b) (sym f.1) (subst (λ (z : List ValueTree). Below (t ++ f.0) z) (sym g.1) (below_on t u f.0 g.0 h))

abbrev pub Ascends : List Traced → Type 0
Ascends [] = Unit {0}
Ascends (s ∷ ss) = Each (λ u. Below s.trace u.trace) ss × Ascends ss

abbrev pub GoOn : List ValueTree → List Traced → Type 0
GoOn t ss = Each (λ s. Front t s.trace) ss

-- states go on from the trace of the one that they come from, and ascend
abbrev pub Extends : (Traced → List Traced) → Type 0
Extends f = (s : Traced) → GoOn s.trace (f s) × Ascends (f s)

module _ (ss us : List Traced) where
  abbrev pub AllBelow : Type 0
  AllBelow = Each (λ (s : Traced). Each (λ (u : Traced). Below s.trace u.trace) us) ss

ascends_append : (ss us : List Traced) → Ascends ss → Ascends us → AllBelow ss us → Ascends (ss ++ us)
ascends_append [] us h k b = k
ascends_append (s ∷ ss) us h k b = (each_append (λ u. Below s.trace u.trace) ss us h.0 b.0, ascends_append ss us h.1 k b.1)

-- what goes on from a lesser trace is below what goes on from a greater one
fronts_below_one : (t u a : List ValueTree) → Front t a → Below t u → (us : List Traced) → GoOn u us → Each (λ w. Below a w.trace) us
fronts_below_one t u a f h [] go = tt
fronts_below_one t u a f h (w ∷ us) go = (below_fronts t u a w.trace f go.0 h, fronts_below_one t u a f h us go.1)

fronts_below : (t u : List ValueTree) → Below t u → (ss us : List Traced) → GoOn t ss → GoOn u us → AllBelow ss us
fronts_below t u h [] us go to = tt
fronts_below t u h (s ∷ ss) us go to = (fronts_below_one t u s.trace go.0 h us to, fronts_below t u h ss us go.1 to)

below_nothing : (ss : List Traced) → AllBelow ss []
below_nothing [] = tt
below_nothing (s ∷ ss) = (tt, below_nothing ss)

below_both : (ss us ws : List Traced) → AllBelow ss us → AllBelow ss ws → AllBelow ss (us ++ ws)
below_both [] us ws h k = tt
below_both (s ∷ ss) us ws h k = (each_append (λ u. Below s.trace u.trace) us ws h.0 k.0, below_both ss us ws h.1 k.1)

go_on : (t u : List ValueTree) → Front t u → (ss : List Traced) → GoOn u ss → GoOn t ss
go_on t u f ss go = each_weaker (λ (s : Traced). Front u s.trace) (λ (s : Traced). Front t s.trace) (λ s g. front_through t u s.trace f g) ss go

module _ (g : Traced → List Traced) (extends : Extends g) where
  rest_below : (s : Traced) (us : List Traced) → Each (λ u. Below s.trace u.trace) us → AllBelow (g s) (flat_map g us)
  rest_below s [] h = below_nothing (g s)
  rest_below s (u ∷ us) h = below_both (g s) (g u) (flat_map g us) (fronts_below s.trace u.trace h.0 (g s) (g u) (extends s).0 (extends u).0) (rest_below s us h.1)

  pub flat_ascends : (ss : List Traced) → Ascends ss → Ascends (flat_map g ss)
  flat_ascends [] h = tt
  flat_ascends (s ∷ ss) h = ascends_append (g s) (flat_map g ss) (extends s).1 (flat_ascends ss h.1) (rest_below s ss h.0)

  flat_goes : (t : List ValueTree) (ss : List Traced) → GoOn t ss → GoOn t (flat_map g ss)
  flat_goes t [] h = tt
  flat_goes t (s ∷ ss) h = each_append (λ u. Front t u.trace) (g s) (flat_map g ss) (go_on t s.trace h.0 (g s) (extends s).0) (flat_goes t ss h.1)

  pub flat_extends : (f : Traced → List Traced) → Extends f → Extends (λ s. flat_map g (f s))
  flat_extends f one s = (flat_goes s.trace (f s) (one s).0, flat_ascends (f s) (one s).1)

pub alone_extends : Extends alone
alone_extends s = ((front_itself s.trace, tt), (tt, tt))

gone_extends : Extends gone
gone_extends s = (tt, tt)

-- ---- parts ascend by their values

module _ (v : ValueTree) (n w : ℕ) where
  module _ (P : ValueTree → Type 0) (here : P v) where
    each_at : (p : Part) (ps : List Part) (r : Ordering) → Each (λ q. P q.value) (p ∷ ps) → Each (λ q. P q.value) (with_part ps v n w)
        → Each (λ q. P q.value)
        (match_ordering r (record { value = v; stores = (n, w) ∷ [] } ∷ p ∷ ps) (record { value = p.value; stores = with_weight p.stores n w } ∷ ps) (p ∷ with_part ps v n w))
    each_at p ps Less h k = (here, h)
    each_at p ps Equal h k = h
    each_at p ps Greater h k = (h.0, k)

    each_part : (ps : List Part) → Each (λ q. P q.value) ps → Each (λ q. P q.value) (with_part ps v n w)
    each_part [] h = (here, tt)
    each_part (p ∷ ps) h = each_at p ps (order v p.value) h (each_part ps h.1)

  turned_less : (u : ValueTree) → order v u ≡ Greater → order u v ≡ Less
  turned_less u h = flip u v ∙ ap ordering_reverse h

  ascend_at : (p : Part) (ps : List Part) (r : Ordering) → order v p.value ≡ r → PartsAscend (p ∷ ps) → PartsAscend (with_part ps v n w)
      → PartsAscend (match_ordering r (record { value = v; stores = (n, w) ∷ [] } ∷ p ∷ ps) (record { value = p.value; stores = with_weight p.stores n w } ∷ ps) (p ∷ with_part ps v n w))
  ascend_at p ps Less is h k =
      ((is, each_weaker (λ (q : Part). order p.value q.value ≡ Less) (λ (q : Part). order v q.value ≡ Less) (λ q l. goes_on v p.value q.value is l) ps h.0), h)
  ascend_at p ps Equal is h k = h
  ascend_at p ps Greater is h k = (each_part (λ u. order p.value u ≡ Less) (turned_less p.value is) ps h.0, k)

  pub part_ascends : (ps : List Part) → PartsAscend ps → PartsAscend (with_part ps v n w)
  part_ascends [] h = (tt, tt)
  part_ascends (p ∷ ps) h = ascend_at p ps (order v p.value) refl h (part_ascends ps h.1)

share_ascends : (ps : List Part) (v : ValueTree) (x : Option ℕ) (w : ℕ) → PartsAscend ps → PartsAscend (with_share ps v x w)
share_ascends ps v (Some n) w h = part_ascends v n w ps h
share_ascends ps v None w h = h

module _ (go : Lead) where
  pub shares_ascend : (ps : List Part) (n share : ℕ) (cs : List Weighted) → PartsAscend ps → PartsAscend (with_shares go ps n share cs)
  shares_ascend ps n share [] h = h
  shares_ascend ps n share (c ∷ cs) h = shares_ascend (with_share ps c.value (go n c.value) (share * c.weight)) n share cs (share_ascends ps c.value (go n c.value) (share * c.weight) h)

  parted_ascends : (ps : List Part) (n w : ℕ) (g : Tried) → PartsAscend ps → PartsAscend (parted go ps n w g)
  parted_ascends ps n w (Ok cs) h = shares_ascend ps n (w / total cs) cs h
  parted_ascends ps n w (Err f) h = h

  split_ascends : (tries : ℕ → Tried) (ps : List Part) (es : Weights) → PartsAscend ps → PartsAscend (split go tries ps es)
  split_ascends tries ps [] h = h
  split_ascends tries ps (e ∷ es) h = split_ascends tries (parted go ps e.0 e.1 (tries e.0)) es (parted_ascends ps e.0 e.1 (tries e.0) h)

-- ---- branches

module _ (next : ValueTree → Traced → List Traced) (extends : (v : ValueTree) → Extends (next v)) (t : List ValueTree) where
  abbrev on : Part → List Traced
  on p = next p.value (behind t p)

  parts_below : (p : Part) (ps : List Part) → Each (λ q. order p.value q.value ≡ Less) ps → AllBelow (on p) (flat_map on ps)
  parts_below p [] h = below_nothing (on p)
  parts_below p (q ∷ ps) h =
      below_both (on p) (on q) (flat_map on ps)
      (fronts_below (t ++ p.value ∷ []) (t ++ q.value ∷ []) (below_behind t p.value q.value h.0) (on p) (on q) (extends p.value (behind t p)).0 (extends q.value (behind t q)).0)
      (parts_below p ps h.1)

  parts_extend : (ps : List Part) → PartsAscend ps → GoOn t (flat_map on ps) × Ascends (flat_map on ps)
  parts_extend [] h = (tt, tt)
  parts_extend (p ∷ ps) h =
      let one = extends p.value (behind t p) in
      let others = parts_extend ps h.1 in (
        each_append (λ u. Front t u.trace) (on p) (flat_map on ps) (go_on t (t ++ p.value ∷ []) (p.value ∷ [], refl) (on p) one.0) others.0,
        ascends_append (on p) (flat_map on ps) one.1 others.1 (parts_below p ps h.0),
      )

branches_extend : (go : Lead) (tries : ℕ → Tried) (next : ValueTree → Traced → List Traced) → ((v : ValueTree) → Extends (next v)) → Extends (branches go tries next)
branches_extend go tries next extends s = parts_extend next extends s.trace (split go tries [] s.stores) (split_ascends go tries [] s.stores tt)

side_extends : (c : Bool) (F G : Traced → List Traced) → Extends F → Extends G → Extends (if c then F else G)
side_extends true F G h k = h
side_extends false F G h k = k

guard_extends : (guard : ℕ → Tried) (F G : Traced → List Traced) → Extends F → Extends G → Extends (guard_traced guard F G)
guard_extends guard F G h k = branches_extend unmoved guard (λ v. if truth v then F else G) (λ v. side_extends (truth v) F G h k)

loop_extends : (k : ℕ) (guard : ℕ → Tried) (F : Traced → List Traced) → Extends F → Extends (loop_traced k guard F)
loop_extends zero guard F h = guard_extends guard gone alone gone_extends alone_extends
loop_extends (suc k) guard F h =
    guard_extends guard (λ s. flat_map (loop_traced k guard F) (F s)) alone (flat_extends (loop_traced k guard F) (loop_extends k guard F h) F h) alone_extends

assign_extends : (ts : List TypeTree) (i : ℕ) (d : DxTree) → Extends (assign_traced ts i d)
assign_extends ts i d s = ((front_itself s.trace, tt), (tt, tt))

-- ---- statements, blocks, declarations and programs

module _ (ts : List TypeTree) (turns : ℕ) where
  mutual
    traced_extends : (x : StTree) → Extends (traced ts turns x)
    traced_extends Skip = alone_extends
    traced_extends (Assign i d false) = assign_extends ts i d
    traced_extends (Assign i d true) = branches_extend (into ts i) (tried ts d) (λ v. alone) (λ v. alone_extends)
    traced_extends (Observe d) = branches_extend unmoved (tried ts d) (λ v. alone) (λ v. alone_extends)
    traced_extends (If d xs ys) = guard_extends (tried ts d) (all_traced ts turns xs) (all_traced ts turns ys) (all_extend xs) (all_extend ys)
    traced_extends (While d xs) = loop_extends turns (tried ts d) (all_traced ts turns xs) (all_extend xs)

    all_extend : (xs : StTrees) → Extends (all_traced ts turns xs)
    all_extend no_sts = alone_extends
    all_extend (more_sts x xs) = flat_extends (all_traced ts turns xs) (all_extend xs) (traced ts turns x) (traced_extends x)

decls_extend : (ts : List TypeTree) (i : ℕ) (ds : List DxTree) → Extends (declared_traced ts i ds)
decls_extend ts i [] = alone_extends
decls_extend ts i (d ∷ ds) = flat_extends (declared_traced ts (suc i) ds) (decls_extend ts (suc i) ds) (assign_traced ts i d) (assign_extends ts i d)

program_ascends : (turns whole : ℕ) (p : ProgramTree) → Ascends (program_traced turns whole p)
program_ascends turns whole p =
    flat_ascends (λ s. all_traced p.types turns (sts p.body) (copied_traced p s)) (λ s. all_extend p.types turns (sts p.body) (copied_traced p s))
    (declared_traced p.types 0 p.decls (record { trace = []; stores = (0, whole) ∷ [] })) (decls_extend p.types 0 p.decls (record { trace = []; stores = (0, whole) ∷ [] })).1

sorted : (ss : List Traced) → Ascends ss → IsStrictlySortedBy trace_order (map (λ s. s.trace) ss)
sorted [] h = sorted-nil trace_order
sorted (s ∷ ss) h =
    sorted-cons trace_order s.trace (map (λ (u : Traced). u.trace) ss)
    (each_mapped ss h.0) (sorted ss h.1)
  where
    each_mapped : (us : List Traced) → Each (λ u. Below s.trace u.trace) us → Each (λ t. trace_order s.trace t ≡ Less) (map (λ (u : Traced). u.trace) us)
    each_mapped [] k = tt
    each_mapped (u ∷ us) k = (below_less s.trace u.trace k.0, each_mapped us k.1)

pub program_sorted : (turns whole : ℕ) (p : ProgramTree) → IsStrictlySortedBy trace_order (map (λ s. s.trace) (program_traced turns whole p))
program_sorted turns whole p = sorted (program_traced turns whole p) (program_ascends turns whole p)
