-- Nothing more is leaked where a block is quiet.
use Rattle.std.proofs.Common.{◌≡◌, suc, zero, List, [], ◌∷◌, Contains, Some, refl, sym, subst, ◌∙◌, arith}
use Rattle.std.specs.Prelude.{ℤ, pos}
use Rattle.std.proofs.lemmas.Int.{ints}
use Rattle.kf_column.specs.Hypers.{Inner}
use Rattle.kf_core.specs.Joint.{Cell, joint_of}
use Rattle.kf_core.specs.Rows.{IsHyperOf}
use Rattle.kf_core.specs.SupportLaws.{RunsChain}
use Rattle.kf_gain.specs.declared.table.Action.{Action}
use Rattle.kf_gain.specs.Gains.{GainOf, Bayes, Tries, Guessing, Table, TableTree}
use Rattle.kf_gain.specs.Laws.{HasActions}
use Rattle.kf_gain.specs.Vulnerabilities.{IsPosterior}
use Rattle.kf_gain.specs.Worth.{NoBetter}
use Rattle.kf_gain.proofs.Measures.{some}
use Rattle.kf_quiet.specs.Laws.{NoBlamePasses, QuietLeaksNoMore}
use Rattle.kf_push.proofs.CellWeights.{Trace}
use Rattle.kf_quiet.proofs.HushRows.{turned_within}
use Rattle.kf_quiet.proofs.HushRuns.{quiet_is, turned}
use Rattle.kf_quiet.specs.Summaries.{SummaryTree}

-- a table without actions gives no inner a vulnerability
module _ (t : TableTree) (none : t.actions ≡ []) where
  not_there : {a : Action} → Contains [] a → ⊥
  not_there (k, within, is) = omega (arith, within)

  nothing_worth : (inners : List Inner) (z : ℤ) → IsPosterior (Table t) inners z → z ≡ pos 0
  nothing_worth [] z is = is
  nothing_worth (i ∷ inners) z (first, others, v, p, is) =
      let (a, there, same) = v.reached in
      absurd (not_there (subst (λ (l : List Action). Contains l a) none there))

module _ (all quiet : List Inner) (y z : ℤ) where
  by_actions : (t : TableTree) (actions : List Action) → t.actions ≡ actions → IsPosterior (Table t) quiet y → IsPosterior (Table t) all z
      → (HasActions (Table t) → NoBetter (Table t) y z) → NoBetter (Table t) y z
  by_actions t [] none p q with_some = omega (arith, ints, nothing_worth t none quiet y p, nothing_worth t none all z q)
  by_actions t (a ∷ actions) some p q with_some = with_some (λ none. absurd (cc))

  -- so a gain may be taken to have actions
  where_actions : (g : GainOf TableTree) → IsPosterior g quiet y → IsPosterior g all z → (HasActions g → NoBetter g y z) → NoBetter g y z
  where_actions Bayes p q with_some = with_some tt
  where_actions (Tries k) p q with_some = with_some tt
  where_actions Guessing p q with_some = with_some tt
  where_actions (Table t) p q with_some = by_actions t t.actions refl p q with_some

-- what is told of traces by a function of them is no more than what they tell
pub no_more_turned : (f : Trace → Trace) (cs : List Cell) (g : GainOf TableTree) (all quiet : List Inner) (y z : ℤ)
    → IsHyperOf cs all → IsHyperOf (turned f cs) quiet → IsPosterior g quiet y → IsPosterior g all z → NoBetter g y z
no_more_turned f cs g all quiet y z a q p r =
    where_actions all quiet y z g p r
    (λ has.
    turned_within f cs a.rows a.are_rows q.rows q.are_rows quiet q.is_hyper all a.is_hyper g (λ c. (some g c has).0) (λ c. (some g c has).1) y z p r)

pub no_more : RunsChain → QuietLeaksNoMore
no_more sequence turns p from to g all quiet y z order of_all of_quiet =
    let (f, same) = quiet_is sequence turns p from to order in
    no_more_turned f (joint_of turns p) g all quiet y z of_all (subst (λ (cs : List Cell). IsHyperOf cs quiet) same of_quiet)

-- no statement is to blame for less than nothing
pub none_passes : RunsChain → NoBlamePasses
none_passes sequence turns p blames whole b zero are is one = omega (arith, ints, same_blame whole b (sym is ∙ one))
  where
    same_blame : (a b : SummaryTree) → Some a ≡ Some b → a.posterior ≡ b.posterior
    same_blame a b same = cc
none_passes sequence turns p blames whole b (suc i) are is one =
    let w = are.whole whole is in
    let q = are.without i b one in
    no_more sequence turns p i (suc i) Bayes w.inners q.inners b.posterior whole.posterior (omega arith) w.is_hyper q.is_hyper q.posterior w.posterior
