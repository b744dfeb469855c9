-- What is shown comes to the vulnerability; what the inners are worth sums to the posterior; and each inner has one attack.
use Rattle.std.proofs.Common.{◌≡◌, ℕ, ◌/◌, ◌*◌, List, [], ◌∷◌, All, map, refl, sym, ◌∙◌, ap, subst, arith, suc, zero, take, get_or}
use Rattle.std.specs.Prelude.{ℤ, pos, ◌*ℤ◌, ◌≤ℤ◌, Contains}
use Rattle.std.proofs.lemmas.Int.{ints}
use Rattle.std.proofs.lemmas.List.Elements.{All-head, All-tail, All-map, Contains-get_or}
use Rattle.kf_column.specs.declared.entry.Entry.{Entry}
use Rattle.kf_column.specs.Columns.{IsColumn, total}
use Rattle.kf_column.specs.Hypers.{Inner, IsInner}
use Rattle.kf_column.specs.Shapes.{IsShape}
use Rattle.kf_column.specs.Averages.{joint_column}
use Rattle.kf_gain.specs.declared.table.Action.{Action}
use Rattle.kf_gain.specs.Gains.{GainOf, Bayes, Tries, Guessing, Table, TableTree, over_of}
use Rattle.kf_gain.specs.Laws.{HasActions}
use Rattle.kf_gain.specs.Worth.{IsVulnerability, gained}
use Rattle.kf_gain.specs.Vulnerabilities.{IsPosterior}
use Rattle.kf_gain.proofs.Measures.{some, one, scales}
use Rattle.kf_attack.specs.Attacks.{AreRanked, NamedGain, BestTree, Values, Scores, IsBest, AttackTree, IsAttack}
use Rattle.kf_attack.specs.Laws.{ComesTo, worth_of}
use Rattle.kf_attack.proofs.Order.{one_order, some_order}
use Rattle.kf_attack.proofs.Worths.{tries_come, bayes_comes, guesses_cost, cost_in_turn}
use Rattle.kf_attack.specs.Views.{scored, AreAttacks}

-- ---- what is shown

shown_first : (k : ℕ) (ranked es : List Entry) (z : ℤ) → es ≡ take k ranked → z ≡ pos (total (take k ranked)) → z ≡ pos (total es)
shown_first k ranked es z same is = is ∙ ap (λ (l : List Entry). pos (total l)) (sym same)

contained : (t : TableTree) (column : List Entry) (actions : List Action) (a : Action) → Contains actions a
    → Contains (map (scored t column) actions) (scored t column a)
contained t column [] a (k, inside, is) = absurd (omega (arith, inside))
contained t column (b ∷ actions) a (zero, inside, is) = (0, omega arith, ap (scored t column) is)
contained t column (b ∷ actions) a (suc k, inside, is) =
    let r : Contains (map (scored t column) actions) (scored t column a) = contained t column actions a (k, omega (arith, inside), is) in
    (suc r.0, omega (arith, r.1), r.2)

all_scored : (t : TableTree) (column : List Entry) (z : ℤ) → IsVulnerability (Table t) column z
    → ComesTo (Table t) column (Scores (map (scored t column) t.actions)) z
all_scored t column z v =
    let (a, there, is) = v.reached in (
      (scored t column a, contained t column t.actions a there, sym is),
      All-map (λ (s : NamedGain). s.gain ≤ℤ z) (scored t column) t.actions
          (λ k d within. v.best (gained t.rest (get_or t.actions k d).gains column) (get_or t.actions k d, Contains-get_or t.actions k d within, refl)),
    )

pub shown_is_best : (g : GainOf TableTree) (column : List Entry) (best : BestTree) (z : ℤ) → IsColumn column → IsBest g column best
    → IsVulnerability g column z → ComesTo g column best z
shown_is_best Bayes column (Values es) z is (ranked, are, same) v =
    shown_first 1 ranked es z same (one Bayes column z (pos (total (take 1 ranked))) v (bayes_comes column ranked is are))
shown_is_best (Tries k) column (Values es) z is (ranked, are, same) v =
    shown_first k ranked es z same (one (Tries k) column z (pos (total (take k ranked))) v (tries_come column ranked is are k))
shown_is_best Guessing column (Values es) z is are v =
    one Guessing column z _ v (guesses_cost column es is are) ∙ ap pos (sym (cost_in_turn column es is are))
shown_is_best (Table t) column (Scores scores) z is same v =
    subst (λ (ss : List NamedGain). ComesTo (Table t) column (Scores ss) z) (sym same) (all_scored t column z v)
shown_is_best Bayes column (Scores scores) z is best v = absurd best
shown_is_best (Tries k) column (Scores scores) z is best v = absurd best
shown_is_best Guessing column (Scores scores) z is best v = absurd best
shown_is_best (Table t) column (Values es) z is best v = absurd best

-- ---- the sum

pub worths_sum : (g : GainOf TableTree) (inners : List Inner) (attacks : List AttackTree) (z : ℤ) → AreAttacks g inners attacks
    → IsPosterior g inners z → worth_of inners attacks ≡ z
worths_sum g [] [] z all is = sym is
worths_sum g [] (a ∷ attacks) z all is = absurd all
worths_sum g (i ∷ inners) [] z all is = absurd all
worths_sum g (i ∷ inners) (a ∷ attacks) z (first, rest) (y, others, v, p, same) =
    let k : ℕ = i.total / total i.entries in
    let here : pos k *ℤ a.worth ≡ y = one g (joint_column i) (pos k *ℤ a.worth) y (scales g i.entries k a.worth first.worth) v in
    omega (arith, ints, same, here, worths_sum g inners attacks others rest p)

-- ---- one attack for each inner

some_best : (g : GainOf TableTree) (column : List Entry) → IsColumn column → (best : BestTree) × IsBest g column best
some_best Bayes column is = let r = some_order column is in (Values (take 1 r.0), (r.0, r.1, refl))
some_best (Tries k) column is = let r = some_order column is in (Values (take k r.0), (r.0, r.1, refl))
some_best Guessing column is = let r = some_order column is in (Values r.0, r.1)
some_best (Table t) column is = (Scores (map (scored t column) t.actions), refl)

some_attack : (g : GainOf TableTree) (i : Inner) → IsColumn i.entries → HasActions g → (a : AttackTree) × IsAttack g i a
some_attack g i is has =
    let v = some g i.entries has in
    let b = some_best g i.entries is in
    (record { worth = v.0; whole = total i.entries * over_of g; best = b.0 }, record { worth = v.1; whole = refl; best = b.1 })

some_from : (g : GainOf TableTree) (inners : List Inner) → All (λ (i : Inner). IsInner i.entries) inners → HasActions g
    → (attacks : List AttackTree) × AreAttacks g inners attacks
some_from g [] all has = ([], tt)
some_from g (i ∷ inners) all has =
    let first = some_attack g i (All-head (λ (i : Inner). IsInner i.entries) i inners all).column has in
    let rest = some_from g inners (All-tail (λ (i : Inner). IsInner i.entries) i inners all) has in
    (first.0 ∷ rest.0, (first.1, rest.1))

pub some_attacks : (size scale : ℕ) (g : GainOf TableTree) (inners : List Inner) → IsShape size scale inners → HasActions g
    → (attacks : List AttackTree) × AreAttacks g inners attacks
some_attacks size scale g inners shape has = some_from g inners shape.inner has

one_front : (k : ℕ) (column es fs : List Entry) → (ranked : List Entry) × AreRanked column ranked × (es ≡ take k ranked)
    → (ranked : List Entry) × AreRanked column ranked × (fs ≡ take k ranked) → es ≡ fs
one_front k column es fs (xs, p, same) (ys, q, same') = same ∙ ap (take k) (one_order column xs ys p q) ∙ sym same'

one_best : (g : GainOf TableTree) (column : List Entry) (a b : BestTree) → IsBest g column a → IsBest g column b → a ≡ b
one_best Bayes column (Values es) (Values fs) p q = ap Values (one_front 1 column es fs p q)
one_best (Tries k) column (Values es) (Values fs) p q = ap Values (one_front k column es fs p q)
one_best Guessing column (Values es) (Values fs) p q = ap Values (one_order column es fs p q)
one_best (Table t) column (Scores ss) (Scores rs) p q = ap Scores (p ∙ sym q)
one_best Bayes column (Scores ss) b p q = absurd p
one_best (Tries k) column (Scores ss) b p q = absurd p
one_best Guessing column (Scores ss) b p q = absurd p
one_best (Table t) column (Values es) b p q = absurd p
one_best Bayes column (Values es) (Scores rs) p q = absurd q
one_best (Tries k) column (Values es) (Scores rs) p q = absurd q
one_best Guessing column (Values es) (Scores rs) p q = absurd q
one_best (Table t) column (Scores ss) (Values fs) p q = absurd q

one_attack : (g : GainOf TableTree) (i : Inner) (a b : AttackTree) → IsAttack g i a → IsAttack g i b → a ≡ b
one_attack g i a b p q =
    let worth : a.worth ≡ b.worth = one g i.entries a.worth b.worth p.worth q.worth in
    let whole : a.whole ≡ b.whole = p.whole ∙ sym q.whole in
    let best : a.best ≡ b.best = one_best g i.entries a.best b.best p.best q.best in
    λ k. record { worth = worth k; whole = whole k; best = best k }

one_list : (g : GainOf TableTree) (inners : List Inner) (as' bs : List AttackTree) → AreAttacks g inners as' → AreAttacks g inners bs → as' ≡ bs
one_list g [] [] [] p q = refl
one_list g [] [] (b ∷ bs) p q = absurd q
one_list g [] (a ∷ as') bs p q = absurd p
one_list g (i ∷ inners) [] bs p q = absurd p
one_list g (i ∷ inners) (a ∷ as') [] p q = absurd q
one_list g (i ∷ inners) (a ∷ as') (b ∷ bs) p q =
    let first = one_attack g i a b p.0 q.0 in
    let rest = one_list g inners as' bs p.1 q.1 in
    λ k. first k ∷ rest k

pub one_attacks : (size scale : ℕ) (g : GainOf TableTree) (inners : List Inner) (a b : List AttackTree) → IsShape size scale inners
    → AreAttacks g inners a → AreAttacks g inners b → a ≡ b
one_attacks size scale g inners a b shape p q = one_list g inners a b p q
