-- The lines of an attack's own fractions are those of the numbers that it has.
use Rattle.std.proofs.Common.{◌≡◌, ℕ, suc, ◌+◌, ◌<◌, pos, List, [], ◌∷◌, ◌++◌, All, take, length, get_or, refl, sym, ◌∙◌, ap, ap₂, subst, codes, arith}
use Rattle.std.specs.Fmt.{decimal}
use Rattle.std.specs.List.{AllZip, flat_map, enumerate_from}
use Rattle.std.proofs.lemmas.List.Elements.{All-head, All-tail, All-nil, All-cons, All-take}
use Rattle.std.proofs.lemmas.List.Sorted.{All-permutation}
use Rattle.kf_frac.specs.Fractions.{fraction_text}
use Rattle.kf_value.specs.Targets.{Item, target_value_text}
use Rattle.kf_column.specs.declared.entry.Entry.{Entry}
use Rattle.kf_column.specs.Hypers.{Inner}
use Rattle.kf_column.specs.Shapes.{IsBelow}
use Rattle.kf_gain.specs.declared.table.Action.{Action}
use Rattle.kf_gain.specs.Gains.{GainOf, Bayes, Tries, Guessing, Table, TableTree}
use Rattle.kf_attack.specs.Attacks.{AttackTree, BestTree, Values, Scores, NamedGain, AreRanked, IsBest}
use Rattle.kf_attack.specs.Views.{ShowsValue, ShowsScore, ShowsBest, ShowsAttack, AreAttacks}
use Rattle.kf_attack.specs.declared.attack.Attack.{Attack}
use Rattle.kf_attack.specs.declared.attack.Best.{Best}
use Rattle.kf_attack.specs.declared.attack.Best.TheVariants as best
use Rattle.kf_attack.specs.declared.attack.Score.{Score}
use Rattle.kf_attack.specs.declared.attack.WeighedValue.{WeighedValue}
use Rattle.kf_text.specs.AttackTexts.{best_lines, attack_lines}
use Rattle.kf_text.specs.AttackViews.{own_value_line, own_score_line, own_best_lines, own_attack_lines, IsPrintable}
use Rattle.kf_text.specs.Texts.{line, entry_line}
use Rattle.kf_text.proofs.Printing.{same_text}
use Rattle.kf_text.specs.Parts.{all_lines, score_line}

-- ---- what is shown can be printed

module _ (size : ℕ) where
  abbrev IsBelowSize : WeighedValue → Type 0
  IsBelowSize v = v.value < size

  abbrev HasBelow : Entry → Type 0
  HasBelow e = e.value < size

  -- values that show entries have the entries' numbers
  values_below : (whole : ℕ) (es : List Entry) (vs : List WeighedValue) → AllZip (ShowsValue whole) es vs → IsBelow size es → All IsBelowSize vs
  values_below whole [] [] show below = All-nil IsBelowSize
  values_below whole [] (v ∷ vs) show below = absurd show
  values_below whole (e ∷ es) [] show below = absurd show
  values_below whole (e ∷ es) (v ∷ vs) show below =
      All-cons IsBelowSize v vs (subst (λ (n : ℕ). n < size) (sym show.0.value) (All-head HasBelow e es below))
      (values_below whole es vs show.1 (All-tail HasBelow e es below))

module _ (actions : List Action) where
  abbrev IsPlace : Score → Type 0
  IsPlace s = s.action < length actions

  scores_within : (whole : ℕ) (ns : List NamedGain) (ss : List Score) → AllZip (ShowsScore actions whole) ns ss → All IsPlace ss
  scores_within whole [] [] show = All-nil IsPlace
  scores_within whole [] (s ∷ ss) show = absurd show
  scores_within whole (n ∷ ns) [] show = absurd show
  scores_within whole (n ∷ ns) (s ∷ ss) show = All-cons IsPlace s ss show.0.within (scores_within whole ns ss show.1)

module _ (size : ℕ) (column : List Entry) (below : IsBelow size column) where
  ranked_below : (ranked : List Entry) → AreRanked column ranked → IsBelow size ranked
  ranked_below ranked are = All-permutation (HasBelow size) column ranked are.same below

  taken_below : (k : ℕ) (es : List Entry) → ((ranked : List Entry) × AreRanked column ranked × (es ≡ take k ranked)) → IsBelow size es
  taken_below k es is = subst (IsBelow size) (sym is.2) (All-take (HasBelow size) k is.0 (ranked_below is.0 is.1))

  best_below : (g : GainOf TableTree) (es : List Entry) → IsBest g column (Values es) → IsBelow size es
  best_below Bayes es is = taken_below 1 es is
  best_below (Tries k) es is = taken_below k es is
  best_below Guessing es is = ranked_below es is
  best_below (Table t) es is = absurd is

  printable : (g : GainOf TableTree) (actions : List Action) (whole : ℕ) (t : BestTree) (b : Best) → IsBest g column t → ShowsBest actions whole t b
      → IsPrintable size actions b
  printable g actions whole (Values es) (best.Values vs) is show = values_below size whole es vs show (best_below g es is)
  printable g actions whole (Values es) (best.Scores ss) is show = absurd show
  printable g actions whole (Scores ns) (best.Values vs) is show = absurd show
  printable g actions whole (Scores ns) (best.Scores ss) is show = scores_within actions whole ns ss show.0

module _ (g : GainOf TableTree) (actions : List Action) where
  -- one attack for each inner
  pub as_many : (inners : List Inner) (trees : List AttackTree) (attacks : List Attack) → AreAttacks g inners trees
      → AllZip (ShowsAttack actions) trees attacks → length attacks ≡ length inners
  as_many [] [] [] are show = refl
  as_many [] [] (a ∷ attacks) are show = absurd show
  as_many [] (t ∷ trees) attacks are show = absurd are
  as_many (i ∷ inners) [] attacks are show = absurd are
  as_many (i ∷ inners) (t ∷ trees) [] are show = absurd show
  as_many (i ∷ inners) (t ∷ trees) (a ∷ attacks) are show = ap suc (as_many inners trees attacks are.1 show.1)

  module _ (size : ℕ) where
    abbrev CanPrint : Attack → Type 0
    CanPrint a = IsPrintable size actions a.best

    abbrev HasSmall : Inner → Type 0
    HasSmall i = IsBelow size i.entries

    pub all_printable : (inners : List Inner) (trees : List AttackTree) (attacks : List Attack) → All HasSmall inners → AreAttacks g inners trees
        → AllZip (ShowsAttack actions) trees attacks → All CanPrint attacks
    all_printable [] [] [] below are show = All-nil CanPrint
    all_printable [] [] (a ∷ attacks) below are show = absurd show
    all_printable [] (t ∷ trees) attacks below are show = absurd are
    all_printable (i ∷ inners) [] attacks below are show = absurd are
    all_printable (i ∷ inners) (t ∷ trees) [] below are show = absurd show
    all_printable (i ∷ inners) (t ∷ trees) (a ∷ attacks) below are show =
        All-cons CanPrint a attacks
        (printable size i.entries (All-head HasSmall i inners below) g actions t.whole t.best a.best are.0.best show.0.best)
        (all_printable inners trees attacks (All-tail HasSmall i inners below) are.1 show.1)

-- ---- what it prints as

values_printed : (target : List Item) (whole : ℕ) (es : List Entry) (vs : List WeighedValue) → AllZip (ShowsValue whole) es vs
    → flat_map (own_value_line target) vs ≡ flat_map (entry_line target whole) es
values_printed target whole [] [] show = refl
values_printed target whole [] (v ∷ vs) show = absurd show
values_printed target whole (e ∷ es) [] show = absurd show
values_printed target whole (e ∷ es) (v ∷ vs) show =
    let value = show.0.value in
    let chance = same_text v.chance (pos e.weight) whole show.0.chance in
    let others = values_printed target whole es vs show.1 in
    λ i. line (codes "  " ++ (target_value_text target (value i) ++ (codes " " ++ chance i))) ++ others i

scores_printed : (actions : List Action) (whole : ℕ) (ns : List NamedGain) (ss : List Score) → AllZip (ShowsScore actions whole) ns ss
    → flat_map (own_score_line actions) ss ≡ flat_map (score_line whole) ns
scores_printed actions whole [] [] show = refl
scores_printed actions whole [] (s ∷ ss) show = absurd show
scores_printed actions whole (n ∷ ns) [] show = absurd show
scores_printed actions whole (n ∷ ns) (s ∷ ss) show =
    let name = show.0.name in
    let score = same_text s.score n.gain whole show.0.score in
    let others = scores_printed actions whole ns ss show.1 in
    λ i. line (codes "  " ++ (name i ++ (codes " " ++ score i))) ++ others i

module _ (target : List Item) (actions : List Action) where
  best_printed : (whole : ℕ) (t : BestTree) (b : Best) → ShowsBest actions whole t b → own_best_lines target actions b ≡ best_lines target whole t
  best_printed whole (Values es) (best.Values vs) show = values_printed target whole es vs show
  best_printed whole (Values es) (best.Scores ss) show = absurd show
  best_printed whole (Scores ns) (best.Values vs) show = absurd show
  best_printed whole (Scores ns) (best.Scores ss) show = scores_printed actions whole ns ss show.0

  module _ (scale : ℕ) (inner : ℕ → Inner) where
    attack_printed : (n : ℕ) (i : Inner) (t : AttackTree) (a : Attack) → inner n ≡ i → ShowsAttack actions t a
        → own_attack_lines target scale actions inner (n, a) ≡ attack_lines target scale n i t
    attack_printed n i t a is show =
        let worth = same_text a.worth t.worth t.whole show.worth in
        let lines = best_printed t.whole t.best a.best show.best in
        λ j. line (codes "inner " ++ (decimal n ++ (codes " outer " ++ (fraction_text (pos (is j).total) scale ++ (codes " value " ++ worth j))))) ++ lines j

    -- all of them, numbered from n on
    pub all_printed : (g : GainOf TableTree) (n : ℕ) (inners : List Inner) (trees : List AttackTree) (attacks : List Attack) (d : Inner)
        → ((k : ℕ) → k < length inners → inner (n + k) ≡ get_or inners k d) → AreAttacks g inners trees → AllZip (ShowsAttack actions) trees attacks
        → flat_map (own_attack_lines target scale actions inner) (enumerate_from n attacks) ≡ all_lines target scale n inners trees
    all_printed g n [] [] [] d at are show = refl
    all_printed g n [] [] (a ∷ attacks) d at are show = absurd show
    all_printed g n [] (t ∷ trees) attacks d at are show = absurd are
    all_printed g n (i ∷ inners) [] attacks d at are show = absurd are
    all_printed g n (i ∷ inners) (t ∷ trees) [] d at are show = absurd show
    all_printed g n (i ∷ inners) (t ∷ trees) (a ∷ attacks) d at are show =
        let first : inner n ≡ i = ap inner (omega arith) ∙ at 0 (omega arith) in
        let next : (k : ℕ) → k < length inners → inner ((n + 1) + k) ≡ get_or inners k d = λ k within. ap inner (omega arith) ∙ at (suc k) (omega arith) in
        ap₂ (λ (x y : List ℕ). x ++ y) (attack_printed n i t a first show.0) (all_printed g (n + 1) inners trees attacks d next are.1 show.1)
