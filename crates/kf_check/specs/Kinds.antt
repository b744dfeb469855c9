-- Believed: the rules of expressions and distributions: its kind, or its first broken rule, parts first and from left to right.
use Rattle.std.specs.Prelude.{◌≡◌, ℕ, ◌≤◌, List, [], ◌∷◌, map, take, slice_get, Some}
use Rattle.std.specs.List.{All}
use Rattle.kf_value.specs.Kinds.{KindTree, TruthKind, WholeKind, TupleKind, SetKind, kind_parts}
use Rattle.kf_ops.specs.Rows.{Row}
use Rattle.kf_ops.specs.Places.{IsRow, pattern_kind}
use Rattle.kf_ast.specs.Names.{name}
use Rattle.kf_ast.specs.Exprs.{ExprTree, ExprShape, ExprTrees, expr_at, Number, Truth, Name, Apply, Tuple, SetOf, Part, no_exprs, more_exprs, place}
use Rattle.kf_ast.specs.Dists.{CaseTree, case_of, DistTree, dist_at, Sure, UniformSet, UniformRange, Choose, Flip}
use Rattle.kf_check.specs.declared.errors.TypeError.TheVariants as broken
use Rattle.kf_check.specs.Judgements.{Judgement, Is, Picks, Where, After}

-- a variable that is known: its name and its kind
pub record Known : Type 0 where
  pub name : List ℕ
  pub kind : KindTree

-- some variable of this name is known, and has this kind
abbrev pub HasName : List Known → List ℕ → KindTree → Type 0
HasName known n k = (i : ℕ) × (slice_get known i ≡ Some (record { name = n; kind = k }))

-- the operator of this row gives this kind at arguments of these kinds, which are those of the row's patterns: `Any` stands for one kind
abbrev pub IsResult : ℕ → List KindTree → KindTree → Type 0
IsResult place ks k =
    (r : Row) × (any : KindTree) × IsRow place r × (ks ≡ map (pattern_kind any) (take r.arity r.args)) × (k ≡ pattern_kind any r.result)

-- the first member has this kind, and the others have it too
abbrev pub IsCommon : List KindTree → KindTree → Type 0
IsCommon [] k = ⊥
IsCommon (j ∷ js) k = (j ≡ k) × All (λ i. i ≡ j) js

-- a tuple's part has this kind
abbrev pub IsPart : KindTree → ℕ → KindTree → Type 0
IsPart j n k = (ks : List KindTree) × (j ≡ TupleKind (kind_parts ks)) × (slice_get ks n ≡ Some k)

-- what stands here is of this kind, and is to be of that one
abbrev pub Asks : ℕ → KindTree → KindTree → Judgement KindTree
Asks at j k = Where (j ≡ k) k (broken.Clash at)

abbrev pub dist_place : DistTree → ℕ
dist_place (dist_at at shape) = at

module _ (known : List Known) where
  abbrev mutual
    -- an expression: its parts, and then itself
    pub Judges : ExprTree → Judgement KindTree
    Judges (expr_at at shape) = JudgesShape at shape

    pub JudgesShape : ℕ → ExprShape → Judgement KindTree
    JudgesShape at (Number n) = Is WholeKind
    JudgesShape at (Truth b) = Is TruthKind
    JudgesShape at (Name (name n at')) = Picks (HasName known n) (broken.Unknown at')
    JudgesShape at (Apply row xs) = After (JudgesAll xs) (λ ks. Picks (IsResult row ks) (broken.Clash at))
    JudgesShape at (Tuple xs) = After (JudgesAll xs) (λ ks. Is (TupleKind (kind_parts ks)))
    JudgesShape at (SetOf xs) = After (JudgesAll xs) (λ ks. After (Picks (IsCommon ks) (broken.Clash at)) (λ k. Is (SetKind k)))
    JudgesShape at (Part x n) = After (Judges x) (λ j. Picks (IsPart j n) (broken.Clash at))

    -- expressions one after the other
    pub JudgesAll : ExprTrees → Judgement (List KindTree)
    JudgesAll no_exprs = Is []
    JudgesAll (more_exprs x xs) = After (Judges x) (λ k. After (JudgesAll xs) (λ ks. Is (k ∷ ks)))

  -- two expressions one after the other, of which the first is to be of this kind and the second a whole number
  abbrev pub JudgesPair : KindTree → ExprTree → ExprTree → Judgement KindTree
  JudgesPair k x y =
      After (Judges x)
      (λ j. After (Judges y)
      (λ i. After (Asks (place x) j k)
      (λ _. After (Asks (place y) i WholeKind)
      (λ _. Is k))))

  -- the cases of a `choose` whose values are to be of this kind
  abbrev pub JudgesCases : KindTree → List CaseTree → Judgement KindTree
  JudgesCases k [] = Is k
  JudgesCases k (case_of x y ∷ cs) = After (JudgesPair k x y) (λ _. JudgesCases k cs)

  -- the kind of a distribution's values; of those of a `choose` it is the first one's
  abbrev pub JudgesDist : DistTree → Judgement KindTree
  JudgesDist (dist_at at (Sure x)) = Judges x
  JudgesDist (dist_at at (UniformSet x)) = After (Judges x) (λ j. Picks (λ k. j ≡ SetKind k) (broken.Clash (place x)))
  JudgesDist (dist_at at (UniformRange x y)) = JudgesPair WholeKind x y
  JudgesDist (dist_at at (Choose [])) = λ r. ⊥
  JudgesDist (dist_at at (Choose (case_of x y ∷ cs))) = After (Judges x) (λ k. JudgesCases k (case_of x y ∷ cs))
  JudgesDist (dist_at at (Flip num den)) = Where ((1 ≤ den) × (num ≤ den)) TruthKind (broken.BadFlip at)

  -- a distribution whose values are to be of this kind
  abbrev pub AsksDist : KindTree → DistTree → Judgement KindTree
  AsksDist k d = After (JudgesDist d) (λ j. Asks (dist_place d) j k)
