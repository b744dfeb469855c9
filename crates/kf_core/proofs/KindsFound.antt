-- The kind of an expression, worked out: the rules give this kind and no other.
use Rattle.std.proofs.Common.{◌≡◌, ℕ, suc, zero, pos, negsuc, ◌≤◌, Bool, true, false, not, ◌&&◌, ◌||◌, List, [], ◌∷◌, length, map, take, slice_get, Option, Some, None, refl, sym, ap, ◌∙◌, subst, arith}
use Rattle.std.specs.List.{list_all}
use Rattle.kf_value.specs.Values.{ValueTree, Truth, Whole}
use Rattle.kf_value.specs.Values as value
use Rattle.kf_value.specs.Kinds.{KindTree, KindTrees, TruthKind, WholeKind, TupleKind, SetKind, no_kind, more_kinds, kind_parts}
use Rattle.kf_ops.specs.declared.row.Pat.{Pat}
use Rattle.kf_ops.specs.declared.row.Pat.TheVariants as pat
use Rattle.kf_ops.specs.Rows.{Row, operators}
use Rattle.kf_ops.specs.Places.{IsRow, pattern_kind}
use Rattle.kf_core.specs.Exs.{ExTree, ExTrees, Const, Slot, Apply, Tuple, SetOf, Part, no_exs, more_exs}
use Rattle.kf_core.specs.Views.{exs_list}
use Rattle.kf_core.specs.Checked.{Kinded, EachKinded, AllKinded}
use Rattle.kf_core.specs.Checked as rule
use Rattle.kf_core.proofs.Settled.{decided, is_yes, either_way, at_most, same_list, same_kind, Told, is_one, after, after_some}
use Rattle.kf_core.specs.Each.{exs}

-- ---- operators

-- whether the pattern's kind rests on that which `Any` stands for
abbrev mentions : Pat → Bool
mentions pat.Bool = false
mentions pat.Int = false
mentions _ = true

abbrev mentioned : List Pat → Bool
mentioned [] = false
mentioned (p ∷ ps) = mentions p || mentioned ps

-- what an operator gives rests on `Any` only if what it takes does
abbrev settled : Row → Bool
settled r = not (mentions r.result) || mentioned (take r.arity r.args)

both_true : (a b : Bool) → (a && b) ≡ true → (a ≡ true) × (b ≡ true)
both_true true b h = (refl, h)
both_true false b h = absurd (cc)

all_at : {A : Type 0} (test : A → Bool) (xs : List A) (i : ℕ) (x : A) → list_all test xs ≡ true → slice_get xs i ≡ Some x → test x ≡ true
all_at test [] i x h e = absurd (cc)
all_at test (y ∷ xs) zero x h e = let same : y ≡ x = cc in subst (λ z. test z ≡ true) same (both_true (test y) (list_all test xs) h).0
all_at test (y ∷ xs) (suc i) x h e = all_at test xs i x (both_true (test y) (list_all test xs) h).1 e

operators_settled : list_all settled operators ≡ true
operators_settled = refl

-- where they rest on it, the kinds tell what `Any` stands for
same_any : (ps : List Pat) (any other : KindTree) → mentioned ps ≡ true → map (pattern_kind any) ps ≡ map (pattern_kind other) ps → any ≡ other
same_any [] any other m e = absurd (cc)
same_any (pat.Bool ∷ ps) any other m e = same_any ps any other m (cc)
same_any (pat.Int ∷ ps) any other m e = same_any ps any other m (cc)
same_any (pat.SetOfAny ∷ ps) any other m e = (cc)
same_any (pat.Any ∷ ps) any other m e = (cc)
same_any (pat.Nothing ∷ ps) any other m e = (cc)

one_kind : (p : Pat) (ps : List Pat) (any other : KindTree) → (not (mentions p) || mentioned ps) ≡ true → map (pattern_kind any) ps ≡ map (pattern_kind other) ps → pattern_kind any p ≡ pattern_kind other p
one_kind pat.Bool ps any other m e = refl
one_kind pat.Int ps any other m e = refl
one_kind pat.SetOfAny ps any other m e = ap SetKind (same_any ps any other m e)
one_kind pat.Any ps any other m e = same_any ps any other m e
one_kind pat.Nothing ps any other m e = same_any ps any other m e

abbrev member_kind : KindTree → KindTree
member_kind (SetKind k) = k
member_kind _ = WholeKind

abbrev guess_at : Pat → KindTree → KindTree → KindTree
guess_at pat.Bool k other = other
guess_at pat.Int k other = other
guess_at pat.SetOfAny k other = member_kind k
guess_at _ k other = k

-- what `Any` stands for if these kinds are those of the patterns
abbrev guess : List Pat → List KindTree → KindTree
guess [] js = WholeKind
guess (p ∷ ps) [] = WholeKind
guess (p ∷ ps) (j ∷ js) = guess_at p j (guess ps js)

guess_fits : (ps : List Pat) (any : KindTree) → map (pattern_kind (guess ps (map (pattern_kind any) ps))) ps ≡ map (pattern_kind any) ps
guess_fits [] any = refl
guess_fits (pat.Bool ∷ ps) any = ap (λ js. TruthKind ∷ js) (guess_fits ps any)
guess_fits (pat.Int ∷ ps) any = ap (λ js. WholeKind ∷ js) (guess_fits ps any)
guess_fits (pat.SetOfAny ∷ ps) any = refl
guess_fits (pat.Any ∷ ps) any = refl
guess_fits (pat.Nothing ∷ ps) any = refl

-- ---- lists as parts of a tree

exs-exs_list : (xs : ExTrees) → exs (exs_list xs) ≡ xs
exs-exs_list no_exs = refl
exs-exs_list (more_exs x xs) = ap (more_exs x) (exs-exs_list xs)

abbrev kind_list : KindTrees → List KindTree
kind_list no_kind = []
kind_list (more_kinds k ks) = k ∷ kind_list ks

kind_list-kind_parts : (ks : List KindTree) → kind_list (kind_parts ks) ≡ ks
kind_list-kind_parts [] = refl
kind_list-kind_parts (k ∷ ks) = ap (λ js. k ∷ js) (kind_list-kind_parts ks)

kind_parts-kind_list : (ks : KindTrees) → kind_parts (kind_list ks) ≡ ks
kind_parts-kind_list no_kind = refl
kind_parts-kind_list (more_kinds k ks) = ap (more_kinds k) (kind_parts-kind_list ks)

-- ---- the kinds that are worked out

abbrev value_kind : ValueTree → Option KindTree
value_kind (Truth b) = Some TruthKind
value_kind (Whole (pos n)) = Some WholeKind
value_kind _ = None

abbrev given : (r : Row) → List KindTree → KindTree → Option KindTree
given r js any = decided (same_list same_kind js (map (pattern_kind any) (take r.arity r.args))) (Some (pattern_kind any r.result)) None

abbrev applied : Option Row → List KindTree → Option KindTree
applied None js = None
applied (Some r) js = given r js (guess (take r.arity r.args) js)

abbrev tuple_kind : List KindTree → Option KindTree
tuple_kind js = decided (at_most 2 (length js)) (Some (TupleKind (kind_parts js))) None

abbrev set_kind : List KindTree → Option KindTree
set_kind [] = None
set_kind (k ∷ js) = decided (same_list same_kind js (map (λ j. k) js)) (Some (SetKind k)) None

abbrev part_kind : ℕ → KindTree → Option KindTree
part_kind n (TupleKind js) = slice_get (kind_list js) n
part_kind n _ = None

module _ (ks : List KindTree) where
  abbrev mutual
    pub kind_in : ExTree → Option KindTree
    kind_in (Const v) = value_kind v
    kind_in (Slot i) = slice_get ks i
    kind_in (Apply row xs) = after (kinds_in xs) (applied (slice_get operators row))
    kind_in (Tuple xs) = after (kinds_in xs) tuple_kind
    kind_in (SetOf xs) = after (kinds_in xs) set_kind
    kind_in (Part x n) = after (kind_in x) (part_kind n)

    kinds_in : ExTrees → Option (List KindTree)
    kinds_in no_exs = Some []
    kinds_in (more_exs x xs) = after (kind_in x) (λ k. after (kinds_in xs) (λ js. Some (k ∷ js)))

-- ---- the rules give no other kind

given_row : (row : ℕ) (r : Row) (any : KindTree) → IsRow row r → applied (slice_get operators row) (map (pattern_kind any) (take r.arity r.args)) ≡ Some (pattern_kind any r.result)
given_row row r any here =
    let ps = take r.arity r.args in
    let js = map (pattern_kind any) ps in
    ap (λ o. applied o js) here
    ∙ is_yes (same_list same_kind js (map (pattern_kind (guess ps js)) ps)) _ _ (sym (guess_fits ps any))
    ∙ ap Some (one_kind r.result ps (guess ps js) any (all_at settled operators row r operators_settled here) (guess_fits ps any))

alike : (k : KindTree) (xs : List ExTree) → map (λ x. k) xs ≡ map (λ (j : KindTree). k) (map (λ x. k) xs)
alike k [] = refl
alike k (x ∷ xs) = ap (λ js. k ∷ js) (alike k xs)

set_of_alike : (k : KindTree) (xs : List ExTree) → 1 ≤ length xs → set_kind (map (λ x. k) xs) ≡ Some (SetKind k)
set_of_alike k [] some = absurd (omega arith)
set_of_alike k (x ∷ xs) some = is_yes (same_list same_kind (map (λ x. k) xs) (map (λ j. k) (map (λ x. k) xs))) _ _ (alike k xs)

module _ (ks : List KindTree) where
  as_many : {xs : List ExTree} {js : List KindTree} → EachKinded ks xs js → length xs ≡ length js
  as_many rule.none = refl
  as_many (rule.more h hs) = let tail = as_many hs in omega arith

  mutual
    pub only : {x : ExTree} {k : KindTree} → Kinded ks x k → kind_in ks x ≡ Some k
    only (rule.truth b) = refl
    only (rule.whole n) = refl
    only (rule.slot i h) = h
    only (rule.apply row r any here hs) = after_some (applied (slice_get operators row)) _ (only_each hs) ∙ given_row row r any here
    only (rule.tuple {js = js} hs two) = after_some tuple_kind js (only_each hs) ∙ is_yes (at_most 2 (length js)) _ _ (subst (λ n. 2 ≤ n) (as_many hs) two)
    only (rule.set {xs = xs} {k = k} hs some) = after_some set_kind (map (λ x. k) xs) (only_all hs) ∙ set_of_alike k xs some
    only (rule.part n js h here) = after_some (part_kind n) (TupleKind (kind_parts js)) (only h) ∙ ap (λ is. slice_get is n) (kind_list-kind_parts js) ∙ here

    only_each : {xs : List ExTree} {js : List KindTree} → EachKinded ks xs js → kinds_in ks (exs xs) ≡ Some js
    only_each rule.none = refl
    only_each (rule.more {xs = xs} {j = j} {js = js} h hs) = after_some (λ k. after (kinds_in ks (exs xs)) (λ js. Some (k ∷ js))) j (only h) ∙ after_some (λ js. Some (j ∷ js)) js (only_each hs)

    only_all : {xs : List ExTree} {k : KindTree} → AllKinded ks xs k → kinds_in ks (exs xs) ≡ Some (map (λ x. k) xs)
    only_all rule.no_more = refl
    only_all (rule.and_more {xs = xs} {k = k} h hs) = after_some (λ k. after (kinds_in ks (exs xs)) (λ js. Some (k ∷ js))) k (only h) ∙ after_some (λ js. Some (k ∷ js)) (map (λ x. k) xs) (only_all hs)

-- ---- the rules give this kind

module _ (ks : List KindTree) where
  all_alike : (k : KindTree) {xs : List ExTree} {js : List KindTree} → EachKinded ks xs js → js ≡ map (λ j. k) js → AllKinded ks xs k
  all_alike k rule.none e = rule.no_more
  all_alike k (rule.more {x = x} {j = j} h hs) e = let same : j ≡ k = cc in rule.and_more (subst (λ i. Kinded ks x i) same h) (all_alike k hs (cc))

  value_found : (v : ValueTree) → Told (Kinded ks (Const v)) (value_kind v)
  value_found (Truth b) = rule.truth b
  value_found (Whole (pos n)) = rule.whole n
  value_found (Whole (negsuc n)) = tt
  value_found (value.Tuple vs) = tt
  value_found (value.Set vs) = tt

  slot_found : (i : ℕ) (o : Option KindTree) → slice_get ks i ≡ o → Told (Kinded ks (Slot i)) o
  slot_found i None e = tt
  slot_found i (Some k) e = rule.slot i e

  given_found : (row : ℕ) (xs : List ExTree) (js : List KindTree) (r : Row) (any : KindTree) → IsRow row r → EachKinded ks xs js → Told (Kinded ks (Apply row (exs xs))) (given r js any)
  given_found row xs js r any here hs =
      either_way (Told (Kinded ks (Apply row (exs xs)))) (same_list same_kind js (map (pattern_kind any) (take r.arity r.args))) _ _
      (λ (fit : js ≡ map (pattern_kind any) (take r.arity r.args)). rule.apply row r any here (subst (λ is. EachKinded ks xs is) fit hs)) (λ n. tt)

  applied_found : (row : ℕ) (xs : List ExTree) (js : List KindTree) (o : Option Row) → slice_get operators row ≡ o → EachKinded ks xs js → Told (Kinded ks (Apply row (exs xs))) (applied o js)
  applied_found row xs js None e hs = tt
  applied_found row xs js (Some r) e hs = given_found row xs js r (guess (take r.arity r.args) js) e hs

  apply_found : (row : ℕ) (xs : List ExTree) (o : Option (List KindTree)) → Told (EachKinded ks xs) o → Told (Kinded ks (Apply row (exs xs))) (after o (applied (slice_get operators row)))
  apply_found row xs None h = tt
  apply_found row xs (Some js) hs = applied_found row xs js (slice_get operators row) refl hs

  tuple_found : (xs : List ExTree) (o : Option (List KindTree)) → Told (EachKinded ks xs) o → Told (Kinded ks (Tuple (exs xs))) (after o tuple_kind)
  tuple_found xs None h = tt
  tuple_found xs (Some js) hs = either_way (Told (Kinded ks (Tuple (exs xs)))) (at_most 2 (length js)) _ _ (λ (two : 2 ≤ length js). rule.tuple hs (subst (λ n. 2 ≤ n) (sym (as_many ks hs)) two)) (λ n. tt)

  set_found : (xs : List ExTree) (o : Option (List KindTree)) → Told (EachKinded ks xs) o → Told (Kinded ks (SetOf (exs xs))) (after o set_kind)
  set_found xs None h = tt
  set_found xs (Some []) h = tt
  set_found [] (Some (k ∷ js)) h = elim h [ ]
  set_found (x ∷ xs) (Some (k ∷ js)) (rule.more h hs) =
      either_way (Told (Kinded ks (SetOf (exs (x ∷ xs))))) (same_list same_kind js (map (λ j. k) js)) _ _
      (λ (same : js ≡ map (λ j. k) js). rule.set (rule.and_more h (all_alike k hs same)) (omega arith)) (λ n. tt)

  part_of_kind : (n : ℕ) (x : ExTree) (j : KindTree) → Kinded ks x j → Told (Kinded ks (Part x n)) (part_kind n j)
  part_of_kind n x TruthKind h = tt
  part_of_kind n x WholeKind h = tt
  part_of_kind n x (SetKind j) h = tt
  part_of_kind n x (TupleKind js) h = by (slice_get (kind_list js) n) refl
    where
      by : (o : Option KindTree) → slice_get (kind_list js) n ≡ o → Told (Kinded ks (Part x n)) o
      by None e = tt
      by (Some k) e = rule.part n (kind_list js) (subst (λ is. Kinded ks x (TupleKind is)) (sym (kind_parts-kind_list js)) h) e

  part_found : (n : ℕ) (x : ExTree) (o : Option KindTree) → Told (Kinded ks x) o → Told (Kinded ks (Part x n)) (after o (part_kind n))
  part_found n x None h = tt
  part_found n x (Some j) h = part_of_kind n x j h

  more_found : (x : ExTree) (xs : List ExTree) (o : Option KindTree) (p : Option (List KindTree)) → Told (Kinded ks x) o → Told (EachKinded ks xs) p → Told (EachKinded ks (x ∷ xs)) (after o (λ k. after p (λ js. Some (k ∷ js))))
  more_found x xs None p h hs = tt
  more_found x xs (Some k) None h hs = tt
  more_found x xs (Some k) (Some js) h hs = rule.more h hs

  mutual
    pub found : (x : ExTree) → Told (Kinded ks x) (kind_in ks x)
    found (Const v) = value_found v
    found (Slot i) = slot_found i (slice_get ks i) refl
    found (Apply row xs) = subst (λ ys. Told (Kinded ks (Apply row ys)) (kind_in ks (Apply row xs))) (exs-exs_list xs) (apply_found row (exs_list xs) (kinds_in ks xs) (found_all xs))
    found (Tuple xs) = subst (λ ys. Told (Kinded ks (Tuple ys)) (kind_in ks (Tuple xs))) (exs-exs_list xs) (tuple_found (exs_list xs) (kinds_in ks xs) (found_all xs))
    found (SetOf xs) = subst (λ ys. Told (Kinded ks (SetOf ys)) (kind_in ks (SetOf xs))) (exs-exs_list xs) (set_found (exs_list xs) (kinds_in ks xs) (found_all xs))
    found (Part x n) = part_found n x (kind_in ks x) (found x)

    found_all : (xs : ExTrees) → Told (EachKinded ks (exs_list xs)) (kinds_in ks xs)
    found_all no_exs = rule.none
    found_all (more_exs x xs) = more_found x (exs_list xs) (kind_in ks x) (kinds_in ks xs) (found x) (found_all xs)

  -- whether an expression is of a kind
  pub kinded : (x : ExTree) (k : KindTree) → Dec (Kinded ks x k)
  kinded x k = is_one same_kind (Kinded ks x) (kind_in ks x) (found x) (λ j h. only ks h) k
