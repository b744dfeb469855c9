-- What is kept of an expression, and that it is what the trimming builder makes.
use Rattle.std.proofs.Common.{◌≡◌, ℕ, ◌+◌, ◌≤◌, ◌<◌, nat_le, if◌then◌else◌, Bool, true, false, List, [], ◌∷◌, ◌++◌, refl, ◌∙◌, ap, Some, None, ◌⊎◌, inl, inr, arith}
use Rattle.kf_ast.specs.Names.{NameTree}
use Rattle.kf_ast.specs.Views.{name_place}
use Rattle.kf_ast.specs.Exprs.{ExprTree, ExprShape, expr_at, Number, Truth, Name, Apply, Part, exprs, place, placed}
use Rattle.kf_parse.specs.Sizes.{nodes, shape_nodes, all_nodes}
use Rattle.kf_parse.specs.Trimmed.{Cut, Cuts, capped, kept_to, shaped, leaf, node_over, moved_to, listed, pushed_to, one_cut, push_cut}

abbrev pub nodes_of : List ExprTree → ℕ
nodes_of xs = all_nodes (exprs xs)

-- what is kept of an expression, and of expressions
abbrev pub cut : ExprTree → Cut
cut x = record { nodes = capped (nodes x); at = place x; kept = kept_to (nodes x) x }

abbrev pub cuts : List ExprTree → Cuts
cuts xs = record { nodes = capped (nodes_of xs); kept = kept_to (nodes_of xs) xs }

same_cut : (x y : Cut) → x.nodes ≡ y.nodes → x.at ≡ y.at → x.kept ≡ y.kept → x ≡ y
same_cut x y a b c = λ i. record { nodes = a i; at = b i; kept = c i }

same_cuts : (xs ys : Cuts) → xs.nodes ≡ ys.nodes → xs.kept ≡ ys.kept → xs ≡ ys
same_cuts xs ys a b = λ i. record { nodes = a i; kept = b i }

few_or_many : (n : ℕ) → (n ≤ 1000) ⊎ (1000 < n)
few_or_many n = grind arith

few_kept : {A : Type 0} (n : ℕ) (x : A) → n ≤ 1000 → kept_to n x ≡ Some x
few_kept n x h = let e : nat_le n 1000 ≡ true = grind arith in rw e refl

many_gone : {A : Type 0} (n : ℕ) (x : A) → 1000 < n → kept_to n x ≡ None
many_gone n x h = let e : nat_le n 1000 ≡ false = grind arith in rw e refl

-- a node above what is kept is kept where it is small enough
shaped_kept : {A : Type 0} (n at : ℕ) (f : A → ExprShape) (x : A) → kept_to (n + 1) (expr_at at (f x)) ≡ shaped (capped n + 1) at f (kept_to n x)
shaped_kept n at f x = elim (few_or_many n) [
  | inl few ↦ let e : capped n + 1 ≡ n + 1 = omega arith in rw (few_kept n x few, e) refl
  | inr many ↦ rw (many_gone n x many, many_gone (n + 1) (expr_at at (f x)) (omega arith)) refl
]

-- what is kept of one, and of one more
one_kept : (n : ℕ) (x : ExprTree) → kept_to (n + 0) (x ∷ []) ≡ listed (kept_to n x)
one_kept n x = elim (few_or_many n) [
  | inl few ↦ rw (few_kept n x few, few_kept (n + 0) (x ∷ []) (omega arith)) refl
  | inr many ↦ rw (many_gone n x many, many_gone (n + 0) (x ∷ []) (omega arith)) refl
]

push_kept : (n m : ℕ) (xs : List ExprTree) (x : ExprTree) → kept_to (n + m) (xs ++ x ∷ []) ≡ pushed_to (capped n + capped m) (kept_to n xs) (kept_to m x)
push_kept n m xs x = elim (few_or_many n) [
  | inl few ↦ elim (few_or_many m) [
    | inl less ↦ let e : capped n + capped m ≡ n + m = omega arith in rw (few_kept n xs few, few_kept m x less, e) refl
    | inr more ↦ rw (few_kept n xs few, many_gone m x more, many_gone (n + m) (xs ++ x ∷ []) (omega arith)) refl
  ]
  | inr many ↦ rw (many_gone n xs many, many_gone (n + m) (xs ++ x ∷ []) (omega arith)) refl
]

-- adding up numbers that were capped
capped_sum : (n m : ℕ) → capped (n + m) ≡ capped (capped n + capped m)
capped_sum n m = omega arith

capped_next : (n : ℕ) → capped (n + 1) ≡ capped (capped n + 1)
capped_next n = omega arith

nodes-append : (xs : List ExprTree) (x : ExprTree) → nodes_of (xs ++ x ∷ []) ≡ nodes_of xs + nodes x
nodes-append [] x = omega arith
nodes-append (y ∷ xs) x = let ih = nodes-append xs x in omega arith

pub number_cut : (at k : ℕ) → cut (expr_at at (Number k)) ≡ leaf at (Number k)
number_cut at k = refl

pub truth_cut : (at : ℕ) (b : Bool) → cut (expr_at at (Truth b)) ≡ leaf at (Truth b)
truth_cut at b = refl

pub variable_cut : (n : NameTree) → cut (expr_at (name_place n) (Name n)) ≡ leaf (name_place n) (Name n)
variable_cut n = refl

pub moved_cut : (at : ℕ) (x : ExprTree) → cut (placed at x) ≡ record { nodes = (cut x).nodes; at = at; kept = moved_to at (cut x).kept }
moved_cut at (expr_at from shape) = same_cut _ _ refl refl (by_test (nat_le (shape_nodes shape) 1000))
  where
    by_test : (b : Bool) → (if b then Some (expr_at at shape) else None) ≡ moved_to at (if b then Some (expr_at from shape) else None)
    by_test true = refl
    by_test false = refl

pub one_cuts : (x : ExprTree) → cuts (x ∷ []) ≡ one_cut (cut x)
one_cuts x = same_cuts _ _ (ap capped (let e : nodes_of (x ∷ []) ≡ nodes x = omega arith in e)) (one_kept (nodes x) x)

pub push_cuts : (xs : List ExprTree) (x : ExprTree) → cuts (xs ++ x ∷ []) ≡ push_cut (cuts xs) (cut x)
push_cuts xs x = same_cuts _ _ (ap capped (nodes-append xs x) ∙ capped_sum (nodes_of xs) (nodes x)) (ap (λ n. kept_to n (xs ++ x ∷ [])) (nodes-append xs x) ∙ push_kept (nodes_of xs) (nodes x) xs x)

-- a node above a list
pub over_cuts : (at : ℕ) (f : List ExprTree → ExprShape) (xs : List ExprTree) → shape_nodes (f xs) ≡ nodes_of xs + 1 → cut (expr_at at (f xs)) ≡ node_over at f (cuts xs)
over_cuts at f xs e = same_cut _ _ (ap capped e ∙ capped_next (nodes_of xs)) refl (ap (λ n. kept_to n (expr_at at (f xs))) e ∙ shaped_kept (nodes_of xs) at f xs)

pub join_cuts : (row : ℕ) (x y : ExprTree) → cut (expr_at (place x) (Apply row (exprs (x ∷ y ∷ [])))) ≡ node_over (place x) (λ ys. Apply row (exprs ys)) (push_cut (one_cut (cut x)) (cut y))
join_cuts row x y = over_cuts (place x) (λ ys. Apply row (exprs ys)) (x ∷ y ∷ []) refl ∙ ap (node_over (place x) (λ ys. Apply row (exprs ys))) (push_cuts (x ∷ []) y ∙ ap (λ z. push_cut z (cut y)) (one_cuts x))

pub part_cut : (x : ExprTree) (k : ℕ) → cut (expr_at (place x) (Part x k)) ≡ record { nodes = capped ((cut x).nodes + 1); at = place x; kept = shaped ((cut x).nodes + 1) (place x) (λ y. Part y k) (cut x).kept }
part_cut x k = same_cut _ _ (capped_next (nodes x)) refl (shaped_kept (nodes x) (place x) (λ y. Part y k) x)
