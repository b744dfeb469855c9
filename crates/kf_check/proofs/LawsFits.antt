-- Which kinds fit an operator, and the kind that it then gives.
use Rattle.std.proofs.Common.{◌≡◌, ℕ, suc, zero, Bool, true, false, not, ◌&&◌, ◌||◌, List, [], ◌∷◌, map, take, slice_get, Some, refl, sym, ap, ◌∙◌, subst, ◌⊎◌, inl, inr, ⊎_elim}
use Rattle.std.specs.List.{list_all}
use Rattle.kf_value.specs.Kinds.{KindTree, TruthKind, WholeKind, SetKind}
use Rattle.kf_ops.specs.declared.row.Pat.{Pat}
use Rattle.kf_ops.specs.declared.row.Pat.TheVariants as pat
use Rattle.kf_ops.specs.Rows.{Row, operators}
use Rattle.kf_ops.specs.Places.{IsRow, pattern_kind}
use Rattle.kf_check.specs.Picks.{Fit}
use Rattle.kf_check.proofs.LawsChoices.{same_kind, same_list}

-- whether the pattern's kind rests on that which `Any` stands for
abbrev mentions : Pat → Bool
mentions pat.Bool = false
mentions pat.Int = false
mentions _ = true

abbrev mentioned : List Pat → Bool
mentioned [] = false
mentioned (p ∷ ps) = mentions p || mentioned ps

-- what an operator gives rests on `Any` only if what it takes does
abbrev settled : Row → Bool
settled r = not (mentions r.result) || mentioned (take r.arity r.args)

pub all_at : {A : Type 0} (test : A → Bool) (xs : List A) (i : ℕ) (x : A) → list_all test xs ≡ true → slice_get xs i ≡ Some x → test x ≡ true
all_at test [] i x h e = absurd (cc)
all_at test (y ∷ xs) zero x h e = let first = both_true (test y) (list_all test xs) h in let same : y ≡ x = cc in subst (λ z. test z ≡ true) same first.0
  where
    both_true : (a b : Bool) → (a && b) ≡ true → (a ≡ true) × (b ≡ true)
    both_true true b h = (refl, h)
    both_true false b h = absurd (cc)
all_at test (y ∷ xs) (suc i) x h e = all_at test xs i x (second_true (test y) (list_all test xs) h) e
  where
    second_true : (a b : Bool) → (a && b) ≡ true → b ≡ true
    second_true true b h = h
    second_true false b h = absurd (cc)

operators_settled : list_all settled operators ≡ true
operators_settled = refl

-- where they rest on it, the kinds tell what `Any` stands for
same_any : (ps : List Pat) (any other : KindTree) → mentioned ps ≡ true → map (pattern_kind any) ps ≡ map (pattern_kind other) ps → any ≡ other
same_any [] any other m e = absurd (cc)
same_any (pat.Bool ∷ ps) any other m e = same_any ps any other m (cc)
same_any (pat.Int ∷ ps) any other m e = same_any ps any other m (cc)
same_any (pat.SetOfAny ∷ ps) any other m e = (cc)
same_any (pat.Any ∷ ps) any other m e = (cc)
same_any (pat.Nothing ∷ ps) any other m e = (cc)

one_kind : (p : Pat) (ps : List Pat) (any other : KindTree) → (not (mentions p) || mentioned ps) ≡ true → map (pattern_kind any) ps ≡ map (pattern_kind other) ps → pattern_kind any p ≡ pattern_kind other p
one_kind pat.Bool ps any other m e = refl
one_kind pat.Int ps any other m e = refl
one_kind pat.SetOfAny ps any other m e = ap SetKind (same_any ps any other m e)
one_kind pat.Any ps any other m e = same_any ps any other m e
one_kind pat.Nothing ps any other m e = same_any ps any other m e

-- an operator gives one kind to kinds that fit it
pub gives_one : (row : ℕ) (r : Row) (ks : List KindTree) (any other : KindTree) → IsRow row r → Fit r any ks → Fit r other ks → pattern_kind any r.result ≡ pattern_kind other r.result
gives_one row r ks any other here fit too = one_kind r.result (take r.arity r.args) any other (all_at settled operators row r operators_settled here) (sym fit ∙ too)

abbrev member_kind : KindTree → KindTree
member_kind (SetKind k) = k
member_kind _ = WholeKind

abbrev guess_at : Pat → KindTree → KindTree → KindTree
guess_at pat.Bool k other = other
guess_at pat.Int k other = other
guess_at pat.SetOfAny k other = member_kind k
guess_at _ k other = k

-- what `Any` stands for if these kinds are those of the patterns
abbrev guess : List Pat → List KindTree → KindTree
guess [] ks = WholeKind
guess (p ∷ ps) [] = WholeKind
guess (p ∷ ps) (k ∷ ks) = guess_at p k (guess ps ks)

right_guess : (ps : List Pat) (any : KindTree) → (guess ps (map (pattern_kind any) ps) ≡ any) ⊎ ((other : KindTree) → map (pattern_kind other) ps ≡ map (pattern_kind any) ps)
right_guess [] any = inr (λ other. refl)
right_guess (pat.Bool ∷ ps) any = ⊎_elim (λ (h : guess ps (map (pattern_kind any) ps) ≡ any). inl h) (λ (h : (other : KindTree) → map (pattern_kind other) ps ≡ map (pattern_kind any) ps). inr (λ other. ap (λ ks. TruthKind ∷ ks) (h other))) (right_guess ps any)
right_guess (pat.Int ∷ ps) any = ⊎_elim (λ (h : guess ps (map (pattern_kind any) ps) ≡ any). inl h) (λ (h : (other : KindTree) → map (pattern_kind other) ps ≡ map (pattern_kind any) ps). inr (λ other. ap (λ ks. WholeKind ∷ ks) (h other))) (right_guess ps any)
right_guess (pat.SetOfAny ∷ ps) any = inl refl
right_guess (pat.Any ∷ ps) any = inl refl
right_guess (pat.Nothing ∷ ps) any = inl refl

guess_fits : (ps : List Pat) (any : KindTree) → map (pattern_kind (guess ps (map (pattern_kind any) ps))) ps ≡ map (pattern_kind any) ps
guess_fits ps any = ⊎_elim
    (λ (h : guess ps (map (pattern_kind any) ps) ≡ any). ap (λ k. map (pattern_kind k) ps) h)
    (λ (h : (other : KindTree) → map (pattern_kind other) ps ≡ map (pattern_kind any) ps). h (guess ps (map (pattern_kind any) ps)))
    (right_guess ps any)

-- whether kinds fit an operator
abbrev pub Fitting : Row → List KindTree → Type 0
Fitting r ks = ((any : KindTree) × Fit r any ks) ⊎ ((any : KindTree) → Fit r any ks → ⊥)

pub fitting : (r : Row) (ks : List KindTree) → Fitting r ks
fitting r ks = by (same_list same_kind ks (map (pattern_kind (guess (take r.arity r.args) ks)) (take r.arity r.args)))
  where
    by : Dec (ks ≡ map (pattern_kind (guess (take r.arity r.args) ks)) (take r.arity r.args)) → Fitting r ks
    by (yes e) = inl (guess (take r.arity r.args) ks, e)
    by (no n) = inr (λ any fit. n (subst (λ ls. ls ≡ map (pattern_kind (guess (take r.arity r.args) ls)) (take r.arity r.args)) (sym fit) (sym (guess_fits (take r.arity r.args) any))))
