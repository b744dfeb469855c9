-- Questions that can be settled.
use Rattle.std.proofs.Common.{◌≡◌, ℕ, suc, zero, ◌≤◌, List, [], ◌∷◌, All, refl, arith}
use Rattle.std.proofs.lemmas.List.Elements.{All-head, All-tail, All-nil, All-cons}
use Rattle.kf_value.specs.Kinds.{KindTree, KindTrees, TruthKind, WholeKind, TupleKind, SetKind, no_kind, more_kinds}

pub both : {P Q R : Type 0} → Dec P → Dec Q → (P → Q → R) → (R → P) → (R → Q) → Dec R
both (yes p) (yes q) f g h = yes (f p q)
both (yes p) (no n) f g h = no (λ r. n (h r))
both (no n) q f g h = no (λ r. n (g r))

pub as_well : {P R : Type 0} → Dec P → (P → R) → (R → P) → Dec R
as_well (yes p) f g = yes (f p)
as_well (no n) f g = no (λ r. n (g r))

pub same_list : {A : Type 0} → ((a b : A) → Dec (a ≡ b)) → (xs ys : List A) → Dec (xs ≡ ys)
same_list same [] [] = yes refl
same_list same [] (y ∷ ys) = no (λ e. cc)
same_list same (x ∷ xs) [] = no (λ e. cc)
same_list same (x ∷ xs) (y ∷ ys) = both (same x y) (same_list same xs ys) (λ e f. cc) (λ e. cc) (λ e. cc)

pub same_number : (a b : ℕ) → Dec (a ≡ b)
same_number zero zero = yes refl
same_number zero (suc b) = no (λ e. omega arith)
same_number (suc a) zero = no (λ e. omega arith)
same_number (suc a) (suc b) = as_well (same_number a b) (λ e. omega arith) (λ e. omega arith)

pub at_most : (a b : ℕ) → Dec (a ≤ b)
at_most zero b = yes (omega arith)
at_most (suc a) zero = no (λ e. omega arith)
at_most (suc a) (suc b) = as_well (at_most a b) (λ e. omega arith) (λ e. omega arith)

pub same_text : (a b : List ℕ) → Dec (a ≡ b)
same_text = same_list same_number

mutual
  pub same_kind : (j k : KindTree) → Dec (j ≡ k)
  same_kind TruthKind TruthKind = yes refl
  same_kind WholeKind WholeKind = yes refl
  same_kind (TupleKind js) (TupleKind ks) = as_well (same_parts js ks) (λ e. cc) (λ e. cc)
  same_kind (SetKind j) (SetKind k) = as_well (same_kind j k) (λ e. cc) (λ e. cc)
  same_kind _ _ = no (λ e. cc)

  same_parts : (js ks : KindTrees) → Dec (js ≡ ks)
  same_parts no_kind no_kind = yes refl
  same_parts no_kind (more_kinds k ks) = no (λ e. cc)
  same_parts (more_kinds j js) no_kind = no (λ e. cc)
  same_parts (more_kinds j js) (more_kinds k ks) = both (same_kind j k) (same_parts js ks) (λ e f. cc) (λ e. cc) (λ e. cc)

pub all_or_not : {A : Type 0} (P : A → Type 0) → ((x : A) → Dec (P x)) → (xs : List A) → Dec (All P xs)
all_or_not P test [] = yes (All-nil P)
all_or_not P test (x ∷ xs) = both (test x) (all_or_not P test xs) (λ h hs. All-cons P x xs h hs) (λ h. All-head P x xs h) (λ h. All-tail P x xs h)
