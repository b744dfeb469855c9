-- Questions that can be settled, and kinds and types among them.
use Rattle.std.proofs.Common.{◌≡◌, ℕ, suc, zero, ◌≤◌, List, [], ◌∷◌, Option, Some, None, refl, subst, arith}
use Rattle.std.proofs.Math.Logic.{∥∥₁_elim}
use Rattle.std.proofs.Math.IntN.{ℤ_discrete}
use Rattle.kf_value.specs.Kinds.{KindTree, KindTrees, TruthKind, WholeKind, TupleKind, SetKind, no_kind, more_kinds}
use Rattle.kf_value.specs.Types.{TypeTree, TypeTrees, Boolean, Range, TupleOf, SetOf, no_type, more_types}

-- what is only said to hold is at hand where it can be settled
pub again : {P : Type 0} → Dec P → ∥ P ∥₁ → P
again (yes p) t = p
again (no n) t = absurd (∥∥₁_elim t (λ x y. absurd x) n)

-- ---- one question by others

pub as_well : {P R : Type 0} → Dec P → (P → R) → (R → P) → Dec R
as_well (yes p) f g = yes (f p)
as_well (no n) f g = no (λ r. n (g r))

pub both : {P Q R : Type 0} → Dec P → Dec Q → (P → Q → R) → (R → P) → (R → Q) → Dec R
both (yes p) (yes q) f g h = yes (f p q)
both (yes p) (no n) f g h = no (λ r. n (h r))
both (no n) q f g h = no (λ r. n (g r))

-- one value where it holds, the other where it doesn't
abbrev pub decided : {P A : Type 0} → Dec P → A → A → A
decided (yes h) a b = a
decided (no n) a b = b

pub is_yes : {P A : Type 0} (d : Dec P) (a b : A) → P → decided d a b ≡ a
is_yes (yes h) a b p = refl
is_yes (no n) a b p = absurd (n p)

pub either_way : {P A : Type 0} (Q : A → Type 0) (d : Dec P) (a b : A) → (P → Q a) → ((P → ⊥) → Q b) → Q (decided d a b)
either_way Q (yes h) a b f g = f h
either_way Q (no n) a b f g = g n

-- ---- numbers, kinds and types

pub same_number : (a b : ℕ) → Dec (a ≡ b)
same_number zero zero = yes refl
same_number zero (suc b) = no (λ e. omega arith)
same_number (suc a) zero = no (λ e. omega arith)
same_number (suc a) (suc b) = as_well (same_number a b) (λ e. omega arith) (λ e. omega arith)

pub at_most : (a b : ℕ) → Dec (a ≤ b)
at_most zero b = yes (omega arith)
at_most (suc a) zero = no (λ e. omega arith)
at_most (suc a) (suc b) = as_well (at_most a b) (λ e. omega arith) (λ e. omega arith)

pub same_list : {A : Type 0} → ((a b : A) → Dec (a ≡ b)) → (xs ys : List A) → Dec (xs ≡ ys)
same_list same [] [] = yes refl
same_list same [] (y ∷ ys) = no (λ e. cc)
same_list same (x ∷ xs) [] = no (λ e. cc)
same_list same (x ∷ xs) (y ∷ ys) = both (same x y) (same_list same xs ys) (λ e f. cc) (λ e. cc) (λ e. cc)

pub same_option : {A : Type 0} → ((a b : A) → Dec (a ≡ b)) → (o p : Option A) → Dec (o ≡ p)
same_option same None None = yes refl
same_option same None (Some b) = no (λ e. cc)
same_option same (Some a) None = no (λ e. cc)
same_option same (Some a) (Some b) = as_well (same a b) (λ e. cc) (λ e. cc)

mutual
  pub same_kind : (j k : KindTree) → Dec (j ≡ k)
  same_kind TruthKind TruthKind = yes refl
  same_kind WholeKind WholeKind = yes refl
  same_kind (TupleKind js) (TupleKind ks) = as_well (same_kinds js ks) (λ e. cc) (λ e. cc)
  same_kind (SetKind j) (SetKind k) = as_well (same_kind j k) (λ e. cc) (λ e. cc)
  same_kind _ _ = no (λ e. cc)

  same_kinds : (js ks : KindTrees) → Dec (js ≡ ks)
  same_kinds no_kind no_kind = yes refl
  same_kinds no_kind (more_kinds k ks) = no (λ e. cc)
  same_kinds (more_kinds j js) no_kind = no (λ e. cc)
  same_kinds (more_kinds j js) (more_kinds k ks) = both (same_kind j k) (same_kinds js ks) (λ e f. cc) (λ e. cc) (λ e. cc)

mutual
  pub same_type : (t u : TypeTree) → Dec (t ≡ u)
  same_type Boolean Boolean = yes refl
  same_type (Range a b) (Range c d) = both (ℤ_discrete a c) (ℤ_discrete b d) (λ e f. cc) (λ e. cc) (λ e. cc)
  same_type (TupleOf ts) (TupleOf us) = as_well (same_types ts us) (λ e. cc) (λ e. cc)
  same_type (SetOf t) (SetOf u) = as_well (same_type t u) (λ e. cc) (λ e. cc)
  same_type _ _ = no (λ e. cc)

  same_types : (ts us : TypeTrees) → Dec (ts ≡ us)
  same_types no_type no_type = yes refl
  same_types no_type (more_types u us) = no (λ e. cc)
  same_types (more_types t ts) no_type = no (λ e. cc)
  same_types (more_types t ts) (more_types u us) = both (same_type t u) (same_types ts us) (λ e f. cc) (λ e. cc) (λ e. cc)

-- ---- where there is at most one, and it is worked out

-- what was worked out is so
abbrev pub Told : {A : Type 0} → (A → Type 0) → Option A → Type 0
Told P None = Unit {0}
Told P (Some x) = P x

module _ {A : Type 0} (same : (a b : A) → Dec (a ≡ b)) (P : A → Type 0) where
  pub is_one : (o : Option A) → Told P o → ((x : A) → P x → o ≡ Some x) → (x : A) → Dec (P x)
  is_one None h only x = no (λ p. let clash : None ≡ Some x = only x p in cc)
  is_one (Some y) h only x = as_well (same y x) (λ e. subst P e h) (λ p. let found : Some y ≡ Some x = only x p in cc)

  pub has_one : (o : Option A) → Told P o → ((x : A) → P x → o ≡ Some x) → Dec ((x : A) × P x)
  has_one None h only = no (λ p. let clash : None ≡ Some p.0 = only p.0 p.1 in cc)
  has_one (Some y) h only = yes (y, h)

-- an answer that is asked of another one
abbrev pub after : {A B : Type 0} → Option A → (A → Option B) → Option B
after None f = None
after (Some x) f = f x

pub after_some : {A B : Type 0} {o : Option A} (f : A → Option B) (x : A) → o ≡ Some x → after o f ≡ f x
after_some f x h = rw h refl
