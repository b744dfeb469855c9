-- What is trimmed names the first long expression, and is the whole where there is none.
use Rattle.std.proofs.Common.{◌≡◌, ℕ, nat_le, if◌then◌else◌, Bool, true, false, List, [], ◌∷◌, ◌++◌, refl, sym, ◌∙◌, ap, Option, Some, None}
use Rattle.std.specs.List.{flat_map}
use Rattle.kf_ast.specs.Exprs.{ExprTree, place}
use Rattle.kf_ast.specs.Dists.{CaseTree, case_of, DistTree, DistShape, dist_at, Sure, UniformSet, UniformRange, Choose, Flip}
use Rattle.kf_ast.specs.Stmts.{StmtTree, StmtShape, StmtTrees, stmt_at, Skip, Assign, Observe, If, While, no_stmts, more_stmts, stmts}
use Rattle.kf_ast.specs.Sources.{DeclTree, declared, SourceTree, source}
use Rattle.kf_parse.specs.Sizes.{nodes, first_long, case_exprs, dist_exprs, stmt_exprs, stmt_shape_exprs, stmts_exprs, decl_exprs, source_exprs}
use Rattle.kf_parse.specs.Trimmed.{Trimmed, trim, within, together, earlier, place_unless, expr_or_number}
use Rattle.kf_parse.proofs.TrimCuts.{cut}
use Rattle.kf_parse.proofs.TrimTrees.{trim_case, trim_each, trim_dist_shape, trim_dist, trim_stmt, trim_shape, trim_stmts, trim_decl, trim_source}

long-append : (xs ys : List ExprTree) → first_long (xs ++ ys) ≡ earlier (first_long xs) (first_long ys)
long-append [] ys = refl
long-append (x ∷ xs) ys = by_test (nat_le (nodes x) 1000) (long-append xs ys)
  where
    by_test : (b : Bool) → first_long (xs ++ ys) ≡ earlier (first_long xs) (first_long ys) → (if b then first_long (xs ++ ys) else Some (place x)) ≡ earlier (if b then first_long xs else Some (place x)) (first_long ys)
    by_test true ih = ih
    by_test false ih = refl

-- what is trimmed names the first long one of these expressions
abbrev Names : {A : Type 0} → Trimmed A → List ExprTree → Type 0
Names t xs = t.long ≡ first_long xs

names_both : {A B C : Type 0} (f : A → B → C) (t : Trimmed A) (u : Trimmed B) (xs ys : List ExprTree) → Names t xs → Names u ys → Names (together f t u) (xs ++ ys)
names_both f t u xs ys a b = rw (a, b) (sym (long-append xs ys))

names_expr : (x : ExprTree) → Names (trim (cut x)) (x ∷ [])
names_expr x = by_test (nat_le (nodes x) 1000)
  where
    by_test : (b : Bool) → place_unless (place x) (if b then Some x else None) ≡ (if b then None else Some (place x))
    by_test true = refl
    by_test false = refl

names_each : {A B : Type 0} (f : A → Trimmed B) (g : A → List ExprTree) → ((x : A) → Names (f x) (g x)) → (xs : List A) → Names (trim_each f xs) (flat_map g xs)
names_each f g h [] = refl
names_each f g h (x ∷ xs) = names_both ◌∷◌ (f x) (trim_each f xs) (g x) (flat_map g xs) (h x) (names_each f g h xs)

names_case : (c : CaseTree) → Names (trim_case c) (case_exprs c)
names_case (case_of x y) = names_both case_of (trim (cut x)) (trim (cut y)) (x ∷ []) (y ∷ []) (names_expr x) (names_expr y)

names_dist : (d : DistTree) → Names (trim_dist d) (dist_exprs d)
names_dist (dist_at at (Sure x)) = names_expr x
names_dist (dist_at at (UniformSet x)) = names_expr x
names_dist (dist_at at (UniformRange x y)) = names_both UniformRange (trim (cut x)) (trim (cut y)) (x ∷ []) (y ∷ []) (names_expr x) (names_expr y)
names_dist (dist_at at (Choose cs)) = names_each trim_case case_exprs names_case cs
names_dist (dist_at at (Flip j k)) = refl

abbrev pair : {A : Type 0} → A → A → A × A
pair a b = (a, b)

mutual
  names_stmt : (x : StmtTree) → Names (trim_stmt x) (stmt_exprs x)
  names_stmt (stmt_at at shape) = names_shape shape

  names_shape : (x : StmtShape) → Names (trim_shape x) (stmt_shape_exprs x)
  names_shape Skip = refl
  names_shape (Assign n d) = names_dist d
  names_shape (Observe d) = names_dist d
  names_shape (If d xs ys) = names_both (λ v us. If v (stmts us.0) (stmts us.1)) (trim_dist d) (together pair (trim_stmts xs) (trim_stmts ys)) (dist_exprs d) (stmts_exprs xs ++ stmts_exprs ys) (names_dist d)
      (names_both pair (trim_stmts xs) (trim_stmts ys) (stmts_exprs xs) (stmts_exprs ys) (names_stmts xs) (names_stmts ys))
  names_shape (While d xs) = names_both (λ v us. While v (stmts us)) (trim_dist d) (trim_stmts xs) (dist_exprs d) (stmts_exprs xs) (names_dist d) (names_stmts xs)

  names_stmts : (xs : StmtTrees) → Names (trim_stmts xs) (stmts_exprs xs)
  names_stmts no_stmts = refl
  names_stmts (more_stmts x xs) = names_both ◌∷◌ (trim_stmt x) (trim_stmts xs) (stmt_exprs x) (stmts_exprs xs) (names_stmt x) (names_stmts xs)

names_decl : (d : DeclTree) → Names (trim_decl d) (decl_exprs d)
names_decl (declared visible n y d) = names_dist d

pub trim_long : (x : SourceTree) → (trim_source x).long ≡ first_long (source_exprs x)
trim_long (source ds is xs) = names_both (λ us vs. source us is vs) (trim_each trim_decl ds) (trim_each trim_stmt xs) (flat_map decl_exprs ds) (flat_map stmt_exprs xs)
    (names_each trim_decl decl_exprs names_decl ds) (names_each trim_stmt stmt_exprs names_stmt xs)

-- what names no long expression is the whole
abbrev Keeps : {A : Type 0} → Trimmed A → A → Type 0
Keeps t x = t.long ≡ None → t.value ≡ x

keeps_both : {A B C : Type 0} (f : A → B → C) (t : Trimmed A) (u : Trimmed B) (x : A) (y : B) → Keeps t x → Keeps u y → Keeps (together f t u) (f x y)
keeps_both f t u x y a b e = by_first t.long refl e
  where
    by_first : (v : Option ℕ) → t.long ≡ v → earlier v u.long ≡ None → f t.value u.value ≡ f x y
    by_first None p q = rw (a p, b q) refl
    by_first (Some at) p q = absurd (let h : Some at ≡ None = q in cc)

keeps_in : {A B : Type 0} (f : A → B) (t : Trimmed A) (x : A) → Keeps t x → Keeps (within f t) (f x)
keeps_in f t x a e = ap f (a e)

keeps_expr : (x : ExprTree) → Keeps (trim (cut x)) x
keeps_expr x = by_test (nat_le (nodes x) 1000)
  where
    by_test : (b : Bool) → place_unless (place x) (if b then Some x else None) ≡ None → expr_or_number (place x) (if b then Some x else None) ≡ x
    by_test true e = refl
    by_test false e = absurd (let h : Some (place x) ≡ None = e in cc)

keeps_each : {A : Type 0} (f : A → Trimmed A) → ((x : A) → Keeps (f x) x) → (xs : List A) → Keeps (trim_each f xs) xs
keeps_each f h [] e = refl
keeps_each f h (x ∷ xs) e = keeps_both ◌∷◌ (f x) (trim_each f xs) x xs (h x) (keeps_each f h xs) e

keeps_case : (c : CaseTree) → Keeps (trim_case c) c
keeps_case (case_of x y) = keeps_both case_of (trim (cut x)) (trim (cut y)) x y (keeps_expr x) (keeps_expr y)

keeps_dist_shape : (d : DistShape) → Keeps (trim_dist_shape d) d
keeps_dist_shape (Sure x) = keeps_in Sure (trim (cut x)) x (keeps_expr x)
keeps_dist_shape (UniformSet x) = keeps_in UniformSet (trim (cut x)) x (keeps_expr x)
keeps_dist_shape (UniformRange x y) = keeps_both UniformRange (trim (cut x)) (trim (cut y)) x y (keeps_expr x) (keeps_expr y)
keeps_dist_shape (Choose cs) = keeps_in Choose (trim_each trim_case cs) cs (keeps_each trim_case keeps_case cs)
keeps_dist_shape (Flip j k) = λ e. refl

keeps_dist : (d : DistTree) → Keeps (trim_dist d) d
keeps_dist (dist_at at shape) = keeps_in (dist_at at) (trim_dist_shape shape) shape (keeps_dist_shape shape)

mutual
  keeps_stmt : (x : StmtTree) → Keeps (trim_stmt x) x
  keeps_stmt (stmt_at at shape) = keeps_in (stmt_at at) (trim_shape shape) shape (keeps_shape shape)

  keeps_shape : (x : StmtShape) → Keeps (trim_shape x) x
  keeps_shape Skip = λ e. refl
  keeps_shape (Assign n d) = keeps_in (Assign n) (trim_dist d) d (keeps_dist d)
  keeps_shape (Observe d) = keeps_in Observe (trim_dist d) d (keeps_dist d)
  keeps_shape (If d xs ys) = keeps_both (λ v us. If v us.0 us.1) (trim_dist d) (together pair (within stmts (trim_stmts xs)) (within stmts (trim_stmts ys))) d (pair xs ys) (keeps_dist d)
      (keeps_both pair (within stmts (trim_stmts xs)) (within stmts (trim_stmts ys)) xs ys (keeps_stmts xs) (keeps_stmts ys))
  keeps_shape (While d xs) = keeps_both While (trim_dist d) (within stmts (trim_stmts xs)) d xs (keeps_dist d) (keeps_stmts xs)

  keeps_stmts : (xs : StmtTrees) → Keeps (within stmts (trim_stmts xs)) xs
  keeps_stmts no_stmts = λ e. refl
  keeps_stmts (more_stmts x xs) = keeps_both more_stmts (trim_stmt x) (within stmts (trim_stmts xs)) x xs (keeps_stmt x) (keeps_stmts xs)

keeps_decl : (d : DeclTree) → Keeps (trim_decl d) d
keeps_decl (declared visible n y d) = keeps_in (declared visible n y) (trim_dist d) d (keeps_dist d)

keeps_source : (x : SourceTree) → Keeps (trim_source x) x
keeps_source (source ds is xs) = keeps_both (λ us vs. source us is vs) (trim_each trim_decl ds) (trim_each trim_stmt xs) ds xs (keeps_each trim_decl keeps_decl ds) (keeps_each trim_stmt keeps_stmt xs)

pub trim_whole : (x : SourceTree) → first_long (source_exprs x) ≡ None → (trim_source x).value ≡ x
trim_whole x e = keeps_source x (trim_long x ∙ e)
