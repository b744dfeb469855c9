-- What is kept of distributions, statements and sources; reading with the trimming builder gives it.
use Rattle.std.proofs.Common.{◌≡◌, ℕ, List, [], ◌∷◌, ◌++◌, refl, sym, ◌∙◌, ap, Option, Some, None}
use Rattle.kf_lex.specs.declared.token.Token.{Token}
use Rattle.kf_ast.specs.Exprs.{Apply, Tuple, SetOf, exprs}
use Rattle.kf_ast.specs.Dists.{CaseTree, case_of, DistTree, DistShape, dist_at, Sure, UniformSet, UniformRange, Choose, Flip}
use Rattle.kf_ast.specs.Stmts.{StmtTree, StmtShape, StmtTrees, stmt_at, Skip, Assign, Observe, If, While, no_stmts, more_stmts, stmts}
use Rattle.kf_ast.specs.Sources.{DeclTree, declared, SourceTree, source}
use Rattle.kf_parse.specs.Trimmed.{Trimmed, trimmed, trim, within, together, untouched, earlier}
use Rattle.kf_parse.specs.Plain.{whole_trees}
use Rattle.kf_parse.specs.Reading as r
use Rattle.kf_parse.proofs.TrimSteps.{mapped}
use Rattle.kf_parse.proofs.TrimMaps.{Maps, program_maps}
use Rattle.kf_parse.proofs.TrimCuts.{cut, cuts, number_cut, truth_cut, variable_cut, moved_cut, one_cuts, push_cuts, over_cuts, join_cuts, part_cut}

abbrev pub trim_case : CaseTree → Trimmed CaseTree
trim_case (case_of x y) = together case_of (trim (cut x)) (trim (cut y))

-- each of a list, and the first place that any of them names
abbrev pub trim_each : {A B : Type 0} → (A → Trimmed B) → List A → Trimmed (List B)
trim_each f [] = untouched []
trim_each f (x ∷ xs) = together ◌∷◌ (f x) (trim_each f xs)

abbrev pub trim_dist_shape : DistShape → Trimmed DistShape
trim_dist_shape (Sure x) = within Sure (trim (cut x))
trim_dist_shape (UniformSet x) = within UniformSet (trim (cut x))
trim_dist_shape (UniformRange x y) = together UniformRange (trim (cut x)) (trim (cut y))
trim_dist_shape (Choose cs) = within Choose (trim_each trim_case cs)
trim_dist_shape (Flip j k) = untouched (Flip j k)

abbrev pub trim_dist : DistTree → Trimmed DistTree
trim_dist (dist_at at shape) = within (dist_at at) (trim_dist_shape shape)

abbrev mutual
  pub trim_stmt : StmtTree → Trimmed StmtTree
  trim_stmt (stmt_at at shape) = within (stmt_at at) (trim_shape shape)

  pub trim_shape : StmtShape → Trimmed StmtShape
  trim_shape Skip = untouched Skip
  trim_shape (Assign n d) = within (Assign n) (trim_dist d)
  trim_shape (Observe d) = within Observe (trim_dist d)
  trim_shape (If d xs ys) = together (λ v (us : List StmtTree × List StmtTree). If v (stmts us.0) (stmts us.1)) (trim_dist d) (together (λ us vs. (us, vs)) (trim_stmts xs) (trim_stmts ys))
  trim_shape (While d xs) = together (λ v us. While v (stmts us)) (trim_dist d) (trim_stmts xs)

  pub trim_stmts : StmtTrees → Trimmed (List StmtTree)
  trim_stmts no_stmts = untouched []
  trim_stmts (more_stmts x xs) = together ◌∷◌ (trim_stmt x) (trim_stmts xs)

abbrev pub trim_decl : DeclTree → Trimmed DeclTree
trim_decl (declared visible n y d) = within (declared visible n y) (trim_dist d)

abbrev pub trim_source : SourceTree → Trimmed SourceTree
trim_source (source ds is xs) = together (λ us vs. source us is vs) (trim_each trim_decl ds) (trim_each trim_stmt xs)

same_trimmed : {A : Type 0} (x y : Trimmed A) → x.value ≡ y.value → x.long ≡ y.long → x ≡ y
same_trimmed x y a b = λ i. record { value = a i; long = b i }

earlier_assoc : (a b c : Option ℕ) → earlier (earlier a b) c ≡ earlier a (earlier b c)
earlier_assoc (Some at) b c = refl
earlier_assoc None b c = refl

earlier_none : (a : Option ℕ) → earlier a None ≡ a
earlier_none (Some at) = refl
earlier_none None = refl

-- one more at the end of a list
each_push : {A B : Type 0} (f : A → Trimmed B) (xs : List A) (x : A) → trim_each f (xs ++ x ∷ []) ≡ together (λ us v. us ++ v ∷ []) (trim_each f xs) (f x)
each_push f [] x = same_trimmed _ _ refl (earlier_none _)
each_push f (y ∷ xs) x = ap (together ◌∷◌ (f y)) (each_push f xs x) ∙ same_trimmed _ _ refl (sym (earlier_assoc (f y).long (trim_each f xs).long (f x).long))

stmts_each : (xs : List StmtTree) → trim_stmts (stmts xs) ≡ trim_each trim_stmt xs
stmts_each [] = refl
stmts_each (x ∷ xs) = ap (together ◌∷◌ (trim_stmt x)) (stmts_each xs)

-- the trimming builder makes of trimmed parts the trimmed whole
pub trimming : Maps whole_trees trimmed
trimming = record {
  ex = cut;
  exs = cuts;
  cs = trim_each trim_case;
  di = trim_dist;
  st = trim_stmt;
  ss = trim_each trim_stmt;
  ds = trim_each trim_decl;
  so = trim_source;
  number = number_cut;
  truth = truth_cut;
  variable = variable_cut;
  moved = moved_cut;
  one = one_cuts;
  push = push_cuts;
  apply = λ at row xs. over_cuts at (λ ys. Apply row (exprs ys)) xs refl;
  tuple = λ at xs. over_cuts at (λ ys. Tuple (exprs ys)) xs refl;
  set_of = λ at xs. over_cuts at (λ ys. SetOf (exprs ys)) xs refl;
  join = join_cuts;
  part = part_cut;
  sure = λ x. refl;
  uniform_set = λ at x. refl;
  uniform_range = λ at x y. refl;
  no_cases = refl;
  push_case = λ zs x y. each_push trim_case zs (case_of x y);
  choose = λ at zs. refl;
  flip = λ at j k. refl;
  skip = λ at. refl;
  assign = λ at n d. refl;
  observe = λ at d. refl;
  if_else = λ at d xs ys. rw (stmts_each xs, stmts_each ys) refl;
  while = λ at d xs. rw (stmts_each xs) refl;
  no_statements = refl;
  push_statement = each_push trim_stmt;
  no_declarations = refl;
  push_declaration = λ zs visible n y d. each_push trim_decl zs (declared visible n y d);
  source = λ zs is xs. refl;
}

-- reading with the trimming builder is reading whole trees, trimmed
pub program_trimmed : (src : List ℕ) (d : ℕ) (ts : List Token) → r.program trimmed src d ts ≡ mapped trim_source (r.program whole_trees src d ts)
unfolding trimming
program_trimmed src d ts = sym ((program_maps whole_trees trimmed trimming src d).carried ts)
