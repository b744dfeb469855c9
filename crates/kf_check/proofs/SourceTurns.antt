-- What the check of a whole source shows of its parts.
use Rattle.std.specs.Bool.{◌==◌}
use Rattle.std.proofs.Common.{◌≡◌, ℕ, ◌^◌, ◌+◌, ◌<◌, ◌≤◌, Bool, true, false, List, [], ◌∷◌, ◌++◌, map, length, Ok, Err, sym, ap, ◌∙◌, subst, arith}
use Rattle.std.specs.List.{All}
use Rattle.std.proofs.lemmas.Bool.{eqb-true}
use Rattle.std.proofs.lemmas.List.{length-map}
use Rattle.kf_value.specs.Types.{TypeTree, count, product}
use Rattle.kf_value.specs.Targets.{Item}
use Rattle.kf_ops.specs.Fitting.{Takes}
use Rattle.kf_ast.specs.declared.decl.Decl.{Decl}
use Rattle.kf_ast.specs.Built.{AreDeclsBuilt}
use Rattle.kf_ast.specs.Stmts.{StmtTree, StmtTrees, stmts}
use Rattle.kf_ast.specs.Sources.{DeclTree, is_visible, ItemTree, source}
use Rattle.kf_ast.specs.Views.{decl_tree}
use Rattle.kf_core.specs.Sts.{StTree}
use Rattle.kf_check.specs.declared.errors.TypeError.{TypeError}
use Rattle.kf_check.specs.declared.errors.TypeError.TheVariants as broken
use Rattle.kf_check.specs.declared.variables.Variable as code
use Rattle.kf_check.specs.Kinds.{Known}
use Rattle.kf_check.specs.Statements.{JudgesStmts}
use Rattle.kf_check.specs.Sources.{Variable, types_of, known_of, JudgesDecls, JudgesItems}
use Rattle.kf_check.specs.Translation.{IsTarget, names_of, st_of}
use Rattle.kf_check.specs.Picks.{names_in}
use Rattle.kf_check.specs.Variables.{variable_of, AreCopied, IsBroken}
use Rattle.kf_check.proofs.Declared.{names_of_known}
use Rattle.kf_check.proofs.Programs.{fits_shape, some_variables, no_variable, one_copied}

-- a source without declarations declares no variable
pub none_declared : (ds : List Decl) (items : List ItemTree) (xs : List StmtTree) (b : Bool) → b ≡ (length ds == 0) → b ≡ true → IsBroken (source (map decl_tree ds) items xs) (broken.NoVariable 0)
none_declared [] items xs b is empty = no_variable items xs
none_declared (d ∷ ds) items xs b is empty = let zero : length (d ∷ ds) ≡ 0 = eqb-true (length (d ∷ ds)) 0 (sym is ∙ empty) in absurd (omega arith)

pub some_declared : (ds : List Decl) (b : Bool) → b ≡ (length ds == 0) → b ≡ false → 1 ≤ length (map decl_tree ds)
some_declared [] b is full = absurd (cc)
some_declared (d ∷ ds) b is full = omega arith

pub some_code : (ws : List code.Variable) (ds : List DeclTree) → JudgesDecls [] ds (Ok (map variable_of ws)) → 1 ≤ length ds → 1 ≤ length ws
some_code ws ds j some = subst (λ n. 1 ≤ n) (length-map ws variable_of) (some_variables (map variable_of ws) ds j some)

-- what a shape of these variables and copies asks for
pub record FitsVariables (ws : List code.Variable) (cs : List ℕ) : Type 0 where
  pub within : All (λ c. c < length ws) cs
  pub few : length ws + length cs ≤ 32
  pub narrow : (types : List TypeTree) → AreCopied (map variable_of ws) cs types → product (map count (types_of (map variable_of ws) ++ types)) ≤ 2 ^ 63

pub fits_variables : (ws : List code.Variable) (ds : List DeclTree) {items : List ItemTree} {cs : List ℕ} {is : List Item} {slots : List ℕ} → AreDeclsBuilt Takes ds → JudgesDecls [] ds (Ok (map variable_of ws))
    → (types : List TypeTree) × JudgesItems (map variable_of ws) [] (types_of (map variable_of ws)) items (Ok (types_of (map variable_of ws) ++ types)) × AreCopied (map variable_of ws) cs types × IsTarget (map variable_of ws) items cs is slots
    → FitsVariables ws cs
fits_variables ws ds {cs = cs} built j target =
    let fits = fits_shape (ds, built, j) target.3 (types_of (map variable_of ws) ++ target.0) target.1 in
    record {
      within = subst (λ n. All (λ c. c < n) cs) (length-map ws variable_of) fits.within;
      few = subst (λ n. n + length cs ≤ 32) (length-map ws variable_of) fits.few;
      narrow = fits.narrow;
    }

-- statements stand behind the declared variables
pub stmts_declared : (vs : List Variable) (known : List Known) (ds : List DeclTree) (flags : List Bool) (xs : List StmtTree) (ys : List StTree) → known ≡ known_of vs → flags ≡ map is_visible ds
    → JudgesStmts known (stmts xs) (Ok tt) × (ys ≡ map (st_of (names_in known) flags) xs) → JudgesStmts (known_of vs) (stmts xs) (Ok tt) × (ys ≡ map (st_of (names_of vs) (map is_visible ds)) xs)
stmts_declared vs known ds flags xs ys same flagged h = (
  subst (λ k. JudgesStmts k (stmts xs) (Ok tt)) same h.0,
  h.1 ∙ ap (λ k. map (st_of (names_in k) flags) xs) same ∙ ap (λ names. map (st_of names flags) xs) (names_of_known vs) ∙ ap (λ bs. map (st_of (names_of vs) bs) xs) flagged,
)

pub stmts_broken : (vs : List Variable) (known : List Known) (xs : StmtTrees) (e : TypeError) → known ≡ known_of vs → JudgesStmts known xs (Err e) → JudgesStmts (known_of vs) xs (Err e)
stmts_broken vs known xs e same h = subst (λ k. JudgesStmts k xs (Err e)) same h

-- the types of all variables are those of the shape
pub all_types : (vs : List Variable) (items : List ItemTree) (cs : List ℕ) (whole types : List TypeTree) → whole ≡ types_of vs ++ types → AreCopied vs cs types
    → (others : List TypeTree) → JudgesItems vs [] (types_of vs) items (Ok (types_of vs ++ others)) → AreCopied vs cs others → JudgesItems vs [] (types_of vs) items (Ok whole)
all_types vs items cs whole types is copied others j too =
    let same : types ≡ others = one_copied types others (copied ∙ sym too) in
    subst (λ us. JudgesItems vs [] (types_of vs) items (Ok us)) (sym (is ∙ ap (λ us. types_of vs ++ us) same)) j
