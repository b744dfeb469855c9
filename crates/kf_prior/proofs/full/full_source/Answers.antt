use Rattle.std.proofs.Common.{◌≡◌, ℕ, Result, Ok, Err, map, refl, arith}
use Rattle.std.proofs.lemmas.List.{length-map}
use Rattle.kf_ast.specs.Views.{source_tree, decl_tree, item_tree, stmt_tree, decl_items, target_items, stmt_items}
use Rattle.kf_core.specs.Views.{program_tree}
use Rattle.kf_value.specs.Shapes.{shape_types}
use Rattle.std.specs.Result.{IsErrAnd}
use Rattle.kf_prior.specs.declared.error.FullError.{FullError}
use Rattle.kf_prior.specs.declared.error.FullError.TheVariants as error
use Rattle.kf_prior.proofs.Building.{full_built}
use Rattle.kf_prior.proofs.Turns.{enough_types}
use Rattle.kf_prior.proofs.full.full_source.Goals as goal

-- want of memory is no count
no_count : {A : Type 0} (r : Result A FullError) (count : ℕ) → IsErrAnd r (λ e. e ≡ error.Mem) → r ≡ Err (error.Stores count) → ⊥
no_count (Ok x) count mem is = mem
no_count (Err e) count mem is = (cc)

no_error : {A : Type 0} (x : A) (e : FullError) → ◌≡◌ {A = Result A FullError} (Ok x) (Err e) → ⊥
no_error x e is = (cc)

pub initial_stores-count-requires : goal.initial_stores-count-requires
initial_stores-count-requires c =
    c.type_laws.ensures.checked (source_tree c.args.src.now) (program_tree c.args.program.now) c.requires.built c.requires.typed

pub full_decls-requires : goal.full_decls-requires
full_decls-requires c =
    let long = length-map (decl_items c.args.src.now.decls) decl_tree in
    let enough = enough_types c.type_laws.ensures.checked (source_tree c.args.src.now) (program_tree c.args.program.now) c.requires.built c.requires.typed
    (map decl_tree (decl_items c.args.src.now.decls)) (map item_tree (target_items c.args.src.now.target)) (map stmt_tree (stmt_items c.args.src.now.body)) refl in
    rw (c.as_slice-decls.ensures) (omega arith)

pub returns-clause-built : goal.returns-clause-built
returns-clause-built c =
    let built = full_built (shape_types c.args.program.now.shape) (source_tree c.args.src.now) c.args.program.now.shape.sized c.args.program.now.shape.formed c.requires.built in
    let decls = rw c.in_ok-decls.ensures.0 at c.full_decls.ensures in
    let rest = rw c.in_ok-decls.ensures.1 at c.both-rest.ensures in
    let body = rw rest.1 at c.copy.ensures in
    (rw (decls, c.as_slice-decls.ensures) built.0, rw body built.1)

pub returns-in_err-decls-clause-stores : goal.returns-in_err-decls-clause-stores
returns-in_err-decls-clause-stores c count is = absurd (no_count c.from_residual.result count c.from_residual.ensures.1 is)

pub returns-clause-full : goal.returns-clause-full
returns-clause-full c =
    let decls = rw c.in_ok-decls.ensures.0 at c.full_decls.ensures in
    let rest = rw c.in_ok-decls.ensures.1 at c.both-rest.ensures in
    let target = rw rest.0 at c.full_target.ensures in
    let body = rw rest.1 at c.copy.ensures in
    rw (decls, target, body, c.as_slice-decls.ensures) refl

pub returns-clause-stores : goal.returns-clause-stores
returns-clause-stores c count is = absurd (no_error _ _ is)
