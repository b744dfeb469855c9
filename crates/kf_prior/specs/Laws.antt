-- For bodies: laws of full sources and of refinement for all priors.
use Rattle.std.specs.Prelude.{◌≡◌, ℕ, ◌*◌, ℤ, pos, ◌*ℤ◌, ◌≤ℤ◌, ◌<ℤ◌, List, [], length, map, drop, replicate, Ok}
use Rattle.std.specs.List.{range_with_len}
use Rattle.kf_value.specs.Types.{TypeTree, count, product}
use Rattle.kf_value.specs.Numbers.{target_size}
use Rattle.kf_ast.specs.Sources.{SourceTree}
use Rattle.kf_core.specs.Programs.{ProgramTree}
use Rattle.kf_core.specs.Rows.{IsHyperOf}
use Rattle.kf_core.specs.Joint.{joint_of}
use Rattle.kf_core.specs.Runs.{declared, Run}
use Rattle.kf_core.specs.Scale.{scale_of}
use Rattle.kf_check.specs.Laws.{IsWellBuilt}
use Rattle.kf_check.specs.Translation.{Typed}
use Rattle.kf_gain.specs.Gains.{TableTree, Table}
use Rattle.kf_refine.specs.Refinements.{HyperTree, Fraction, Carries, Separates}
use Rattle.kf_prior.specs.FullSources.{full_source}
use Rattle.kf_prior.specs.Priors.{IsPosteriorAt, initial_count}

-- the full source of a source that one could have read is one too
abbrev pub FullIsBuilt : Type 0
FullIsBuilt = (s : SourceTree) (p : ProgramTree) → IsWellBuilt s → Typed s p → IsWellBuilt (full_source p.types s)

-- the program is that of a full source
pub record IsFull (p : ProgramTree) : Type 0 where
  pub types : List TypeTree
  pub tree : SourceTree
  pub program : ProgramTree
  pub built : IsWellBuilt tree
  pub typed : Typed tree program
  pub are_types : types ≡ program.types
  pub full : Typed (full_source types tree) p

-- the target of a full program has a value for each pair of stores
abbrev pub FullTargetIsSquare : Type 0
FullTargetIsSquare = (p : ProgramTree) → IsFull p → target_size p.target ≡ initial_count p * initial_count p

-- a full program has this hyper about its target, over its scale
pub record HasHyper (turns : ℕ) (p : ProgramTree) (h : HyperTree) : Type 0 where
  pub full : IsFull p
  pub about : h.target ≡ p.target
  pub scale : h.scale ≡ scale_of turns p
  pub is_hyper : IsHyperOf (joint_of turns p) h.inners

-- the declarations of a full program lead to each initial store once, in ascending order, all equally likely
abbrev pub initial_run : ProgramTree → ℕ → Run
initial_run p x = record {
  trace = [];
  end = Ok (x * product (map count (drop (length p.decls) p.types)));
  weight = 1;
  scale = initial_count p;
}

abbrev pub BeginsUniformly : ProgramTree → Type 0
BeginsUniformly p = declared p.types 0 p.decls 0 ≡ map (initial_run p) (range_with_len 0 (initial_count p))

abbrev pub FullBeginsUniformly : Type 0
FullBeginsUniformly = (p : ProgramTree) → IsFull p → BeginsUniformly p

-- the matrix of a yes carries at every prior
abbrev pub CarriesForAllPriors : Type 0
CarriesForAllPriors = (turns : ℕ) (p q : ProgramTree) (a b : HyperTree) (rows : List (List Fraction)) (prior : List ℕ)
    (t : TableTree) (y z : ℤ)
    → HasHyper turns p a → HasHyper turns q b → a.target ≡ b.target → Carries a b rows → length prior ≡ initial_count p
    → IsPosteriorAt turns p prior (Table t) y → IsPosteriorAt turns q prior (Table t) z
    → (z *ℤ pos a.scale) ≤ℤ (y *ℤ pos b.scale)

-- the table of a no separates at the uniform prior
abbrev pub SeparatesAtUniform : Type 0
SeparatesAtUniform = (turns : ℕ) (p q : ProgramTree) (a b : HyperTree) (t : TableTree) (y z : ℤ)
    → HasHyper turns p a → HasHyper turns q b → a.target ≡ b.target → Separates t a b
    → IsPosteriorAt turns p (replicate (initial_count p) 1) (Table t) y → IsPosteriorAt turns q (replicate (initial_count p) 1) (Table t) z
    → (y *ℤ pos b.scale) <ℤ (z *ℤ pos a.scale)
