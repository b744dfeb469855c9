-- For bodies: what reading builds its trees from.
use Rattle.std.specs.Prelude.{ℕ, Bool, List}
use Rattle.kf_ast.specs.Names.{NameTree}
use Rattle.kf_ast.specs.TypeForms.{TypeForm}
use Rattle.kf_ast.specs.Sources.{ItemTree}

pub record Builder : Type 1 where
  -- expressions, and lists of them
  pub Ex : Type 0
  pub Exs : Type 0
  -- lists of cases, and distributions
  pub Cs : Type 0
  pub Di : Type 0
  -- statements, and lists of them
  pub St : Type 0
  pub Ss : Type 0
  -- lists of declarations, and sources
  pub Ds : Type 0
  pub So : Type 0
  -- a place comes first
  pub number : ℕ → ℕ → Ex
  pub truth : ℕ → Bool → Ex
  pub variable : NameTree → Ex
  pub moved : ℕ → Ex → Ex
  pub one : Ex → Exs
  pub push : Exs → Ex → Exs
  pub apply : ℕ → ℕ → Exs → Ex
  pub tuple : ℕ → Exs → Ex
  pub set_of : ℕ → Exs → Ex
  -- the row of an operator, and its sides
  pub join : ℕ → Ex → Ex → Ex
  pub part : Ex → ℕ → Ex
  pub sure : Ex → Di
  pub uniform_set : ℕ → Ex → Di
  pub uniform_range : ℕ → Ex → Ex → Di
  pub no_cases : Cs
  pub push_case : Cs → Ex → Ex → Cs
  pub choose : ℕ → Cs → Di
  pub flip : ℕ → ℕ → ℕ → Di
  pub skip : ℕ → St
  pub assign : ℕ → NameTree → Di → St
  pub observe : ℕ → Di → St
  pub if_else : ℕ → Di → Ss → Ss → St
  pub while : ℕ → Di → Ss → St
  pub no_statements : Ss
  pub push_statement : Ss → St → Ss
  pub no_declarations : Ds
  pub push_declaration : Ds → Bool → NameTree → TypeForm → Di → Ds
  pub source : Ds → List ItemTree → Ss → So
