-- Believed: the rules of statements: none is broken, or the first that is, in their order and within each from left to right.
use Rattle.std.specs.Prelude.{List}
use Rattle.kf_value.specs.Kinds.{TruthKind}
use Rattle.kf_ast.specs.Names.{name}
use Rattle.kf_ast.specs.Stmts.{StmtTree, StmtShape, StmtTrees, stmt_at, Skip, Assign, Observe, If, While, no_stmts, more_stmts}
use Rattle.kf_check.specs.declared.errors.TypeError.TheVariants as broken
use Rattle.kf_check.specs.Judgements.{Judgement, Is, Picks, After}
use Rattle.kf_check.specs.Kinds.{Known, HasName, JudgesDist, AsksDist}

module _ (known : List Known) where
  abbrev mutual
    pub JudgesStmt : StmtTree → Judgement (Unit {0})
    JudgesStmt (stmt_at at shape) = JudgesStmtShape shape

    pub JudgesStmtShape : StmtShape → Judgement (Unit {0})
    JudgesStmtShape Skip = Is tt
    JudgesStmtShape (Assign (name n at) d) =
        After (Picks (HasName known n) (broken.Unknown at)) (λ k. After (AsksDist known k d) (λ _. Is tt))
    JudgesStmtShape (Observe d) = After (JudgesDist known d) (λ _. Is tt)
    JudgesStmtShape (If d xs ys) = After (AsksDist known TruthKind d) (λ _. After (JudgesStmts xs) (λ _. JudgesStmts ys))
    JudgesStmtShape (While d xs) = After (AsksDist known TruthKind d) (λ _. JudgesStmts xs)

    pub JudgesStmts : StmtTrees → Judgement (Unit {0})
    JudgesStmts no_stmts = Is tt
    JudgesStmts (more_stmts x xs) = After (JudgesStmt x) (λ _. JudgesStmts xs)
