-- Believed: the grammar of statements, declarations, targets and whole programs.
use Rattle.std.specs.Prelude.{◌≡◌, ℕ, Bool, true, false, List, [], ◌∷◌, ◌++◌}
use Rattle.kf_lex.specs.declared.token.Token.{Token}
use Rattle.kf_lex.specs.declared.token.Word.TheVariants as w
use Rattle.kf_lex.specs.declared.token.Sign.TheVariants as s
use Rattle.kf_ast.specs.TypeForms.{TypeForm}
use Rattle.kf_ast.specs.Dists.{DistTree}
use Rattle.kf_ast.specs.Stmts.{StmtTree, stmt_at, Skip, Assign, Observe, If, While, stmts}
use Rattle.kf_ast.specs.Sources.{DeclTree, declared, ItemTree, item, SourceTree, source}
use Rattle.kf_parse.specs.Grammar.{IsSign, IsWord, IsName, Listed, named, TypeOf, Dist}

-- the word that begins a declaration, and whether it is of a visible variable
pub data DeclarationWord : Bool → Token → Type 0 where
  var : {v : Token} → IsWord w.VarWord v → DeclarationWord false v
  vis : {v : Token} → IsWord w.VisWord v → DeclarationWord true v

-- in the tokens of this source
module _ (src : List ℕ) where
  mutual
    pub data Statement : List Token → StmtTree → Type 0 where
      skip : (k e : Token) → IsWord w.SkipWord k → IsSign s.Semi e → Statement (k ∷ e ∷ []) (stmt_at k.start Skip)
      assign : {a ts : List Token} (n g e : Token) {d : DistTree}
          → IsName n → IsSign s.Assign g → Dist src a d → IsSign s.Semi e
          → ts ≡ a ++ e ∷ [] → Statement (n ∷ g ∷ ts) (stmt_at n.start (Assign (named src n) d))
      observe : {a ts : List Token} (o e : Token) {d : DistTree}
          → IsWord w.ObserveWord o → Dist src a d → IsSign s.Semi e
          → ts ≡ a ++ e ∷ [] → Statement (o ∷ ts) (stmt_at o.start (Observe d))
      if_else : {a b c ts : List Token} (i e : Token) {d : DistTree} {xs ys : List StmtTree}
          → IsWord w.IfWord i → Dist src a d → Block b xs → IsWord w.ElseWord e → Block c ys
          → ts ≡ a ++ (b ++ e ∷ c) → Statement (i ∷ ts) (stmt_at i.start (If d (stmts xs) (stmts ys)))
      while : {a b ts : List Token} (o : Token) {d : DistTree} {xs : List StmtTree}
          → IsWord w.WhileWord o → Dist src a d → Block b xs
          → ts ≡ a ++ b → Statement (o ∷ ts) (stmt_at o.start (While d (stmts xs)))

    pub data Block : List Token → List StmtTree → Type 0 where
      braces : {a ts : List Token} (p q : Token) {xs : List StmtTree}
          → IsSign s.BraceOpen p → Statements a xs → IsSign s.BraceClose q → ts ≡ a ++ q ∷ [] → Block (p ∷ ts) xs

    pub data Statements : List Token → List StmtTree → Type 0 where
      no_statement : Statements [] []
      statement : {a b ts : List Token} {xs : List StmtTree} {x : StmtTree}
          → Statements a xs → Statement b x → ts ≡ a ++ b → Statements ts (xs ++ x ∷ [])

  pub data Declaration : List Token → DeclTree → Type 0 where
    variable : {visible : Bool} {a b ts : List Token} (v n c g e : Token) {y : TypeForm} {d : DistTree}
        → DeclarationWord visible v → IsName n → IsSign s.Colon c → TypeOf a y → IsSign s.Assign g → Dist src b d → IsSign s.Semi e
        → ts ≡ a ++ g ∷ (b ++ e ∷ []) → Declaration (v ∷ n ∷ c ∷ ts) (declared visible (named src n) y d)

  pub data Declarations : List Token → List DeclTree → Type 0 where
    no_declaration : Declarations [] []
    declaration : {a b ts : List Token} {xs : List DeclTree} {x : DeclTree}
        → Declarations a xs → Declaration b x → ts ≡ a ++ b → Declarations ts (xs ++ x ∷ [])

  pub data Item : List Token → ItemTree → Type 0 where
    last : (n : Token) → IsName n → Item (n ∷ []) (item false (named src n))
    first : (o n : Token) → IsWord w.OldWord o → IsName n → Item (o ∷ n ∷ []) (item true (named src n))

  pub data Target : List Token → List ItemTree → Type 0 where
    no_target : Target [] []
    about : {a b ts : List Token} (o e : Token) {x : ItemTree} {xs : List ItemTree}
        → IsWord w.AboutWord o → Item a x → Listed Item (x ∷ []) b xs → IsSign s.Semi e
        → ts ≡ a ++ (b ++ e ∷ []) → Target (o ∷ ts) xs

  -- the tokens of a source are those of this program
  pub data IsProgram : List Token → SourceTree → Type 0 where
    program : {a b c ts : List Token} {ds : List DeclTree} {is : List ItemTree} {xs : List StmtTree}
        → Declarations a ds → Target b is → Statements c xs
        → ts ≡ a ++ (b ++ c) → IsProgram ts (source ds is xs)
