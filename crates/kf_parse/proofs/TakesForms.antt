-- Types, cases and distributions are read whole.
use Rattle.std.proofs.Common.{◌≡◌, ℕ, zero, suc, ◌+◌, ◌≤◌, ◌<◌, ℤ, false, List, [], ◌∷◌, ◌++◌, refl, ◌∙◌, ap, subst, arith, Option, None}
use Rattle.kf_lex.specs.declared.token.Token.{Token}
use Rattle.kf_lex.specs.declared.token.Tok.TheVariants as t
use Rattle.kf_lex.specs.declared.token.Word.TheVariants as w
use Rattle.kf_lex.specs.declared.token.Sign.TheVariants as s
use Rattle.kf_ast.specs.Exprs.{ExprTree, place}
use Rattle.kf_ast.specs.TypeForms.{TypeForm, type_at, Boolean, Range, TupleOf, types}
use Rattle.kf_ast.specs.TypeForms as of_type
use Rattle.kf_ast.specs.Dists.{CaseTree, case_of, DistTree, dist_at, Sure, UniformSet, UniformRange, Choose, Flip}
use Rattle.kf_parse.specs.Tokens.{is}
use Rattle.kf_parse.specs.Grammar as g
use Rattle.kf_parse.specs.Grammar.{IsSign, IsWord, IsNumber, E, Whole, TypeOf, OtherTypes, Case, Listed, Dist}
use Rattle.kf_parse.specs.Outcomes.{got, Parser, and_then, behind, where_true, pure, ◌>>=◌, repeat}
use Rattle.kf_parse.specs.Plain.{whole_trees}
use Rattle.kf_parse.specs.Reading as r
use Rattle.kf_parse.proofs.TakesTurns.{apart, before_close, repeat_takes, Reads, Runs, runs_nowhere, runs_on}
use Rattle.kf_parse.proofs.Takes.{Stops, stops_at, Claim, Exprs, expr_reads}
use Rattle.kf_parse.proofs.TakesExprs.{claim_e}

-- anything may follow
abbrev pub Anything : List Token → Type 0
Anything us = Unit {0}

-- the step of a list of types
abbrev type_step : Parser TypeForm → Token → List TypeForm → Option (Parser (List TypeForm))
type_step type c xs = where_true (is (t.Sign s.Comma) c.kind) (type >>= (λ y. pure (xs ++ y ∷ [])))

module _ (type : Parser TypeForm) (n : ℕ) where
  bool_goes : (b : Token) (rest : List Token) → IsWord w.BoolWord b → r.sets type (suc n) (b ∷ rest) ≡ got (type_at b.start Boolean) rest
  unfolding r.sets
  bool_goes b rest i = rw i refl

  range_goes : {a b : List Token} {at at' : ℕ} {lo hi : ℤ} → Whole a at lo → (o : Token) → IsSign s.Range o → Whole b at' hi → (rest : List Token) → r.sets type (suc n) (a ++ o ∷ (b ++ rest)) ≡ got (type_at at (Range lo hi)) rest
  unfolding r.sets r.range r.whole r.number
  range_goes (g.plain k i) o j (g.plain m l) rest = rw (i, j, l) refl
  range_goes (g.plain k i) o j (g.minus v m h l) rest = rw (i, j, h, l) refl
  range_goes (g.minus u k f i) o j (g.plain m l) rest = rw (f, i, j, l) refl
  range_goes (g.minus u k f i) o j (g.minus v m h l) rest = rw (f, i, j, h, l) refl

  tuple_type_goes : (p c q : Token) (x y : TypeForm) (xs : List TypeForm) (us vs zs rest : List Token) → IsSign s.ParenOpen p → type us ≡ got x (c ∷ vs) → IsSign s.Comma c → type vs ≡ got y zs
      → repeat (type_step type) (x ∷ y ∷ []) zs ≡ got xs (q ∷ rest) → IsSign s.ParenClose q → r.sets type (suc n) (p ∷ us) ≡ got (type_at p.start (TupleOf (types xs))) rest
  unfolding r.sets r.tuple_type r.other_types
  tuple_type_goes p c q x y xs us vs zs rest i e j f l k = rw (i, e, j, f, l, k) refl

  set_type_goes : (o f : Token) (x : TypeForm) (us rest : List Token) → IsWord w.SetWord o → IsWord w.OfWord f → r.sets type n us ≡ got x rest → r.sets type (suc n) (o ∷ f ∷ us) ≡ got (type_at o.start (of_type.SetOf x)) rest
  unfolding r.sets
  set_type_goes o f x us rest i j e = rw (i, j, e) refl

-- tokens that are a type
record TypeTaken (ts : List Token) (x : TypeForm) : Type 0 where
  depth : ℕ
  takes : (d n : ℕ) → depth ≤ d → depth < n → (rest : List Token) → r.sets (r.type d) n (ts ++ rest) ≡ got x rest

type_reads : (ts : List Token) (x : TypeForm) → TypeTaken ts x → Reads r.type Anything ts x
unfolding r.type
type_reads ts x c = record { depth = suc c.depth; takes = takes }
  where
    takes : (d : ℕ) → suc c.depth ≤ d → (rest : List Token) → Unit {0} → r.type d (ts ++ rest) ≡ got x rest
    takes zero de rest u = absurd (omega arith)
    takes (suc d) de rest u = c.takes d (suc d) (omega arith) (omega arith) rest

-- with one turn at least
with_turn : (ts : List Token) (x : TypeForm) (dep : ℕ) → ((d n : ℕ) → dep ≤ d → dep ≤ n → (rest : List Token) → r.sets (r.type d) (suc n) (ts ++ rest) ≡ got x rest) → TypeTaken ts x
with_turn ts x dep goes = record { depth = dep; takes = takes }
  where
    takes : (d n : ℕ) → dep ≤ d → dep < n → (rest : List Token) → r.sets (r.type d) n (ts ++ rest) ≡ got x rest
    takes d zero de less rest = absurd (omega arith)
    takes d (suc n) de less rest = goes d n de (omega arith) rest

abbrev TypeLists : List TypeForm → List Token → List TypeForm → Type 0
TypeLists xs ts ys = Runs (λ d. type_step (r.type d)) Anything xs ts ys

taken_range : {a b : List Token} {at at' : ℕ} {lo hi : ℤ} (ts : List Token) (o : Token) → Whole a at lo → IsSign s.Range o → Whole b at' hi → ts ≡ a ++ o ∷ b → TypeTaken ts (type_at at (Range lo hi))
taken_range {a = a} {b = b} {at = at} {lo = lo} {hi = hi} ts o x i y w = with_turn ts (type_at at (Range lo hi)) 0 (λ d n de less rest. ap (r.sets (r.type d) (suc n)) (apart a (o ∷ b) rest w) ∙ range_goes (r.type d) n x o i y rest)

taken_tuple : (a b c ts : List Token) (p o q : Token) (x y : TypeForm) (xs : List TypeForm) → IsSign s.ParenOpen p → Reads r.type Anything a x → IsSign s.Comma o → Reads r.type Anything b y → TypeLists (x ∷ y ∷ []) c xs → IsSign s.ParenClose q
    → ts ≡ a ++ o ∷ (b ++ (c ++ q ∷ [])) → TypeTaken (p ∷ ts) (type_at p.start (TupleOf (types xs)))
taken_tuple a b c ts p o q x y xs i e j f l k w = with_turn (p ∷ ts) (type_at p.start (TupleOf (types xs))) (e.depth + f.depth + l.depth) (λ d n de less rest.
    ap (λ v. r.sets (r.type d) (suc n) (p ∷ v)) (apart a (o ∷ (b ++ (c ++ q ∷ []))) rest w ∙ ap (λ v. a ++ o ∷ v) (before_close b c q rest refl))
    ∙ tuple_type_goes (r.type d) n p o q x y xs (a ++ o ∷ (b ++ (c ++ q ∷ rest))) (b ++ (c ++ q ∷ rest)) (c ++ q ∷ rest) rest i (e.takes d (omega arith) (o ∷ (b ++ (c ++ q ∷ rest))) tt) j (f.takes d (omega arith) (c ++ q ∷ rest) tt)
    (repeat_takes (type_step (r.type d)) (x ∷ y ∷ []) xs (c ++ q ∷ rest) (q ∷ rest) (l.leads d (omega arith) (q ∷ rest) tt) (rw k refl)) k)

taken_set : (ts : List Token) (o f : Token) (x : TypeForm) → IsWord w.SetWord o → IsWord w.OfWord f → TypeTaken ts x → TypeTaken (o ∷ f ∷ ts) (type_at o.start (of_type.SetOf x))
taken_set ts o f x i j c = with_turn (o ∷ f ∷ ts) (type_at o.start (of_type.SetOf x)) (suc c.depth) (λ d n de less rest. set_type_goes (r.type d) n o f x (ts ++ rest) rest i j (c.takes d n (omega arith) (omega arith) rest))

one_type_more : (a b ts : List Token) (c : Token) (xs ys : List TypeForm) (y : TypeForm) → TypeLists xs a ys → IsSign s.Comma c → Reads r.type Anything b y → ts ≡ a ++ c ∷ b → TypeLists xs ts (ys ++ y ∷ [])
one_type_more a b ts c xs ys y l i e w = runs_on (λ d. type_step (r.type d)) Anything xs ys (ys ++ y ∷ []) a b ts c (λ d. r.type d >>= (λ y'. pure (ys ++ y' ∷ []))) l (λ us. tt) (λ d. rw i refl)
    (record { depth = e.depth; takes = λ d de rest u. ap (λ v. and_then v (λ y'. pure (ys ++ y' ∷ []))) (e.takes d de rest u) }) w

mutual
  type_taken : {ts : List Token} {x : TypeForm} → TypeOf ts x → TypeTaken ts x
  type_taken (g.boolean b i) = with_turn (b ∷ []) (type_at b.start Boolean) 0 (λ d n de less rest. bool_goes (r.type d) n b rest i)
  type_taken (g.range {ts = ts} o x i y w) = taken_range ts o x i y w
  type_taken (g.tuple_type {a = a} {b = b} {d = d} {ts = ts} p c q {x = x} {y = y} {xs = xs} i e j f l k w) = taken_tuple a b d ts p c q x y xs i (type_reads a x (type_taken e)) j (type_reads b y (type_taken f)) (types_listed l) k w
  type_taken (g.set_type {ts = ts} o f {x = x} i j e) = taken_set ts o f x i j (type_taken e)

  types_listed : {xs ys : List TypeForm} {ts : List Token} → OtherTypes xs ts ys → TypeLists xs ts ys
  types_listed (g.no_other_type {xs = xs}) = runs_nowhere (λ d. type_step (r.type d)) Anything xs
  types_listed (g.other_type {a = a} {b = b} {ts = ts} c {xs = xs} {ys = ys} {y = y} l i e w) = one_type_more a b ts c xs ys y (types_listed l) i (type_reads b y (type_taken e)) w

pub type_whole : (ts : List Token) (x : TypeForm) → TypeOf ts x → Reads r.type Anything ts x
type_whole ts x e = type_reads ts x (type_taken e)

-- the tokens don't go on with a distribution
abbrev pub Closes : List Token → Type 0
Closes [] = Unit {0}
Closes (o ∷ us) = Stops 1 (o ∷ us) × (is (t.Sign s.Range) o.kind ≡ false)

closes_stops : (us : List Token) → Closes us → Stops 1 us
closes_stops [] c = tt
closes_stops (o ∷ us) c = c.0

module _ (src : List ℕ) where
  expr_whole : (ts : List Token) (x : ExprTree) → E src 1 ts x → Exprs src ts x
  expr_whole ts x e = expr_reads src ts x (claim_e src (omega arith) e)

  -- the step of a list of cases
  abbrev case_step : Parser ExprTree → Token → List CaseTree → Option (Parser (List CaseTree))
  case_step e c cs = where_true (is (t.Sign s.Comma) c.kind) (r.weighted whole_trees src e cs)

  module _ (e : Parser ExprTree) where
    weighted_goes : (cs : List CaseTree) (c : Token) (x y : ExprTree) (us vs rest : List Token) → e us ≡ got x (c ∷ vs) → IsSign s.Colon c → e vs ≡ got y rest → r.weighted whole_trees src e cs us ≡ got (cs ++ case_of x y ∷ []) rest
    unfolding r.weighted
    weighted_goes cs c x y us vs rest h i j = rw (h, i, j) refl

    choose_goes : (c p q : Token) (x : CaseTree) (cs : List CaseTree) (us vs rest : List Token) → IsSign s.BraceOpen p → r.weighted whole_trees src e [] us ≡ got (x ∷ []) vs → repeat (case_step e) (x ∷ []) vs ≡ got cs (q ∷ rest) → IsSign s.BraceClose q
        → r.choose whole_trees src e c (p ∷ us) ≡ got (dist_at c.start (Choose cs)) rest
    unfolding r.choose r.cases
    choose_goes c p q x cs us vs rest i h l k = rw (i, h, l, k) refl

    uniform_range_goes : (u o : Token) (x y : ExprTree) (us vs rest : List Token) → e us ≡ got x (o ∷ vs) → IsSign s.Range o → e vs ≡ got y rest → r.uniform whole_trees src e u us ≡ got (dist_at u.start (UniformRange x y)) rest
    unfolding r.uniform
    uniform_range_goes u o x y us vs rest h i j = rw (h, i, j) refl

    uniform_set_goes : (u : Token) (x : ExprTree) (us rest : List Token) → e us ≡ got x rest → Closes rest → r.uniform whole_trees src e u us ≡ got (dist_at u.start (UniformSet x)) rest
    unfolding r.uniform
    uniform_set_goes u x us [] h c = rw h refl
    uniform_set_goes u x us (o ∷ rest) h c = rw (h, c.1) refl

  flip_goes : (f n d m : Token) (j k : ℕ) (rest : List Token) → IsNumber j n → IsSign s.Slash d → IsNumber k m → r.flip whole_trees src f (n ∷ d ∷ m ∷ rest) ≡ got (dist_at f.start (Flip j k)) rest
  unfolding r.flip r.number
  flip_goes f n d m j k rest h i l = rw (h, i, l) refl

  module _ (d : ℕ) where
    dist_uniform : (u : Token) (us : List Token) → IsWord w.UniformWord u → r.dist whole_trees src (suc d) (u ∷ us) ≡ r.uniform whole_trees src (r.expr whole_trees src (suc d)) u us
    unfolding r.dist
    dist_uniform u us i = rw i refl

    dist_choose : (c : Token) (us : List Token) → IsWord w.ChooseWord c → r.dist whole_trees src (suc d) (c ∷ us) ≡ r.choose whole_trees src (r.expr whole_trees src d) c us
    unfolding r.dist
    dist_choose c us i = rw i refl

    dist_flip : (f : Token) (us : List Token) → IsWord w.FlipWord f → r.dist whole_trees src (suc d) (f ∷ us) ≡ r.flip whole_trees src f us
    unfolding r.dist
    dist_flip f us i = rw i refl

    dist_sure : (o : Token) (x : ExprTree) (us rest : List Token) → r.dist_by whole_trees src d o o.kind ≡ None → r.expr whole_trees src (suc d) (o ∷ us) ≡ got x rest → r.dist whole_trees src (suc d) (o ∷ us) ≡ got (dist_at (place x) (Sure x)) rest
    unfolding r.dist
    dist_sure o x us rest none e = ap (λ v. behind v (r.expr whole_trees src (suc d) >>= (λ x'. pure (whole_trees.sure x'))) o us) none ∙ ap (λ v. and_then v (λ x'. pure (whole_trees.sure x'))) e

  abbrev pub Dists : List Token → DistTree → Type 0
  Dists ts x = Reads (r.dist whole_trees src) Closes ts x

  -- with brackets open
  below : (ts : List Token) (x : DistTree) (dep : ℕ) → ((d : ℕ) → dep ≤ d → (rest : List Token) → Closes rest → r.dist whole_trees src (suc d) (ts ++ rest) ≡ got x rest) → Dists ts x
  below ts x dep goes = record { depth = suc dep; takes = takes }
    where
      takes : (d : ℕ) → suc dep ≤ d → (rest : List Token) → Closes rest → r.dist whole_trees src d (ts ++ rest) ≡ got x rest
      takes zero de rest c = absurd (omega arith)
      takes (suc d) de rest c = goes d (omega arith) rest c

  sure_reads : (ts : List Token) (x : ExprTree) → Claim src 1 ts x → Dists ts (dist_at (place x) (Sure x))
  sure_reads ts x c = let e = expr_reads src ts x c in let h = c.heads in below ts (dist_at (place x) (Sure x)) e.depth (λ d de rest cl.
      let P : List Token → Type 0 = λ v. r.expr whole_trees src (suc d) (v ++ rest) ≡ got x rest in
      ap (λ v. r.dist whole_trees src (suc d) (v ++ rest)) h.whole ∙ dist_sure d h.head x (h.tail ++ rest) rest (h.sure d h.head) (subst P h.whole (e.takes (suc d) (omega arith) rest (closes_stops rest cl))))

  set_reads : (ts : List Token) (u : Token) (x : ExprTree) → IsWord w.UniformWord u → Exprs src ts x → Dists (u ∷ ts) (dist_at u.start (UniformSet x))
  set_reads ts u x i e = below (u ∷ ts) (dist_at u.start (UniformSet x)) e.depth (λ d de rest c.
      dist_uniform d u (ts ++ rest) i ∙ uniform_set_goes (r.expr whole_trees src (suc d)) u x (ts ++ rest) rest (e.takes (suc d) (omega arith) rest (closes_stops rest c)) c)

  range_reads : (a b ts : List Token) (u o : Token) (x y : ExprTree) → IsWord w.UniformWord u → Exprs src a x → IsSign s.Range o → Exprs src b y → ts ≡ a ++ o ∷ b → Dists (u ∷ ts) (dist_at u.start (UniformRange x y))
  range_reads a b ts u o x y i e j f w = below (u ∷ ts) (dist_at u.start (UniformRange x y)) (e.depth + f.depth) (λ d de rest c.
      ap (λ v. r.dist whole_trees src (suc d) (u ∷ v)) (apart a (o ∷ b) rest w) ∙ dist_uniform d u (a ++ o ∷ (b ++ rest)) i
      ∙ uniform_range_goes (r.expr whole_trees src (suc d)) u o x y (a ++ o ∷ (b ++ rest)) (b ++ rest) rest
      (e.takes (suc d) (omega arith) (o ∷ (b ++ rest)) (stops_at 1 o (t.Sign s.Range) (b ++ rest) (omega arith) j refl refl)) j
      (f.takes (suc d) (omega arith) rest (closes_stops rest c)))

  -- cases
  abbrev Cases : List CaseTree → List Token → List CaseTree → Type 0
  Cases cs ts ds = Runs (λ d. case_step (r.expr whole_trees src d)) (Stops 1) cs ts ds

  case_reads : {ts : List Token} {x : CaseTree} → Case src ts x → (cs : List CaseTree) → Reads (λ d. r.weighted whole_trees src (r.expr whole_trees src d) cs) (Stops 1) ts (cs ++ x ∷ [])
  case_reads (g.weighted {a = a} {b = b} {ts = ts} c {x = x} {y = y} e i f w) cs = let h = expr_whole a x e in let k = expr_whole b y f in record {
    depth = h.depth + k.depth;
    takes = λ d de rest st. ap (r.weighted whole_trees src (r.expr whole_trees src d) cs) (apart a (c ∷ b) rest w)
        ∙ weighted_goes (r.expr whole_trees src d) cs c x y (a ++ c ∷ (b ++ rest)) (b ++ rest) rest
        (h.takes d (omega arith) (c ∷ (b ++ rest)) (stops_at 1 c (t.Sign s.Colon) (b ++ rest) (omega arith) i refl refl)) i (k.takes d (omega arith) rest st);
  }

  cases_run : {cs ds : List CaseTree} {ts : List Token} → Listed (Case src) cs ts ds → Cases cs ts ds
  cases_run (g.no_more {xs = cs}) = runs_nowhere (λ d. case_step (r.expr whole_trees src d)) (Stops 1) cs
  cases_run (g.one_more {a = a} {b = b} {ts = ts} c {xs = cs} {ys = ds} {y = y} l i e w) = runs_on (λ d. case_step (r.expr whole_trees src d)) (Stops 1) cs ds (ds ++ y ∷ []) a b ts c (λ d. r.weighted whole_trees src (r.expr whole_trees src d) ds) (cases_run l)
      (λ us. stops_at 1 c (t.Sign s.Comma) us (omega arith) i refl refl) (λ d. rw i refl) (case_reads e ds) w

  choose_reads : (a b ts : List Token) (c p q : Token) (x : CaseTree) (cs : List CaseTree) → IsWord w.ChooseWord c → IsSign s.BraceOpen p → Reads (λ d. r.weighted whole_trees src (r.expr whole_trees src d) []) (Stops 1) a (x ∷ []) → Cases (x ∷ []) b cs → IsSign s.BraceClose q
      → ts ≡ a ++ (b ++ q ∷ []) → Dists (c ∷ p ∷ ts) (dist_at c.start (Choose cs))
  choose_reads a b ts c p q x cs i j e l k w = below (c ∷ p ∷ ts) (dist_at c.start (Choose cs)) (e.depth + l.depth) (λ d de rest cl.
      let close = stops_at 1 q (t.Sign s.BraceClose) rest (omega arith) k refl refl in
      ap (λ v. r.dist whole_trees src (suc d) (c ∷ p ∷ v)) (before_close a b q rest w) ∙ dist_choose d c (p ∷ (a ++ (b ++ q ∷ rest))) i
      ∙ choose_goes (r.expr whole_trees src d) c p q x cs (a ++ (b ++ q ∷ rest)) (b ++ q ∷ rest) rest j (e.takes d (omega arith) (b ++ q ∷ rest) (l.starts (q ∷ rest) close))
      (repeat_takes (case_step (r.expr whole_trees src d)) (x ∷ []) cs (b ++ q ∷ rest) (q ∷ rest) (l.leads d (omega arith) (q ∷ rest) close) (rw k refl)) k)

  pub dist_whole : (ts : List Token) (x : DistTree) → Dist src ts x → Dists ts x
  dist_whole ts x (g.sure {x = e} h) = sure_reads ts e (claim_e src (omega arith) h)
  dist_whole ts x (g.uniform_set {ts = us} u {x = e} i h) = set_reads us u e i (expr_whole us e h)
  dist_whole ts x (g.uniform_range {a = a} {b = b} {ts = us} u o {x = e} {y = f} i h j k w) = range_reads a b us u o e f i (expr_whole a e h) j (expr_whole b f k) w
  dist_whole ts x (g.choose {a = a} {b = b} {ts = us} c p q {x = y} {xs = cs} i j e l k w) = choose_reads a b us c p q y cs i j (case_reads e []) (cases_run l) k w
  dist_whole ts x (g.flip f n d m {j = j} {k = k} i h l z) = below (f ∷ n ∷ d ∷ m ∷ []) (dist_at f.start (Flip j k)) 0 (λ e de rest c. dist_flip e f (n ∷ d ∷ m ∷ rest) i ∙ flip_goes f n d m j k rest h l z)
