-- Whether tokens are an expression, a type or a distribution rests on their kinds alone.
use Rattle.std.proofs.Common.{◌≡◌, ℕ, ◌+◌, ℤ, true, false, List, [], ◌∷◌, ◌++◌, length, refl, sym, ◌∙◌, ap, subst, length-append}
use Rattle.kf_lex.specs.declared.token.Token.{Token}
use Rattle.kf_lex.specs.declared.token.Tok.{Tok}
use Rattle.kf_ast.specs.Exprs.{ExprTree, expr_at, Number, Truth, Name, Apply, Tuple, SetOf, exprs, place, placed}
use Rattle.kf_ast.specs.TypeForms.{TypeForm, type_at, Boolean, Range, TupleOf, types}
use Rattle.kf_ast.specs.TypeForms as of_type
use Rattle.kf_ast.specs.Dists.{CaseTree, case_of, DistTree, dist_at, Sure, UniformSet, UniformRange, Choose, Flip}
use Rattle.kf_parse.specs.Operators.{IsBetween, IsBefore, IsCalling}
use Rattle.kf_parse.specs.Grammar as g
use Rattle.kf_parse.specs.Grammar.{IsInfix, named, joined, Parts, E, Chain, Operand, Others, Whole, TypeOf, OtherTypes, Case, Listed, Dist}
use Rattle.kf_parse.proofs.KindsSame.{Same, none_same, more_same, split, pieces, last, last_of_two, Made, kind_of}
use Rattle.kf_parse.specs.OperatorTokens.{row_of, IsPrefix, IsCalled, prefixed, part_of}

-- what holds of a kind holds of the same kind
of_kind : (P : Tok → Type 0) {Q : Type 0} {j k : Tok} → j ≡ k → P j × Q → P k × Q
of_kind P h i = (subst P h i.0, i.1)

same_parts : {x z : ExprTree} {ts us : List Token} → Parts x ts z → (y : ExprTree) → Same ts us → Made (Parts y) us
same_parts g.no_part y none_same = record { value = y; tells = g.no_part }
same_parts (g.part {a = a} d n {k = k} p i j w) y s =
    let c = split a (d ∷ n ∷ []) w s in
    two c.left c.right c.whole c.same_right (same_parts p y c.same_left)
  where
    two : {us : List Token} (left right : List Token) → us ≡ left ++ right → Same (d ∷ n ∷ []) right → Made (Parts y) left → Made (Parts y) us
    two left right w (more_same d' u h (more_same n' v e none_same)) m = record { value = part_of m.value k; tells = g.part u v m.tells (kind_of h i) (kind_of e j) w }

-- a list that goes on, as long as the other
record Goes (src : List ℕ) (zs ys : List ExprTree) (us : List Token) : Type 0 where
  value : List ExprTree
  tells : Others src zs us value
  long : length value ≡ length ys

module _ (src src' : List ℕ) where
  mutual
    same_e : {l : ℕ} {ts us : List Token} {x : ExprTree} → E src l ts x → Same ts us → Made (E src' l) us
    same_e (g.chain {a = a} {b = b} ne e f w) s = let p = split a b w s in let m = same_e e p.same_left in let n = same_chain f m.value p.same_right in record { value = n.value; tells = g.chain ne m.tells n.tells p.whole }
    same_e (g.alone e) s = let m = same_e e s in record { value = m.value; tells = g.alone m.tells }
    same_e (g.compare {a = a} {b = b} o op e i f w) s = let p = pieces a o b w s in let m = same_e e p.same_left in let n = same_e f p.same_right in record { value = joined op m.value n.value; tells = g.compare p.at op m.tells (of_kind (λ k. IsBetween k op) p.same_at i) n.tells p.whole }
    same_e (g.prefix o op i e) (more_same o' u h s) = let m = same_e e s in record { value = prefixed u op m.value; tells = g.prefix u op (of_kind (λ k. IsBefore k op) h i) m.tells }
    same_e (g.parts {a = a} {b = b} o f w) s = let p = split a b w s in let m = same_operand o p.same_left in let n = same_parts f m.value p.same_right in record { value = n.value; tells = g.parts m.tells n.tells p.whole }

    same_chain : {l : ℕ} {x z : ExprTree} {ts us : List Token} → Chain src l x ts z → (y : ExprTree) → Same ts us → Made (Chain src' l y) us
    same_chain g.unchained y none_same = record { value = y; tells = g.unchained }
    same_chain (g.chained {a = a} {b = b} o op f i e w) y s = let p = pieces a o b w s in let m = same_chain f y p.same_left in let n = same_e e p.same_right in record { value = joined op m.value n.value; tells = g.chained p.at op m.tells (of_kind (λ k. IsBetween k op) p.same_at i) n.tells p.whole }

    same_operand : {ts us : List Token} {x : ExprTree} → Operand src ts x → Same ts us → Made (Operand src') us
    same_operand (g.number n {k = k} i) (more_same n' u h none_same) = record { value = expr_at u.start (Number k); tells = g.number u (kind_of h i) }
    same_operand (g.truth o i) (more_same o' u h none_same) = record { value = expr_at u.start (Truth true); tells = g.truth u (kind_of h i) }
    same_operand (g.untruth o i) (more_same o' u h none_same) = record { value = expr_at u.start (Truth false); tells = g.untruth u (kind_of h i) }
    same_operand (g.variable n i) (more_same n' u h none_same) = record { value = expr_at u.start (Name (named src' u)); tells = g.variable u (kind_of h i) }
    same_operand (g.parens {a = a} o q i e j w) (more_same o' u h s) = let p = last a q w s in let m = same_e e p.same_left in record { value = placed u.start m.value; tells = g.parens u p.at (kind_of h i) m.tells (kind_of p.same_at j) p.whole }
    same_operand (g.tuple {a = a} {b = b} {d = d} o c q i e j f l k w) (more_same o' u h s) =
        let p = pieces a c (b ++ (d ++ q ∷ [])) w s in
        let r = last_of_two b d q refl p.same_right in
        let m = same_e e p.same_left in
        let n = same_e f r.same_left in
        let v = same_others l (m.value ∷ n.value ∷ []) refl r.same_middle in
        record { value = expr_at u.start (Tuple (exprs v.value)); tells = g.tuple u p.at r.at (kind_of h i) m.tells (kind_of p.same_at j) n.tells v.tells (kind_of r.same_at k) (p.whole ∙ ap (λ z. p.left ++ p.at ∷ z) r.whole) }
    same_operand (g.set {a = a} {b = b} o q i e l k w) (more_same o' u h s) =
        let r = last_of_two a b q w s in
        let m = same_e e r.same_left in
        let v = same_others l (m.value ∷ []) refl r.same_middle in
        record { value = expr_at u.start (SetOf (exprs v.value)); tells = g.set u r.at (kind_of h i) m.tells v.tells (kind_of r.same_at k) r.whole }
    same_operand (g.call {a = a} {b = b} f o q op c i e l n k w) (more_same f' u h (more_same o' v t s)) =
        let r = last_of_two a b q w s in
        let m = same_e e r.same_left in
        let y = same_others l (m.value ∷ []) refl r.same_middle in
        record { value = expr_at u.start (Apply (row_of op) (exprs y.value)); tells = g.call u v r.at op (of_kind (λ k. IsCalling k op) h c) (kind_of t i) m.tells y.tells (y.long ∙ n) (kind_of r.same_at k) r.whole }

    same_others : {xs ys : List ExprTree} {ts us : List Token} → Others src xs ts ys → (zs : List ExprTree) → length zs ≡ length xs → Same ts us → Goes src' zs ys us
    same_others g.no_other zs long none_same = record { value = zs; tells = g.no_other; long = long }
    same_others (g.other {a = a} {b = b} c {ys = ys} {y = y} l i e w) zs long s =
        let p = pieces a c b w s in
        let m = same_others l zs long p.same_left in
        let n = same_e e p.same_right in
        record { value = m.value ++ n.value ∷ []; tells = g.other p.at m.tells (kind_of p.same_at i) n.tells p.whole; long = length-append m.value (n.value ∷ []) ∙ ap (λ k. k + 1) m.long ∙ sym (length-append ys (y ∷ [])) }

-- a number at another place
record Number_at (us : List Token) (v : ℤ) : Type 0 where
  place : ℕ
  tells : Whole us place v

same_whole : {ts us : List Token} {at : ℕ} {v : ℤ} → Whole ts at v → Same ts us → Number_at us v
same_whole (g.plain n i) (more_same n' u h none_same) = record { place = u.start; tells = g.plain u (kind_of h i) }
same_whole (g.minus m n i j) (more_same m' u h (more_same n' v e none_same)) = record { place = u.start; tells = g.minus u v (kind_of h i) (kind_of e j) }

mutual
  pub same_type : {ts us : List Token} {x : TypeForm} → TypeOf ts x → Same ts us → Made TypeOf us
  same_type (g.boolean b i) (more_same b' u h none_same) = record { value = type_at u.start Boolean; tells = g.boolean u (kind_of h i) }
  same_type (g.range {a = a} {b = b} o {lo = lo} {hi = hi} x i y w) s = let p = pieces a o b w s in let m = same_whole x p.same_left in let n = same_whole y p.same_right in record { value = type_at m.place (Range lo hi); tells = g.range p.at m.tells (kind_of p.same_at i) n.tells p.whole }
  same_type (g.tuple_type {a = a} {b = b} {d = d} o c q i e j f l k w) (more_same o' u h s) =
      let p = pieces a c (b ++ (d ++ q ∷ [])) w s in
      let r = last_of_two b d q refl p.same_right in
      let m = same_type e p.same_left in
      let n = same_type f r.same_left in
      let v = same_types l (m.value ∷ n.value ∷ []) r.same_middle in
      record { value = type_at u.start (TupleOf (types v.value)); tells = g.tuple_type u p.at r.at (kind_of h i) m.tells (kind_of p.same_at j) n.tells v.tells (kind_of r.same_at k) (p.whole ∙ ap (λ z. p.left ++ p.at ∷ z) r.whole) }
  same_type (g.set_type o f i j e) (more_same o' u h (more_same f' v t s)) = let m = same_type e s in record { value = type_at u.start (of_type.SetOf m.value); tells = g.set_type u v (kind_of h i) (kind_of t j) m.tells }

  same_types : {xs ys : List TypeForm} {ts us : List Token} → OtherTypes xs ts ys → (zs : List TypeForm) → Same ts us → Made (OtherTypes zs) us
  same_types g.no_other_type zs none_same = record { value = zs; tells = g.no_other_type }
  same_types (g.other_type {a = a} {b = b} c l i e w) zs s = let p = pieces a c b w s in let m = same_types l zs p.same_left in let n = same_type e p.same_right in record { value = m.value ++ n.value ∷ []; tells = g.other_type p.at m.tells (kind_of p.same_at i) n.tells p.whole }

module _ (src src' : List ℕ) where
  same_case : {ts us : List Token} {x : CaseTree} → Case src ts x → Same ts us → Made (Case src') us
  same_case (g.weighted {a = a} {b = b} c e i f w) s = let p = pieces a c b w s in let m = same_e src src' e p.same_left in let n = same_e src src' f p.same_right in record { value = case_of m.value n.value; tells = g.weighted p.at m.tells (kind_of p.same_at i) n.tells p.whole }

  same_cases : {xs ys : List CaseTree} {ts us : List Token} → Listed (Case src) xs ts ys → (zs : List CaseTree) → Same ts us → Made (Listed (Case src') zs) us
  same_cases g.no_more zs none_same = record { value = zs; tells = g.no_more }
  same_cases (g.one_more {a = a} {b = b} c l i e w) zs s = let p = pieces a c b w s in let m = same_cases l zs p.same_left in let n = same_case e p.same_right in record { value = m.value ++ n.value ∷ []; tells = g.one_more p.at m.tells (kind_of p.same_at i) n.tells p.whole }

  pub same_dist : {ts us : List Token} {x : DistTree} → Dist src ts x → Same ts us → Made (Dist src') us
  same_dist (g.sure e) s = let m = same_e src src' e s in record { value = dist_at (place m.value) (Sure m.value); tells = g.sure m.tells }
  same_dist (g.uniform_set u i e) (more_same u' v h s) = let m = same_e src src' e s in record { value = dist_at v.start (UniformSet m.value); tells = g.uniform_set v (kind_of h i) m.tells }
  same_dist (g.uniform_range {a = a} {b = b} u o i e j f w) (more_same u' v h s) =
      let p = pieces a o b w s in
      let m = same_e src src' e p.same_left in
      let n = same_e src src' f p.same_right in
      record { value = dist_at v.start (UniformRange m.value n.value); tells = g.uniform_range v p.at (kind_of h i) m.tells (kind_of p.same_at j) n.tells p.whole }
  same_dist (g.choose {a = a} {b = b} c o q i j e l k w) (more_same c' u h (more_same o' v t s)) =
      let r = last_of_two a b q w s in
      let m = same_case e r.same_left in
      let n = same_cases l (m.value ∷ []) r.same_middle in
      record { value = dist_at u.start (Choose n.value); tells = g.choose u v r.at (kind_of h i) (kind_of t j) m.tells n.tells (kind_of r.same_at k) r.whole }
  same_dist (g.flip f n d m {j = j} {k = k} h i l z) (more_same f' u a (more_same n' v b (more_same d' x c (more_same m' y e none_same)))) = record { value = dist_at u.start (Flip j k); tells = g.flip u v x y (kind_of a h) (kind_of b i) (kind_of c l) (kind_of e z) }
