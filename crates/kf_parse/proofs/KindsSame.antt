-- Tokens of the same kinds, and how they come apart.
use Rattle.std.proofs.Common.{◌≡◌, List, [], ◌∷◌, ◌++◌, refl, sym, ◌∙◌, ap, subst}
use Rattle.kf_lex.specs.declared.token.Token.{Token}
use Rattle.kf_lex.specs.declared.token.Tok.{Tok}
use Rattle.kf_parse.specs.Laws.{kinds}

pub data Same : List Token → List Token → Type 0 where
  none_same : Same [] []
  more_same : (o u : Token) {ts us : List Token} → o.kind ≡ u.kind → Same ts us → Same (o ∷ ts) (u ∷ us)

pub same_of : (ts us : List Token) → kinds ts ≡ kinds us → Same ts us
same_of [] [] e = none_same
same_of [] (u ∷ us) e = absurd (let none : [] ≡ u.kind ∷ kinds us = e in cc)
same_of (o ∷ ts) [] e = absurd (let none : o.kind ∷ kinds ts ≡ [] = e in cc)
same_of (o ∷ ts) (u ∷ us) e = let both : o.kind ∷ kinds ts ≡ u.kind ∷ kinds us = e in more_same o u (let first : o.kind ≡ u.kind = cc in first) (same_of ts us (let rest : kinds ts ≡ kinds us = cc in rest))

-- what stands in the place of two parts
pub record Split (a b us : List Token) : Type 0 where
  pub left : List Token
  pub right : List Token
  pub whole : us ≡ left ++ right
  pub same_left : Same a left
  pub same_right : Same b right

split_same : (a b us : List Token) → Same (a ++ b) us → Split a b us
split_same [] b us s = record { left = []; right = us; whole = refl; same_left = none_same; same_right = s }
split_same (o ∷ a) b us (more_same o' u {us = vs} h s) = let p = split_same a b vs s in record { left = u ∷ p.left; right = p.right; whole = ap (λ z. u ∷ z) p.whole; same_left = more_same o u h p.same_left; same_right = p.same_right }

pub split : {ts us : List Token} (a b : List Token) → ts ≡ a ++ b → Same ts us → Split a b us
split {us = us} a b w s = let P : List Token → Type 0 = λ z. Same z us in split_same a b us (subst P w s)

-- what stands in the place of a token between two parts
pub record Pieces (a : List Token) (o : Token) (b us : List Token) : Type 0 where
  pub left : List Token
  pub at : Token
  pub right : List Token
  pub whole : us ≡ left ++ at ∷ right
  pub same_left : Same a left
  pub same_at : o.kind ≡ at.kind
  pub same_right : Same b right

pub pieces : {ts us : List Token} (a : List Token) (o : Token) (b : List Token) → ts ≡ a ++ o ∷ b → Same ts us → Pieces a o b us
pieces a o b w s = let p = split a (o ∷ b) w s in go p.left p.right p.whole p.same_left p.same_right
  where
    go : {us : List Token} (left right : List Token) → us ≡ left ++ right → Same a left → Same (o ∷ b) right → Pieces a o b us
    go left right w l (more_same o' u {us = vs} h r) = record { left = left; at = u; right = vs; whole = w; same_left = l; same_at = h; same_right = r }

-- what stands in the place of a last token
pub record Last (a : List Token) (o : Token) (us : List Token) : Type 0 where
  pub left : List Token
  pub at : Token
  pub whole : us ≡ left ++ at ∷ []
  pub same_left : Same a left
  pub same_at : o.kind ≡ at.kind

pub last : {ts us : List Token} (a : List Token) (o : Token) → ts ≡ a ++ o ∷ [] → Same ts us → Last a o us
last a o w s = let p = pieces a o [] w s in go p.left p.at p.right p.whole p.same_left p.same_at p.same_right
  where
    go : {us : List Token} (left : List Token) (at : Token) (right : List Token) → us ≡ left ++ at ∷ right → Same a left → o.kind ≡ at.kind → Same [] right → Last a o us
    go left at right w l h none_same = record { left = left; at = at; whole = w; same_left = l; same_at = h }

-- and of a last token behind two parts
pub record LastOfTwo (a b : List Token) (o : Token) (us : List Token) : Type 0 where
  pub left : List Token
  pub middle : List Token
  pub at : Token
  pub whole : us ≡ left ++ (middle ++ at ∷ [])
  pub same_left : Same a left
  pub same_middle : Same b middle
  pub same_at : o.kind ≡ at.kind

pub last_of_two : {ts us : List Token} (a b : List Token) (o : Token) → ts ≡ a ++ (b ++ o ∷ []) → Same ts us → LastOfTwo a b o us
last_of_two a b o w s = let p = split a (b ++ o ∷ []) w s in let q = last b o refl p.same_right in record { left = p.left; middle = q.left; at = q.at; whole = p.whole ∙ ap (λ z. p.left ++ z) q.whole; same_left = p.same_left; same_middle = q.same_left; same_at = q.same_at }

-- a form of these tokens
pub record Made {A : Type 0} (G : List Token → A → Type 0) (us : List Token) : Type 0 where
  pub value : A
  pub tells : G us value

-- a kind that a token has, the other has
pub kind_of : {j k l : Tok} → j ≡ k → j ≡ l → k ≡ l
kind_of h i = sym h ∙ i
