-- What was read, and the token that is to follow it.
use Rattle.std.proofs.Common.{◌≡◌, Bool, true, false, List, [], ◌∷◌, Result, Ok, Err, refl, sym, ◌∙◌, ap, subst}
use Rattle.kf_lex.specs.declared.token.Token.{Token}
use Rattle.kf_lex.specs.declared.token.Tok.{Tok}
use Rattle.kf_parse.specs.declared.stop.Stop.{Stop}
use Rattle.kf_parse.specs.declared.stop.Stop.TheVariants as stop
use Rattle.kf_parse.specs.Outcomes.{Outcome, got, Parser, and_then, pure, refuse, behind, where_true, expect}
use Rattle.kf_parse.specs.Reads.{Reads}
use Rattle.kf_parse.proofs.Failing.{fails, expected}

-- what is read behind what was read
pub read_on : {A B X : Type 0} (view : X → B) (o : Outcome A) (f : A → Parser B) (a : A) (us : List Token) (r : Result X Stop) (left : List Token) → o ≡ got a us → Reads view (f a us) r left → Reads view (and_then o f) r left
read_on view o f a us r left e h = let P : Outcome _ → Type 0 = λ z. Reads view (and_then z f) r left in subst P (sym e) h

-- what is read of the same
pub read_same : {B X : Type 0} (view : X → B) (o o' : Outcome B) (r : Result X Stop) (left : List Token) → o ≡ o' → Reads view o' r left → Reads view o r left
read_same view o o' r left e h = let P : Outcome _ → Type 0 = λ z. Reads view z r left in subst P (sym e) h

-- what is read behind a token that is expected first, and where that token doesn't come
pub read_behind : {B X : Type 0} (view : X → B) (test : Tok → Bool) (f : Token → Parser B) (ts us : List Token) (o : Token) (r : Result X Stop)
    (left : List Token) → expect test pure ts ≡ got o us → Reads view (f o us) r left → Reads view (expect test f ts) r left
read_behind view test f ts us o r left e h = read_same view (expect test f ts) (and_then (expect test pure ts) f) r left (expected test f ts)
    (read_on view (expect test pure ts) f o us r left e h)

pub not_there : {B X : Type 0} (view : X → B) (test : Tok → Bool) (f : Token → Parser B) (ts : List Token) (e : Stop) (left : List Token)
    → Reads (λ o. o) (expect test pure ts) (Err e) left → Reads view (expect test f ts) (Err e) left
not_there view test f ts e left h = read_same view (expect test f ts) (and_then (expect test pure ts) f) (Err e) left (expected test f ts)
    (fails (λ o. o) view (expect test pure ts) f e left h)

-- what fails in its second part fails
pub fails_behind : {A B C X Z : Type 0} (view : X → A) (view' : Z → C) (o : Outcome B) (p : Parser A) (f : B → A → Parser C) (b : B) (us : List Token) (e : Stop) (left : List Token) → o ≡ got b us → Reads view (p us) (Err e) left
    → Reads view' (and_then o (λ y. λ ts. and_then (p ts) (f y))) (Err e) left
fails_behind view view' o p f b us e left same h = read_on view' o (λ y. λ ts. and_then (p ts) (f y)) b us (Err e) left same (fails view view' (p us) (f b) e left h)

-- what is read behind a token and then made into something is made of what is read behind it
pub expect_then : {A B : Type 0} (test : Tok → Bool) (p : Token → Parser A) (f : A → Parser B) (ts : List Token) → expect test (λ o. λ us. and_then (p o us) f) ts ≡ and_then (expect test p ts) f
expect_then test p f [] = refl
expect_then test p f (o ∷ ts) = elim (test o.kind) as (λ b. behind (where_true b (λ us. and_then (p o us) f)) refuse o ts ≡ and_then (behind (where_true b (p o)) refuse o ts) f) [ true ↦ refl | false ↦ refl ]

-- where the token doesn't follow, what would be read behind it isn't
pub not_followed : {X C Z : Type 0} (view' : Z → C) (test : Tok → Bool) (f : X → Parser C) (x : X) (ts : List Token) (e : Stop) (left : List Token) → Reads (λ y. y) (expect test (λ o. pure x) ts) (Err e) left → Reads view' (expect test (λ o. f x) ts) (Err e) left
not_followed view' test f x ts e left h =
    read_same view' (expect test (λ o. f x) ts) (and_then (expect test (λ o. pure x) ts) f) (Err e) left (expect_then test (λ o. pure x) f ts) (fails (λ y. y) view' (expect test (λ o. pure x) ts) f e left h)

module _ {B X : Type 0} (view : X → B) where
  viewed : (o : Outcome X) (r : Result X Stop) (left : List Token) → Reads (λ y. y) o r left → Reads view (and_then o (λ y. pure (view y))) r left
  viewed o (Ok x) left e = ap (λ v. and_then v (λ y. pure (view y))) e
  viewed o (Err stop.Syntax) left e = ap (λ v. and_then v (λ y. pure (view y))) e
  viewed o (Err stop.Deep) left e = ap (λ v. and_then v (λ y. pure (view y))) e
  viewed o (Err stop.Mem) left e = tt

  -- what is kept while the token is read, by its view
  pub followed : (test : Tok → Bool) (x : X) (b : B) (ts : List Token) (r : Result X Stop) (left : List Token) → view x ≡ b → Reads (λ y. y) (expect test (λ o. pure x) ts) r left → Reads view (expect test (λ o. pure b) ts) r left
  followed test x b ts r left e h =
      let P : Outcome B → Type 0 = λ o. Reads view o r left in
      subst P (sym (expect_then test (λ o. pure x) (λ y. pure (view y)) ts) ∙ ap (λ z. expect test (λ o. pure z) ts) e) (viewed (expect test (λ o. pure x) ts) r left h)

  pub read_followed : {A : Type 0} (o : Outcome A) (test : Tok → Bool) (made : A → B) (a : A) (us : List Token) (x : X) (r : Result X Stop) (left : List Token) → o ≡ got a us → view x ≡ made a
      → Reads (λ y. y) (expect test (λ q. pure x) us) r left → Reads view (and_then o (λ z. expect test (λ q. pure (made z)))) r left
  read_followed o test made a us x r left e same h = read_on view o (λ z. expect test (λ q. pure (made z))) a us r left e (followed test x (made a) us r left same h)

-- what was read, where its result is known
module _ {A X : Type 0} (view : X → A) (o : Outcome A) (r : Result X Stop) (left : List Token) (h : Reads view o r left) where
  pub read_as : (x : X) → r ≡ Ok x → o ≡ got (view x) left
  read_as x e = let P : Result X Stop → Type 0 = λ z. Reads view o z left in subst P e h

  pub stopped_as : (e : Stop) → r ≡ Err e → Reads view o (Err e) left
  stopped_as e same = let P : Result X Stop → Type 0 = λ z. Reads view o z left in subst P same h
