-- What was read, and what fails in the first of its parts.
use Rattle.std.proofs.Common.{◌≡◌, Bool, true, false, List, [], ◌∷◌, Result, Ok, Err, refl, sym, ◌∙◌, ap, subst}
use Rattle.kf_lex.specs.declared.token.Token.{Token}
use Rattle.kf_lex.specs.declared.token.Tok.{Tok}
use Rattle.kf_parse.specs.declared.stop.Stop.{Stop}
use Rattle.kf_parse.specs.declared.stop.Stop.TheVariants as stop
use Rattle.kf_parse.specs.Outcomes.{Outcome, got, stuck, deep, Parser, and_then, pure, refuse, behind, where_true, expect}
use Rattle.kf_parse.specs.Reads.{Reads}

abbrev value_or : {A : Type 0} → A → Outcome A → A
value_or d (got x ts) = x
value_or d (stuck ts) = d
value_or d deep = d

pub got_value : {A : Type 0} {a b : A} {us vs : List Token} → got a us ≡ got b vs → a ≡ b
got_value {a = a} e = ap (value_or a) e

-- what fails in its first part fails
pub fails : {A B X Y : Type 0} (view : X → A) (view' : Y → B) (o : Outcome A) (f : A → Parser B) (e : Stop) (left : List Token) → Reads view o (Err e) left → Reads view' (and_then o f) (Err e) left
fails view view' o f stop.Syntax left g = rw g refl
fails view view' o f stop.Deep left g = rw g refl
fails view view' o f stop.Mem left g = tt

-- what fails is the same as what is equal to it
pub fails_as : {B Y : Type 0} (view : Y → B) (o o' : Outcome B) (e : Stop) (left : List Token) → o ≡ o' → Reads view o' (Err e) left → Reads view o (Err e) left
fails_as view o o' e left same h = let P : Outcome _ → Type 0 = λ z. Reads view z (Err e) left in subst P (sym same) h

-- what is made, without reading on, of what was read
pub made_of : {B X : Type 0} (view : X → B) (o : Outcome B) (v : B) (r : Result X Stop) (rest : List Token) → o ≡ got v rest → Reads view (pure v []) r [] → Reads view o r rest
made_of view o v (Ok x) rest e g = e ∙ ap (λ z. got z rest) (got_value g)
made_of view o v (Err stop.Syntax) rest e g = absurd (cc)
made_of view o v (Err stop.Deep) rest e g = absurd (cc)
made_of view o v (Err stop.Mem) rest e g = tt

-- where nothing is read, only memory can be wanting
pub only_memory : {B C X Y : Type 0} (view : X → B) (v : B) (view' : Y → C) (o : Outcome C) (e : Stop) (left : List Token) → Reads view (pure v [])
    (Err e) [] → Reads view' o (Err e) left
only_memory view v view' o stop.Syntax left g = absurd (cc)
only_memory view v view' o stop.Deep left g = absurd (cc)
only_memory view v view' o stop.Mem left g = tt

-- a token that is expected is read first
pub expected : {A : Type 0} (test : Tok → Bool) (f : Token → Parser A) (ts : List Token) → expect test f ts ≡ and_then (expect test pure ts) f
expected test f [] = refl
expected test f (o ∷ ts) = elim (test o.kind) as (λ b. behind (where_true b (f o)) refuse o ts ≡ and_then (behind (where_true b (pure o)) refuse o ts) f) [ true ↦ refl | false ↦ refl ]
