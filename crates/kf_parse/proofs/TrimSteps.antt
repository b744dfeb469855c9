-- Reading with another builder reads what a map makes of what was read: the steps that readers are made of.
use Rattle.std.proofs.Common.{◌≡◌, ℕ, zero, suc, Bool, true, false, List, [], ◌∷◌, length, refl, ◌∙◌, ap, Option, Some, None}
use Rattle.kf_lex.specs.declared.token.Token.{Token}
use Rattle.kf_lex.specs.declared.token.Tok.{Tok}
use Rattle.kf_parse.specs.Outcomes.{Outcome, got, stuck, deep, Parser, and_then, ◌>>=◌, pure, refuse, too_deep, behind, first_or, first, where_true, expect, if_first, going_on, repeated, repeat}

-- what was read, mapped
abbrev pub mapped : {A B : Type 0} → (A → B) → Outcome A → Outcome B
mapped f (got a rest) = got (f a) rest
mapped f (stuck rest) = stuck rest
mapped f deep = deep

-- what the one reader reads, mapped, is what the other one reads
pub record Carries {A B : Type 0} (f : A → B) (p : Parser A) (q : Parser B) : Type 0 where
  pub carried : (ts : List Token) → mapped f (p ts) ≡ q ts

-- both go on, or none
pub data CarriesStart {A B : Type 0} (f : A → B) : Option (Parser A) → Option (Parser B) → Type 0 where
  both : {p : Parser A} {q : Parser B} → Carries f p q → CarriesStart f (Some p) (Some q)
  neither : CarriesStart f None None

mapped_same : {A : Type 0} (o : Outcome A) → mapped (λ a. a) o ≡ o
mapped_same (got a rest) = refl
mapped_same (stuck rest) = refl
mapped_same deep = refl

module _ {A B : Type 0} (f : A → B) where
  pub pure_carries : (a : A) (b : B) → f a ≡ b → Carries f (pure a) (pure b)
  pure_carries a b e = record { carried = λ ts. ap (λ z. got z ts) e }

  refuse_carries : Carries f refuse refuse
  refuse_carries = record { carried = λ ts. refl }

  pub deep_carries : Carries f too_deep too_deep
  deep_carries = record { carried = λ ts. refl }

module _ {A A' B B' : Type 0} (f : A → A') (g : B → B') (k : A → Parser B) (k' : A' → Parser B') (h : (a : A) → Carries g (k a) (k' (f a))) where
  outcome_carries : (o : Outcome A) → mapped g (and_then o k) ≡ and_then (mapped f o) k'
  outcome_carries (got a rest) = (h a).carried rest
  outcome_carries (stuck rest) = refl
  outcome_carries deep = refl

  pub then_carries : (p : Parser A) (p' : Parser A') → Carries f p p' → Carries g (p >>= k) (p' >>= k')
  then_carries p p' c = record { carried = λ ts. outcome_carries (p ts) ∙ ap (λ o. and_then o k') (c.carried ts) }

module _ {A B B' : Type 0} (g : B → B') (k : A → Parser B) (k' : A → Parser B') where
  -- what comes first is no part of what is mapped
  pub after_carries : (p : Parser A) → ((a : A) → Carries g (k a) (k' a)) → Carries g (p >>= k) (p >>= k')
  after_carries p h = then_carries (λ a. a) g k k' h p p (record { carried = λ ts. mapped_same (p ts) })

module _ {A B : Type 0} (f : A → B) where
  behind_carries : {v : Option (Parser A)} {w : Option (Parser B)} (p : Parser A) (q : Parser B) (o : Token) (ts : List Token) → CarriesStart f v w → Carries f p q → mapped f (behind v p o ts) ≡ behind w q o ts
  behind_carries p q o ts (both h) c = h.carried ts
  behind_carries p q o ts neither c = c.carried (o ∷ ts)

  pub first_or_carries : (s : Token → Option (Parser A)) (s' : Token → Option (Parser B)) (p : Parser A) (q : Parser B) → ((o : Token) → CarriesStart f (s o) (s' o)) → Carries f p q → Carries f (first_or s p) (first_or s' q)
  first_or_carries s s' p q h c = record { carried = by_first }
    where
      by_first : (ts : List Token) → mapped f (first_or s p ts) ≡ first_or s' q ts
      by_first [] = c.carried []
      by_first (o ∷ ts) = behind_carries p q o ts (h o) c

  pub first_carries : (s : Token → Option (Parser A)) (s' : Token → Option (Parser B)) → ((o : Token) → CarriesStart f (s o) (s' o)) → Carries f (first s) (first s')
  first_carries s s' h = first_or_carries s s' refuse refuse h (refuse_carries f)

  pub test_carries : (b : Bool) (p : Parser A) (q : Parser B) → Carries f p q → CarriesStart f (where_true b p) (where_true b q)
  test_carries true p q c = both c
  test_carries false p q c = neither

  pub expect_carries : (test : Tok → Bool) (k : Token → Parser A) (k' : Token → Parser B) → ((o : Token) → Carries f (k o) (k' o)) → Carries f (expect test k) (expect test k')
  expect_carries test k k' h = first_carries (λ o. where_true (test o.kind) (k o)) (λ o. where_true (test o.kind) (k' o)) (λ o. test_carries (test o.kind) (k o) (k' o) (h o))

  pub if_first_carries : (test : Tok → Bool) (k : Token → Parser A) (k' : Token → Parser B) (p : Parser A) (q : Parser B) → ((o : Token) → Carries f (k o) (k' o)) → Carries f p q → Carries f (if_first test k p) (if_first test k' q)
  if_first_carries test k k' p q h c = first_or_carries (λ o. where_true (test o.kind) (k o)) (λ o. where_true (test o.kind) (k' o)) p q (λ o. test_carries (test o.kind) (k o) (k' o) (h o)) c

module _ {S S' : Type 0} (f : S → S') (step : Token → S → Option (Parser S)) (step' : Token → S' → Option (Parser S')) (h : (o : Token) (s : S) → CarriesStart f (step o s) (step' o (f s))) where
  going_on_carries : (k : S → Parser S) (k' : S' → Parser S') → ((s : S) → Carries f (k s) (k' (f s))) → {v : Option (Parser S)} {w : Option (Parser S')} → CarriesStart f v w → CarriesStart f (going_on k v) (going_on k' w)
  going_on_carries k k' c (both {p = p} {q = q} e) = both (then_carries f f k k' c p q e)
  going_on_carries k k' c neither = neither

  repeated_carries : (n : ℕ) (s : S) → Carries f (repeated step n s) (repeated step' n (f s))
  unfolding repeated
  repeated_carries zero s = refuse_carries f
  repeated_carries (suc n) s = first_or_carries f (λ o. going_on (repeated step n) (step o s)) (λ o. going_on (repeated step' n) (step' o (f s))) (pure s) (pure (f s))
      (λ o. going_on_carries (repeated step n) (repeated step' n) (repeated_carries n) (h o s))
      (pure_carries f s (f s) refl)

  pub repeat_carries : (s : S) (s' : S') → f s ≡ s' → Carries f (repeat step s) (repeat step' s')
  unfolding repeat
  repeat_carries s s' e = record { carried = λ ts. (repeated_carries (suc (length ts)) s).carried ts ∙ ap (λ z. repeated step' (suc (length ts)) z ts) e }
