-- A relation of readers that is kept by the steps that readers are made of.
use Rattle.std.proofs.Common.{Bool, true, false, Option, Some, None, if◌then◌else◌}
use Rattle.kf_lex.specs.declared.token.Token.{Token}
use Rattle.kf_lex.specs.declared.token.Tok.{Tok}
use Rattle.kf_parse.specs.Outcomes.{Parser, ◌>>=◌, pure, refuse, too_deep, first_or, first, where_true, expect, if_first, repeat}

-- where both go on, they are related
abbrev pub Started : {A : Type 0} → (Parser A → Parser A → Type 0) → Option (Parser A) → Option (Parser A) → Type 0
Started R (Some p) (Some q) = R p q
Started R None None = Unit {0}
Started R (Some p) None = ⊥
Started R None (Some q) = ⊥

pub record Closed : Type 1 where
  pub R : {A : Type 0} → Parser A → Parser A → Type 0
  pub by_pure : {A : Type 0} (a : A) → R (pure a) (pure a)
  pub by_refuse : (A : Type 0) → R {A = A} refuse refuse
  pub by_deep : (A : Type 0) → R {A = A} too_deep too_deep
  pub by_deeper : {A : Type 0} (q : Parser A) → R q q → R too_deep q
  pub by_then : {A B : Type 0} (p q : Parser A) (f g : A → Parser B) → R p q → ((a : A) → R (f a) (g a)) → R (p >>= f) (q >>= g)
  pub by_first_or : {A : Type 0} (f g : Token → Option (Parser A)) (p q : Parser A) → ((o : Token) → Started R (f o) (g o)) → R p q → R (first_or f p) (first_or g q)
  pub by_repeat : {S : Type 0} (step step' : Token → S → Option (Parser S)) → ((o : Token) (s : S) → Started R (step o s) (step' o s)) → (s : S) → R (repeat step s) (repeat step' s)

module _ (K : Closed) where
  -- reading one part after the other
  pub then_kept : {A B : Type 0} {p q : Parser A} {f g : A → Parser B} → K.R p q → ((a : A) → K.R (f a) (g a)) → K.R (p >>= f) (q >>= g)
  then_kept {p = p} {q = q} {f = f} {g = g} h k = K.by_then p q f g h k

  pub first_kept : {A : Type 0} (f g : Token → Option (Parser A)) → ((o : Token) → Started K.R (f o) (g o)) → K.R (first f) (first g)
  first_kept {A = A} f g k = K.by_first_or f g refuse refuse k (K.by_refuse A)

  pub where_kept : {A : Type 0} (b : Bool) {p q : Parser A} → K.R p q → Started K.R (where_true b p) (where_true b q)
  where_kept true h = h
  where_kept false h = tt

  pub if_first_kept : {A : Type 0} (test : Tok → Bool) {f g : Token → Parser A} {p q : Parser A} → ((o : Token) → K.R (f o) (g o)) → K.R p q → K.R (if_first test f p) (if_first test g q)
  if_first_kept test {f = f} {g = g} {p = p} {q = q} k h = K.by_first_or (λ o. where_true (test o.kind) (f o)) (λ o. where_true (test o.kind) (g o)) p q (λ o. where_kept (test o.kind) (k o)) h

  pub expect_kept : {A : Type 0} (test : Tok → Bool) {f g : Token → Parser A} → ((o : Token) → K.R (f o) (g o)) → K.R (expect test f) (expect test g)
  expect_kept {A = A} test k = if_first_kept test k (K.by_refuse A)

  -- a loop in which each step is behind a token that is tested
  pub repeat_kept : {S : Type 0} (test : Token → Bool) {p q : Token → S → Parser S} → ((o : Token) (s : S) → K.R (p o s) (q o s)) → (s : S) → K.R (repeat (λ o t. where_true (test o) (p o t)) s) (repeat (λ o t. where_true (test o) (q o t)) s)
  repeat_kept test {p = p} {q = q} h s = K.by_repeat (λ o t. where_true (test o) (p o t)) (λ o t. where_true (test o) (q o t)) (λ o t. where_kept (test o) (h o t)) s

  pub if_kept : {A : Type 0} (b : Bool) {p q p' q' : Parser A} → K.R p q → K.R p' q' → K.R (if b then p else p') (if b then q else q')
  if_kept true h k = h
  if_kept false h k = k
