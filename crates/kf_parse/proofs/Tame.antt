-- A reader looks at each token once, from left to right, and one ahead.
use Rattle.std.proofs.Common.{◌≡◌, ℕ, zero, suc, ◌+◌, ◌≤◌, List, [], ◌∷◌, ◌++◌, length, refl, sym, ◌∙◌, ap, subst, append_assoc, length-append, arith, Option, Some, None}
use Rattle.std.proofs.lemmas.List.{append_cancel_right}
use Rattle.kf_lex.specs.declared.token.Token.{Token}
use Rattle.kf_parse.specs.Outcomes.{Outcome, got, stuck, deep, Parser, and_then, ◌>>=◌, pure, refuse, too_deep, behind, first_or, going_on, repeated, repeat}
use Rattle.kf_parse.specs.Builders.{Builder}
use Rattle.kf_parse.specs.Reading as r
use Rattle.kf_parse.proofs.Loops.{IsEnd, Leaves, Shrinks, ShrinksWhere, pure_shrinks, refuse_shrinks, then_shrinks, first_or_shrinks, repeat_shrinks, repeated_enough}
use Rattle.kf_parse.proofs.Closed.{Closed, Started}
use Rattle.kf_parse.proofs.ClosedForms.{program_kept}

-- these are the tokens that are left
abbrev pub Rest : {A : Type 0} → Outcome A → List Token → Type 0
Rest (got a rest) z = rest ≡ z
Rest (stuck rest) z = rest ≡ z
Rest deep z = ⊥

abbrev pub with_rest : {A : Type 0} → Outcome A → List Token → Outcome A
with_rest (got a rest) z = got a z
with_rest (stuck rest) z = stuck z
with_rest deep z = deep

-- What p finds q finds too. Where p leaves a token u, q does the same whatever follows u.
pub record Tame {A : Type 0} (p q : Parser A) : Type 0 where
  pub left : Shrinks p
  pub right : Shrinks q
  pub agrees : (ts : List Token) → (p ts ≡ deep → ⊥) → q ts ≡ p ts
  pub steady : (xs b b' : List Token) (u : Token) (us : List Token) → Rest (p (xs ++ b)) (u ∷ (us ++ b)) → q (xs ++ b') ≡ with_rest (p (xs ++ b)) (u ∷ (us ++ b'))

no_front : (u : Token) (us b : List Token) → b ≡ u ∷ (us ++ b) → ⊥
no_front u us b e = let n : length b ≡ length (u ∷ (us ++ b)) = ap length e in let m : length (us ++ b) ≡ length us + length b = length-append us b in omega arith

-- what is left before b depends on what is read before b
same_rest : {A : Type 0} (f : List Token → Outcome A) (xs us b b' : List Token) (u : Token) → xs ++ b ≡ u ∷ (us ++ b) → f (xs ++ b') ≡ f (u ∷ (us ++ b'))
same_rest f [] us b b' u e = absurd (no_front u us b e)
same_rest f (t ∷ xs) us b b' u e =
    let tail : xs ++ b ≡ us ++ b = cc in
    let head : t ≡ u = cc in
    let same : xs ≡ us = append_cancel_right xs us b tail in
    ap f (let one : t ∷ (xs ++ b') ≡ u ∷ (us ++ b') = cc in one)

pure_tame : {A : Type 0} (a : A) → Tame (pure a) (pure a)
pure_tame a = record { left = pure_shrinks a; right = pure_shrinks a; agrees = λ ts ne. refl; steady = λ xs b b' u us e. same_rest (λ z. got a z) xs us b b' u e }

refuse_tame : (A : Type 0) → Tame {A = A} refuse refuse
refuse_tame A = record { left = refuse_shrinks A; right = refuse_shrinks A; agrees = λ ts ne. refl; steady = λ xs b b' u us e. same_rest (λ z. stuck z) xs us b b' u e }

deep_tame : {A : Type 0} (q : Parser A) → Shrinks q → Tame too_deep q
deep_tame q h = record { left = λ ts. tt; right = h; agrees = λ ts ne. absurd (ne refl); steady = λ xs b b' u us e. absurd e }

-- what ends with a token and b
record Split (ts b : List Token) : Type 0 where
  head : Token
  tail : List Token
  whole : ts ≡ head ∷ (tail ++ b)

split : (ts b : List Token) (u : Token) (us : List Token) → IsEnd ts (u ∷ (us ++ b)) → Split ts b
split ts b u us h = go h.front h.whole
  where
    go : (m : List Token) → ts ≡ m ++ u ∷ (us ++ b) → Split ts b
    go [] e = record { head = u; tail = us; whole = e }
    go (v ∷ vs) e = record { head = v; tail = vs ++ u ∷ us; whole = e ∙ ap (λ w. v ∷ w) (sym (append_assoc vs (u ∷ us) b)) }

end_of : {A : Type 0} (ts z : List Token) (o : Outcome A) → Leaves ts o → Rest o z → IsEnd ts z
end_of ts z (got a rest) h e = let P : List Token → Type 0 = λ w. IsEnd ts w in subst P e h
end_of ts z (stuck rest) h e = let P : List Token → Type 0 = λ w. IsEnd ts w in subst P e h
end_of ts z deep h e = absurd e

module _ {A B : Type 0} (p q : Parser A) (f g : A → Parser B) (h : Tame p q) (k : (a : A) → Tame (f a) (g a)) where
  then_steady : (xs b b' : List Token) (u : Token) (us : List Token) (o : Outcome A) → p (xs ++ b) ≡ o → Rest (and_then o f) (u ∷ (us ++ b)) → and_then (q (xs ++ b')) g ≡ with_rest (and_then o f) (u ∷ (us ++ b'))
  then_steady xs b b' u us (got a rest) e w =
      let s = split rest b u us (end_of rest (u ∷ (us ++ b)) (f a rest) ((k a).left rest) w) in
      let P : Outcome A → Type 0 = λ o. Rest o (s.head ∷ (s.tail ++ b)) in
      let Q : Outcome A → Type 0 = λ o. q (xs ++ b') ≡ with_rest o (s.head ∷ (s.tail ++ b')) in
      let one : q (xs ++ b') ≡ got a (s.head ∷ (s.tail ++ b')) = subst Q e (h.steady xs b b' s.head s.tail (subst P (sym e) s.whole)) in
      let R : List Token → Type 0 = λ z. Rest (f a z) (u ∷ (us ++ b)) in
      let two = (k a).steady (s.head ∷ s.tail) b b' u us (subst R s.whole w) in
      let S : List Token → Type 0 = λ z. g a (s.head ∷ (s.tail ++ b')) ≡ with_rest (f a z) (u ∷ (us ++ b')) in
      rw one (subst S (sym s.whole) two)
  then_steady xs b b' u us (stuck rest) e w =
      let P : Outcome A → Type 0 = λ o. Rest o (u ∷ (us ++ b)) in
      let Q : Outcome A → Type 0 = λ o. q (xs ++ b') ≡ with_rest o (u ∷ (us ++ b')) in
      let one : q (xs ++ b') ≡ stuck (u ∷ (us ++ b')) = subst Q e (h.steady xs b b' u us (subst P (sym e) w)) in
      rw one refl
  then_steady xs b b' u us deep e w = absurd w

  then_agrees : (ts : List Token) (o : Outcome A) → p ts ≡ o → (and_then o f ≡ deep → ⊥) → and_then (q ts) g ≡ and_then o f
  then_agrees ts (got a rest) e ne = let one : q ts ≡ got a rest = h.agrees ts (λ w. let v : got a rest ≡ deep = sym e ∙ w in cc) ∙ e in rw one ((k a).agrees rest ne)
  then_agrees ts (stuck rest) e ne = let one : q ts ≡ stuck rest = h.agrees ts (λ w. let v : stuck rest ≡ deep = sym e ∙ w in cc) ∙ e in rw one refl
  then_agrees ts deep e ne = absurd (ne refl)

  then_tame : Tame (p >>= f) (q >>= g)
  then_tame = record {
    left = then_shrinks p f h.left (λ a. (k a).left);
    right = then_shrinks q g h.right (λ a. (k a).right);
    agrees = λ ts ne. then_agrees ts (p ts) refl ne;
    steady = λ xs b b' u us w. then_steady xs b b' u us (p (xs ++ b)) refl w;
  }

abbrev TameWhere : {A : Type 0} → Option (Parser A) → Option (Parser A) → Type 0
TameWhere v v' = Started Tame v v'

left_where : {A : Type 0} (v v' : Option (Parser A)) → TameWhere v v' → ShrinksWhere v
left_where (Some p) (Some q) h = h.left
left_where None None h = tt
left_where (Some p) None h = absurd h
left_where None (Some q) h = absurd h

right_where : {A : Type 0} (v v' : Option (Parser A)) → TameWhere v v' → ShrinksWhere v'
right_where (Some p) (Some q) h = h.right
right_where None None h = tt
right_where (Some p) None h = absurd h
right_where None (Some q) h = absurd h

module _ {A : Type 0} (f g : Token → Option (Parser A)) (p q : Parser A) (k : (o : Token) → TameWhere (f o) (g o)) (h : Tame p q) where
  behind_agrees : (v v' : Option (Parser A)) → TameWhere v v' → (o : Token) (ts : List Token) → (behind v p o ts ≡ deep → ⊥) → behind v' q o ts ≡ behind v p o ts
  behind_agrees (Some r) (Some r') e o ts ne = e.agrees ts ne
  behind_agrees None None e o ts ne = h.agrees (o ∷ ts) ne
  behind_agrees (Some r) None e o ts ne = absurd e
  behind_agrees None (Some r) e o ts ne = absurd e

  behind_steady : (v v' : Option (Parser A)) → TameWhere v v' → (o : Token) (xs b b' : List Token) (u : Token) (us : List Token)
      → Rest (behind v p o (xs ++ b)) (u ∷ (us ++ b)) → behind v' q o (xs ++ b') ≡ with_rest (behind v p o (xs ++ b)) (u ∷ (us ++ b'))
  behind_steady (Some r) (Some r') e o xs b b' u us w = e.steady xs b b' u us w
  behind_steady None None e o xs b b' u us w = h.steady (o ∷ xs) b b' u us w
  behind_steady (Some r) None e o xs b b' u us w = absurd e
  behind_steady None (Some r) e o xs b b' u us w = absurd e

  first_or_left : Shrinks (first_or f p)
  first_or_left = first_or_shrinks f p (λ o. left_where (f o) (g o) (k o)) h.left

  -- nothing before b is left of nothing
  nothing_left : (b : List Token) (u : Token) (us : List Token) → Rest (first_or f p b) (u ∷ (us ++ b)) → ⊥
  nothing_left b u us w =
      let e = end_of b (u ∷ (us ++ b)) (first_or f p b) (first_or_left b) w in
      let n : length b ≡ length (e.front ++ u ∷ (us ++ b)) = ap length e.whole in
      let l : length (e.front ++ u ∷ (us ++ b)) ≡ length e.front + length (u ∷ (us ++ b)) = length-append e.front (u ∷ (us ++ b)) in
      let l2 : length (us ++ b) ≡ length us + length b = length-append us b in
      omega arith

  first_or_agrees : (ts : List Token) → (first_or f p ts ≡ deep → ⊥) → first_or g q ts ≡ first_or f p ts
  first_or_agrees [] ne = h.agrees [] ne
  first_or_agrees (o ∷ ts) ne = behind_agrees (f o) (g o) (k o) o ts ne

  first_or_steady : (xs b b' : List Token) (u : Token) (us : List Token) → Rest (first_or f p (xs ++ b)) (u ∷ (us ++ b)) → first_or g q (xs ++ b') ≡ with_rest (first_or f p (xs ++ b)) (u ∷ (us ++ b'))
  first_or_steady (o ∷ xs) b b' u us w = behind_steady (f o) (g o) (k o) o xs b b' u us w
  first_or_steady [] b b' u us w = absurd (nothing_left b u us w)

  first_or_tame : Tame (first_or f p) (first_or g q)
  first_or_tame = record { left = first_or_left; right = first_or_shrinks g q (λ o. right_where (f o) (g o) (k o)) h.right; agrees = first_or_agrees; steady = first_or_steady }

module _ {S : Type 0} (step step' : Token → S → Option (Parser S)) (k : (o : Token) (s : S) → TameWhere (step o s) (step' o s)) where
  repeated_tame : (n : ℕ) (s : S) → Tame (repeated step n s) (repeated step' n s)
  unfolding repeated
  repeated_tame zero s = refuse_tame S
  repeated_tame (suc n) s = first_or_tame (λ o. going_on (repeated step n) (step o s)) (λ o. going_on (repeated step' n) (step' o s)) (pure s) (pure s) (λ o. go (step o s) (step' o s) (k o s) (λ t. repeated_tame n t)) (pure_tame s)
    where
      go : (v v' : Option (Parser S)) → TameWhere v v' → ((t : S) → Tame (repeated step n t) (repeated step' n t)) → TameWhere (going_on (repeated step n) v) (going_on (repeated step' n) v')
      go (Some p) (Some q) h ih = then_tame p q (repeated step n) (repeated step' n) h ih
      go None None h ih = tt
      go (Some p) None h ih = absurd h
      go None (Some q) h ih = absurd h

  left_steps : (o : Token) (s : S) → ShrinksWhere (step o s)
  left_steps o s = left_where (step o s) (step' o s) (k o s)

  right_steps : (o : Token) (s : S) → ShrinksWhere (step' o s)
  right_steps o s = right_where (step o s) (step' o s) (k o s)

  repeat_tame : (s : S) → Tame (repeat step s) (repeat step' s)
  unfolding repeat
  repeat_tame s = record {
    left = repeat_shrinks step left_steps s;
    right = repeat_shrinks step' right_steps s;
    agrees = λ ts ne. (repeated_tame (suc (length ts)) s).agrees ts ne;
    steady = λ xs b b' u us e.
        let n : ℕ = suc (length (xs ++ b)) + suc (length (xs ++ b')) in
        let one = repeated_enough step left_steps (suc (length (xs ++ b))) n s (xs ++ b) (omega arith) (omega arith) in
        let two = repeated_enough step' right_steps (suc (length (xs ++ b'))) n s (xs ++ b') (omega arith) (omega arith) in
        let P : Outcome S → Type 0 = λ o. Rest o (u ∷ (us ++ b)) in
        let Q : Outcome S → Type 0 = λ o. repeated step' n s (xs ++ b') ≡ with_rest o (u ∷ (us ++ b')) in
        two ∙ subst Q (sym one) ((repeated_tame n s).steady xs b b' u us (subst P one e));
  }

abbrev tame : Closed
tame = record {
  R = Tame;
  by_pure = pure_tame;
  by_refuse = refuse_tame;
  by_deep = λ A. deep_tame too_deep (λ ts. tt);
  by_deeper = λ q h. deep_tame q h.right;
  by_then = then_tame;
  by_first_or = first_or_tame;
  by_repeat = repeat_tame;
}

pub program_tame : (B : Builder) (src : List ℕ) (d e : ℕ) → d ≤ e → Tame (r.program B src d) (r.program B src e)
program_tame = program_kept tame
