-- A loop's turns: how steps lead from one state to another, and where they end.
use Rattle.std.proofs.Common.{◌≡◌, ℕ, zero, suc, ◌+◌, ◌≤◌, ◌<◌, List, [], ◌∷◌, ◌++◌, length, refl, sym, ◌∙◌, ap, subst, append_assoc, length-append, arith, Option, Some, None}
use Rattle.kf_lex.specs.declared.token.Token.{Token}
use Rattle.kf_parse.specs.Outcomes.{got, Parser, and_then, behind, going_on, repeated, repeat}

not_longer : (b rest : List Token) → length rest ≤ length (b ++ rest)
not_longer b rest = let q = length-append b rest in omega arith

-- tokens before others, taken apart
pub apart : {ts : List Token} (a b rest : List Token) → ts ≡ a ++ b → ts ++ rest ≡ a ++ (b ++ rest)
apart a b rest w = ap (λ z. z ++ rest) w ∙ append_assoc a b rest

-- what stands before a closing bracket, with what follows
pub before_close : {ts : List Token} (a b : List Token) (q : Token) (rest : List Token) → ts ≡ a ++ (b ++ q ∷ []) → ts ++ rest ≡ a ++ (b ++ q ∷ rest)
before_close a b q rest w = apart a (b ++ q ∷ []) rest w ∙ ap (λ v. a ++ v) (append_assoc b (q ∷ []) rest)

module _ {S : Type 0} (step : Token → S → Option (Parser S)) where
  pub record Turned (n : ℕ) (x : S) (ts : List Token) (z : S) (rest : List Token) : Type 0 where
    turns : ℕ
    enough : length rest < turns
    same : repeated step n x ts ≡ repeated step turns z rest

  -- with enough turns, the loop comes from one state to the other
  abbrev pub Leads : S → List Token → S → List Token → Type 0
  Leads x ts z rest = (n : ℕ) → length ts < n → Turned n x ts z rest

  -- no step goes on
  abbrev pub Ends : S → List Token → Type 0
  Ends z [] = Unit {0}
  Ends z (o ∷ ts) = step o z ≡ None

  pub leads_nowhere : (x : S) (ts : List Token) → Leads x ts x ts
  leads_nowhere x ts n less = record { turns = n; enough = less; same = refl }

  turned : (n m : ℕ) (x y z : S) (ts : List Token) (o : Token) (us rest : List Token) (p : Parser S) → length (o ∷ us) < m → repeated step n x ts ≡ repeated step m y (o ∷ us) → step o y ≡ Some p → p us ≡ got z rest → length rest ≤ length us → Turned n x ts z rest
  unfolding repeated
  turned n zero x y z ts o us rest p less same e h low = absurd (omega arith)
  turned n (suc m) x y z ts o us rest p less same e h low = record {
    turns = m;
    enough = omega arith;
    same = same ∙ ap (λ v. behind (going_on (repeated step m) v) (λ vs. got y vs) o us) e ∙ ap (λ v. and_then v (repeated step m)) h;
  }

  pub leads_on : (x y z : S) (ts : List Token) (o : Token) (us rest : List Token) (p : Parser S) → Leads x ts y (o ∷ us) → step o y ≡ Some p → p us ≡ got z rest → length rest ≤ length us → Leads x ts z rest
  leads_on x y z ts o us rest p a e h low n less = let t = a n less in turned n t.turns x y z ts o us rest p t.enough t.same e h low

  ended : (n : ℕ) (z : S) (rest : List Token) → length rest < n → Ends z rest → repeated step n z rest ≡ got z rest
  unfolding repeated
  ended zero z rest less end = absurd (omega arith)
  ended (suc n) z [] less end = refl
  ended (suc n) z (o ∷ us) less end = ap (λ v. behind (going_on (repeated step n) v) (λ vs. got z vs) o us) end

  pub repeat_takes : (x z : S) (ts rest : List Token) → Leads x ts z rest → Ends z rest → repeat step x ts ≡ got z rest
  unfolding repeat
  repeat_takes x z ts rest a end = let t = a (suc (length ts)) (omega arith) in t.same ∙ ended t.turns z rest t.enough end

  pub leads_from : (x z : S) (ts us rest : List Token) → ts ≡ us → Leads x us z rest → Leads x ts z rest
  leads_from x z ts us rest e a = let P : List Token → Type 0 = λ v. Leads x v z rest in subst P (sym e) a

-- Tokens of a form are read as what they are, at every depth that suffices, where those after them don't go on with it.
pub record Reads {A : Type 0} (p : ℕ → Parser A) (Follow : List Token → Type 0) (ts : List Token) (x : A) : Type 0 where
  pub depth : ℕ
  pub takes : (d : ℕ) → depth ≤ d → (rest : List Token) → Follow rest → p d (ts ++ rest) ≡ got x rest

-- in the same way, a loop comes through tokens from one state to another
pub record Runs {S : Type 0} (step : ℕ → Token → S → Option (Parser S)) (Follow : List Token → Type 0) (x : S) (ts : List Token) (z : S) : Type 0 where
  pub depth : ℕ
  pub starts : (rest : List Token) → Follow rest → Follow (ts ++ rest)
  pub leads : (d : ℕ) → depth ≤ d → (rest : List Token) → Follow rest → Leads (step d) x (ts ++ rest) z rest

module _ {S : Type 0} (step : ℕ → Token → S → Option (Parser S)) (Follow : List Token → Type 0) where
  pub runs_nowhere : (x : S) → Runs step Follow x [] x
  runs_nowhere x = record { depth = 0; starts = λ rest f. f; leads = λ d de rest f. leads_nowhere (step d) x rest }

  pub runs_on : (x y z : S) (a b ts : List Token) (o : Token) (p : ℕ → Parser S) → Runs step Follow x a y → ((us : List Token) → Follow (o ∷ us)) → ((d : ℕ) → step d o y ≡ Some (p d)) → Reads p Follow b z → ts ≡ a ++ o ∷ b → Runs step Follow x ts z
  runs_on x y z a b ts o p r goes by_step e w = record {
    depth = r.depth + e.depth;
    starts = λ rest f. subst Follow (sym (apart a (o ∷ b) rest w)) (r.starts (o ∷ (b ++ rest)) (goes (b ++ rest)));
    leads = λ d de rest f. leads_from (step d) x z (ts ++ rest) (a ++ o ∷ (b ++ rest)) rest (apart a (o ∷ b) rest w)
        (leads_on (step d) x y z (a ++ o ∷ (b ++ rest)) o (b ++ rest) rest (p d) (r.leads d (omega arith) (o ∷ (b ++ rest)) (goes (b ++ rest))) (by_step d) (e.takes d (omega arith) rest f) (not_longer b rest));
  }
