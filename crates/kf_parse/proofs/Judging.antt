-- What is read to the end is a program. Where something is left, or reading is stuck, there is none, and that is the place of the fault.
use Rattle.std.proofs.Common.{◌≡◌, ℕ, ◌+◌, List, [], ◌∷◌, ◌++◌, refl, sym, ◌∙◌, ap, subst, append_assoc, arith}
use Rattle.std.proofs.lemmas.List.{append-nil}
use Rattle.kf_lex.specs.declared.token.Token.{Token}
use Rattle.kf_ast.specs.Sources.{SourceTree}
use Rattle.kf_parse.specs.Outcomes.{Outcome, got, stuck, deep}
use Rattle.kf_parse.specs.Plain.{whole_trees}
use Rattle.kf_parse.specs.Programs.{IsProgram}
use Rattle.kf_parse.specs.Reading.{program}
use Rattle.kf_parse.specs.Answers.{Begins, IsSyntaxPlace}
use Rattle.kf_parse.proofs.TakesPrograms.{program_takes}
use Rattle.kf_parse.proofs.KindsPrograms.{kinds_alone}
use Rattle.kf_parse.proofs.Told.{Told}
use Rattle.kf_parse.proofs.ToldPrograms.{program_told}
use Rattle.kf_parse.proofs.Tame.{Rest, with_rest, program_tame}
use Rattle.kf_parse.specs.Begins.{place_in, IsNoProgram}

pub found : (src : List ℕ) (d : ℕ) (ts : List Token) (x : SourceTree) → program whole_trees src d ts ≡ got x [] → IsProgram src ts x
found src d ts x e =
    let P : Outcome SourceTree → Type 0 = λ o. Told (IsProgram src) ts o in
    let h = subst P e (program_told src d ts) in
    let Q : List Token → Type 0 = λ z. IsProgram src z x in
    subst Q (sym (h.whole ∙ append-nil h.front)) h.tells

module _ (src : List ℕ) (d : ℕ) where
  -- what is not read to its end is no program
  no_program : (ts : List Token) (o : Outcome SourceTree) → program whole_trees src d ts ≡ o → (o ≡ deep → ⊥) → ((x : SourceTree) → o ≡ got x [] → ⊥) → IsNoProgram src ts
  no_program ts o e ne other x p =
      let a = program_takes src ts x p in
      let n : ℕ = d + a.0 in
      other x (sym e ∙ sym ((program_tame whole_trees src d n (omega arith)).agrees ts (λ w. ne (sym e ∙ w))) ∙ a.1 n (omega arith))

  -- no program begins with a token at which reading stops
  none_begins : (front us : List Token) (u : Token) → Rest (program whole_trees src d (front ++ u ∷ us)) (u ∷ us) → Begins (front ++ u ∷ []) → ⊥
  none_begins front us u h v =
      let same = kinds_alone v.src src ((front ++ u ∷ []) ++ v.more) ((front ++ u ∷ []) ++ v.more) v.tree v.program refl in
      let a = program_takes src ((front ++ u ∷ []) ++ v.more) same.0 same.1 in
      let n : ℕ = d + a.0 in
      let P : List Token → Type 0 = λ z. Rest (program whole_trees src d z) (u ∷ us) in
      let k = subst P (sym (append_assoc front (u ∷ []) us)) h in
      let stops = (program_tame whole_trees src d n (omega arith)).steady (front ++ u ∷ []) us v.more u [] k in
      differ (program whole_trees src d ((front ++ u ∷ []) ++ us)) k u v.more same.0 (sym (a.1 n (omega arith)) ∙ stops)
    where
      differ : (o : Outcome SourceTree) → Rest o (u ∷ us) → (t : Token) (m : List Token) (x : SourceTree) → got x [] ≡ with_rest o (t ∷ m) → ⊥
      differ (got y rest) k t m x e = cc
      differ (stuck rest) k t m x e = cc
      differ deep k t m x e = absurd k

  ends_there : (ts front rest : List Token) (o : Outcome SourceTree) → program whole_trees src d ts ≡ o → Rest o rest → ts ≡ front ++ rest → (u : Token) (us : List Token) → rest ≡ u ∷ us → Begins (front ++ u ∷ []) → ⊥
  ends_there ts front rest o e h whole u us w =
      let P : List Token → Type 0 = λ z. Rest (program whole_trees src d z) (u ∷ us) in
      let Q : Outcome SourceTree → Type 0 = λ v. Rest v (u ∷ us) in
      let S : List Token → Type 0 = λ z. Rest o z in
      none_begins front us u (subst P (whole ∙ ap (λ z. front ++ z) w) (subst Q (sym e) (subst S w h)))

  pub left_over : (ts us : List Token) (u : Token) (x : SourceTree) → program whole_trees src d ts ≡ got x (u ∷ us) → IsNoProgram src ts × IsSyntaxPlace src ts u.start
  left_over ts us u x e =
      let P : Outcome SourceTree → Type 0 = λ o. Told (IsProgram src) ts o in
      let h = subst P e (program_told src d ts) in (
        no_program ts (got x (u ∷ us)) e (λ w. let v : got x (u ∷ us) ≡ deep = w in cc) (λ y w. let v : got x (u ∷ us) ≡ got y [] = w in cc),
        record {
          front = h.front;
          rest = u ∷ us;
          whole = h.whole;
          begins = record { src = src; more = []; tree = x; program = rw append-nil h.tells };
          ends = ends_there ts h.front (u ∷ us) (got x (u ∷ us)) e refl h.whole;
          stands = refl;
        },
      )

  pub stuck_at : (ts rest : List Token) → program whole_trees src d ts ≡ stuck rest → IsNoProgram src ts × IsSyntaxPlace src ts (place_in src rest)
  stuck_at ts rest e =
      let P : Outcome SourceTree → Type 0 = λ o. Told (IsProgram src) ts o in
      let h = subst P e (program_told src d ts) in (
        no_program ts (stuck rest) e (λ w. let v : stuck rest ≡ deep = w in cc) (λ y w. let v : stuck rest ≡ got y [] = w in cc),
        record {
          front = h.front;
          rest = rest;
          whole = h.whole;
          begins = record { src = src; more = h.more; tree = h.value; program = h.tells };
          ends = ends_there ts h.front rest (stuck rest) e refl h.whole;
          stands = refl;
        },
      )
