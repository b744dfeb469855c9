-- What reading with long expressions left out says of the tokens.
use Rattle.std.proofs.Common.{◌≡◌, ℕ, List, [], ◌∷◌, Some, None, sym, ◌∙◌, ap, subst}
use Rattle.kf_lex.specs.declared.token.Token.{Token}
use Rattle.kf_ast.specs.Sources.{SourceTree}
use Rattle.kf_parse.specs.Outcomes.{Outcome, got, stuck, deep}
use Rattle.kf_parse.specs.Plain.{whole_trees}
use Rattle.kf_parse.specs.Trimmed.{Trimmed, trimmed}
use Rattle.kf_parse.specs.Reading.{program}
use Rattle.kf_parse.specs.Depth.{IsShallow}
use Rattle.kf_parse.specs.Sizes.{source_exprs, first_long}
use Rattle.kf_parse.specs.Answers.{IsParsed, IsSyntax, IsLong}
use Rattle.kf_parse.proofs.Judging.{found, left_over, stuck_at}
use Rattle.kf_parse.proofs.SinksPrograms.{not_deep}
use Rattle.kf_parse.proofs.TrimSteps.{mapped}
use Rattle.kf_parse.proofs.TrimTrees.{trim_source, program_trimmed}
use Rattle.kf_parse.proofs.TrimLong.{trim_long, trim_whole}
use Rattle.kf_parse.specs.Begins.{place_in}

-- whole trees of which this was read
record Whole (o : Outcome SourceTree) (v : Trimmed SourceTree) (rest : List Token) : Type 0 where
  tree : SourceTree
  is : o ≡ got tree rest
  trims : trim_source tree ≡ v

whole : (o : Outcome SourceTree) (v : Trimmed SourceTree) (rest : List Token) → mapped trim_source o ≡ got v rest → Whole o v rest
whole (got x us) v rest e = record { tree = x; is = let same : us ≡ rest = cc in ap (got x) same; trims = cc }
whole (stuck us) v rest e = absurd (cc)
whole deep v rest e = absurd (cc)

stuck_whole : (o : Outcome SourceTree) (rest : List Token) → mapped trim_source o ≡ stuck rest → o ≡ stuck rest
stuck_whole (got x us) rest e = absurd (cc)
stuck_whole (stuck us) rest e = let same : us ≡ rest = cc in ap stuck same
stuck_whole deep rest e = absurd (cc)

module _ (src : List ℕ) (ts : List Token) (shallow : IsShallow ts) where
  of_whole : (o : Outcome (Trimmed SourceTree)) → program trimmed src 65 ts ≡ o → mapped trim_source (program whole_trees src 65 ts) ≡ o
  of_whole o e = sym (program_trimmed src 65 ts) ∙ e

  pub is_parsed : (v : Trimmed SourceTree) → program trimmed src 65 ts ≡ got v [] → v.long ≡ None → IsParsed src ts v.value
  is_parsed v e short =
      let w = whole (program whole_trees src 65 ts) v [] (of_whole (got v []) e) in
      let none : first_long (source_exprs w.tree) ≡ None = sym (trim_long w.tree) ∙ ap (λ z. z.long) w.trims ∙ short in
      let same : w.tree ≡ v.value = sym (trim_whole w.tree none) ∙ ap (λ z. z.value) w.trims in
      subst (λ x. IsParsed src ts x) same (record { shallow = shallow; program = found src 65 ts w.tree w.is; short = none })

  pub is_long : (v : Trimmed SourceTree) (at : ℕ) → program trimmed src 65 ts ≡ got v [] → v.long ≡ Some at → IsLong src ts at
  is_long v at e long =
      let w = whole (program whole_trees src 65 ts) v [] (of_whole (got v []) e) in
      record { shallow = shallow; tree = w.tree; program = found src 65 ts w.tree w.is; long = sym (trim_long w.tree) ∙ ap (λ z. z.long) w.trims ∙ long }

  pub is_left_over : (v : Trimmed SourceTree) (u : Token) (us : List Token) → program trimmed src 65 ts ≡ got v (u ∷ us) → IsSyntax src ts u.start
  is_left_over v u us e =
      let w = whole (program whole_trees src 65 ts) v (u ∷ us) (of_whole (got v (u ∷ us)) e) in
      let j = left_over src 65 ts us u w.tree w.is in
      record { shallow = shallow; none = j.0; place = j.1 }

  pub is_stuck : (rest : List Token) → program trimmed src 65 ts ≡ stuck rest → IsSyntax src ts (place_in src rest)
  is_stuck rest e =
      let j = stuck_at src 65 ts rest (stuck_whole (program whole_trees src 65 ts) rest (of_whole (stuck rest) e)) in
      record { shallow = shallow; none = j.0; place = j.1 }

  pub is_not_deep : program trimmed src 65 ts ≡ deep → ⊥
  is_not_deep e = not_deep trimmed src ts shallow e
