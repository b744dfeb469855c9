-- Tokens are a program's, within the limits, or they are refused for a cause.
use Rattle.std.proofs.Common.{◌≡◌, ◌⊎◌, inl, inr, ℕ, List, [], ◌∷◌, Option, Some, None, refl}
use Rattle.kf_lex.specs.declared.token.Token.{Token}
use Rattle.kf_ast.specs.Sources.{SourceTree}
use Rattle.kf_parse.specs.declared.errors.ParseError.{ParseError}
use Rattle.kf_parse.specs.declared.errors.ParseError.TheVariants as errors
use Rattle.kf_parse.specs.Outcomes.{Outcome, got, stuck, deep}
use Rattle.kf_parse.specs.Trimmed.{Trimmed, trimmed}
use Rattle.kf_parse.specs.Reading.{program}
use Rattle.kf_parse.specs.Depth.{IsShallow, open_brackets}
use Rattle.kf_parse.specs.Answers.{IsParsed, IsRefused}
use Rattle.kf_parse.specs.Laws.{ParsedOrRefused}
use Rattle.kf_parse.proofs.Answering.{is_parsed, is_long, is_left_over, is_stuck, is_not_deep}
use Rattle.kf_parse.proofs.FirstDeep.{Tells, deep_from, told}
use Rattle.kf_parse.specs.Begins.{place_in}

abbrev Ends : List ℕ → List Token → Type 0
Ends src ts = ((x : SourceTree) × IsParsed src ts x) ⊎ ((e : ParseError) × (e ≡ errors.Mem → ⊥) × IsRefused src ts e)

module _ (src : List ℕ) (ts : List Token) where
  read : IsShallow ts → (v : Trimmed SourceTree) (long : Option ℕ) → v.long ≡ long → program trimmed src 65 ts ≡ got v [] → Ends src ts
  read shallow v None short e = inl (v.value, is_parsed src ts shallow v e short)
  read shallow v (Some at) long e = inr (errors.Long at, λ h. cc, is_long src ts shallow v at e long)

  by_reading : IsShallow ts → (o : Outcome (Trimmed SourceTree)) → program trimmed src 65 ts ≡ o → Ends src ts
  by_reading shallow (got v []) e = read shallow v v.long refl e
  by_reading shallow (got v (u ∷ us)) e = inr (errors.Syntax u.start, λ h. cc, is_left_over src ts shallow v u us e)
  by_reading shallow (stuck rest) e = inr (errors.Syntax (place_in src rest), λ h. cc, is_stuck src ts shallow rest e)
  by_reading shallow deep e = absurd (is_not_deep src ts shallow e)

  by_depth : (found : Option ℕ) → Tells found ts → Ends src ts
  by_depth None shallow = by_reading shallow (program trimmed src 65 ts) refl
  by_depth (Some at) h = inr (errors.Deep at, λ h. cc, h)

pub either : ParsedOrRefused
either src ts = by_depth src ts (deep_from (open_brackets 0) ts) (told ts (deep_from (open_brackets 0) ts) refl)
