-- For bodies: what a function that reads answers: the outcome of reading, unless memory runs out.
use Rattle.std.specs.Prelude.{◌≡◌, ◌≤◌, ℕ, Bool, List, [], ◌∷◌, length, slice_range, true, false, Result, Ok, Err}
use Rattle.std.specs.Str.{is_utf8}
use Rattle.kf_lex.specs.declared.token.Token.{Token}
use Rattle.kf_lex.specs.declared.token.Tok.{Tok}
use Rattle.kf_lex.specs.declared.token.Tok.TheVariants as t
use Rattle.kf_parse.specs.declared.stop.Stop.{Stop}
use Rattle.kf_parse.specs.declared.stop.Stop.TheVariants as stop
use Rattle.kf_parse.specs.Outcomes.{Outcome, got, stuck, deep}
use Rattle.kf_parse.specs.Tokens.{is}

-- the tokens that are left come last
abbrev pub Reads : {A X : Type 0} → (X → A) → Outcome A → Result X Stop → List Token → Type 0
Reads view o (Ok x) left = o ≡ got (view x) left
Reads view o (Err stop.Syntax) left = o ≡ stuck left
Reads view o (Err stop.Deep) left = o ≡ deep
Reads view o (Err stop.Mem) left = Unit {0}

-- a name's slice of the source is text
abbrev pub IsSpelled : List ℕ → Token → Type 0
IsSpelled src o = o.kind ≡ t.Name → (o.start ≤ o.end) × (o.end ≤ length src) × (is_utf8 (slice_range src o.start o.end) ≡ true)

-- whether the next token passes a test
abbrev pub passes_next : (Tok → Bool) → List Token → Bool
passes_next test [] = false
passes_next test (o ∷ ts) = test o.kind

-- whether the next token is of this kind
abbrev pub is_next : Tok → List Token → Bool
is_next kind ts = passes_next (is kind) ts
