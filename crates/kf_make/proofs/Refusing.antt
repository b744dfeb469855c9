-- The made text is short, and none of the faults that would refuse it can be told of it.
use Rattle.std.proofs.Common.{◌≡◌, ℕ, zero, suc, ◌*◌, ◌^◌, ◌≤◌, List, length, Ok, Err, IsOk, None, Some, inl, inr, refl, sym, ap, subst, ◌∙◌, arith}
use Rattle.std.proofs.Math.Nat.{pow-le-pow_right}
use Rattle.std.proofs.lemmas.List.{length-append}
use Rattle.kf_frac.specs.Fractions.{limit}
use Rattle.kf_lex.specs.declared.token.Token.{Token}
use Rattle.kf_lex.specs.Laws.{IsOneReading}
use Rattle.kf_lex.specs.Readings.{IsTokens}
use Rattle.kf_parse.specs.Answers.{IsParsed}
use Rattle.kf_parse.specs.Laws.{NotBoth, OneProgram}
use Rattle.kf_ast.specs.Sources.{SourceTree}
use Rattle.kf_check.specs.Translation.{Typed}
use Rattle.kf_check.specs.Laws.{OneJudgement, OneTyped}
use Rattle.kf_core.specs.Programs.{ProgramTree}
use Rattle.kf_core.specs.Scale.{scale_of}
use Rattle.kf_core.specs.Support.{program_pass}
use Rattle.kf_load.specs.Steps.{Refused, After}
use Rattle.kf_load.specs.Texts.{Text, TextWith, TypedOf, cleared}
use Rattle.kf_load.specs.Refusals.{ProgramOf, SourceOf, TokensOf}
use Rattle.kf_load.proofs.Faults.{fits, some_syntax}
use Rattle.kf_make.specs.Laws.{MadeIsClear, MadeIsParsed, MadeIsTyped, MadeScale}
use Rattle.kf_make.specs.Made.{made_program, made_tree, make_lines, make_head, make_line}
use Rattle.kf_make.specs.Making.{make_source}

lines_long : (k : ℕ) → length (make_lines k) ≡ 49 * k
lines_long zero = refl
lines_long (suc k) = let more = lines_long k in omega (arith, length-append make_line (make_lines k), more)

-- a made text is shorter than any that is too long
pub made_short_text : (count : ℕ) → count ≤ 60 → length (make_source count) ≤ 1048576
made_short_text count few = omega (arith, length-append make_head (make_lines count), lines_long count, few)

-- ---- its text

module _ (reading : IsOneReading) (one_program : OneProgram) (not_both : NotBoth) (one_judgement : OneJudgement) (one_typed : OneTyped)
    (parsed : MadeIsParsed) (typed : MadeIsTyped) (count : ℕ) (name : List ℕ) where
  abbrev bytes : List ℕ
  bytes = make_source count

  abbrev text_of : SourceTree → ProgramTree → Text
  text_of tree p = record { name = name; bytes = bytes; source = tree; program = p }

  -- its tokens are those of its source
  made_parsed : (tokens : List Token) → IsTokens bytes tokens → IsParsed bytes tokens (made_tree count)
  made_parsed tokens is =
      let read = parsed count in
      subst (λ (ts : List Token). IsParsed bytes ts (made_tree count)) (reading.tokens bytes read.0 tokens read.1 is) read.2

  -- a source that is parsed of its tokens is its source
  made_source_is : (tokens : List Token) (tree : SourceTree) → IsTokens bytes tokens → IsParsed bytes tokens tree → tree ≡ made_tree count
  made_source_is tokens tree are is = one_program bytes tokens tree (made_tree count) is.program (made_parsed tokens are).program

  made_judged : (tree : SourceTree) → tree ≡ made_tree count → Typed tree (made_program count)
  made_judged tree same = subst (λ (s : SourceTree). Typed s (made_program count)) (sym same) (typed count)

  -- what is typed of it is its program
  pub made_typed : (t : Text) → TypedOf name bytes (Ok t) → t.program ≡ made_program count
  unfolding TypedOf
  made_typed t is =
      let tokens = is.0 in
      let tree = is.2.0 in
      let p = is.2.2.0 in
      let given : Ok t ≡ Ok (text_of tree p) = is.2.2.2 in
      let same : t ≡ text_of tree p = cc in
      ap (λ (u : Text). u.program) same
      ∙ one_typed tree p (made_program count) is.2.2.1 (made_judged tree (made_source_is tokens tree is.1 is.2.1))

  tokens_refused : (r : Refused) → TokensOf name bytes (Err r) → ⊥
  tokens_refused r bad = let read = parsed count in reading.not_both bytes read.0 bad.error read.1 bad.is_error

  source_refused : (tokens : List Token) → IsTokens bytes tokens → (r : Refused) → SourceOf name bytes tokens (Err r) → ⊥
  source_refused tokens are r bad =
      not_both bytes tokens (made_tree count) bad.error (some_syntax bad.error bad.fault bad.has) (made_parsed tokens are) bad.is_error

  program_refused : (tree : SourceTree) → tree ≡ made_tree count → (r : Refused) → ProgramOf name bytes tree (Err r) → ⊥
  program_refused tree same r bad =
      let both : None ≡ Some bad.error = one_judgement tree None (Some bad.error) (made_judged tree same).judged bad.is_error in
      absurd (cc)

  text_refused : (tree : SourceTree) → tree ≡ made_tree count → (r : Refused) → TextWith name bytes tree (Err r) → ⊥
  text_refused tree same r (inl bad) = program_refused tree same r bad
  text_refused tree same r (inr (p, is, given)) = absurd (cc)

  tree_refused : (tokens : List Token) → IsTokens bytes tokens → (r : Refused) → After (SourceOf name bytes tokens) (TextWith name bytes) (Err r) → ⊥
  tree_refused tokens are r (inl bad) = source_refused tokens are r bad
  tree_refused tokens are r (inr (tree, is, refused)) = text_refused tree (made_source_is tokens tree are is) r refused

  all_refused : (r : Refused) → After (TokensOf name bytes) (λ tokens. After (SourceOf name bytes tokens) (TextWith name bytes)) (Err r) → ⊥
  all_refused r (inl bad) = tokens_refused r bad
  all_refused r (inr (tokens, are, refused)) = tree_refused tokens are r refused

  -- nothing refuses it
  pub made_unrefused : (r : Refused) → TypedOf name bytes (Err r) → ⊥
  unfolding TypedOf
  made_unrefused r is = all_refused r is

-- ---- its program

-- its scale isn't too wide
made_narrow : MadeScale → (turns count : ℕ) → count ≤ 60 → scale_of turns (made_program count) ≤ limit
made_narrow scale turns count few =
    let power : 4 ^ count ≤ 4 ^ 60 = pow-le-pow_right (omega arith) few in
    omega (arith, power, scale turns count)

-- nothing stops it from being cleared
pub made_clears : MadeIsClear → MadeScale → (turns count : ℕ) (t : Text) (r : Refused) → count ≤ 60 → t.program ≡ made_program count
    → Err r ≡ cleared turns t → ⊥
made_clears clear scale turns count t r few is refused =
    let meets = subst (λ (p : ProgramTree). IsOk (program_pass turns p)) (sym is) (clear turns count) in
    let narrow = subst (λ (p : ProgramTree). scale_of turns p ≤ limit) (sym is) (made_narrow scale turns count few) in
    let cleared_is = fits turns t meets narrow in
    absurd (cc)
