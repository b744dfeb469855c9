-- The operator that a token is, as the parser tells it, is the one of the definitions, and each operator has a token.
use Rattle.std.proofs.Common.{◌≡◌, ◌≢◌, ◌↔◌, ◌&&◌, ◌==◌, ◌≤◌, ◌<◌, ℕ, nat_lt, Bool, true, false, cond, Option, Some, None, refl, sym, ap, ◌∙◌, subst, arith}
use Rattle.std.specs.Prelude.{codes}
use Rattle.std.proofs.lemmas.Bool.{eqb-true, eq-eqb}
use Rattle.std.proofs.lemmas.Bool.Decides.{Decides-ltb}
use Rattle.kf_ops.specs.declared.row.Op.{Op}
use Rattle.kf_ops.specs.declared.row.Op.TheVariants as op
use Rattle.kf_ops.proofs.EachRow.{row_at, there}
use Rattle.kf_lex.specs.Lexemes.{Spells}
use Rattle.kf_lex.specs.Operators.{operator_of}
use Rattle.kf_lex.specs.declared.token.Tok.{Tok}
use Rattle.kf_lex.specs.declared.token.Tok.TheVariants as t
use Rattle.kf_lex.specs.declared.token.Word.TheVariants as w
use Rattle.kf_lex.specs.declared.token.Sign.TheVariants as s
use Rattle.kf_lex.proofs.Operators.{are_operator_tokens}
use Rattle.kf_lex.proofs.SameKind.{same_kind}
use Rattle.kf_parse.specs.Operators.{IsBetween, IsBefore, IsCalling, arity_of, level_of, prefix_word, word_of}
use Rattle.kf_parse.specs.OperatorTokens.{AreTold, HaveTokens, called_op, infix_op, is_written_with, operator_before, passed, prefix_op, word_in}

-- a token tells the operator whose word it spells
tells : (k : Tok) (o : Op) → (operator_of k ≡ Some o) ↔ Spells k (word_of o)
tells k o = subst (λ text. (operator_of k ≡ Some o) ↔ Spells k text) (sym (ap word_in (there o))) (are_operator_tokens.told k o (row_at o) (there o))

-- ---- what passes a test

record HasPassed (test : Op → Bool) (v : Option Op) (o : Op) : Type 0 where
  is : v ≡ Some o
  passes : test o ≡ true

chosen : (b : Bool) (a o : Op) → cond b (Some a) None ≡ Some o → (a ≡ o) × (b ≡ true)
chosen true a o h = (let same : a ≡ o = cc in same, refl)
chosen false a o h = absurd (let no : None ≡ Some o = h in cc)

has_passed : (test : Op → Bool) (v : Option Op) (o : Op) → passed test v ≡ Some o → HasPassed test v o
has_passed test None o h = absurd (let no : None ≡ Some o = h in cc)
has_passed test (Some a) o h =
    let both = chosen (test a) a o h in
    record { is = ap Some both.0; passes = subst (λ b. test b ≡ true) both.0 both.1 }

passes : (test : Op → Bool) (v : Option Op) (o : Op) → v ≡ Some o → test o ≡ true → passed test v ≡ Some o
passes test v o is h = rw (is, h) refl

record IsWritten (n : ℕ) (o : Op) : Type 0 where
  takes : arity_of o ≡ n
  low : level_of o ≤ 7

both_true : (a b : Bool) → (a && b) ≡ true → (a ≡ true) × (b ≡ true)
both_true true b h = (refl, h)
both_true false b h = absurd (let no : false ≡ true = h in cc)

written : (n : ℕ) (o : Op) → is_written_with n o ≡ true → IsWritten n o
written n o h =
    let both = both_true (arity_of o == n) (nat_lt (level_of o) 8) h in
    let low : level_of o < 8 = (Decides-ltb (level_of o) 8).0 both.1 in
    record { takes = eqb-true (arity_of o) n both.0; low = omega arith }

is_written : (n : ℕ) (o : Op) → arity_of o ≡ n → level_of o ≤ 7 → is_written_with n o ≡ true
is_written n o takes low =
    let yes : (arity_of o == n) ≡ true = eq-eqb (arity_of o) n takes in
    let below : nat_lt (level_of o) 8 ≡ true = (Decides-ltb (level_of o) 8).1 (omega arith) in
    rw (yes, below) refl

-- ---- between operands, and before parentheses

pub between_told : (k : Tok) (o : Op) → (infix_op k ≡ Some o) ↔ IsBetween k o
between_told k o = (
  λ h.
      let p = has_passed (is_written_with 2) (operator_of k) o h in
      let form = written 2 o p.passes in
      record { spelled = (tells k o).0 p.is; two = form.takes; low = form.low },
  λ b. passes (is_written_with 2) (operator_of k) o ((tells k o).1 b.spelled) (is_written 2 o b.two b.low),
)

pub calling_told : (k : Tok) (o : Op) → (called_op k ≡ Some o) ↔ IsCalling k o
calling_told k o = (
  λ h.
      let p = has_passed (λ a. level_of a == 8) (operator_of k) o h in
      record { spelled = (tells k o).0 p.is; high = eqb-true (level_of o) 8 p.passes },
  λ b. passes (λ a. level_of a == 8) (operator_of k) o ((tells k o).1 b.spelled) (eq-eqb (level_of o) 8 b.high),
)

-- ---- before an operand

-- a minus before an operand is the operator whose word is `~`
before_minus : (o : Op) → IsBefore (t.Sign s.Minus) o → o ≡ op.Negate
before_minus op.Negate b = refl
before_minus o b =
    let other : Some op.Subtract ≡ Some o = (tells (t.Sign s.Minus) o).1 b.spelled in
    let same : op.Subtract ≡ o = cc in
    let two : arity_of o ≡ 2 = ap arity_of (sym same) in
    absurd (omega (arith, b.one))

-- and nothing else is
only_minus : (k : Tok) → IsBefore k op.Negate → k ≡ t.Sign s.Minus
only_minus k b = same_kind k (t.Sign s.Minus) (codes "-") b.spelled refl

-- no token spells `~`
abbrev is_negation : Option Op → Bool
is_negation (Some op.Negate) = true
is_negation _ = false

no_negation : (k : Tok) → is_negation (operator_of k) ≡ false
no_negation (t.Word w.VarWord) = refl
no_negation (t.Sign s.Assign) = refl
no_negation _ = refl

other_word : (o : Op) (k : Tok) → operator_of k ≡ Some o → prefix_word o ≡ word_of o
other_word op.Negate k h = absurd (let no : true ≡ false = ap is_negation (sym h) ∙ no_negation k in cc)
other_word _ k h = refl

before_spelled : (k : Tok) (o : Op) → operator_before k ≡ Some o → Spells k (prefix_word o)
before_spelled (t.Sign s.Minus) o h = let same : op.Negate ≡ o = cc in subst (λ a. Spells (t.Sign s.Minus) (prefix_word a)) same refl
before_spelled k o h = subst (Spells k) (sym (other_word o k h)) ((tells k o).0 h)

before_known : (k : Tok) (o : Op) → IsBefore k o → operator_before k ≡ Some o
before_known (t.Sign s.Minus) o b = ap Some (sym (before_minus o b))
before_known k op.Negate b = absurd (let no : k ≡ t.Sign s.Minus = only_minus k b in cc)
before_known k o b = (tells k o).1 b.spelled

pub before_told : (k : Tok) (o : Op) → (prefix_op k ≡ Some o) ↔ IsBefore k o
before_told k o = (
  λ h.
      let p = has_passed (is_written_with 1) (operator_before k) o h in
      let form = written 1 o p.passes in
      record { spelled = before_spelled k o p.is; one = form.takes; low = form.low },
  λ b. passes (is_written_with 1) (operator_before k) o (before_known k o b) (is_written 1 o b.one b.low),
)

pub are_told : AreTold
are_told = record { between = between_told; before = before_told; calling = calling_told }

pub infix_known : (k : Tok) (o : Op) → IsBetween k o → infix_op k ≡ Some o
infix_known k o = (between_told k o).1

pub prefix_known : (k : Tok) (o : Op) → IsBefore k o → prefix_op k ≡ Some o
prefix_known k o = (before_told k o).1

pub called_known : (k : Tok) (o : Op) → IsCalling k o → called_op k ≡ Some o
called_known k o = (calling_told k o).1

not_chosen : (b : Bool) (o : Op) → (b ≡ true → ⊥) → cond b (Some o) None ≡ None
not_chosen true o never = absurd (never refl)
not_chosen false o never = refl

-- a token before parentheses is no operator before an operand
pub called_no_prefix : (k : Tok) (o : Op) → called_op k ≡ Some o → prefix_op k ≡ None
called_no_prefix (t.Sign s.Minus) o e = absurd (let none : None ≡ Some o = e in cc)
called_no_prefix k o e =
    let p = has_passed (λ a. level_of a == 8) (operator_of k) o e in
    let high : level_of o ≡ 8 = eqb-true (level_of o) 8 p.passes in
    ap (passed (is_written_with 1)) p.is ∙ not_chosen (is_written_with 1 o) o (λ h. let low = (written 1 o h).low in omega (arith, high))

-- ---- each operator has a token

token_there : (o : Op) → o ≢ op.Negate → (k : Tok) × Spells k (word_of o)
token_there o other =
    let k = are_operator_tokens.each o (row_at o) (there o) other in
    (k.0, subst (Spells k.0) (sym (ap word_in (there o))) k.1)

pub have_tokens : HaveTokens
have_tokens = record {
  between = between;
  before = before;
  calling = calling;
}
  where
    between : (o : Op) → arity_of o ≡ 2 → level_of o ≤ 7 → (k : Tok) × IsBetween k o
    between op.Negate two low = absurd (omega (arith, two))
    between o two low = let k = token_there o (λ e. (cc)) in (k.0, record { spelled = k.1; two = two; low = low })

    before : (o : Op) → arity_of o ≡ 1 → level_of o ≤ 7 → (k : Tok) × IsBefore k o
    before op.Negate one low = (t.Sign s.Minus, record { spelled = refl; one = one; low = low })
    before o one low = let k = token_there o (λ e. (cc)) in (k.0, record { spelled = k.1; one = one; low = low })

    calling : (o : Op) → level_of o ≡ 8 → (k : Tok) × IsCalling k o
    calling op.Negate high = absurd (omega (arith, high))
    calling o high = let k = token_there o (λ e. (cc)) in (k.0, record { spelled = k.1; high = high })
