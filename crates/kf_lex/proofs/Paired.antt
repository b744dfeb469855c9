-- A pair that isn't the one that is sought is passed by.
use denote.Enum.Bare.{sameb}
use Rattle.std.proofs.Common.{◌≡◌, ◌+◌, ◌<◌, ℕ, suc, true, false, List, ◌∷◌, Option, Some, length, get_or, drop, drop-cons, add-one, refl, sym, ◌∙◌}
use Rattle.kf_ops.specs.contracts.row.Op.{the_type as op_type}
use Rattle.kf_ops.specs.declared.row.Op.{Op}
use Rattle.kf_lex.specs.contracts.token.Word.{the_type as word_type}
use Rattle.kf_lex.specs.declared.token.Word.{Word}
use Rattle.kf_lex.specs.Operators.{op_in, word_in}

module _ {Y : Type 0} (pairs : List (Op × Word)) (i : ℕ) (d : Op × Word) (within : i < length pairs) where
  passed_by : (seek : List (Op × Word) → Option Y) (whole : Option Y) → seek (get_or pairs i d ∷ drop (suc i) pairs) ≡ seek (drop (suc i) pairs)
      → seek (drop i pairs) ≡ whole → seek (drop (i + 1) pairs) ≡ whole
  passed_by seek whole skips before =
      let same : seek (drop i pairs) ≡ seek (drop (i + 1) pairs) = rw (add-one, drop-cons pairs i d) skips in
      sym same ∙ before

  taken : (seek : List (Op × Word) → Option Y) (whole : Option Y) (y : Y) → seek (get_or pairs i d ∷ drop (suc i) pairs) ≡ Some y
      → seek (drop i pairs) ≡ whole → Some y ≡ whole
  taken seek whole y found before =
      let same : seek (drop i pairs) ≡ Some y = rw (drop-cons pairs i d) found in
      sym same ∙ before

pub other_operator : (pairs : List (Op × Word)) (i : ℕ) (d : Op × Word) (o : Op) (whole : Option Word) → i < length pairs → false ≡ sameb op_type (get_or pairs i d).0 o
    → word_in (drop i pairs) o ≡ whole → word_in (drop (i + 1) pairs) o ≡ whole
other_operator pairs i d o whole within other before =
    passed_by pairs i d within (λ ps. word_in ps o) whole (rw (← other) refl) before

pub other_word : (pairs : List (Op × Word)) (i : ℕ) (d : Op × Word) (w : Word) (whole : Option Op) → i < length pairs → false ≡ sameb word_type (get_or pairs i d).1 w
    → op_in (drop i pairs) w ≡ whole → op_in (drop (i + 1) pairs) w ≡ whole
other_word pairs i d w whole within other before =
    passed_by pairs i d within (λ ps. op_in ps w) whole (rw (← other) refl) before

pub this_operator : (pairs : List (Op × Word)) (i : ℕ) (d : Op × Word) (o : Op) (whole : Option Word) → i < length pairs → true ≡ sameb op_type (get_or pairs i d).0 o
    → word_in (drop i pairs) o ≡ whole → Some (get_or pairs i d).1 ≡ whole
this_operator pairs i d o whole within same before = taken pairs i d within (λ ps. word_in ps o) whole (get_or pairs i d).1 (rw (← same) refl) before

pub this_word : (pairs : List (Op × Word)) (i : ℕ) (d : Op × Word) (w : Word) (whole : Option Op) → i < length pairs → true ≡ sameb word_type (get_or pairs i d).1 w
    → op_in (drop i pairs) w ≡ whole → Some (get_or pairs i d).0 ≡ whole
this_word pairs i d w whole within same before = taken pairs i d within (λ ps. op_in ps w) whole (get_or pairs i d).0 (rw (← same) refl) before
