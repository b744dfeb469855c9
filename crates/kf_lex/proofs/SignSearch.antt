-- The first sign of the list with which a text begins is the longest one.
use Rattle.std.proofs.Common.{◌≡◌, ◌+◌, ◌<◌, ◌≤◌, ◌⊎◌, ⊎_elim, inl, inr, ℕ, Bool, true, false, cond, List, [], ◌∷◌, ◌++◌, Option, Some, None, nat_eq, length, length-append, get_or, take, drop, drop-cons, add-one, refl, sym, ap, ◌∙◌, subst, arith}
use Rattle.std.specs.Bool.{MatchBool}
use Rattle.std.specs.List.{starts_with}
use Rattle.std.specs.Str.{IsCharBoundary}
use Rattle.std.specs.Str.Pattern.{FindsTextPrefix, HasPrefixMatch}
use Rattle.std.proofs.lemmas.Bool.{false≢true}
use Rattle.std.proofs.lemmas.List.{take-append-drop}
use Rattle.std.proofs.lemmas.Slice.Eq.{bytes_eq-Decides}
use Rattle.std.proofs.Math.Seq.{take-append_seam}
use Rattle.kf_lex.specs.declared.cuts.TheConstants.{SIGNS}
use Rattle.kf_lex.specs.declared.token.Sign.{Sign}
use Rattle.kf_lex.specs.declared.token.Sign.TheVariants as sign
use Rattle.kf_lex.specs.Words.{sign_text}
use Rattle.kf_lex.specs.Cuts.{first_sign}
use Rattle.kf_lex.proofs.SamePiece.{GoesOn, fronts}

-- a sign with which the text does not begin is passed by
pub passed_by : (signs : List Sign) (i : ℕ) (d : Sign) (text front : List ℕ) (whole : Option Sign) → front ≡ sign_text (get_or signs i d)
    → false ≡ starts_with nat_eq text front → i < length signs
    → first_sign (drop i signs) text ≡ whole → first_sign (drop (i + 1) signs) text ≡ whole
passed_by signs i d text front whole spelt fails within before =
    let here : starts_with nat_eq text (sign_text (get_or signs i d)) ≡ false = rw (← spelt) (sym fails) in
    let same : first_sign (drop i signs) text ≡ first_sign (drop (i + 1) signs) text = rw (add-one, drop-cons signs i d, here) refl in
    sym same ∙ before

-- where a text begins with another, it may be cut behind that
pub cut_there : (found : Bool) (front text : List ℕ)
    → MatchBool found (HasPrefixMatch (FindsTextPrefix front) text) (FindsTextPrefix front text None)
    → found ≡ true → IsCharBoundary text (length front)
cut_there true front text h e = h.1.2
cut_there false front text h e = cc

-- each sign is found at the front of its own text
pub found_again : (s : Sign) → first_sign SIGNS (sign_text s) ≡ Some s
found_again sign.Assign = refl
found_again sign.Colon = refl
found_again sign.Semi = refl
found_again sign.Comma = refl
found_again sign.ParenOpen = refl
found_again sign.ParenClose = refl
found_again sign.BraceOpen = refl
found_again sign.BraceClose = refl
found_again sign.Range = refl
found_again sign.Dot = refl
found_again sign.Slash = refl
found_again sign.Equal = refl
found_again sign.NotEqual = refl
found_again sign.AtMost = refl
found_again sign.Less = refl
found_again sign.AtLeast = refl
found_again sign.Greater = refl
found_again sign.Plus = refl
found_again sign.Minus = refl
found_again sign.Star = refl

starts_true : (text front : List ℕ) → starts_with nat_eq text front ≡ true → text ≡ front ++ drop (length front) text
starts_true text front h =
    let same : front ≡ take (length front) text = (bytes_eq-Decides front (take (length front) text)).0 h in
    sym (ap (λ x. x ++ drop (length front) text) same ∙ take-append-drop (length front) text)

starts_from : (text front left : List ℕ) → text ≡ front ++ left → starts_with nat_eq text front ≡ true
starts_from text front left e =
    let same : front ≡ take (length front) text = sym (ap (take (length front)) e ∙ take-append_seam front left) in
    (bytes_eq-Decides front (take (length front) text)).1 same

-- what the test for the sign in front of the list says
at_head : (x : Sign) (xs : List Sign) (text : List ℕ) (found : Option Sign) → first_sign (x ∷ xs) text ≡ found
    → ((starts_with nat_eq text (sign_text x) ≡ true) × (Some x ≡ found))
    ⊎ ((starts_with nat_eq text (sign_text x) ≡ false) × (first_sign xs text ≡ found))
at_head x xs text found h =
    elim (starts_with nat_eq text (sign_text x)) as (λ b. starts_with nat_eq text (sign_text x) ≡ b → cond b (Some x) (first_sign xs text) ≡ found
    → ((starts_with nat_eq text (sign_text x) ≡ true) × (Some x ≡ found)) ⊎ ((starts_with nat_eq text (sign_text x) ≡ false) × (first_sign xs text ≡ found))) [
      | true ↦ λ b e. inl (b, e)
      | false ↦ λ b e. inr (b, e)
    ] refl h

-- the sign that is found is a front of the text
pub sign_front : (signs : List Sign) (text : List ℕ) (s : Sign) → first_sign signs text ≡ Some s → text ≡ sign_text s ++ drop (length (sign_text s)) text
sign_front [] text s h = cc
sign_front (x ∷ xs) text s h =
    ⊎_elim
    (λ (a : (starts_with nat_eq text (sign_text x) ≡ true) × (Some x ≡ Some s)).
    let same : x ≡ s = let e = a.1 in cc in
    subst (λ y. text ≡ sign_text y ++ drop (length (sign_text y)) text) same (starts_true text (sign_text x) a.0))
    (λ (a : (starts_with nat_eq text (sign_text x) ≡ false) × (first_sign xs text ≡ Some s)). sign_front xs text s a.1)
    (at_head x xs text (Some s) h)

not_passed : (x t : Sign) (text left : List ℕ) → starts_with nat_eq text (sign_text x) ≡ false → text ≡ sign_text t ++ left → Some x ≡ Some t → ⊥
not_passed x t text left fails e same =
    let one : x ≡ t = cc in
    let h : starts_with nat_eq text (sign_text x) ≡ true = starts_from text (sign_text x) left (e ∙ ap (λ y. sign_text y ++ left) (sym one)) in
    false≢true (sym fails ∙ h)

-- none is a front of the text where none is found
pub no_sign_front : (signs : List Sign) (text left : List ℕ) (t : Sign) → first_sign signs (sign_text t) ≡ Some t
    → first_sign signs text ≡ None → text ≡ sign_text t ++ left → ⊥
no_sign_front [] text left t own h e = cc
no_sign_front (x ∷ xs) text left t own h e =
    ⊎_elim
    (λ (a : (starts_with nat_eq text (sign_text x) ≡ true) × (Some x ≡ None)). let p = a.1 in absurd cc)
    (λ (a : (starts_with nat_eq text (sign_text x) ≡ false) × (first_sign xs text ≡ None)).
    ⊎_elim
    (λ (b : (starts_with nat_eq (sign_text t) (sign_text x) ≡ true) × (Some x ≡ Some t)). not_passed x t text left a.0 e b.1)
    (λ (b : (starts_with nat_eq (sign_text t) (sign_text x) ≡ false) × (first_sign xs (sign_text t) ≡ Some t)). no_sign_front xs text left t b.1 a.1 e)
    (at_head x xs (sign_text t) (Some t) own))
    (at_head x xs text None h)

-- of two signs that are fronts of a text, one that isn't a front of the other is no shorter
no_shorter : (x t : Sign) (text left : List ℕ) → starts_with nat_eq text (sign_text x) ≡ true → text ≡ sign_text t ++ left
    → starts_with nat_eq (sign_text t) (sign_text x) ≡ false → length (sign_text t) ≤ length (sign_text x)
no_shorter x t text left here e fails =
    ⊎_elim
    (λ (g : GoesOn (sign_text x) (drop (length (sign_text x)) text) (sign_text t) left).
    absurd (false≢true (sym fails ∙ starts_from (sign_text t) (sign_text x) g.more g.longer)))
    (λ (g : GoesOn (sign_text t) left (sign_text x) (drop (length (sign_text x)) text)).
    omega (arith, ap length g.longer, length-append (sign_text t) g.more))
    (fronts (sign_text x) (drop (length (sign_text x)) text) (sign_text t) left (sym (starts_true text (sign_text x) here) ∙ e))

-- the sign that is found is the longest
pub sign_longest : (signs : List Sign) (text left : List ℕ) (s t : Sign) → first_sign signs (sign_text t) ≡ Some t
    → first_sign signs text ≡ Some s → text ≡ sign_text t ++ left → length (sign_text t) ≤ length (sign_text s)
sign_longest [] text left s t own h e = cc
sign_longest (x ∷ xs) text left s t own h e =
    ⊎_elim
    (λ (a : (starts_with nat_eq text (sign_text x) ≡ true) × (Some x ≡ Some s)).
    let same : x ≡ s = let p = a.1 in cc in
    subst (λ y. length (sign_text t) ≤ length (sign_text y)) same (⊎_elim
    (λ (b : (starts_with nat_eq (sign_text t) (sign_text x) ≡ true) × (Some x ≡ Some t)).
    let one : x ≡ t = let p = b.1 in cc in
    subst (λ y. length (sign_text t) ≤ length (sign_text y)) (sym one) (omega arith))
    (λ (b : (starts_with nat_eq (sign_text t) (sign_text x) ≡ false) × (first_sign xs (sign_text t) ≡ Some t)). no_shorter x t text left a.0 e b.0)
    (at_head x xs (sign_text t) (Some t) own)))
    (λ (a : (starts_with nat_eq text (sign_text x) ≡ false) × (first_sign xs text ≡ Some s)).
    ⊎_elim
    (λ (b : (starts_with nat_eq (sign_text t) (sign_text x) ≡ true) × (Some x ≡ Some t)). absurd (not_passed x t text left a.0 e b.1))
    (λ (b : (starts_with nat_eq (sign_text t) (sign_text x) ≡ false) × (first_sign xs (sign_text t) ≡ Some t)). sign_longest xs text left s t b.1 a.1 e)
    (at_head x xs (sign_text t) (Some t) own))
    (at_head x xs text (Some s) h)
