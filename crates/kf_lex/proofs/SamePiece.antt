-- A text begins with one piece.
use Rattle.std.proofs.Common.{◌≡◌, ◌≢◌, ◌⊎◌, ⊎_elim, ℕ, suc, true, List, [], ◌∷◌, ◌++◌, append-nil, refl, sym, ap, ◌∙◌, subst, inl, inr}
use Rattle.std.specs.Char.{encode_utf8}
use Rattle.std.proofs.lemmas.List.{append_cancel_left}
use Rattle.std.proofs.lemmas.Str.{encode_same}
use Rattle.kf_lex.specs.Lexemes.{IsLexeme, IsLongest}
use Rattle.kf_lex.specs.Pieces.{IsBlank, IsComment, IsLineEnd, IsOther, IsPiece, is_separator}
use Rattle.kf_lex.specs.Pieces as piece
use Rattle.kf_lex.proofs.FirstBytes.{Begins, begins-append, blank_sort, number_sort, same_sort, sign_sort, word_sort}

-- a text is cut behind one front or behind another: the same place
pub record SameCut (a r b s : List ℕ) : Type 0 where
  pub front : a ≡ b
  pub back : r ≡ s

same_front : (a r b s : List ℕ) → a ++ r ≡ b ++ s → a ≡ b → SameCut a r b s
same_front a r b s e f = record { front = f; back = append_cancel_left a r s (e ∙ ap (λ x. x ++ s) (sym f)) }

pub same_head : (x y : ℕ) (a b : List ℕ) → x ∷ a ≡ y ∷ b → x ≡ y
same_head x y a b e = cc

pub same_tail : (x y : ℕ) (a b : List ℕ) → x ∷ a ≡ y ∷ b → a ≡ b
same_tail x y a b e = cc

-- b goes on where a ends, with m, or they end at one place
pub record GoesOn (a r b s : List ℕ) : Type 0 where
  pub more : List ℕ
  pub longer : b ≡ a ++ more
  pub rest : r ≡ more ++ s

grown : (x y : ℕ) (a r b s : List ℕ) → x ≡ y → GoesOn a r b s → GoesOn (x ∷ a) r (y ∷ b) s
grown x y a r b s h g = record { more = g.more; longer = subst (λ z. z ∷ b ≡ x ∷ (a ++ g.more)) h (ap (λ l. x ∷ l) g.longer); rest = g.rest }

-- of two fronts of a text one goes on where the other ends
pub fronts : (a r b s : List ℕ) → a ++ r ≡ b ++ s → GoesOn a r b s ⊎ GoesOn b s a r
fronts [] r b s e = inl (record { more = b; longer = refl; rest = e })
fronts (x ∷ a) r [] s e = inr (record { more = x ∷ a; longer = refl; rest = sym e })
fronts (x ∷ a) r (y ∷ b) s e =
    let h : x ≡ y = same_head x y _ _ e in
    ⊎_elim (λ g. inl (grown x y a r b s h g)) (λ g. inr (grown y x b s a r (sym h) g)) (fronts a r b s (same_tail x y _ _ e))

longest_ends : (a r b s : List ℕ) → IsLongest a r → IsLexeme b → GoesOn a r b s → a ≡ b
longest_ends a r b s long lexeme g =
    let nothing : g.more ≡ [] = long.longest g.more s g.rest (subst IsLexeme g.longer lexeme) in
    sym (g.longer ∙ ap (λ m. a ++ m) nothing ∙ append-nil a)

pub same_longest : (a r b s : List ℕ) → a ++ r ≡ b ++ s → IsLongest a r → IsLongest b s → SameCut a r b s
same_longest a r b s e p q =
    same_front a r b s e (⊎_elim (λ g. longest_ends a r b s p q.lexeme g) (λ g. sym (longest_ends b s a r q p.lexeme g)) (fronts a r b s e))

pub lexeme_sort : (text : List ℕ) → IsLexeme text → (n : ℕ) × Begins (suc n) text
lexeme_sort text h =
    ⊎_elim (λ s. (2, subst (Begins 3) (sym s.1) (sign_sort s.0)))
    (λ h'. ⊎_elim (λ n. (0, number_sort text n)) (λ w. (1, word_sort text w)) h') h

pub blank_no_token : (a r b s : List ℕ) → a ++ r ≡ b ++ s → IsBlank a r → IsLexeme b → ⊥
blank_no_token a r b s e blank lexeme =
    let l = lexeme_sort b lexeme in
    let one = subst (Begins 0) e (begins-append 0 a r (blank_sort a r blank)) in
    let never : 0 ≡ suc l.0 = same_sort 0 (suc l.0) (b ++ s) one (begins-append (suc l.0) b s l.1) in
    cc

no_line_goes_on : (y : ℕ) (l r s : List ℕ) → r ≡ y ∷ s → IsLineEnd r → y ≢ 10 → ⊥
no_line_goes_on y l [] s e end other = cc
no_line_goes_on y l (x ∷ r) s e end other = other (sym (same_head x y _ _ e) ∙ end)

same_line : (a r b s : List ℕ) → a ++ r ≡ b ++ s → IsComment a r → IsComment b s → a ≡ b
same_line [] r [] s e p q = refl
same_line [] r (y ∷ b) s e p q = absurd (no_line_goes_on y [] r (b ++ s) e p.ends q.one_line.0)
same_line (x ∷ a) r [] s e p q = absurd (no_line_goes_on x [] s (a ++ r) (sym e) q.ends p.one_line.0)
same_line (x ∷ a) r (y ∷ b) s e p q =
    let rest = same_line a r b s (same_tail x y _ _ e) (record { one_line = p.one_line.1; ends = p.ends }) (record { one_line = q.one_line.1; ends = q.ends }) in
    let h : x ≡ y = same_head x y _ _ e in cc

separator_no_comment : (x y : ℕ) → x ≡ y → is_separator x ≡ true → y ≡ 35 → ⊥
separator_no_comment x y e s h = let f : is_separator 35 ≡ true = subst (λ z. is_separator z ≡ true) (e ∙ h) s in cc

blank_front : (a r b s : List ℕ) → a ++ r ≡ b ++ s → IsBlank a r → IsBlank b s → a ≡ b
blank_front [] r b s e p q = absurd p
blank_front (x ∷ a) r [] s e p q = absurd q
blank_front (x ∷ a) r (y ∷ b) s e p q =
    let h : x ≡ y = same_head x y _ _ e in
    ⊎_elim
    (λ (p' : (is_separator x ≡ true) × (a ≡ [])). ⊎_elim
    (λ (q' : (is_separator y ≡ true) × (b ≡ [])). let one = p'.1 in let two = q'.1 in cc)
    (λ (q' : (y ≡ 35) × IsComment b s). absurd (separator_no_comment x y h p'.0 q'.0)) q)
    (λ (p' : (x ≡ 35) × IsComment a r). ⊎_elim
    (λ (q' : (is_separator y ≡ true) × (b ≡ [])). absurd (separator_no_comment y x (sym h) q'.0 p'.0))
    (λ (q' : (y ≡ 35) × IsComment b s). let same = same_line a r b s (same_tail x y _ _ e) p'.1 q'.1 in cc) q)
    p

pub same_blank : (a r b s : List ℕ) → a ++ r ≡ b ++ s → IsBlank a r → IsBlank b s → SameCut a r b s
same_blank a r b s e p q = same_front a r b s e (blank_front a r b s e p q)

pub same_other : (a r b s : List ℕ) → a ++ r ≡ b ++ s → IsOther a r → IsOther b s → SameCut a r b s
same_other a r b s e p q =
    let chars = encode_same p.char q.char r s (ap (λ x. x ++ r) (sym p.spelt) ∙ e ∙ ap (λ x. x ++ s) q.spelt) in
    same_front a r b s e (p.spelt ∙ ap encode_utf8 chars.0 ∙ sym q.spelt)

-- the pieces with which a text begins are one
pub same_piece : (a r b s : List ℕ) → a ++ r ≡ b ++ s → IsPiece a r → IsPiece b s → SameCut a r b s
same_piece a r b s e (piece.blank p) (piece.blank q) = same_blank a r b s e p q
same_piece a r b s e (piece.blank p) (piece.token q) = absurd (blank_no_token a r b s e p q.lexeme)
same_piece a r b s e (piece.blank p) (piece.other q) = absurd (q.no_blank a r (sym e) p)
same_piece a r b s e (piece.token p) (piece.blank q) = absurd (blank_no_token b s a r (sym e) q p.lexeme)
same_piece a r b s e (piece.token p) (piece.token q) = same_longest a r b s e p q
same_piece a r b s e (piece.token p) (piece.other q) = absurd (q.no_token a r (sym e) p.lexeme)
same_piece a r b s e (piece.other p) (piece.blank q) = absurd (p.no_blank b s e q)
same_piece a r b s e (piece.other p) (piece.token q) = absurd (p.no_token b s e q.lexeme)
same_piece a r b s e (piece.other p) (piece.other q) = same_other a r b s e p q
