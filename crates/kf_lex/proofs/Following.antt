-- What is read of a text is determined by the text.
use Rattle.std.proofs.Common.{◌≡◌, ◌+◌, ◌<◌, ℕ, suc, List, [], ◌++◌, length, length-append, append_assoc, refl, sym, ap, ◌∙◌, subst, arith}
use Rattle.std.specs.Str.Parse.{digits_value}
use Rattle.std.proofs.lemmas.Str.{length-encode, len_utf8_bounds}
use Rattle.kf_lex.specs.declared.token.LexError.{LexError}
use Rattle.kf_lex.specs.declared.token.LexError.TheVariants as fault
use Rattle.kf_lex.specs.declared.token.Tok.{Tok}
use Rattle.kf_lex.specs.declared.token.Tok.TheVariants as tok
use Rattle.kf_lex.specs.declared.token.Token.{Token}
use Rattle.kf_lex.specs.Lexemes.{IsLexeme, IsLongest, Spells, greatest_number}
use Rattle.kf_lex.specs.Pieces.{IsBlank, IsOther, IsPiece}
use Rattle.kf_lex.specs.Pieces as piece
use Rattle.kf_lex.specs.Readings.{IsWrong, Reaches, Reads, WrongFrom, place}
use Rattle.kf_lex.specs.Readings as r
use Rattle.kf_lex.proofs.FirstBytes.{Begins, blank_sort, clash, number_sort}
use Rattle.kf_lex.proofs.SamePiece.{blank_no_token, lexeme_sort, same_blank, same_longest, same_piece}
use Rattle.kf_lex.proofs.SameKind.{same_kind, spelled_sort}
use Rattle.kf_lex.specs.Cuts.{IsNumber}

begun : (n : ℕ) (text : List ℕ) → Begins n text → 0 < length text
begun n text b = rw b.is (omega arith)

pub lexeme_length : (text : List ℕ) → IsLexeme text → 0 < length text
lexeme_length text h = let l = lexeme_sort text h in begun (suc l.0) text l.1

-- a piece has some text
pub piece_length : (text rest : List ℕ) → IsPiece text rest → 0 < length text
piece_length text rest (piece.blank p) = begun 0 text (blank_sort text rest p)
piece_length text rest (piece.token p) = lexeme_length text p.lexeme
piece_length text rest (piece.other p) = rw p.spelt (omega (arith, length-encode p.char, len_utf8_bounds p.char))

pub nothing_left : (text rest : List ℕ) → [] ≡ text ++ rest → 0 < length text → ⊥
nothing_left text rest e h = absurd (omega (arith, ap length e, length-append text rest))

-- the same reading, at an equal place and of an equal text
pub moved : (p q : ℕ) (a b : List ℕ) (ts : List Token) → p ≡ q → a ≡ b → Reads p a ts → Reads q b ts
moved p q a b ts e f h = subst (λ x. Reads q x ts) f (subst (λ x. Reads x a ts) e h)

same_token : (t u : Token) → t.kind ≡ u.kind → t.start ≡ u.start → t.end ≡ u.end → t ≡ u
same_token t u k s e = λ i. record { kind = k i; start = s i; end = e i }

-- a text has one list of tokens
pub one_list : (p : ℕ) (text : List ℕ) (ts us : List Token) → Reads p text ts → Reads p text us → ts ≡ us
one_list p [] [] [] r.done r.done = refl
one_list p [] [] us r.done (r.blank a rest e b h) = absurd (nothing_left a rest e (piece_length a rest (piece.blank b)))
one_list p [] [] us r.done (r.token t a rest e long s f g h) = absurd (nothing_left a rest e (lexeme_length a long.lexeme))
one_list p text ts us (r.blank a rest e b h) r.done = absurd (nothing_left a rest e (piece_length a rest (piece.blank b)))
one_list p text ts us (r.blank a rest e b h) (r.blank a' rest' e' b' h') =
    let same = same_blank a' rest' a rest (sym e' ∙ e) b' b in
    one_list _ rest ts us h (moved _ _ _ _ us (ap (λ x. p + length x) same.front) same.back h')
one_list p text ts us (r.blank a rest e b h) (r.token t a' rest' e' long s f g h') =
    absurd (blank_no_token a rest a' rest' (sym e ∙ e') b long.lexeme)
one_list p text ts us (r.token t a rest e long s f g h) r.done = absurd (nothing_left a rest e (lexeme_length a long.lexeme))
one_list p text ts us (r.token t a rest e long s f g h) (r.blank a' rest' e' b' h') =
    absurd (blank_no_token a' rest' a rest (sym e' ∙ e) b' long.lexeme)
one_list p text ts us (r.token {tokens = vs} t a rest e long s f g h) (r.token {tokens = ws} t' a' rest' e' long' s' f' g' h') =
    let same = same_longest a' rest' a rest (sym e' ∙ e) long' long in
    let kinds = same_kind t.kind t'.kind a s (subst (Spells t'.kind) same.front s') in
    let ends : t'.end ≡ t.end = g' ∙ ap (λ x. p + length x) same.front ∙ sym g in
    let tokens = one_list t.end rest vs ws h (moved _ _ _ _ ws ends same.back h') in
    let token = same_token t t' kinds (f ∙ sym f') (sym ends) in
    cc

-- where pieces lead, the reading goes on
pub follow : (p q : ℕ) (text left : List ℕ) (ts : List Token) → Reaches p text q left → Reads p text ts → (us : List Token) × Reads q left us
follow p q text left ts r.here h = (ts, h)
follow p q text left ts (r.past a rest e is more) r.done = absurd (nothing_left a rest e (piece_length a rest is))
follow p q text left ts (r.past a rest e is more) (r.blank a' rest' e' b' h') =
    let same = same_piece a' rest' a rest (sym e' ∙ e) (piece.blank b') is in
    follow _ q rest left _ more (moved _ _ _ _ _ (ap (λ x. p + length x) same.front) same.back h')
follow p q text left ts (r.past a rest e is more) (r.token t a' rest' e' long' s' f' g' h') =
    let same = same_piece a' rest' a rest (sym e' ∙ e) (piece.token long') is in
    follow _ q rest left _ more (moved _ _ _ _ _ (g' ∙ ap (λ x. p + length x) same.front) same.back h')

-- pieces lead onwards, to what is left of the text there
pub reached : (p q : ℕ) (text left : List ℕ) → Reaches p text q left → (front : List ℕ) × (text ≡ front ++ left) × (q ≡ p + length front)
reached p q text left r.here = ([], refl, omega arith)
reached p q text left (r.past a rest e is more) =
    let onward = reached (p + length a) q rest left more in
    (a ++ onward.0, e ∙ ap (λ x. a ++ x) onward.1 ∙ sym (append_assoc a onward.0 left), omega (arith, onward.2, length-append a onward.0))

-- a wrong piece is a piece
pub wrong_piece : (e : LexError) (a rest : List ℕ) → IsWrong e a rest → IsPiece a rest
wrong_piece (fault.Char at) a rest h = piece.other h
wrong_piece (fault.Number at) a rest h = piece.token h.0
wrong_piece (fault.Utf8 at) a rest h = absurd h
wrong_piece fault.Mem a rest h = absurd h

pub wrong_no_blank : (e : LexError) (a rest : List ℕ) → IsWrong e a rest → IsBlank a rest → ⊥
wrong_no_blank (fault.Char at) a rest h b = h.no_blank a rest refl b
wrong_no_blank (fault.Number at) a rest h b = blank_no_token a rest a rest refl b h.0.lexeme
wrong_no_blank (fault.Utf8 at) a rest h b = h
wrong_no_blank fault.Mem a rest h b = h

wrong_number : (kind : Tok) (a : List ℕ) → Spells kind a → IsNumber a → greatest_number < digits_value 10 a → ⊥
wrong_number (tok.Number n) a s d big = absurd (omega (arith, s.1, s.2, big))
wrong_number tok.Name a s d big = clash 1 2 a (omega arith) (number_sort a d) (spelled_sort tok.Name a s)
wrong_number (tok.Word w) a s d big = clash 1 2 a (omega arith) (number_sort a d) (spelled_sort (tok.Word w) a s)
wrong_number (tok.Sign t) a s d big = clash 1 3 a (omega arith) (number_sort a d) (spelled_sort (tok.Sign t) a s)

pub wrong_no_token : (e : LexError) (a rest : List ℕ) (kind : Tok) → IsWrong e a rest → IsLongest a rest → Spells kind a → ⊥
wrong_no_token (fault.Char at) a rest kind h long s = h.no_token a rest refl long.lexeme
wrong_no_token (fault.Number at) a rest kind h long s = wrong_number kind a s h.1 h.2
wrong_no_token (fault.Utf8 at) a rest kind h long s = h
wrong_no_token fault.Mem a rest kind h long s = h

-- what is read has no wrong piece at its front
wrong_at : (e : LexError) (p : ℕ) (text a rest : List ℕ) (ts : List Token) → text ≡ a ++ rest → IsWrong e a rest → Reads p text ts → ⊥
wrong_at e p text a rest ts same wrong r.done = nothing_left a rest same (piece_length a rest (wrong_piece e a rest wrong))
wrong_at e p text a rest ts same wrong (r.blank a' rest' e' b' h') =
    let cut = same_piece a' rest' a rest (sym e' ∙ same) (piece.blank b') (wrong_piece e a rest wrong) in
    wrong_no_blank e a rest wrong (subst (IsBlank a) cut.back (subst (λ x. IsBlank x rest') cut.front b'))
wrong_at e p text a rest ts same wrong (r.token t a' rest' e' long' s' f' g' h') =
    let cut = same_piece a' rest' a rest (sym e' ∙ same) (piece.token long') (wrong_piece e a rest wrong) in
    wrong_no_token e a rest t.kind wrong (subst (IsLongest a) cut.back (subst (λ x. IsLongest x rest') cut.front long')) (subst (Spells t.kind) cut.front s')

-- and none further on
pub never_wrong : (p : ℕ) (text : List ℕ) (ts : List Token) (e : LexError) → Reads p text ts → WrongFrom p text e → ⊥
never_wrong p text ts e h w =
    let rest = follow p (place e) text (w.0 ++ w.1) ts w.2 h in
    wrong_at e (place e) (w.0 ++ w.1) w.0 w.1 rest.0 refl w.3 rest.1
