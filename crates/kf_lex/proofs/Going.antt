-- Going through a text piece by piece.
use Rattle.std.proofs.Common.{◌≡◌, ◌+◌, ◌<◌, ◌≤◌, ◌⊎◌, ⊎_elim, inl, inr, ℕ, List, [], ◌∷◌, ◌++◌, append-nil, append_assoc, length, refl, sym, ◌∙◌, subst, arith}
use Rattle.kf_lex.specs.declared.cuts.Cut.{Cut}
use Rattle.kf_lex.specs.declared.cuts.Piece.{Piece}
use Rattle.kf_lex.specs.declared.cuts.Piece.TheVariants as kinds
use Rattle.kf_lex.specs.declared.token.LexError.{LexError}
use Rattle.kf_lex.specs.declared.token.LexError.TheVariants as fault
use Rattle.kf_lex.specs.declared.token.Token.{Token}
use Rattle.kf_lex.specs.Cuts.{IsAdded, IsCut, IsFirstWrong, IsOfKind, IsRefused, IsTokenOf}
use Rattle.kf_lex.specs.Lexemes.{IsLongest, Spells}
use Rattle.kf_lex.specs.Pieces.{IsBlank, IsPiece}
use Rattle.kf_lex.specs.Pieces as piece
use Rattle.kf_lex.specs.Readings.{IsWrong, Reaches, Reads, WrongFrom, place}
use Rattle.kf_lex.specs.Readings as r
use Rattle.kf_lex.proofs.SamePiece.{same_piece}
use Rattle.kf_lex.proofs.Following.{moved, piece_length, reached, wrong_no_blank, wrong_no_token, wrong_piece}

-- the tokens stand in the text before this place, with blanks between them, and nothing is wrong there; so what is said of the
-- rest of the text is said of the whole
pub record Goes (text : List ℕ) (at : ℕ) (left : List ℕ) (tokens : List Token) : Type 0 where
  pub reads : (us : List Token) → Reads at left us → Reads 0 text (tokens ++ us)
  pub reaches : (q : ℕ) (more : List ℕ) → Reaches at left q more → Reaches 0 text q more
  pub faults : (e : LexError) → WrongFrom 0 text e → WrongFrom at left e

pub starts : (text : List ℕ) → Goes text 0 text []
starts text = record { reads = λ us h. h; reaches = λ q more h. h; faults = λ e w. w }

-- pieces that lead on lead past the first
leads_past : (at q : ℕ) (left more a rest : List ℕ) → left ≡ a ++ rest → IsPiece a rest → Reaches at left q more
    → (more ≡ left) ⊎ Reaches (at + length a) rest q more
leads_past at q left more a rest e is r.here = inl refl
leads_past at q left more a rest e is (r.past a' rest' e' is' onward) =
    let same = same_piece a' rest' a rest (sym e' ∙ e) is' is in
    inr (subst (λ x. Reaches (at + length a) x q more) same.back (subst (λ x. Reaches (at + length x) rest' q more) same.front onward))

-- a wrong piece is none that is told to be a blank or a token
wrong_past : (at : ℕ) (left a rest : List ℕ) (e : LexError) → left ≡ a ++ rest → IsPiece a rest → (IsWrong e a rest → ⊥)
    → WrongFrom at left e → WrongFrom (at + length a) rest e
wrong_past at left a rest e whole is right w =
    ⊎_elim
    (λ (here : w.0 ++ w.1 ≡ left).
    let same = same_piece w.0 w.1 a rest (here ∙ whole) (wrong_piece e w.0 w.1 w.3) is in
    absurd (right (subst (IsWrong e a) same.back (subst (λ x. IsWrong e x w.1) same.front w.3))))
    (λ (onward : Reaches (at + length a) rest (place e) (w.0 ++ w.1)). (w.0, w.1, onward, w.3))
    (leads_past at (place e) left (w.0 ++ w.1) a rest whole is w.2)

pub past_blank : (text left a rest : List ℕ) (at : ℕ) (tokens : List Token) → Goes text at left tokens → left ≡ a ++ rest → IsBlank a rest
    → Goes text (at + length a) rest tokens
past_blank text left a rest at tokens goes whole blank = record {
  reads = λ us h. goes.reads us (r.blank a rest whole blank h);
  reaches = λ q more h. goes.reaches q more (r.past a rest whole (piece.blank blank) h);
  faults = λ e w. wrong_past at left a rest e whole (piece.blank blank) (λ wrong. wrong_no_blank e a rest wrong blank) (goes.faults e w);
}

pub past_token : (text left a rest : List ℕ) (at : ℕ) (tokens : List Token) (t : Token) → Goes text at left tokens → left ≡ a ++ rest
    → IsLongest a rest → Spells t.kind a → t.start ≡ at → t.end ≡ at + length a → Goes text (at + length a) rest (tokens ++ t ∷ [])
past_token text left a rest at tokens t goes whole long spelt starts ends = record {
  reads = λ us h. subst (Reads 0 text) (sym (append_assoc tokens (t ∷ []) us))
      (goes.reads (t ∷ us) (r.token t a rest whole long spelt starts ends (moved _ _ rest rest us (sym ends) refl h)));
  reaches = λ q more h. goes.reaches q more (r.past a rest whole (piece.token long) h);
  faults = λ e w. wrong_past at left a rest e whole (piece.token long) (λ wrong. wrong_no_token e a rest t.kind wrong long spelt) (goes.faults e w);
}

-- one piece further
pub goes_on : (text left : List ℕ) (cut : Cut) (at end : ℕ) (old new : List Token) → Goes text at left old → left ≡ cut.text.now ++ cut.rest.now
    → IsAdded cut at end old new → Goes text end cut.rest.now new
goes_on text left cut at end old new goes whole added =
    let a = cut.text.now in
    let rest = cut.rest.now in
    subst (λ n. Goes text n rest new) (sym added.0)
    (⊎_elim
    (λ (b : IsBlank a rest × (new ≡ old)). subst (Goes text (at + length a) rest) (sym b.1) (past_blank text left a rest at old goes whole b.0))
    (λ (t : (u : Token) × IsTokenOf cut at u × (new ≡ old ++ u ∷ [])).
    subst (Goes text (at + length a) rest) (sym t.2)
    (past_token text left a rest at old t.0 goes whole t.1.longest t.1.spelt t.1.starts t.1.ends))
    added.1)

pub reads_all : (text left : List ℕ) (at : ℕ) (tokens : List Token) → Goes text at left tokens → left ≡ [] → Reads 0 text tokens
reads_all text left at tokens goes e =
    subst (Reads 0 text) (append-nil tokens) (goes.reads [] (subst (λ x. Reads at x []) (sym e) r.done))

-- the first wrong piece
pub first_of : (text left a rest : List ℕ) (at : ℕ) (tokens : List Token) (e : LexError) → Goes text at left tokens → left ≡ a ++ rest
    → IsWrong e a rest × (place e ≡ at) → WrongFrom 0 text e × ((f : LexError) → WrongFrom 0 text f → place e ≤ place f)
first_of text left a rest at tokens e goes whole wrong =
    let here : Reaches at left (place e) (a ++ rest) = subst (λ x. Reaches at left x (a ++ rest)) (sym wrong.1) (subst (Reaches at left at) whole r.here) in (
      (a, rest, goes.reaches (place e) (a ++ rest) here, wrong.0),
      λ f w. let onward = goes.faults f w in let ahead = reached at (place f) left _ onward.2 in omega (arith, ahead.2, wrong.1),
    )

pub first_wrong : (text left : List ℕ) (cut : Cut) (at : ℕ) (tokens : List Token) (e : LexError) → Goes text at left tokens
    → left ≡ cut.text.now ++ cut.rest.now → IsRefused cut at e → IsFirstWrong text e
first_wrong text left cut at tokens fault.Mem goes whole refused = tt
first_wrong text left cut at tokens (fault.Utf8 i) goes whole refused = first_of text left cut.text.now cut.rest.now at tokens (fault.Utf8 i) goes whole refused
first_wrong text left cut at tokens (fault.Char i) goes whole refused = first_of text left cut.text.now cut.rest.now at tokens (fault.Char i) goes whole refused
first_wrong text left cut at tokens (fault.Number i) goes whole refused = first_of text left cut.text.now cut.rest.now at tokens (fault.Number i) goes whole refused

kind_piece : (kind : Piece) (text rest : List ℕ) → IsOfKind kind text rest → IsPiece text rest
kind_piece kinds.Blank text rest h = piece.blank h
kind_piece kinds.Number text rest h = piece.token h.0
kind_piece kinds.Word text rest h = piece.token h.0
kind_piece (kinds.Sign s) text rest h = piece.token h.0
kind_piece kinds.Other text rest h = piece.other h

-- what is cut off is some text
pub cut_length : (text : List ℕ) (cut : Cut) → IsCut text cut → 0 < length cut.text.now
cut_length text cut h = piece_length cut.text.now cut.rest.now (kind_piece cut.piece cut.text.now cut.rest.now h.is_piece)
