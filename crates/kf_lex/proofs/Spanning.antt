-- Where the tokens of a source stand in it.
use Rattle.std.proofs.Common.{◌≡◌, ◌+◌, ◌-◌, ◌≤◌, ℕ, List, [], ◌∷◌, ◌++◌, length, length-append, append_assoc, slice_range, refl, sym, ap, ◌∙◌, subst, arith}
use Rattle.std.specs.List.{All, AllPairs}
use Rattle.std.specs.Str.{IsUtf8}
use Rattle.std.proofs.lemmas.List.Elements.{All-cons, All-nil}
use Rattle.std.proofs.lemmas.List.Kept.{AllPairs-cons}
use Rattle.std.proofs.Math.Seq.{drop-append_seam, take-append_seam}
use Rattle.kf_lex.specs.declared.token.Tok.{Tok}
use Rattle.kf_lex.specs.declared.token.Tok.TheVariants as tok
use Rattle.kf_lex.specs.declared.token.Token.{Token}
use Rattle.kf_lex.specs.Lexemes.{IsWord, Spells}
use Rattle.kf_lex.specs.Readings.{IsTokens, Reads}
use Rattle.kf_lex.specs.Laws.{HasName, HasSpans, IsWithin}
use Rattle.kf_lex.specs.Readings as r
use Rattle.kf_lex.proofs.Following.{lexeme_length}

-- the tokens stand in the source from this place on, and in their order
record Spanned (src : List ℕ) (p : ℕ) (tokens : List Token) : Type 0 where
  within : All (IsWithin src) tokens
  ascending : AllPairs (λ t u. t.end ≤ u.start) tokens
  names : All (HasName src) tokens
  after : All (λ t. p ≤ t.start) tokens

word_utf8 : (text : List ℕ) → IsWord text → IsUtf8 text
word_utf8 text w = (w.0 ∷ w.1, (w.2.scalars, sym w.3))

name_utf8 : (kind : Tok) (text : List ℕ) → Spells kind text → kind ≡ tok.Name → IsUtf8 text
name_utf8 kind text s h = word_utf8 text (subst (λ k. Spells k text) h s).0

slice : (src front a rest : List ℕ) (start end : ℕ) → src ≡ front ++ (a ++ rest) → start ≡ length front → end ≡ start + length a → slice_range src start end ≡ a
slice src front a rest start end e f g =
    let size : end - start ≡ length a = omega (arith, g) in
    rw (size, e, f, drop-append_seam front (a ++ rest)) (take-append_seam a rest)

spanned : (src front text : List ℕ) (p : ℕ) (tokens : List Token) → src ≡ front ++ text → p ≡ length front → Reads p text tokens → Spanned src p tokens
spanned src front text p tokens e h r.done = record { within = All-nil _; ascending = λ i j d a b. absurd (omega arith); names = All-nil _; after = All-nil _ }
spanned src front text p tokens e h (r.blank a rest cut blank reads) =
    let more = spanned src (front ++ a) rest (p + length a) tokens (e ∙ ap (λ x. front ++ x) cut ∙ sym (append_assoc front a rest)) (omega (arith, length-append front a, h)) reads in
    record { within = more.within; ascending = more.ascending; names = more.names; after = λ k d below. omega (arith, more.after k d below) }
spanned src front text p tokens e h (r.token {tokens = others} t a rest cut long spelt start end reads) =
    let whole = e ∙ ap (λ x. front ++ x) cut in
    let sizes : length src ≡ length front + (length a + length rest) = ap length whole ∙ length-append front (a ++ rest) ∙ ap (λ n. length front + n) (length-append a rest) in
    let some = lexeme_length a long.lexeme in
    let more = spanned src (front ++ a) rest t.end others (whole ∙ sym (append_assoc front a rest)) (omega (arith, length-append front a, h, end)) reads in
    record {
      within = All-cons (IsWithin src) t others (omega (arith, some, start, end), omega (arith, sizes, h, end)) more.within;
      ascending = AllPairs-cons (λ u v. u.end ≤ v.start) t others more.after more.ascending;
      names = All-cons (HasName src) t others (λ is. subst IsUtf8 (sym (slice src front a rest t.start t.end whole (start ∙ h) (omega (arith, start, end)))) (name_utf8 t.kind a spelt is)) more.names;
      after = All-cons (λ u. p ≤ u.start) t others (omega (arith, start)) (λ k d below. omega (arith, more.after k d below, end));
    }

pub HasSpans-holds : (src : List ℕ) (tokens : List Token) → IsTokens src tokens → HasSpans src tokens
HasSpans-holds src tokens h =
    let s = spanned src [] src 0 tokens refl refl h.reads in
    record { within = s.within; ascending = s.ascending }

pub HasName-holds : (src : List ℕ) (tokens : List Token) → IsTokens src tokens → All (HasName src) tokens
HasName-holds src tokens h = let s = spanned src [] src 0 tokens refl refl h.reads in s.names
