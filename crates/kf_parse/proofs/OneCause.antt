-- Tokens that are a program's aren't refused, and those that are refused have one cause at one place.
use Rattle.std.proofs.Common.{◌≡◌, ℕ, List, [], ◌∷◌, ◌++◌, refl, sym, ◌∙◌, ap, append_assoc, arith, Some, None, ◌⊎◌, inl, inr}
use Rattle.kf_lex.specs.declared.token.Token.{Token}
use Rattle.kf_ast.specs.Sources.{SourceTree}
use Rattle.kf_parse.specs.declared.errors.ParseError.TheVariants as errors
use Rattle.kf_parse.specs.Programs.{IsProgram}
use Rattle.kf_parse.specs.Depth.{IsShallow, IsDeep}
use Rattle.kf_parse.specs.Sizes.{source_exprs, first_long}
use Rattle.kf_parse.specs.Answers.{Begins, IsSyntaxPlace}
use Rattle.kf_parse.specs.Laws.{NotBoth, OneRefusal}
use Rattle.kf_parse.proofs.TakesOne.{one_program}
use Rattle.kf_parse.specs.Begins.{place_in}

-- what stands between two places at which a list is split
record Between (a b c d : List Token) : Type 0 where
  middle : List Token
  front : c ≡ a ++ middle
  back : b ≡ middle ++ d

-- of two places at which a list is split, one isn't behind the other
splits : (a b c d : List Token) → a ++ b ≡ c ++ d → Between a b c d ⊎ Between c d a b
splits [] b c d e = inl (record { middle = c; front = refl; back = e })
splits (u ∷ a) b [] d e = inr (record { middle = u ∷ a; front = refl; back = sym e })
splits (u ∷ a) b (v ∷ c) d e = let same : u ≡ v = cc in elim (splits a b c d cc) [
  | inl h ↦ inl (record { middle = h.middle; front = rw (same, h.front) refl; back = h.back })
  | inr h ↦ inr (record { middle = h.middle; front = rw (same, h.front) refl; back = h.back })
]

not_shallow : (ts : List Token) (at : ℕ) → IsShallow ts → IsDeep ts at → ⊥
not_shallow ts at low h = let few = low (h.front ++ h.token ∷ []) h.rest (h.whole ∙ sym (append_assoc h.front (h.token ∷ []) h.rest)) in let many = h.above in omega arith

-- a deep place isn't before another one
deep_before : (ts : List Token) (at at' : ℕ) (h : IsDeep ts at) (k : IsDeep ts at') → Between h.front (h.token ∷ h.rest) k.front (k.token ∷ k.rest) → at ≡ at'
deep_before ts at at' h k m = by_middle m.middle m.front m.back
  where
    by_middle : (w : List Token) → k.front ≡ h.front ++ w → h.token ∷ h.rest ≡ w ++ k.token ∷ k.rest → at ≡ at'
    by_middle [] f b = sym h.stands ∙ ap (λ o. o.start) (let same : h.token ≡ k.token = cc in same) ∙ k.stands
    by_middle (o ∷ w) f b = absurd (not_shallow k.front at k.before (record {
      front = h.front;
      token = h.token;
      rest = w;
      whole = f ∙ ap (λ z. h.front ++ z ∷ w) (let same : o ≡ h.token = cc in same);
      before = h.before;
      above = h.above;
      stands = h.stands;
    }))

one_deep : (ts : List Token) (at at' : ℕ) → IsDeep ts at → IsDeep ts at' → at ≡ at'
one_deep ts at at' h k = elim (splits h.front (h.token ∷ h.rest) k.front (k.token ∷ k.rest) (sym h.whole ∙ k.whole)) [
  | inl m ↦ deep_before ts at at' h k m
  | inr m ↦ sym (deep_before ts at' at k h m)
]

-- what begins with tokens that begin a program begins with fewer of them
begins_less : (ts us : List Token) → Begins (ts ++ us) → Begins ts
begins_less ts us b = record { src = b.src; more = us ++ b.more; tree = b.tree; program = rw (← append_assoc ts us b.more) b.program }

syntax_before : (src : List ℕ) (ts : List Token) (at at' : ℕ) (h : IsSyntaxPlace src ts at) (k : IsSyntaxPlace src ts at') → Between h.front h.rest k.front k.rest → at ≡ at'
syntax_before src ts at at' h k m = by_middle m.middle m.front m.back
  where
    by_middle : (w : List Token) → k.front ≡ h.front ++ w → h.rest ≡ w ++ k.rest → at ≡ at'
    by_middle [] f b = sym h.stands ∙ ap (place_in src) b ∙ k.stands
    by_middle (o ∷ w) f b = absurd (h.ends o (w ++ k.rest) b (begins_less (h.front ++ o ∷ []) w (rw (append_assoc h.front (o ∷ []) w, ← f) k.begins)))

one_syntax : (src : List ℕ) (ts : List Token) (at at' : ℕ) → IsSyntaxPlace src ts at → IsSyntaxPlace src ts at' → at ≡ at'
one_syntax src ts at at' h k = elim (splits h.front h.rest k.front k.rest (sym h.whole ∙ k.whole)) [
  | inl m ↦ syntax_before src ts at at' h k m
  | inr m ↦ sym (syntax_before src ts at' at k h m)
]

one_long : (src : List ℕ) (ts : List Token) (x y : SourceTree) → IsProgram src ts x → IsProgram src ts y → first_long (source_exprs x) ≡ first_long (source_exprs y)
one_long src ts x y p q = ap (λ z. first_long (source_exprs z)) (one_program src ts x y p q)

pub not_both : NotBoth
not_both src ts x (errors.Deep at) known p r = not_shallow ts at p.shallow r
not_both src ts x (errors.Syntax at) known p r = r.none x p.program
not_both src ts x (errors.Long at) known p r = (let e : None ≡ Some at = sym p.short ∙ one_long src ts x r.tree p.program r.program ∙ r.long in cc)
not_both src ts x errors.Mem known p r = known refl

pub one_refusal : OneRefusal
one_refusal src ts (errors.Deep at) (errors.Deep at') known known' r r' = ap (λ z. errors.Deep z) (one_deep ts at at' r r')
one_refusal src ts (errors.Deep at) (errors.Syntax at') known known' r r' = absurd (not_shallow ts at r'.shallow r)
one_refusal src ts (errors.Deep at) (errors.Long at') known known' r r' = absurd (not_shallow ts at r'.shallow r)
one_refusal src ts (errors.Syntax at) (errors.Deep at') known known' r r' = absurd (not_shallow ts at' r.shallow r')
one_refusal src ts (errors.Syntax at) (errors.Syntax at') known known' r r' = ap (λ z. errors.Syntax z) (one_syntax src ts at at' r.place r'.place)
one_refusal src ts (errors.Syntax at) (errors.Long at') known known' r r' = absurd (r.none r'.tree r'.program)
one_refusal src ts (errors.Long at) (errors.Deep at') known known' r r' = absurd (not_shallow ts at' r.shallow r')
one_refusal src ts (errors.Long at) (errors.Syntax at') known known' r r' = absurd (r'.none r.tree r.program)
one_refusal src ts (errors.Long at) (errors.Long at') known known' r r' = ap (λ z. errors.Long z) (let e : Some at ≡ Some at' = sym r.long ∙ one_long src ts r.tree r'.tree r.program r'.program ∙ r'.long in cc)
one_refusal src ts errors.Mem f known known' r r' = absurd (known refl)
one_refusal src ts e errors.Mem known known' r r' = absurd (known' refl)
