-- Where a search for a character cuts a text.
use Rattle.std.proofs.Common.{◌≡◌, ℕ, Bool, true, false, not, List, [], ◌∷◌, ◌++◌, Option, Some, None, MatchOption, length, length-append, take, drop, refl, sym, ap, ◌∙◌, subst, arith, append-nil, take-append-drop}
use Rattle.std.specs.Char.{IsScalar, encode_utf8}
use Rattle.std.specs.List.{AllByRecursion}
use Rattle.std.specs.Str.{IsUtf8, NonePass, NoCharPasses, all_scalars}
use Rattle.std.specs.Str.Pattern.{FindsBy, MatchBeginsAt}
use Rattle.std.proofs.lemmas.Str.{IsUtf8-drop, IsUtf8-nil, IsUtf8-take, encode_same, encodes_same, len_utf8_bounds, length-encode}
use Rattle.kf_lex.specs.Cuts.{IsRun, halves}

-- a character takes at least a byte
pub no_char_in_nothing : (c : ℕ) (more : List ℕ) → [] ≡ encode_utf8 c ++ more → ⊥
no_char_in_nothing c more e = absurd (omega (arith, ap length e, length-append (encode_utf8 c) more, length-encode c, len_utf8_bounds c))

module _ (p : ℕ → Bool) where
  turned : (b : Bool) → not b ≡ false → b ≡ true
  turned true e = refl
  turned false e = cc

  fails : (b : Bool) → not b ≡ true → b ≡ false
  fails true e = cc
  fails false e = refl

  each_passes : (cs : List ℕ) → NonePass (λ c. not (p c)) cs → AllByRecursion (λ c. p c ≡ true) cs
  each_passes [] none = tt
  each_passes (c ∷ cs) none = (turned (p c) none.0, each_passes cs none.1)

  -- the front is a run where the search passed it by, and what follows stops it
  run : (text front rest : List ℕ) → text ≡ front ++ rest → IsUtf8 front → NoCharPasses (λ c. not (p c)) front → IsUtf8 rest
      → ((c : ℕ) (more : List ℕ) → IsScalar c → rest ≡ encode_utf8 c ++ more → p c ≡ false) → IsRun p text front rest
  run text front rest e utf8 none back stops =
      let same : none.0 ≡ utf8.0 = encodes_same none.0 utf8.0 (none.1 ∙ sym utf8.1.1) in
      record {
        whole = e;
        chars = none.0;
        scalars = subst (λ cs. all_scalars cs ≡ true) (sym same) utf8.1.0;
        spelt = sym none.1;
        passes = each_passes none.0 none.2;
        utf8 = back;
        stops = stops;
      }

  -- what a search answers for the first character at which the tests give true; they are those of the pattern
  abbrev pub IsSearched : ((ℕ → Bool) → Type 0) → List ℕ → Option ℕ → Type 0
  IsSearched Tests text at = MatchOption at ((k : ℕ → Bool) → Tests k → NoCharPasses k text)
      (MatchBeginsAt (λ s r. (k : ℕ → Bool) → Tests k → FindsBy k s r) text)

  searched : (Tests : (ℕ → Bool) → Type 0) (text : List ℕ) (at : Option ℕ) → IsUtf8 text → Tests (λ c. not (p c))
      → IsSearched Tests text at → IsRun p text (halves text at).0 (halves text at).1
  searched Tests text None utf8 test none =
      run text text [] (sym (append-nil text)) utf8 (none _ test) IsUtf8-nil (λ c more scalar e. absurd (no_char_in_nothing c more e))
  searched Tests text (Some i) utf8 test found =
      let finds = found.1 _ test in
      let char = finds.1 in
      run text (take i text) (drop i text) (sym (take-append-drop i text)) (IsUtf8-take text i utf8 found.3) finds.0 (IsUtf8-drop text i utf8 found.3)
      (λ c more scalar e. fails (p c) (subst (λ x. not (p x) ≡ true) (encode_same char.0 c _ more (sym char.2.split ∙ e)).0 char.1))

  -- the text is cut where the search says
  pub run_cut : (Tests : (ℕ → Bool) → Type 0) (text front rest : List ℕ) (at : Option ℕ) → IsUtf8 text
      → IsSearched Tests text at → Tests (λ c. not (p c))
      → front ≡ (halves text at).0 → rest ≡ (halves text at).1 → IsRun p text front rest
  run_cut Tests text front rest at utf8 h test e f =
      rw (e, f) (searched Tests text at utf8 test h)
