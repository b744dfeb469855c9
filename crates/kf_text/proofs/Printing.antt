-- Texts that are appended piece by piece.
use Rattle.std.proofs.Common.{◌≡◌, ℕ, zero, suc, ◌<◌, ℤ, List, [], ◌∷◌, ◌++◌, length, map, drop, get_or, sym, ◌∙◌, ap, append_assoc, append-nil, codes, refl, ◌≢◌, ◌-◌, ◌+◌, take, arith}
use Rattle.std.proofs.lemmas.List.{take_rest}
use Rattle.std.specs.List.{flat_map}
use Rattle.std.specs.Fmt.{decimal, signed_decimal}
use Rattle.kf_frac.specs.declared.frac.Frac.{Frac}
use Rattle.kf_frac.specs.Fractions.{fraction_text, reduced_num, reduced_den}
use Rattle.kf_frac.specs.Parts.{IsFraction, denominator_text}
use Rattle.kf_frac.proofs.LowestTerms.{text_of_reduced, text_of_whole, text_of_quotient}
use Rattle.kf_value.specs.declared.target_item.TargetItem.{TargetItem}
use Rattle.kf_value.specs.Targets.{target_text}
use Rattle.kf_value.specs.TypeViews.{item_of}
use Rattle.kf_value.specs.Views.{item_text}
use Rattle.kf_cert.proofs.Pieces.{piece_added}
use Rattle.kf_text.specs.Views.{own_text}

-- a fraction in lowest terms is written as the one that it was made of
pub share_text : (f : Frac) (n : ℤ) (d : ℕ) → f.num ≡ reduced_num n d → f.den ≡ reduced_den n d → fraction_text f.num f.den ≡ fraction_text n d
unfolding fraction_text
share_text f n d num den =
    let same : signed_decimal f.num ++ denominator_text f.den ≡ fraction_text n d = rw (num, den) refl in
    text_of_reduced f.num f.den f.reduced ∙ same

-- and so is one that is n / d
pub same_text : (f : Frac) (n : ℤ) (d : ℕ) → IsFraction f n d → own_text f ≡ fraction_text n d
same_text f n d is = share_text f n d is.num is.den

-- a fraction is written as its numerator alone where its denominator is 1, and as both parts where it isn't
module _ (f : Frac) (n : ℤ) (d : ℕ) (num : n ≡ f.num) (den : d ≡ f.den) where
  pub whole_text : d ≡ 1 → signed_decimal n ≡ own_text f
  whole_text one = text_of_whole f.num n f.den f.reduced num (sym den ∙ one)

  pub quotient_text : d ≢ 1 → signed_decimal n ++ (codes "/" ++ decimal d) ≡ own_text f
  quotient_text more =
      ap (λ (m : ℕ). signed_decimal n ++ (codes "/" ++ decimal m)) den
      ∙ text_of_quotient f.num n f.den f.reduced num (λ one. more (den ∙ one))

-- an item after the first, with what stands before it
abbrev pub further_text : TargetItem → List ℕ
further_text i = codes ", " ++ target_text (item_of i ∷ [])

-- the texts of the further items
further_texts : (others : List TargetItem) → flat_map (λ (t : List ℕ). codes ", " ++ t) (map item_text (map item_of others)) ≡ flat_map further_text others
further_texts [] = refl
further_texts (j ∷ others) =
    ap (λ (t : List ℕ). (codes ", " ++ item_text (item_of j)) ++ t) (further_texts others)
    ∙ ap (λ (t : List ℕ). (codes ", " ++ t) ++ flat_map further_text others) (sym (append-nil (item_text (item_of j))))

-- the text of a target is that of its first item, then those of the further ones
target_first : (i : TargetItem) (others : List TargetItem) → target_text (map item_of (i ∷ others)) ≡ target_text (item_of i ∷ []) ++ flat_map further_text others
target_first i others =
    ap (λ (t : List ℕ). item_text (item_of i) ++ t) (further_texts others)
    ∙ ap (λ (t : List ℕ). t ++ flat_map further_text others) (sym (append-nil (item_text (item_of i))))

-- the first item stands, and the further ones are left
pub first_printed : (items : List TargetItem) (first : TargetItem) (out now : List ℕ) → 0 < length items → first ≡ get_or items 0 first
    → now ≡ out ++ target_text (item_of first ∷ [])
    → now ++ flat_map further_text (take (length items - 1) (drop 1 items)) ≡ out ++ target_text (map item_of items)
first_printed [] first out now some is grown = absurd (omega arith)
first_printed (i ∷ others) first out now some is grown =
    rw (take_rest (i ∷ others) 1, grown, append_assoc, is)
    (ap (λ (t : List ℕ). out ++ t) (sym (target_first i others)))

-- the text of one more member stands, and those behind it are left
module _ {X : Type 0} (text : X → List ℕ) (xs : List X) (i : ℕ) (x : X) (out next whole : List ℕ) (within : i < length xs) (is : x ≡ get_or xs i x)
    (left : out ++ flat_map text (drop i xs) ≡ whole) where
  pub one_more : next ≡ out ++ text x → next ++ flat_map text (drop (i + 1) xs) ≡ whole
  one_more added = piece_added (λ _ es. flat_map text es) (λ _ e. text e) (λ _ e es. refl) xs i x out next whole within is added left

-- the same bytes before it
pub behind : (before text out begun next : List ℕ) → begun ≡ out ++ before → next ≡ begun ++ text → next ≡ out ++ (before ++ text)
behind before text out begun next first added = added ∙ ap (λ (o : List ℕ). o ++ text) first ∙ append_assoc out before text

-- what is read at an index is read there whatever stands in for what there isn't
pub read_itself : {X : Type 0} (xs : List X) (i : ℕ) (d : X) → get_or xs i d ≡ get_or xs i (get_or xs i d)
read_itself [] i d = refl
read_itself (x ∷ xs) zero d = refl
read_itself (x ∷ xs) (suc i) d = read_itself xs i d
