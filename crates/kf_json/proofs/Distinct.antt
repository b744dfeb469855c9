-- Texts that differ, told one by one by those before.
use Rattle.std.proofs.Common.{◌≡◌, ℕ, List, [], ◌∷◌, map, length, arith, Bool, true, false, not, ◌&&◌, ◌||◌, cond, Bor, refl, sym, ap, ◌∙◌, nat_cmp, Ordering}
use Rattle.std.specs.List.{list_all, list_any}
use Rattle.std.specs.Ordering.{is_eq}
use Rattle.std.specs.Cmp.Lexicographic.{slice_cmp}
use Rattle.std.specs.Prelude.{bytes_eq}
use Rattle.std.proofs.lemmas.Map.Text.{is_eq-slice_cmp}
use Rattle.kf_json.specs.Rules.{are_distinct}

mix : (a b c d : Bool) → (not (cond a true b) && (not c && d)) ≡ (not (a || c) && (not b && d))
mix true b c d = refl
mix false true true d = refl
mix false true false d = refl
mix false false c d = refl

shuffle : (a n l d : Bool) → (a && ((n && l) && d)) ≡ ((a && l) && (n && d))
shuffle false n l d = refl
shuffle true true l d = refl
shuffle true false true d = refl
shuffle true false false d = refl

module _ {K : Type 0} (eq : K → K → Bool) where
  -- no two are equal
  abbrev pub differ : List K → Bool
  differ [] = true
  differ (x ∷ xs) = not (list_any (eq x) xs) && differ xs

  -- none is had already, and no two are equal
  abbrev pub fresh : (K → Bool) → List K → Bool
  fresh had [] = true
  fresh had (x ∷ xs) = not (had x) && fresh (λ q. cond (eq x q) true (had q)) xs

  apart : (p had : K → Bool) (xs : List K) → list_all (λ q. not (cond (p q) true (had q))) xs ≡ (not (list_any p xs) && list_all (λ q. not (had q)) xs)
  apart p had [] = refl
  apart p had (x ∷ xs) =
      ap (λ b. not (cond (p x) true (had x)) && b) (apart p had xs) ∙ mix (p x) (had x) (list_any p xs) (list_all (λ q. not (had q)) xs)

  fresh_differ : (had : K → Bool) (xs : List K) → fresh had xs ≡ (list_all (λ q. not (had q)) xs && differ xs)
  fresh_differ had [] = refl
  fresh_differ had (x ∷ xs) =
      ap (λ b. not (had x) && b) (fresh_differ (λ q. cond (eq x q) true (had q)) xs ∙ ap (λ b. b && differ xs) (apart (eq x) had xs))
      ∙ shuffle (not (had x)) (not (list_any (eq x) xs)) (list_all (λ q. not (had q)) xs) (differ xs)

  none_had : (xs : List K) → list_all (λ (q : K). true) xs ≡ true
  none_had [] = refl
  none_had (x ∷ xs) = none_had xs

  -- nothing is had at the start
  pub fresh_first : (xs : List K) → fresh (λ q. false) xs ≡ differ xs
  fresh_first xs = fresh_differ (λ q. false) xs ∙ ap (λ b. b && differ xs) (none_had xs)

  module _ (had : K → Bool) (x : K) (left xs : List K) (whole added : Bool) (next : left ≡ x ∷ xs) (tells : added ≡ not (had x)) (was : fresh had left ≡ whole) where
    pub fresh_step : (now : K → Bool) → added ≡ true → ((q : K) → now q ≡ cond (eq x q) true (had q)) → fresh now xs ≡ whole
    fresh_step now is same =
        (λ i. fresh (λ q. same q i) xs) ∙ sym (ap (λ b. b && fresh (λ q. cond (eq x q) true (had q)) xs) (sym tells ∙ is)) ∙ sym (ap (fresh had) next) ∙ was

    pub fresh_stop : added ≡ false → false ≡ whole
    fresh_stop is = sym (ap (λ b. b && fresh (λ q. cond (eq x q) true (had q)) xs) (sym tells ∙ is)) ∙ sym (ap (fresh had) next) ∙ was

pub none_left : {X : Type 0} (xs : List X) → length xs ≡ 0 → xs ≡ []
none_left [] none = refl
none_left (x ∷ xs) none = absurd (omega arith)

-- ---- texts, as an ordered set tells them apart

abbrev pub text_cmp : Bor (List ℕ) → Bor (List ℕ) → Ordering
text_cmp x y = slice_cmp nat_cmp x.now y.now

abbrev pub text_eq : Bor (List ℕ) → Bor (List ℕ) → Bool
text_eq x y = is_eq (text_cmp x y)

any_text : (x : Bor (List ℕ)) (xs : List (Bor (List ℕ))) → list_any (text_eq x) xs ≡ list_any (bytes_eq x.now) (map (λ t. t.now) xs)
any_text x [] = refl
any_text x (y ∷ ys) = λ i. is_eq-slice_cmp x.now y.now i || any_text x ys i

pub differ_texts : (xs : List (Bor (List ℕ))) → differ text_eq xs ≡ are_distinct (map (λ t. t.now) xs)
differ_texts [] = refl
differ_texts (x ∷ xs) = λ i. not (any_text x xs i) && differ_texts xs i
