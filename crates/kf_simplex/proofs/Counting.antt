-- How many bases there are.
use Rattle.std.proofs.Common.{◌≡◌, ◌≢◌, ℕ, zero, suc, ◌+◌, ◌<◌, ◌≤◌, refl, sym, ap, ◌∙◌, arith, ⊎_elim, subst, List, [], ◌∷◌, length, Bool, true, false}
use Rattle.std.proofs.lemmas.Bool.{cases_eq, cases_lt}
use Rattle.std.proofs.lemmas.Bool.Decides.{nat_tests}
use Rattle.std.proofs.lemmas.Int.{ints}
use Rattle.std.specs.Prelude.{cond, nat_eq}
use Rattle.kf_simplex.proofs.Sums.{find_below}
use Rattle.kf_simplex.proofs.RunFacts.{IsGood, Past, run_facts}
use Rattle.kf_simplex.specs.Laws.{ways, SameColumns, NoneHas, NoRunIsLong}
use Rattle.kf_simplex.specs.Systems.{LinearSystem, IsSystem, right_column}
use Rattle.kf_simplex.specs.Tableaus.{Tableau}
use Rattle.kf_simplex.specs.Runs.{IsRun}

abbrev pub bit : Bool → ℕ
bit true = 1
bit false = 0

-- the number of columns below n that a mask holds
abbrev pub count : ℕ → (ℕ → Bool) → ℕ
count zero m = 0
count (suc n) m = count n m + bit (m n)

abbrev pub Same : ℕ → (ℕ → Bool) → (ℕ → Bool) → Type 0
Same n a b = (c : ℕ) → c < n → a c ≡ b c

abbrev pub FarFrom : ℕ → (ℕ → Bool) → List (ℕ → Bool) → Type 0
FarFrom n m [] = Unit {0}
FarFrom n m (x ∷ xs) = (Same n m x → ⊥) × FarFrom n m xs

abbrev pub Apart : ℕ → List (ℕ → Bool) → Type 0
Apart n [] = Unit {0}
Apart n (x ∷ xs) = FarFrom n x xs × Apart n xs

abbrev pub EachCounts : ℕ → ℕ → List (ℕ → Bool) → Type 0
EachCounts n k [] = Unit {0}
EachCounts n k (x ∷ xs) = (count n x ≡ k) × EachCounts n k xs

-- masks split by their last column
record Parts (n k : ℕ) (ms : List (ℕ → Bool)) : Type 0 where
  ins : List (ℕ → Bool)
  outs : List (ℕ → Bool)
  len : length ms ≡ length ins + length outs
  ins_apart : Apart n ins
  outs_apart : Apart n outs
  outs_count : EachCounts n k outs
  ins_count : (j : ℕ) → k ≡ suc j → EachCounts n j ins
  ins_empty : k ≡ 0 → length ins ≡ 0
  ins_far : (m : ℕ → Bool) → m n ≡ true → FarFrom (suc n) m ms → FarFrom n m ins
  outs_far : (m : ℕ → Bool) → m n ≡ false → FarFrom (suc n) m ms → FarFrom n m outs

same_more : (n : ℕ) (a b : ℕ → Bool) → Same n a b → a n ≡ b n → Same (suc n) a b
same_more n a b h e c l = ⊎_elim (λ (m : c < n). h c m) (λ (m : n ≤ c). let q : c ≡ n = omega arith in subst (λ (z : ℕ). a z ≡ b z) (sym q) e) (cases_lt c n)

with_in : (n k : ℕ) (x : ℕ → Bool) (xs : List (ℕ → Bool)) → x n ≡ true → count (suc n) x ≡ k → FarFrom (suc n) x xs → Parts n k xs → Parts n k (x ∷ xs)
with_in n k x xs e c far p = record {
  ins = x ∷ p.ins;
  outs = p.outs;
  len = let q = p.len in omega arith;
  ins_apart = (p.ins_far x e far, p.ins_apart);
  outs_apart = p.outs_apart;
  outs_count = p.outs_count;
  ins_count = λ j q. ((let z = rw e at c in omega arith), p.ins_count j q);
  ins_empty = λ q. absurd (let z = rw e at c in omega arith);
  ins_far = λ m t f. ((λ s. f.0 (same_more n m x s (t ∙ sym e))), p.ins_far m t f.1);
  outs_far = λ m t f. p.outs_far m t f.1;
}

with_out : (n k : ℕ) (x : ℕ → Bool) (xs : List (ℕ → Bool)) → x n ≡ false → count (suc n) x ≡ k → FarFrom (suc n) x xs → Parts n k xs → Parts n k (x ∷ xs)
with_out n k x xs e c far p = record {
  ins = p.ins;
  outs = x ∷ p.outs;
  len = let q = p.len in omega arith;
  ins_apart = p.ins_apart;
  outs_apart = (p.outs_far x e far, p.outs_apart);
  outs_count = ((let z = rw e at c in omega arith), p.outs_count);
  ins_count = p.ins_count;
  ins_empty = p.ins_empty;
  ins_far = λ m t f. p.ins_far m t f.1;
  outs_far = λ m t f. ((λ s. f.0 (same_more n m x s (t ∙ sym e))), p.outs_far m t f.1);
}

part : (n k : ℕ) (x : ℕ → Bool) (xs : List (ℕ → Bool)) (b : Bool) → x n ≡ b → count (suc n) x ≡ k → FarFrom (suc n) x xs → Parts n k xs → Parts n k (x ∷ xs)
part n k x xs true e c far p = with_in n k x xs e c far p
part n k x xs false e c far p = with_out n k x xs e c far p

parts : (n k : ℕ) (ms : List (ℕ → Bool)) → Apart (suc n) ms → EachCounts (suc n) k ms → Parts n k ms
parts n k [] a c = record { ins = []; outs = []; len = refl; ins_apart = tt; outs_apart = tt; outs_count = tt; ins_count = λ j q. tt; ins_empty = λ q. refl; ins_far = λ m t f. tt; outs_far = λ m t f. tt }
parts n k (x ∷ xs) a c = part n k x xs (x n) refl c.0 a.0 (parts n k xs a.1 c.1)

-- different masks of k columns are no more than the ways to choose k
pub masks_at_most : (n k : ℕ) (ms : List (ℕ → Bool)) → Apart n ms → EachCounts n k ms → length ms ≤ ways n k
masks_at_most zero k [] a c = omega arith
masks_at_most zero zero (x ∷ []) a c = omega arith
masks_at_most zero zero (x ∷ (y ∷ ys)) a c = absurd (a.0.0 (λ c l. absurd (omega arith)))
masks_at_most zero (suc k) (x ∷ xs) a c = absurd (let e = c.0 in omega arith)
masks_at_most (suc n) zero ms a c =
    let p = parts n zero ms a c in let i = masks_at_most n zero p.outs p.outs_apart p.outs_count in let l = p.len in let z = p.ins_empty refl in omega arith
masks_at_most (suc n) (suc k) ms a c =
    let p = parts n (suc k) ms a c in
    let i = masks_at_most n k p.ins p.ins_apart (p.ins_count k refl) in let o = masks_at_most n (suc k) p.outs p.outs_apart p.outs_count in let l = p.len in omega arith

cond_no : (a c : ℕ) (b : Bool) → a ≢ c → cond (nat_eq a c) true b ≡ b
cond_no a c b h = grind (arith, nat_tests)

-- which columns a basis has
pub mask : ℕ → (ℕ → ℕ) → ℕ → Bool
mask zero basis c = false
mask (suc e) basis c = cond (nat_eq (basis e) c) true (mask e basis c)

mask-here : (e : ℕ) (basis : ℕ → ℕ) (c : ℕ) → basis e ≡ c → mask (suc e) basis c ≡ true
unfolding mask
mask-here e basis c h = rw h (grind (arith, nat_tests))

mask-past : (e : ℕ) (basis : ℕ → ℕ) (c : ℕ) → basis e ≢ c → mask (suc e) basis c ≡ mask e basis c
unfolding mask
mask-past e basis c h = cond_no (basis e) c (mask e basis c) h

mask_out : (e : ℕ) (basis : ℕ → ℕ) (c : ℕ) → ((k : ℕ) → k < e → basis k ≢ c) → mask e basis c ≡ false
unfolding mask
mask_out zero basis c h = refl
mask_out (suc e) basis c h = mask-past e basis c (h e (omega arith)) ∙ mask_out e basis c (λ (k : ℕ) (l : k < e). h k (omega arith))

mask_in : (e : ℕ) (basis : ℕ → ℕ) (k : ℕ) → k < e → mask e basis (basis k) ≡ true
mask_in zero basis k l = absurd (omega arith)
mask_in (suc e) basis k l = ⊎_elim (λ (h : basis e ≡ basis k). mask-here e basis (basis k) h)
    (λ (d : basis e ≢ basis k). mask-past e basis (basis k) d ∙ mask_in e basis k (⊎_elim (λ (m : k < e). m) (λ (m : e ≤ k). let q : e ≡ k = omega arith in absurd (d (ap basis q))) (cases_lt k e)))
    (cases_eq (basis e) (basis k))

count_same : (n : ℕ) (a b : ℕ → Bool) → Same n a b → count n a ≡ count n b
count_same zero a b h = refl
count_same (suc n) a b h = let i = count_same n a b (λ (c : ℕ) (l : c < n). h c (omega arith)) in let e = ap bit (h n (omega arith)) in omega arith

count_add : (n : ℕ) (a b : ℕ → Bool) (x : ℕ) → x < n → a x ≡ false → b x ≡ true → ((c : ℕ) → c ≢ x → b c ≡ a c) → count n b ≡ count n a + 1
count_add zero a b x l f t h = absurd (omega arith)
count_add (suc n) a b x l f t h = ⊎_elim
    (λ (m : x < n). let i = count_add n a b x m f t h in let e = ap bit (h n (omega arith)) in omega arith)
    (λ (m : n ≤ x). let q : x ≡ n = omega arith in
    let i = count_same n b a (λ (c : ℕ) (u : c < n). h c (omega arith)) in
    let u : bit (a n) ≡ 0 = ap bit (ap a (sym q) ∙ f) in let v : bit (b n) ≡ 1 = ap bit (ap b (sym q) ∙ t) in omega arith)
    (cases_lt x n)

count_none : (n : ℕ) (a : ℕ → Bool) → ((c : ℕ) → c < n → a c ≡ false) → count n a ≡ 0
count_none zero a h = refl
count_none (suc n) a h = let i = count_none n a (λ (c : ℕ) (l : c < n). h c (omega arith)) in let e = ap bit (h n (omega arith)) in omega arith

pub mask_count : (n e : ℕ) (basis : ℕ → ℕ) → ((k : ℕ) → k < e → basis k < n) → ((k m : ℕ) → k < m → m < e → basis k ≢ basis m) → count n (mask e basis) ≡ e
mask_count n zero basis r d = count_none n (mask zero basis) (λ (c : ℕ) (l : c < n). mask_out zero basis c (λ (k : ℕ) (m : k < 0). absurd (omega arith)))
mask_count n (suc e) basis r d =
    let i = mask_count n e basis (λ (k : ℕ) (l : k < e). r k (omega arith)) (λ (k m : ℕ) (l : k < m) (u : m < e). d k m l (omega arith)) in
    let a = count_add n (mask e basis) (mask (suc e) basis) (basis e) (r e (omega arith)) (mask_out e basis (basis e) (λ (k : ℕ) (l : k < e). d k e l (omega arith))) (mask-here e basis (basis e) refl)
    (λ (c : ℕ) (ne : c ≢ basis e). mask-past e basis c (λ q. ne (sym q))) in omega arith

pub same_columns : (n e : ℕ) (a b : ℕ → ℕ) → ((k : ℕ) → k < e → a k < n) → Same n (mask e a) (mask e b) → SameColumns e a b
same_columns n e a b r h i l = ⊎_elim (λ (w : (k : ℕ) × (k < e) × (b k ≡ a i)). w)
    (λ (none : (k : ℕ) → k < e → b k ≢ a i). absurd (true_false (sym (mask_in e a i l) ∙ h (a i) (r i l) ∙ mask_out e b (a i) none)))
    (find_below e b (a i))
  where
    true_false : true ≡ false → ⊥
    true_false q = cc

masks : ℕ → List Tableau → List (ℕ → Bool)
masks e [] = []
masks e (t ∷ ts) = mask e t.basis ∷ masks e ts

pub apart_basis : (s : LinearSystem) (t : Tableau) → IsGood s t → (k m : ℕ) → k < m → m < s.equations → t.basis k ≢ t.basis m
apart_basis s t g k m l u e =
    let p = (g.tableau.rows k (omega arith)).positive in let z = (g.tableau.rows k (omega arith)).zero_elsewhere m u (omega arith) in
    let z' = rw (← e) at z in omega (arith, ints)

far_from : (s : LinearSystem) (t : Tableau) (g : IsGood s t) (us : List Tableau) → Past s t g us → NoneHas s t us → FarFrom (right_column s) (mask s.equations t.basis) (masks s.equations us)
unfolding masks Past
far_from s t g [] p h = tt
far_from s t g (u ∷ us) p h = ((λ same. h.0 (same_columns (right_column s) s.equations u.basis t.basis p.0.0.column (λ c l. sym (same c l)))), far_from s t g us p.1 h.1)

masks_good : (s : LinearSystem) (limit : ℕ) (t : Tableau) (ts : List Tableau) → IsSystem s → IsRun s limit (t ∷ ts)
    → Apart (right_column s) (masks s.equations (t ∷ ts)) × EachCounts (right_column s) s.equations (masks s.equations (t ∷ ts))
unfolding masks Past
masks_good s limit t [] y r = let g = (run_facts s limit t [] y r).0 in ((tt, tt), (mask_count (right_column s) s.equations t.basis g.column (apart_basis s t g), tt))
masks_good s limit t (u ∷ us) y r =
    let f = run_facts s limit t (u ∷ us) y r in
    let i = masks_good s limit u us y r.0 in
    ((far_from s t f.0 (u ∷ us) f.1 f.2.0, i.0), (mask_count (right_column s) s.equations t.basis f.0.column (apart_basis s t f.0), i.1))

length-masks : (e : ℕ) (ts : List Tableau) → length (masks e ts) ≡ length ts
unfolding masks
length-masks e [] = refl
length-masks e (t ∷ ts) = ap suc (length-masks e ts)

pub no_run_is_long : NoRunIsLong
no_run_is_long s limit [] y r = absurd r
no_run_is_long s limit (t ∷ ts) y r =
    let m = masks_good s limit t ts y r in
    let l = masks_at_most (right_column s) s.equations (masks s.equations (t ∷ ts)) m.0 m.1 in
    rw (sym (length-masks s.equations (t ∷ ts))) l
