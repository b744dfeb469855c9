-- The store with the carried copies set, one after the other.
use Rattle.std.proofs.Common.{◌≡◌, ℕ, zero, suc, ◌+◌, ◌%◌, ◌<◌, ◌≤◌, List, [], ◌∷◌, ◌++◌, length, map, take, drop, get_or, slice_get, slice_set, Option, Some, refl, sym, ap, ◌∙◌, subst, arith, append_assoc}
use mathlib.Core.Logic.{dite}
use native.Mathlib.Decide.{ℕ_discrete}
use Rattle.std.proofs.Math.Seq.{set-append_seam}
use Rattle.std.proofs.lemmas.List.{get_or_append_left, get_or_default, get_or-map, get_or-set_same, get_or-set_other, get_or-take, take-append-drop, length_push, length-map, length-set, length-take-le, length-drop, same_lists}
use Rattle.std.proofs.lemmas.Option.{slice_get-get_or, unwrap_or-slice_get}
use Rattle.std.specs.Prelude.{false, unwrap_or}
use Rattle.std.specs.List.{AllByRecursion as Each}
use Rattle.kf_value.specs.Values.{ValueTree, Truth}
use Rattle.kf_value.specs.Types.{TypeTree, Boolean, values, count, product}
use Rattle.kf_value.specs.Numbers.{IsStore, digits}
use Rattle.kf_core.specs.Checked.{IsChecked}
use Rattle.kf_core.specs.Programs.{ProgramTree}
use Rattle.kf_core.specs.Runs.{store_at, store_number, carried, copied}
use Rattle.kf_core.proofs.Stores.{store_is, store_number_is, length-store}

-- ---- a variable's value

-- what a list reads is what the option of it reads
get_or_by : {X : Type 0} (xs ys : List X) (i j : ℕ) (d : X) → slice_get xs i ≡ slice_get ys j → get_or xs i d ≡ get_or ys j d
get_or_by xs ys i j d same = sym (unwrap_or-slice_get xs i d) ∙ (ap (λ o. unwrap_or o d) same ∙ unwrap_or-slice_get ys j d)

-- variables of one type have as many values
pub same_size : (ts : List TypeTree) (i j : ℕ) → i < length ts → j < length ts → slice_get ts j ≡ slice_get ts i → get_or (map count ts) j 0 ≡ get_or (map count ts) i 0
same_size ts i j first second alike =
    get_or-map count ts j Boolean 0 second ∙ (ap count (get_or_by ts ts j i Boolean alike) ∙ sym (get_or-map count ts i Boolean 0 first))

length-digits : (sizes : List ℕ) (n : ℕ) → length (digits sizes n) ≡ length sizes
length-digits [] n = refl
length-digits (size ∷ sizes) n = ap suc (length-digits sizes (n % product sizes))

-- each variable of a store has the value of its type at its digit
abbrev AtDigits : Type 0
AtDigits = (ts : List TypeTree) (n i : ℕ) (t : TypeTree) (s : List ValueTree) → slice_get ts i ≡ Some t → IsStore ts n s
    → slice_get s i ≡ slice_get (values t) (get_or (digits (map count ts) n) i 0)

module _ (at_digits : AtDigits) (ts : List TypeTree) (n from to after digit : ℕ) (below : n < product (map count ts)) (below_after : after < product (map count ts))
    (source : from < length ts) (target : to < length ts) (alike : slice_get ts to ≡ slice_get ts from) (read : digit ≡ get_or (digits (map count ts) n) from 0)
    (set : digits (map count ts) after ≡ slice_set (digits (map count ts) n) to digit) where
  value_at : (m i : ℕ) → m < product (map count ts) → i < length ts → slice_get (store_at ts m) i ≡ slice_get (values (get_or ts i Boolean)) (get_or (digits (map count ts) m) i 0)
  value_at m i within variable = at_digits ts m i (get_or ts i Boolean) (store_at ts m) (slice_get-get_or ts i Boolean variable) (store_is ts m within)

  -- the variable with the changed digit
  here : (d : ValueTree) → get_or (store_at ts after) to d ≡ get_or (store_at ts n) from d
  here d =
      let long = length-digits (map count ts) n in
      let sized = length-map ts count in
      let changed : get_or (digits (map count ts) after) to 0 ≡ digit = ap (λ ds. get_or ds to 0) set ∙ get_or-set_same (digits (map count ts) n) to digit 0 (omega arith) in
      let now = get_or_by (store_at ts after) (values (get_or ts to Boolean)) to (get_or (digits (map count ts) after) to 0) d (value_at after to below_after target) in
      let before = get_or_by (store_at ts n) (values (get_or ts from Boolean)) from (get_or (digits (map count ts) n) from 0) d (value_at n from below source) in
      now ∙ (ap (λ k. get_or (values (get_or ts to Boolean)) k d) (changed ∙ read)
      ∙ (ap (λ t. get_or (values t) (get_or (digits (map count ts) n) from 0) d) (get_or_by ts ts to from Boolean alike) ∙ sym before))

  -- any other variable
  other : (i : ℕ) (d : ValueTree) → i < length ts → ¬ (i ≡ to) → get_or (store_at ts after) i d ≡ get_or (store_at ts n) i d
  other i d variable apart =
      let kept : get_or (digits (map count ts) after) i 0 ≡ get_or (digits (map count ts) n) i 0 = ap (λ ds. get_or ds i 0) set ∙ get_or-set_other (digits (map count ts) n) to i digit 0 apart in
      get_or_by (store_at ts after) (store_at ts n) i i d
      (value_at after i below_after variable ∙ (ap (slice_get (values (get_or ts i Boolean))) kept ∙ sym (value_at n i below variable)))

  -- one digit is set to that of another variable: so is the value
  pub copied_digit : store_at ts after ≡ slice_set (store_at ts n) to (get_or (store_at ts n) from (Truth false))
  copied_digit =
      let s = store_at ts n in
      let v = get_or s from (Truth false) in
      let long : length s ≡ length ts = length-store ts n s (store_is ts n below) in
      let long_after : length (store_at ts after) ≡ length ts = length-store ts after (store_at ts after) (store_is ts after below_after) in
      let long_set : length (slice_set s to v) ≡ length s = length-set s to v in
      same_lists (store_at ts after) (slice_set s to v) (omega arith) (λ i d within.
      dite (ℕ_discrete i to)
      (λ (same : i ≡ to). subst (λ k. get_or (store_at ts after) k d ≡ get_or (slice_set s to v) k d) (sym same)
      (here d ∙ (get_or_default s from d (Truth false) (omega arith) ∙ sym (get_or-set_same s to v d (omega arith)))))
      (λ (apart : ¬ (i ≡ to)). other i d (omega (arith, within)) apart ∙ sym (get_or-set_other s to i v d apart)))

-- ---- one value after the other

abbrev pub fill : ℕ → List ℕ → List ValueTree → List ValueTree
fill i [] s = s
fill i (c ∷ cs) s = fill (suc i) cs (slice_set s i (get_or s c (Truth false)))

module _ (most : ℕ) (g : ℕ → ValueTree) where
  filled : (cs : List ℕ) (front rest : List ValueTree) (n : ℕ) → n ≡ length front → most ≤ n → length cs ≡ length rest → Each (λ c. c < most) cs
      → ((c : ℕ) → c < most → get_or front c (Truth false) ≡ g c) → fill n cs (front ++ rest) ≡ front ++ map g cs
  filled [] front [] n long enough same each reads = refl
  filled [] front (r ∷ rest) n long enough same each reads = absurd (omega (arith, same))
  filled (c ∷ cs) front [] n long enough same each reads = absurd (omega (arith, same))
  filled (c ∷ cs) front (r ∷ rest) n long enough same each reads =
      let within : c < length front = omega (arith, each.0) in
      let value : get_or (front ++ r ∷ rest) c (Truth false) ≡ g c = get_or_append_left front (r ∷ rest) (Truth false) c within ∙ reads c each.0 in
      let set : slice_set (front ++ r ∷ rest) n (get_or (front ++ r ∷ rest) c (Truth false)) ≡ (front ++ g c ∷ []) ++ rest =
      ap (slice_set (front ++ r ∷ rest) n) value ∙ (ap (λ i. slice_set (front ++ r ∷ rest) i (g c)) long ∙ (set-append_seam front r rest (g c) ∙ sym (append_assoc front (g c ∷ []) rest))) in
      let push : length (front ++ g c ∷ []) ≡ length front + 1 = length_push front (g c) in
      ap (fill (suc n) cs) set
      ∙ (filled cs (front ++ g c ∷ []) rest (suc n) (omega arith) (omega arith) (omega arith) each.1
      (λ k below. get_or_append_left front (g c ∷ []) (Truth false) k (omega arith) ∙ reads k below)
      ∙ append_assoc front (g c ∷ []) (map g cs))

each_from : (P : ℕ → Type 0) (cs : List ℕ) → ((j c : ℕ) → slice_get cs j ≡ Some c → P c) → Each P cs
each_from P [] holds = tt
each_from P (c ∷ cs) holds = (holds 0 c refl, each_from P cs (λ j k at. holds (suc j) k at))

module _ (p : ProgramTree) (checked : IsChecked p) (s : List ValueTree) (long : length s ≡ length p.types) where
  -- all copies are the carried ones
  pub filled_carried : fill (length p.decls) p.copies s ≡ carried p s
  filled_carried =
      let front = take (length p.decls) s in
      let rest = drop (length p.decls) s in
      let counted = checked.counted in
      let front_long : length front ≡ length p.decls = length-take-le (length p.decls) s (omega arith) in
      let rest_long : length rest ≡ length p.copies = omega (arith, length-drop (length p.decls) s) in
      ap (fill (length p.decls) p.copies) (sym (take-append-drop (length p.decls) s))
      ∙ filled (length p.decls) (λ c. get_or s c (Truth false)) p.copies front rest (length p.decls) (sym front_long) (omega arith) (sym rest_long)
      (each_from (λ c. c < length p.decls) p.copies (λ j c at. (checked.copied j c at).0))
      (λ c below. get_or-take (length p.decls) s c (Truth false) below)

-- a copy's variable is declared, and of its type
pub copy_known : (p : ProgramTree) (checked : IsChecked p) (j c place : ℕ) → j < length p.copies → c ≡ get_or p.copies j 0 → place ≡ length p.decls + j
    → (c < length p.types) × (place < length p.types) × (slice_get p.types place ≡ slice_get p.types c)
copy_known p checked j c place within read at =
    let known = checked.copied j c (slice_get-get_or p.copies j 0 within ∙ ap (λ k. Some k) (sym read)) in
    let counted = checked.counted in
    let low : c < length p.types = omega (arith, known.0) in
    let high : place < length p.types = omega arith in
    (low, high, ap (slice_get p.types) at ∙ known.1)

-- ---- the loop over the copies

pub record Copies (p : ProgramTree) (size store place : ℕ) (left : List ℕ) (after : ℕ) : Type 0 where
  pub below : after < size
  pub whole : fill place left (store_at p.types after) ≡ fill (length p.decls) p.copies (store_at p.types store)

abbrev numbered : ℕ → Option ℕ → ℕ
numbered n found = unwrap_or found n

pub copies_end : (p : ProgramTree) (checked : IsChecked p) (size store place after : ℕ) (left : List ℕ) → size ≡ product (map count p.types) → store < size → left ≡ []
    → Copies p size store place left after → after ≡ copied p store
copies_end p checked size store place after left sized start none had =
    let ts = p.types in
    let s = store_at ts store in
    let at : IsStore ts store s = store_is ts store (omega arith) in
    let same : store_at ts after ≡ carried p s =
    ap (λ l. fill place l (store_at ts after)) (sym none) ∙ (had.whole ∙ filled_carried p checked s (length-store ts store s at)) in
    let number : store_number ts (carried p s) ≡ Some after = store_number_is ts after (carried p s) (store_is ts after (omega (arith, had.below)) ∙ ap (λ t. Some t) same) in
    sym (ap (numbered store) number)

pub drop_past : (cs : List ℕ) (i : ℕ) → length cs ≤ i → drop i cs ≡ []
drop_past [] zero past = refl
drop_past [] (suc i) past = refl
drop_past (c ∷ cs) zero past = absurd (omega arith)
drop_past (c ∷ cs) (suc i) past = drop_past cs i (omega arith)
