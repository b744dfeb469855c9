-- What is kept is chosen in each store with the same number, and stays so when a choice more is kept.
use Rattle.std.proofs.Common.{◌≡◌, ◌≢◌, ℕ, zero, suc, ◌+◌, ◌-◌, ◌<◌, ◌≤◌, ◌==◌, Bool, true, false, eqb, List, [], ◌∷◌, ◌++◌, All, Contains, map, length, get_or, set, slice_get, Some, None, refl, sym, ap, ◌∙◌, subst, arith, ⊎_elim, length-append}
use Rattle.std.specs.Option.{unwrap_or}
use Rattle.std.proofs.lemmas.Bool.Decides.{eqb_tells, nat_tests}
use Rattle.std.proofs.lemmas.List.{length-map, length-set}
use Rattle.std.proofs.lemmas.List.Elements.{All-contains, All-from_recursion, recursion_from_All}
use Rattle.std.proofs.lemmas.Option.{slice_get_cases, slice_get-get_or, slice_get_past, slice_get_within, unwrap_or-slice_get}
use Rattle.kf_value.specs.Values.{ValueTree, Truth}
use Rattle.kf_value.specs.Types.{TypeTree, values, count, product}
use Rattle.kf_value.specs.Numbers.{IsStore, AreDigits, digits}
use Rattle.kf_value.specs.Shapes.{shape_size, shape_sizes, shape_types}
use Rattle.kf_value.specs.declared.shape.Shape.{Shape}
use Rattle.kf_value.proofs.Places.{slice_get-append_left, slice_get-append_right}
use Rattle.kf_core.specs.Choices.{choices}
use Rattle.kf_core.specs.Dxs.{DxShape, DxTree, dx_at}
use Rattle.kf_core.specs.Runs.{store_at, tried}
use Rattle.kf_core.proofs.Stores.{store_is, length-store}
use Rattle.kf_core.specs.Each.{placed_at}
use Rattle.kf_eval.specs.Memos.{IsChosen, IsKeptAt, IsMemoOf, kept, number_in}
use Rattle.kf_eval.specs.Reads.{dist_reads, number_behind, span}
use Rattle.kf_eval.specs.declared.choice.Choice.{Choice}
use Rattle.kf_eval.specs.declared.memo.Memo.{Memo}
use Rattle.kf_eval.proofs.Agreeing.{same_choices}
use Rattle.kf_eval.proofs.Numbered.{same_digits}

-- ---- stores with the same number choose the same

-- a variable's value stands at its digit
abbrev pub AtDigits : Type 0
AtDigits = (ts : List TypeTree) (n i : ℕ) (t : TypeTree) (s : List ValueTree) → slice_get ts i ≡ Some t → IsStore ts n s
    → slice_get s i ≡ slice_get (values t) (get_or (digits (map count ts) n) i 0)

abbrev pub DigitsFit : Type 0
DigitsFit = (sizes : List ℕ) (n : ℕ) → n < product sizes → AreDigits sizes (digits sizes n)

module _ (at_digits : AtDigits) (fit : DigitsFit) (ts : List TypeTree) (n m : ℕ) (low : n < product (map count ts)) (small : m < product (map count ts)) where
  abbrev HasSameDigit : ℕ → Type 0
  HasSameDigit i = get_or (digits (map count ts) n) i 0 ≡ get_or (digits (map count ts) m) i 0

  same_slot : (i : ℕ) → (i < length ts → HasSameDigit i) → slice_get (store_at ts n) i ≡ slice_get (store_at ts m) i
  same_slot i same =
      ⊎_elim
      (λ (here : (t : TypeTree) × (i < length ts) × (slice_get ts i ≡ Some t) × (get_or ts i t ≡ t)).
      at_digits ts n i here.0 (store_at ts n) here.2 (store_is ts n low)
      ∙ ap (λ (k : ℕ). slice_get (values here.0) k) (same here.1)
      ∙ sym (at_digits ts m i here.0 (store_at ts m) here.2 (store_is ts m small)))
      (λ (past : (length ts ≤ i) × (slice_get ts i ≡ None)).
      slice_get_past (store_at ts n) i (omega (arith, past.0, length-store ts n (store_at ts n) (store_is ts n low)))
      ∙ sym (slice_get_past (store_at ts m) i (omega (arith, past.0, length-store ts m (store_at ts m) (store_is ts m small)))))
      (slice_get_cases ts i).1

  module _ (d : DxShape) (slots : List ℕ) (within : All (λ (i : ℕ). i < length ts) slots) (reads : (i : ℕ) → i < length ts → dist_reads i d ≡ true → Contains slots i) where
    pub same_chosen : number_behind (map count ts) (digits (map count ts) n) 0 slots ≡ number_behind (map count ts) (digits (map count ts) m) 0 slots
        → choices (store_at ts n) d ≡ choices (store_at ts m) d
    same_chosen same =
        let ss = map count ts in
        let inside = recursion_from_All (λ (i : ℕ). i < length ss) slots (subst (λ (l : ℕ). All (λ (i : ℕ). i < l) slots) (sym (length-map ts count)) within) in
        let each = (same_digits ss (digits ss n) (digits ss m) (fit ss n low) (fit ss m small) slots 0 0 inside same).1 in
        let all = All-from_recursion HasSameDigit slots each in
        same_choices (store_at ts n) (store_at ts m) d
        (λ i h.
        sym (unwrap_or-slice_get (store_at ts n) i (Truth false))
        ∙ ap (λ o. unwrap_or o (Truth false)) (same_slot i (λ there. All-contains HasSameDigit slots i all (reads i there h)))
        ∙ unwrap_or-slice_get (store_at ts m) i (Truth false))

tried_alike : AtDigits → DigitsFit → (shape : Shape) (d : DxTree) (memo : Memo) → IsMemoOf shape d memo → (n m : ℕ) → n < shape_size shape → m < shape_size shape
    → number_in shape memo.slots.items n ≡ number_in shape memo.slots.items m → tried (shape_types shape) d n ≡ tried (shape_types shape) d m
tried_alike at_digits fit shape (dx_at at d) memo is n m low small same =
    ap (placed_at at) (same_chosen at_digits fit (shape_types shape) n m low small d memo.slots.items is.within is.reads same)

chosen_alike : (shape : Shape) (d : DxTree) (n m : ℕ) (c : Choice) → tried (shape_types shape) d n ≡ tried (shape_types shape) d m → m < shape_size shape
    → IsChosen shape d (n, c) → IsChosen shape d (m, c)
chosen_alike shape d n m c same small is = record {
  below = small;
  chosen = sym same ∙ is.chosen;
  total_is = is.total_is;
  some = is.some;
  weigh = is.weigh;
  formed = is.formed;
  kinded = is.kinded;
}

-- ---- a choice more

set_same : (xs : List ℕ) (i x : ℕ) → i < length xs → slice_get (set xs i x) i ≡ Some x
set_same [] i x within = absurd (omega arith)
set_same (y ∷ xs) zero x within = refl
set_same (y ∷ xs) (suc i) x within = set_same xs i x (omega arith)

set_other : (xs : List ℕ) (i j x : ℕ) → i ≢ j → slice_get (set xs j x) i ≡ slice_get xs i
set_other [] i j x apart = refl
set_other (y ∷ xs) zero zero x apart = absurd (apart refl)
set_other (y ∷ xs) (suc i) zero x apart = refl
set_other (y ∷ xs) zero (suc j) x apart = refl
set_other (y ∷ xs) (suc i) (suc j) x apart = set_other xs i j x (λ same. apart (ap suc same))

-- the choice that was pushed is the last one
pub pushed_last : (before after : List Choice) (c : Choice) (n : ℕ) → after ≡ before ++ c ∷ [] → n ≡ length after → slice_get after (n - 1) ≡ Some c
pushed_last before after c n more is =
    let long : length after ≡ length before + 1 = ap length more ∙ length-append before (c ∷ []) in
    let last : n - 1 ≡ length before + 0 = omega (arith, is, long) in
    ap (λ cs. slice_get cs (n - 1)) more ∙ slice_get-append_right before (c ∷ []) 0 (n - 1) last

module _ (at_digits : AtDigits) (fit : DigitsFit) (shape : Shape) (d : DxTree) (memo next : Memo) (is : IsMemoOf shape d memo) (store : ℕ) (low : store < shape_size shape)
    (choice : Choice) (chosen : IsChosen shape d (store, choice)) (same_slots : next.slots.items ≡ memo.slots.items) (more : kept next ≡ kept memo ++ choice ∷ [])
    (within : number_in shape memo.slots.items store < length memo.places.items)
    (told : next.places.items ≡ set memo.places.items (number_in shape memo.slots.items store) (length (kept next))) where
  long : length (kept next) ≡ length (kept memo) + 1
  long = ap length more ∙ length-append (kept memo) (choice ∷ [])

  last_kept : (k : ℕ) → suc k ≡ length (kept next) → slice_get (kept next) k ≡ Some choice
  last_kept k last = ap (λ cs. slice_get cs k) more ∙ slice_get-append_right (kept memo) (choice ∷ []) 0 k (omega (arith, last, long))

  abbrev Known : ℕ → ℕ → Type 0
  Known n k = (c : Choice) × (slice_get (kept next) k ≡ Some c) × IsChosen shape d (n, c)

  known_more : (n k : ℕ) → n < shape_size shape → slice_get next.places.items (number_in shape next.slots.items n) ≡ Some (suc k) → Known n k
  known_more n k small at =
      let number = number_in shape memo.slots.items n in
      let place = number_in shape memo.slots.items store in
      let here : slice_get (set memo.places.items place (length (kept next))) number ≡ Some (suc k) = rw (← told, ← same_slots) at in
      ⊎_elim
      (λ (same : (eqb number place ≡ true) × (number ≡ place)).
      let read : slice_get (set memo.places.items place (length (kept next))) number ≡ Some (length (kept next)) =
      ap (slice_get (set memo.places.items place (length (kept next)))) same.1 ∙ set_same memo.places.items place (length (kept next)) within in
      let last : suc k ≡ length (kept next) = (cc) in
      (choice, last_kept k last, chosen_alike shape d store n choice (tried_alike at_digits fit shape d memo is store n low small (sym same.1)) small chosen))
      (λ (other : (eqb number place ≡ false) × (number ≢ place)).
      let old = is.known n k small (sym (set_other memo.places.items number place (length (kept next)) other.1) ∙ here) in
      (old.0, ap (λ cs. slice_get cs k) more ∙ slice_get-append_left (kept memo) (choice ∷ []) k old.0 old.1, old.2))
      (eqb_tells number place)

  pub remembers : IsMemoOf shape d next
  remembers = record {
    within = rw same_slots is.within;
    reads = rw same_slots is.reads;
    room = λ some.
        let as_long : length next.places.items ≡ length memo.places.items = ap length told ∙ length-set memo.places.items (number_in shape memo.slots.items store) (length (kept next)) in
        rw same_slots (as_long ∙ is.room (omega (arith, as_long, some)));
    known = known_more;
  }

-- ---- what is read

pub some_places : (n : ℕ) (b : Bool) → b ≡ (n == 0) → b ≡ false → 0 < n
some_places n b is not = let differ : (n == 0) ≡ false = sym is ∙ not in grind (arith, nat_tests)

module _ (shape : Shape) (d : DxTree) (memo : Memo) (is : IsMemoOf shape d memo) (store number : ℕ) (number_is : number ≡ number_in shape memo.slots.items store) where
  pub number_within : 0 < length memo.places.items → number < span (shape_sizes shape) memo.slots.items → number < length memo.places.items
  number_within some below = omega (arith, is.room some, below)

  module _ (low : store < shape_size shape) (within : number < length memo.places.items) (known : ℕ) (read : known ≡ get_or memo.places.items number known) (some : 0 < known) where
    kept_there : (c : Choice) × (slice_get (kept memo) (known - 1) ≡ Some c) × IsChosen shape d (store, c)
    kept_there =
        let place : known ≡ suc (known - 1) = omega (arith, some) in
        is.known store (known - 1) low
        (ap (slice_get memo.places.items) (sym number_is) ∙ slice_get-get_or memo.places.items number known within ∙ ap (λ k. Some k) (sym read ∙ place))

    pub kept_at : IsKeptAt shape d store memo (known - 1)
    kept_at = record { choice = kept_there.0; there = kept_there.1; chosen = kept_there.2 }

    pub kept_within : known - 1 < length (kept memo)
    kept_within = slice_get_within (kept memo) (known - 1) kept_there.0 kept_there.1
