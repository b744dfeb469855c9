-- The classes of one more column, and what all of them make.
use Rattle.std.proofs.Common.{◌≡◌, ℕ, ◌+◌, ◌<◌, List, [], ◌∷◌, ◌++◌, Bool, true, false, map, sum_by, refl, sym, ap, subst, arith, if◌then◌else◌, Some}
use Rattle.std.proofs.Math.Nat.{dvd-add, dvd-mul_left}
use Rattle.std.proofs.lemmas.List.Elements.{All-head, All-tail, All-nil, All-cons, All-push, All-pop}
use Rattle.std.proofs.lemmas.List.Sums.{sum_by_push}
use Rattle.std.specs.Int.{◌∣◌}
use Rattle.kf_column.specs.declared.entry.Entry.{Entry}
use Rattle.kf_column.specs.Columns.{total, proportional}
use Rattle.kf_column.specs.Shapes.{IsBelow}
use Rattle.kf_column.specs.Joint.{mass}
use Rattle.kf_column.specs.Hypers.{IsInner, class_total}
use Rattle.kf_column.specs.Classes.{IsReduced, HasInner, ClassesOf, total_in}
use Rattle.kf_column.specs.Averages.{scaled}
use Rattle.kf_column.proofs.Inserting.{Inserts, fresh, past, paired, sum_inserts, all_inserts}
use Rattle.kf_column.proofs.Scaling.{product_positive, total_positive, total_reduced, proportional_reduced}

abbrev Pair : Type 0
Pair = List Entry × ℕ

pub if_adds : (b : Bool) (m n : ℕ) → (if b then m + n else 0) ≡ (if b then m else 0) + (if b then n else 0)
if_adds true m n = refl
if_adds false m n = refl

pub reduced_positive : (column inner : List Entry) → IsReduced column inner → 0 < total column
reduced_positive column inner is = rw (total_reduced column inner is) (product_positive is.factor (total inner) is.some (total_positive inner is.is_inner.column))

pub below_scaled : (size factor : ℕ) (inner : List Entry) → IsBelow size (map (scaled factor) inner) → IsBelow size inner
below_scaled size factor [] below = All-nil (λ (e : Entry). e.value < size)
below_scaled size factor (e ∷ es) below =
    All-cons (λ (e : Entry). e.value < size) e es (All-head (λ (e : Entry). e.value < size) (scaled factor e) (map (scaled factor) es) below)
    (below_scaled size factor es (All-tail (λ (e : Entry). e.value < size) (scaled factor e) (map (scaled factor) es) below))

below_reduced : (size factor : ℕ) (column inner : List Entry) → column ≡ map (scaled factor) inner → IsBelow size column → IsBelow size inner
below_reduced size factor column inner is below = below_scaled size factor inner (subst (IsBelow size) is below)

-- no columns have no classes
pub classes_none : ClassesOf [] []
classes_none = record {
  reduced = All-nil HasInner;
  inners = All-nil (λ (c : Pair). IsInner c.0);
  used = All-nil (λ (c : Pair). 0 < c.1);
  whole = All-nil (λ (c : Pair). total c.0 ∣ c.1);
  totals = λ inner is. refl;
  mass = refl;
  within = λ size below. All-nil (λ (c : Pair). IsBelow size c.0);
}

module _ {K : Type 0} (shown : K → List Entry) where
  pub classes_more : (columns : List (List Entry)) (column : List Entry) (key : K) {es fs : List (K × ℕ)} → IsReduced column (shown key) → ClassesOf columns (paired shown es) → Inserts shown key (total column) es fs
      → ClassesOf (columns ++ column ∷ []) (paired shown fs)
  classes_more columns column key {es} {fs} is had how =
      let t : ℕ = total column in
      let some : 0 < t = reduced_positive column (shown key) is in
      let divides : total (shown key) ∣ t = subst (λ (n : ℕ). total (shown key) ∣ n) (sym (total_reduced column (shown key) is)) (dvd-mul_left (total (shown key)) is.factor) in
      record {
        reduced = All-push HasInner columns column had.reduced (record { inner = (shown key); is_reduced = is });
        inners = all_inserts shown key t (λ (c : Pair). IsInner c.0) is.is_inner (λ n h. h) how had.inners;
        used = all_inserts shown key t (λ (c : Pair). 0 < c.1) some (λ n h. omega arith) how had.used;
        whole = all_inserts shown key t (λ (c : Pair). total c.0 ∣ c.1) divides (λ n h. dvd-add (total (shown key)) h divides) how had.whole;
        totals = λ inner is_inner.
            let grown : total_in (paired shown fs) inner ≡ total_in (paired shown es) inner + (if proportional (shown key) inner then t else 0) =
            sum_inserts shown key t (λ (k : List Entry) (n : ℕ). if proportional k inner then n else 0) (λ k a b. if_adds (proportional k inner) a b) how in
            let same : (if proportional (shown key) inner then t else 0) ≡ (if proportional column inner then t else 0) =
            ap (λ (b : Bool). if b then t else 0) (sym (proportional_reduced column (shown key) inner is)) in
            let push : class_total (columns ++ column ∷ []) inner ≡ class_total columns inner + (if proportional column inner then t else 0) =
            sum_by_push (λ (c : List Entry). if proportional c inner then total c else 0) columns column in
            omega (arith, grown, same, push, had.totals inner is_inner);
        mass =
            let grown : sum_by (λ (c : Pair). c.1) (paired shown fs) ≡ sum_by (λ (c : Pair). c.1) (paired shown es) + t =
            sum_inserts shown key t (λ (k : List Entry) (n : ℕ). n) (λ k a b. refl) how in
            let push : mass (columns ++ column ∷ []) ≡ mass columns + t = sum_by_push total columns column in
            omega (arith, grown, push, had.mass);
        within = λ size below.
            let parts = All-pop (IsBelow size) (columns ++ column ∷ []) columns (Some column) refl below in
            all_inserts shown key t (λ (c : Pair). IsBelow size c.0) (below_reduced size is.factor column (shown key) is.multiple parts.1) (λ n h. h) how (had.within size parts.0);
      }

-- ---- the class of one more column, put behind the others

abbrev pub itself : List Entry → List Entry
itself l = l

pub paired_itself : (es : List Pair) → paired itself es ≡ es
paired_itself [] = refl
paired_itself (e ∷ es) = λ i. e ∷ paired_itself es i

pub put_behind : (key : List Entry) (t : ℕ) (es : List Pair) → Inserts itself key t es (es ++ (key, t) ∷ [])
put_behind key t [] = fresh []
put_behind key t (e ∷ es) = past e es (es ++ (key, t) ∷ []) (put_behind key t es)
