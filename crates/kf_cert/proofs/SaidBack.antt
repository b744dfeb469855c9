-- The JSON value that is written of a verdict keeps all rules, and says the verdict.
use Rattle.std.proofs.Common.{◌≡◌, ◌≢◌, ℕ, ◌<◌, ◌≤◌, ◌^◌, nat_le, List, [], ◌∷◌, ◌++◌, length, map, Bool, true, not, ◌&&◌, Option, None, Some, Ok, Err, Result, refl, ap, ap₂, ◌∙◌, arith}
use Rattle.std.proofs.Math.IntN.{ℤ, pos}
use Rattle.std.specs.Prelude.{All, ⊤, decimal, int_le, unsigned_abs, flat_map}
use Rattle.std.specs.Fmt.{signed_decimal}
use Rattle.std.specs.List.{list_all}
use Rattle.std.proofs.lemmas.Bool.{le-leb}
use Rattle.std.proofs.lemmas.List.Elements.{All-nil, All-cons, All-head, All-tail}
use Rattle.serde_json.specs.Data.{Data, string}
use Rattle.kf_frac.specs.Fractions.{limit, fraction_text}
use Rattle.kf_value.specs.Targets.{Item, target_value_text}
use Rattle.kf_json.specs.Json.{listed, at_place, text_of}
use Rattle.kf_json.specs.Rules.{is_name, first_broken}
use Rattle.kf_gain.specs.declared.table.Action.{Action}
use Rattle.kf_gain.specs.declared.table.GainEntry.{GainEntry}
use Rattle.kf_gain.specs.Gains.{TableTree}
use Rattle.kf_gain.specs.Shapes.{IsTableShape}
use Rattle.kf_gain.specs.Tables.{is_action}
use Rattle.kf_refine.specs.Refinements.{Fraction}
use Rattle.kf_cert.specs.Shapes.{IsWritable, IsWritableAction}
use Rattle.kf_refine.specs.Verdicts.{VerdictTree}
use Rattle.kf_refine.specs.Verdicts as verdict
use Rattle.kf_cert.specs.Numbers.{whole_said}
use Rattle.kf_cert.specs.Certificates.{CertTree, Named, No, EntryTree, NamedTable, NamedTree, is_size, is_entry, has_entries, has_numbers, has_actions, is_gain, is_named_action, is_narrow, is_narrow_fraction, is_narrow_whole, is_narrow_entry, are_narrow_entries, rules, size_said, named_said, table_said, cert_said}
use Rattle.kf_cert.specs.Parts.{entry_said, action_said, cert_in, entry_data, gain_data, no_data}
use Rattle.kf_cert.specs.CertTexts.{items, named_data, named_of, action_data, cert_data}
use Rattle.kf_cert.specs.Views.{IsLowest, IsPrintable, IsPrintableMatrix, named_by, read_back}
use Rattle.kf_cert.specs.declared.cert.CertAction.{CertAction}
use Rattle.kf_cert.specs.declared.cert.CertEntry.{CertEntry}
use Rattle.kf_cert.specs.declared.cert.CertError.{CertError}
use Rattle.kf_cert.proofs.Decimals.{whole_text, whole_is, no_minus, numerator_read, denominator_read, fraction_is_text, fraction_read}
use Rattle.kf_cert.proofs.NamedRows.{IsGoodEntry, all_good, in_order}
use Rattle.kf_cert.specs.Forms.{narrow, is_narrow_action}
use Rattle.kf_cert.specs.Order.{is_in_order, widest}

-- ---- lists

listed_items : (ds : List Data) → listed (items ds) ≡ ds
listed_items [] = refl
listed_items (d ∷ ds) = ap (λ (l : List Data). d ∷ l) (listed_items ds)

module _ {X : Type 0} (P : X → Type 0) where
  -- what is written of each passes
  each_passes : (p : Data → Bool) (write : X → Data) → ((x : X) → P x → p (write x) ≡ true) → (xs : List X) → All P xs → list_all p (listed (items (map write xs))) ≡ true
  each_passes p write passes [] all = refl
  each_passes p write passes (x ∷ xs) all =
      ap₂ (λ (a b : Bool). a && b) (passes x (All-head P x xs all)) (each_passes p write passes xs (All-tail P x xs all))

  -- what is written of each is read as that
  each_read : {Y : Type 0} (read : Data → Y) (write : X → Data) (is : X → Y) → ((x : X) → P x → read (write x) ≡ is x) → (xs : List X) → All P xs
      → map read (listed (items (map write xs))) ≡ map is xs
  each_read read write is reads [] all = refl
  each_read read write is reads (x ∷ xs) all =
      ap₂ (λ a b. a ∷ b) (reads x (All-head P x xs all)) (each_read read write is reads xs (All-tail P x xs all))

  all_front : (xs ys : List X) → All P (xs ++ ys) → All P xs
  all_front [] ys all = All-nil P
  all_front (x ∷ xs) ys all = All-cons P x xs (All-head P x (xs ++ ys) all) (all_front xs ys (All-tail P x (xs ++ ys) all))

  all_back : (xs ys : List X) → All P (xs ++ ys) → All P ys
  all_back [] ys all = all
  all_back (x ∷ xs) ys all = all_back xs ys (All-tail P x (xs ++ ys) all)

map_same : {X : Type 0} (xs : List X) → map (λ (x : X). x) xs ≡ xs
map_same [] = refl
map_same (x ∷ xs) = ap (λ l. x ∷ l) (map_same xs)

-- ---- rules that hold

abbrev Hold : {E : Type 0} → List (Bool × E) → Type 0
Hold [] = ⊤
Hold (r ∷ rs) = (r.0 ≡ true) × Hold rs

none_broken : {E : Type 0} (rs : List (Bool × E)) → Hold rs → first_broken rs None ≡ None
none_broken [] h = refl
none_broken (r ∷ rs) h = rw h.0 (none_broken rs h.1)

said : (d : Data) → Hold (rules d) → cert_in d ≡ Ok (cert_said d)
said d h = ap (λ (o : Option CertError). elim o as (λ x. Result CertTree CertError) [ None ↦ Ok (cert_said d) | Some e ↦ Err e ]) (none_broken (rules d) h)

-- ---- a yes

narrow_is : (z : ℤ) → unsigned_abs z ≤ limit → is_narrow z ≡ true
narrow_is z h = le-leb (unsigned_abs z) limit h

fraction_narrow : (f : Fraction) → IsLowest f → is_narrow_fraction (string (fraction_text f.num f.den)) ≡ true
fraction_narrow f low =
    ap₂ (λ (z : ℤ) (d : ℕ). is_narrow z && nat_le d limit) (numerator_read f low) (denominator_read f low)
    ∙ ap₂ (λ (a b : Bool). a && b) (narrow_is f.num low.narrow_num) (le-leb f.den limit low.narrow_den)

module _ (n : ℕ) (fits : n ≤ limit) where
  small : n < 10 ^ 64
  small = omega (arith, fits)

  size_back : whole_said (decimal n) ≡ pos n
  size_back = whole_is (pos n) small

  -- a size passes, is narrow, and is said
  size_passes : is_size (string (decimal n)) ≡ true
  size_passes = ap₂ (λ (a b : Bool). a && b) (whole_text (pos n) small) (ap not (no_minus n small))

  size_narrow : is_narrow_whole (string (decimal n)) ≡ true
  size_narrow = ap is_narrow size_back ∙ narrow_is (pos n) fits

  size_is : size_said (string (decimal n)) ≡ n
  size_is = ap unsigned_abs size_back

-- an entry at a place that numbers name
record IsWritableEntry (e : EntryTree) : Type 0 where
  row : e.row ≤ limit
  column : e.column ≤ limit
  value : IsLowest e.value

entry_passes : (e : EntryTree) → IsWritableEntry e → is_entry (entry_data e) ≡ true
entry_passes e good =
    ap₂ (λ (a b : Bool). a && b) (size_passes e.row good.row)
    (ap₂ (λ (a b : Bool). a && b) (size_passes e.column good.column) (fraction_is_text e.value good.value))

entry_narrow : (e : EntryTree) → IsWritableEntry e → is_narrow_entry (entry_data e) ≡ true
entry_narrow e good =
    ap₂ (λ (a b : Bool). a && b) (size_narrow e.row good.row)
    (ap₂ (λ (a b : Bool). a && b) (size_narrow e.column good.column) (fraction_narrow e.value good.value))

entry_read : (e : EntryTree) → IsWritableEntry e → entry_said (entry_data e) ≡ e
entry_read e good i = record {
  row = size_is e.row good.row i;
  column = size_is e.column good.column i;
  value = fraction_read e.value good.value i;
}

-- named entries that can be written, in their order
module _ (t : NamedTree) (rows : t.rows ≤ limit) (columns : t.columns ≤ limit) (good : All IsWritableEntry t.entries) (ordered : is_in_order t ≡ true) where
  entries_pass : has_entries (named_data t) ≡ true
  entries_pass =
      ap₂ (λ (a b : Bool). a && b) (size_passes t.rows rows)
      (ap₂ (λ (a b : Bool). a && b) (size_passes t.columns columns) (each_passes IsWritableEntry is_entry entry_data entry_passes t.entries good))

  entries_fit : are_narrow_entries (named_data t) ≡ true
  entries_fit =
      ap₂ (λ (a b : Bool). a && b) (size_narrow t.rows rows)
      (ap₂ (λ (a b : Bool). a && b) (size_narrow t.columns columns) (each_passes IsWritableEntry is_narrow_entry entry_data entry_narrow t.entries good))

  named_back : named_said (named_data t) ≡ t
  named_back i = record {
    rows = size_is t.rows rows i;
    columns = size_is t.columns columns i;
    entries = (each_read IsWritableEntry entry_said entry_data (λ (e : EntryTree). e) entry_read t.entries good ∙ map_same t.entries) i;
  }

  entries_said : cert_in (named_data t) ≡ Ok (Named t)
  entries_said =
      said (named_data t) (refl, (refl, (refl, (entries_pass, (refl, (refl, (entries_fit, (ap is_in_order named_back ∙ ordered, tt))))))))
      ∙ ap (λ (m : NamedTree). Ok (Named m)) named_back

yes_said : (rows : List (List Fraction)) → IsPrintableMatrix rows → cert_in (named_data (named_of rows)) ≡ Ok (Named (named_of rows))
yes_said rows can =
    entries_said (named_of rows) can.small.rows can.small.columns
    (λ k d within. writable (all_good rows can.lowest k d within)) (in_order rows can.lowest)
  where
    writable : {e : EntryTree} → IsGoodEntry (length rows) (widest rows) e → IsWritableEntry e
    writable good = record {
      row = omega (arith, good.row, can.small.rows);
      column = omega (arith, good.column, can.small.columns);
      value = good.value;
    }

-- ---- a no

abbrev IsNarrow : ℤ → Type 0
IsNarrow z = unsigned_abs z ≤ limit

abbrev HasNarrowGains : Action → Type 0
HasNarrowGains a = All (λ (e : GainEntry). IsNarrow e.gain) a.gains

entries_narrow : (gains : List GainEntry) → All IsNarrow (map (λ e. e.gain) gains) → All (λ (e : GainEntry). IsNarrow e.gain) gains
entries_narrow [] all = All-nil (λ (e : GainEntry). IsNarrow e.gain)
entries_narrow (e ∷ gains) all =
    let others : List ℤ = map (λ (f : GainEntry). f.gain) gains in
    All-cons (λ (f : GainEntry). IsNarrow f.gain) e gains (All-head IsNarrow e.gain others all) (entries_narrow gains (All-tail IsNarrow e.gain others all))

actions_narrow : (actions : List Action) → All IsNarrow (flat_map (λ a. map (λ e. e.gain) a.gains) actions) → All HasNarrowGains actions
actions_narrow [] all = All-nil HasNarrowGains
actions_narrow (a ∷ actions) all =
    let here : List ℤ = map (λ (e : GainEntry). e.gain) a.gains in
    let others : List ℤ = flat_map (λ (b : Action). map (λ (e : GainEntry). e.gain) b.gains) actions in
    All-cons HasNarrowGains a actions (entries_narrow a.gains (all_front IsNarrow here others all)) (actions_narrow actions (all_back IsNarrow here others all))

below_ten_to_64 : (z : ℤ) → IsNarrow z → unsigned_abs z < 10 ^ 64
below_ten_to_64 z narrow = omega (arith, narrow)

at_least_one : (n : ℕ) → 0 < n → int_le (pos 1) (pos n) ≡ true
at_least_one n some = le-leb 1 n some

both_named : (target : List Item) (actions : List Action) → All (IsWritableAction target) actions → All HasNarrowGains actions → All (λ (a : Action). (is_name (string a.name) ≡ true) × HasNarrowGains a) actions
both_named target actions named fit i d within = ((named i d within).name, fit i d within)

module _ (target : List Item) where
  abbrev IsGood : Action → Type 0
  IsGood a = (is_name (string a.name) ≡ true) × HasNarrowGains a

  gain_passes : (e : GainEntry) → IsNarrow e.gain → is_gain (gain_data target e) ≡ true
  gain_passes e fits = whole_text e.gain (below_ten_to_64 e.gain fits)

  gain_narrow : (e : GainEntry) → IsNarrow e.gain → is_narrow_whole (string (signed_decimal e.gain)) ≡ true
  gain_narrow e fits = ap is_narrow (whole_is e.gain (below_ten_to_64 e.gain fits)) ∙ narrow_is e.gain fits

  action_passes : (a : Action) → IsGood a → is_named_action (action_data target a) ≡ true
  action_passes a good = ap₂ (λ (x y : Bool). x && y) good.0 (each_passes (λ (e : GainEntry). IsNarrow e.gain) is_gain (gain_data target) gain_passes a.gains good.1)

  action_narrow : (a : Action) → IsGood a → is_narrow_action (action_data target a) ≡ true
  action_narrow a good = each_passes (λ (e : GainEntry). IsNarrow e.gain) (λ (g : Data). is_narrow_whole (at_place 1 g)) (gain_data target) gain_narrow a.gains good.1

  abbrev entry_back : GainEntry → CertEntry
  entry_back e = record { value = target_value_text target e.value; gain = e.gain }

  abbrev gain_said : Data → CertEntry
  gain_said g = record { value = text_of (at_place 0 g); gain = whole_said (text_of (at_place 1 g)) }

  gain_back : (e : GainEntry) → IsNarrow e.gain → gain_said (gain_data target e) ≡ entry_back e
  gain_back e fits = ap (λ (z : ℤ). record { value = target_value_text target e.value; gain = z }) (whole_is e.gain (below_ten_to_64 e.gain fits))

  abbrev action_named : Action → CertAction
  action_named a = record { name = a.name; gains = map entry_back a.gains }

  action_back : (a : Action) → IsGood a → action_said (action_data target a) ≡ action_named a
  action_back a good = ap (λ (gs : List CertEntry). record { name = a.name; gains = gs }) (each_read (λ (e : GainEntry). IsNarrow e.gain) gain_said (gain_data target) entry_back gain_back a.gains good.1)

  some_actions : (actions : List Action) → actions ≢ [] → nat_le 1 (length (listed (items (map (action_data target) actions)))) ≡ true
  some_actions [] some = absurd (some refl)
  some_actions (a ∷ actions) some = le-leb 1 _ (omega arith)

  module _ (t : TableTree) (shape : IsTableShape t) (writable : IsWritable target (verdict.No t)) where
    good_actions : All IsGood t.actions
    good_actions = both_named target t.actions writable (actions_narrow t.actions (All-tail IsNarrow t.rest (flat_map (λ (a : Action). map (λ (e : GainEntry). e.gain) a.gains) t.actions) shape.within))

    rest_narrow : IsNarrow t.rest
    rest_narrow = All-head IsNarrow t.rest (flat_map (λ (a : Action). map (λ (e : GainEntry). e.gain) a.gains) t.actions) shape.within

    over_small : t.over < 10 ^ 64
    over_small = omega (arith, shape.narrow)

    over_back : whole_said (decimal t.over) ≡ pos t.over
    over_back = whole_is (pos t.over) over_small

    rest_back : whole_said (signed_decimal t.rest) ≡ t.rest
    rest_back = whole_is t.rest (below_ten_to_64 t.rest rest_narrow)

    numbers_pass : has_numbers (no_data target t) ≡ true
    numbers_pass =
        ap₂ (λ (x y : Bool). x && y) (whole_text (pos t.over) over_small)
        (ap₂ (λ (x y : Bool). x && y) (whole_text t.rest (below_ten_to_64 t.rest rest_narrow)) (ap (int_le (pos 1)) over_back ∙ at_least_one t.over shape.positive))

    actions_pass : has_actions (no_data target t) ≡ true
    actions_pass =
        ap₂ (λ (x y : Bool). x && y) (some_actions t.actions shape.some) (each_passes IsGood is_action (action_data target) (λ a good. refl) t.actions good_actions)

    fits : narrow (no_data target t) ≡ true
    fits =
        ap₂ (λ (x y : Bool). x && y) (ap is_narrow over_back ∙ narrow_is (pos t.over) shape.narrow)
        (ap₂ (λ (x y : Bool). x && y) (ap is_narrow rest_back ∙ narrow_is t.rest rest_narrow) (each_passes IsGood is_narrow_action (action_data target) action_narrow t.actions good_actions))

    table_back : table_said (no_data target t) ≡ named_by target t
    table_back i = record {
      over = unsigned_abs (over_back i);
      rest = rest_back i;
      actions = each_read IsGood action_said (action_data target) action_named action_back t.actions good_actions i;
    }

    no_said : cert_in (no_data target t) ≡ Ok (No (named_by target t))
    no_said =
        said (no_data target t) (refl, (refl, (refl, (refl, (ap₂ (λ (x y : Bool). x && y) numbers_pass actions_pass, (each_passes IsGood is_named_action (action_data target) action_passes t.actions good_actions, (fits, (refl, tt))))))))
        ∙ ap (λ (n : NamedTable). Ok (No n)) table_back

pub cert_back : (target : List Item) (v : VerdictTree) → IsPrintable target v → cert_in (cert_data target v) ≡ Ok (read_back target v)
cert_back target (verdict.Yes rows) can = yes_said rows can
cert_back target (verdict.No t) can = no_said target t can.0 can.1
