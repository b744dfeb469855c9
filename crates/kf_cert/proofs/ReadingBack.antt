-- The certificate that is written of a verdict is read back.
use Rattle.std.proofs.Common.{◌≡◌, ℕ, suc, ◌≤◌, List, [], ◌∷◌, map, false, Option, None, Some, Err, Result, IsUtf8, codes, refl, ap, ◌∙◌, arith}
use Rattle.std.specs.Prelude.{All}
use Rattle.std.specs.Fmt.{decimal, signed_decimal}
use Rattle.std.proofs.lemmas.List.Elements.{All-head, All-tail}
use Rattle.json.proofs.Printed.Utf8.{IsUtf8-are_ascii}
use Rattle.serde_json.specs.Data.{Data, string, array, depth, items_depth}
use Rattle.serde_json.specs.Read.{of_json, of_items, max_depth}
use Rattle.serde_json.specs.Written.{outline, items_outline, has_float, items_have_float}
use Rattle.kf_frac.specs.Fractions.{fraction_text}
use Rattle.kf_value.specs.Targets.{Item, target_value_text}
use Rattle.kf_json.specs.Json.{json_of}
use Rattle.kf_json.proofs.Viewing.{json_read}
use Rattle.kf_gain.specs.declared.table.Action.{Action}
use Rattle.kf_gain.specs.declared.table.GainEntry.{GainEntry}
use Rattle.kf_gain.specs.Gains.{TableTree}
use Rattle.kf_cert.specs.Shapes.{IsWritable, IsWritableAction}
use Rattle.kf_refine.specs.Verdicts.{VerdictTree}
use Rattle.kf_refine.specs.Verdicts as verdict
use Rattle.kf_cert.specs.Certificates.{CertTree, EntryTree, NamedTree}
use Rattle.kf_cert.specs.Parts.{cert_in, entry_data, gain_data, no_data}
use Rattle.kf_cert.specs.CertTexts.{items, named_data, named_of, action_data, cert_data, cert_text}
use Rattle.kf_cert.specs.Laws.{ReadsBack}
use Rattle.kf_cert.specs.Views.{IsPrintable}
use Rattle.kf_cert.specs.declared.cert.CertError.{CertError}
use Rattle.kf_cert.specs.declared.cert.CertError.TheVariants as broken
use Rattle.kf_cert.proofs.EndsInLf.{AreTexts, ItemsAreTexts, line_utf8, line_read}
use Rattle.kf_cert.proofs.PlainTexts.{decimal_utf8, signed_utf8, fraction_utf8, target_value_utf8, name_utf8}
use Rattle.kf_cert.proofs.SaidBack.{cert_back}

-- ---- lists of what is written

-- texts alone, nested no deeper than that, and read as it is
record IsReadable (deep : ℕ) (d : Data) : Type 0 where
  texts : AreTexts d
  shallow : depth d ≤ deep
  ordered : of_json (outline d) ≡ Some d
  whole : has_float d ≡ false

record AreReadable (deep : ℕ) (ds : List Data) : Type 0 where
  texts : ItemsAreTexts (items ds)
  shallow : items_depth (items ds) ≤ deep
  ordered : of_items (items_outline (items ds)) ≡ Some (items ds)
  whole : items_have_float (items ds) ≡ false

readable_more : (deep : ℕ) (d : Data) (ds : List Data) → IsReadable deep d → AreReadable deep ds → AreReadable deep (d ∷ ds)
readable_more deep d ds first rest = record {
  texts = (first.texts, rest.texts);
  shallow = omega (arith, first.shallow, rest.shallow);
  ordered = rw (first.ordered, rest.ordered) refl;
  whole = rw first.whole rest.whole;
}

module _ {X : Type 0} (P : X → Type 0) (deep : ℕ) (write : X → Data) (each : (x : X) → P x → IsReadable deep (write x)) where
  readable_each : (xs : List X) → All P xs → AreReadable deep (map write xs)
  readable_each [] all = record { texts = tt; shallow = omega arith; ordered = refl; whole = refl }
  readable_each (x ∷ xs) all = readable_more deep (write x) (map write xs) (each x (All-head P x xs all)) (readable_each xs (All-tail P x xs all))

readable_list : (deep : ℕ) (ds : List Data) → AreReadable deep ds → IsReadable (suc deep) (array (items ds))
readable_list deep ds all = record {
  texts = all.texts;
  shallow = omega (arith, all.shallow);
  ordered = rw all.ordered refl;
  whole = all.whole;
}

anything : {X : Type 0} (xs : List X) → All (λ (x : X). Unit {0}) xs
anything xs i d within = tt

readable_string : (bytes : List ℕ) → IsUtf8 bytes → IsReadable 0 (string bytes)
readable_string bytes utf8 = record { texts = utf8; shallow = omega arith; ordered = refl; whole = refl }

-- ---- a yes

entry_readable : (e : EntryTree) → IsReadable 1 (entry_data e)
entry_readable e =
    readable_list 0 (string (decimal e.row) ∷ string (decimal e.column) ∷ string (fraction_text e.value.num e.value.den) ∷ [])
    (readable_more 0 _ _ (readable_string (decimal e.row) (decimal_utf8 e.row))
    (readable_more 0 _ _ (readable_string (decimal e.column) (decimal_utf8 e.column))
    (readable_more 0 _ [] (readable_string (fraction_text e.value.num e.value.den) (fraction_utf8 e.value.num e.value.den))
    (record { texts = tt; shallow = omega arith; ordered = refl; whole = refl }))))

named_readable : (t : NamedTree) → IsReadable max_depth (named_data t)
named_readable t =
    let entries : IsReadable 2 (array (items (map entry_data t.entries))) =
    readable_list 1 (map entry_data t.entries) (readable_each (λ (e : EntryTree). Unit {0}) 1 entry_data (λ e h. entry_readable e) t.entries (anything t.entries)) in
    record {
      texts = (
        IsUtf8-are_ascii (codes "columns") refl,
        decimal_utf8 t.columns,
        (
          IsUtf8-are_ascii (codes "entries") refl,
          entries.texts,
          (
            IsUtf8-are_ascii (codes "format") refl,
            IsUtf8-are_ascii (codes "kuifje-cert-2") refl,
            (
              IsUtf8-are_ascii (codes "rows") refl,
              decimal_utf8 t.rows,
              (IsUtf8-are_ascii (codes "verdict") refl, IsUtf8-are_ascii (codes "yes") refl, tt),
            ),
          ),
        ),
      );
      shallow = omega (arith, entries.shallow);
      ordered = rw entries.ordered refl;
      whole = rw entries.whole refl;
    }

-- ---- a no

module _ (target : List Item) where
  gain_readable : (e : GainEntry) → IsReadable 1 (gain_data target e)
  gain_readable e =
      readable_list 0 (string (target_value_text target e.value) ∷ string (signed_decimal e.gain) ∷ [])
      (readable_more 0 _ _ (readable_string (target_value_text target e.value) (target_value_utf8 target e.value))
      (readable_more 0 _ [] (readable_string (signed_decimal e.gain) (signed_utf8 e.gain)) (record { texts = tt; shallow = omega arith; ordered = refl; whole = refl })))

  action_readable : (a : Action) → IsWritableAction target a → IsReadable 3 (action_data target a)
  action_readable a can =
      let gains : IsReadable 2 (array (items (map (gain_data target) a.gains))) =
      readable_list 1 (map (gain_data target) a.gains) (readable_each (λ (e : GainEntry). Unit {0}) 1 (gain_data target) (λ e h. gain_readable e) a.gains (anything a.gains)) in
      record {
        texts = (IsUtf8-are_ascii (codes "gains") refl, gains.texts, (IsUtf8-are_ascii (codes "name") refl, name_utf8 a.name can.name, tt));
        shallow = omega (arith, gains.shallow);
        ordered = rw gains.ordered refl;
        whole = rw gains.whole refl;
      }

  no_readable : (t : TableTree) → IsWritable target (verdict.No t) → IsReadable max_depth (no_data target t)
  no_readable t can =
      let actions : IsReadable 4 (array (items (map (action_data target) t.actions))) =
      readable_list 3 (map (action_data target) t.actions) (readable_each (IsWritableAction target) 3 (action_data target) action_readable t.actions can) in
      record {
        texts = (
          IsUtf8-are_ascii (codes "actions") refl,
          actions.texts,
          (
            IsUtf8-are_ascii (codes "format") refl,
            IsUtf8-are_ascii (codes "kuifje-cert-2") refl,
            (
              IsUtf8-are_ascii (codes "over") refl,
              decimal_utf8 t.over,
              (
                IsUtf8-are_ascii (codes "rest") refl,
                signed_utf8 t.rest,
                (IsUtf8-are_ascii (codes "verdict") refl, IsUtf8-are_ascii (codes "no") refl, tt),
              ),
            ),
          ),
        );
        shallow = omega (arith, actions.shallow);
        ordered = rw actions.ordered refl;
        whole = rw actions.whole refl;
      }

cert_readable : (target : List Item) (v : VerdictTree) → IsWritable target v → IsReadable max_depth (cert_data target v)
cert_readable target (verdict.Yes rows) can = named_readable (named_of rows)
cert_readable target (verdict.No t) can = no_readable target t can

-- a verdict's value has no number
pub cert_has_no_float : (target : List Item) (v : VerdictTree) → IsWritable target v → has_float (cert_data target v) ≡ false
cert_has_no_float target v can = (cert_readable target v can).whole

-- ---- the law

printable_writable : (target : List Item) (v : VerdictTree) → IsPrintable target v → IsWritable target v
printable_writable target (verdict.Yes rows) can = tt
printable_writable target (verdict.No t) can = can.1

json_back : (target : List Item) (v : VerdictTree) → IsPrintable target v → json_of (cert_text target v) ≡ Some (cert_data target v)
json_back target v can =
    let d : Data = cert_data target v in
    let is : IsReadable max_depth d = cert_readable target v (printable_writable target v can) in
    json_read (cert_text target v) d (line_utf8 d is.texts) (line_read d is.texts is.shallow is.ordered)

pub reads_back : ReadsBack
reads_back target v can =
    ap (λ (o : Option Data). elim o as (λ x. Result CertTree CertError) [ None ↦ Err broken.Json | Some d ↦ cert_in d ]) (json_back target v can)
    ∙ cert_back target v can
