-- Objects and lists to which texts are added, one after the other.
use Rattle.std.proofs.Common.{◌≡◌, ℕ, List, [], ◌∷◌, ◌++◌, Result, Ok, String, IfOk, map, length, refl, ap, subst, rules, ◌∙◌, codes, decimal, string_bytes}
use Rattle.std.specs.Fmt.{signed_decimal}
use Rattle.std.specs.declared.alloc.Global.{Global}
use Rattle.serde_json.specs.Data.{Data, Items, item, Members, member, no_members, put, array, object, string}
use Rattle.serde_json.specs.View.{items_of, items_view, view}
use Rattle.serde_json.specs.declared.value.Value.{Value, the_lemmas}
use Rattle.serde_json.specs.declared.value.Value.TheVariants as json
use Rattle.kf_value.specs.Targets.{Item}
use Rattle.kf_gain.specs.Gains.{TableTree}
use Rattle.kf_refine.specs.Refinements.{Fraction}
use Rattle.kf_cert.specs.CertTexts.{items, named_of, named_data, action_data}
use Rattle.kf_cert.specs.Parts.{entry_data, no_data}
use Rattle.kf_cert.specs.Order.{widest, rows_entries}

module _ {E : Type 0} (text : Result (String Global) E) (bytes : List ℕ) (told : IfOk text (λ s. string_bytes s ≡ bytes)) where
  pub text_put : (key : List ℕ) (before made after : Members) → ((b : List ℕ) → IfOk text (λ s. string_bytes s ≡ b) → after ≡ put key (string b) before) → before ≡ made
      → after ≡ put key (string bytes) made
  text_put key before made after next is = next bytes told ∙ ap (put key (string bytes)) is

  pub text_added : (before made after : List Data) → ((b : List ℕ) → IfOk text (λ s. string_bytes s ≡ b) → after ≡ before ++ string b ∷ []) → before ≡ made
      → after ≡ made ++ string bytes ∷ []
  text_added before made after next is = next bytes told ∙ ap (λ (ds : List Data). ds ++ string bytes ∷ []) is

pub text_view : (s : String Global) → view (json.String s) ≡ string (string_bytes s)
text_view s = search (rules, the_lemmas)

pub text_told : {E : Type 0} (text : Result (String Global) E) (s : String Global) (bytes : List ℕ) → text ≡ Ok s → IfOk text (λ s. string_bytes s ≡ bytes) → view (json.String s) ≡ string bytes
text_told {E} text s bytes is told = text_view s ∙ ap string (subst (λ (r : Result (String Global) E). IfOk r (λ s. string_bytes s ≡ bytes)) is told)

same_items : (ds : List Data) → items_of ds ≡ items ds
same_items [] = refl
same_items (d ∷ ds) = ap (item d) (same_items ds)

pub listed : (vs : List Value) (ds : List Data) → map view vs ≡ ds → array (items_view vs) ≡ array (items ds)
listed vs ds same = ap (λ (is : Items). array is) (ap items_of same ∙ same_items ds)

-- the members with which each certificate begins
abbrev pub started : List ℕ → List ℕ → Data → Members
started verdict key d = put (codes "verdict") (string verdict) (put (codes "format") (string (codes "kuifje-cert-2")) (member key d no_members))

pub named_made : (rows : List (List Fraction)) (m : Members) (d : Data) (w n : ℕ)
    → m ≡ put (codes "rows") (string (decimal n)) (put (codes "columns") (string (decimal w)) (started (codes "yes") (codes "entries") d))
    → d ≡ array (items (map entry_data (rows_entries 0 rows))) → w ≡ widest rows → n ≡ length rows → object m ≡ named_data (named_of rows)
named_made rows m d w n is each wide many =
    ap object is
    ∙ (λ i. object (member (codes "columns") (string (decimal (wide i))) (member (codes "entries") (each i)
    (member (codes "format") (string (codes "kuifje-cert-2")) (member (codes "rows") (string (decimal (many i)))
    (member (codes "verdict") (string (codes "yes")) no_members))))))

pub no_made : (target : List Item) (t : TableTree) (m : Members) (d : Data)
    → m ≡ put (codes "rest") (string (signed_decimal t.rest)) (put (codes "over") (string (decimal t.over)) (started (codes "no") (codes "actions") d))
    → d ≡ array (items (map (action_data target) t.actions)) → object m ≡ no_data target t
no_made target t m d is each =
    ap object is
    ∙ (λ i. object (member (codes "actions") (each i) (member (codes "format") (string (codes "kuifje-cert-2"))
    (member (codes "over") (string (decimal t.over)) (member (codes "rest") (string (signed_decimal t.rest))
    (member (codes "verdict") (string (codes "no")) no_members))))))
