use Rattle.std.proofs.Common.{◌≡◌, ◌++◌, ◌-◌, ◌<◌, ℕ, List, [], ◌∷◌, map, take, drop, length, get_or, codes, arith, append-nil, append_assoc, refl, sym, ap, ◌∙◌}
use Rattle.std.proofs.lemmas.List.{drop_all, take_rest}
use Rattle.std.specs.List.{flat_map}
use Rattle.kf_value.specs.declared.value.Value.{Value}
use Rattle.kf_value.specs.Texts.{text, separated}
use Rattle.kf_value.specs.Views.{value_tree}
use Rattle.kf_cert.proofs.Pieces.{piece_added}
use Rattle.kf_text.proofs.Printing.{behind}
use Rattle.kf_text.proofs.items.print_values.Goals as goal

pub loop-value-preserved : goal.loop-value-preserved
loop-value-preserved c =
    piece_added (λ _ vs. flat_map (λ u. codes ", " ++ u) (map text (map value_tree vs))) (λ _ v. codes ", " ++ text (value_tree v)) (λ _ v vs. refl)
    (take (length c.args.values.now - 1) (drop 1 c.args.values.now)) c.loop-value.value-index c.value-item.result
    c.loop-value.out.items c.print_value-in-loop-value.new.out.items _ c.loop-value-test.true c.value-item.is
    (behind (codes ", ") (text (value_tree c.value-item.result)) _ _ _ c.in_ok-print_bytes.ensures c.in_ok-print_value-2.ensures.printed) c.loop-value.invariant

-- the texts of the values after the first, each with what stands before it
abbrev further : List Value → List ℕ
further vs = flat_map (λ u. codes ", " ++ u) (map text (map value_tree vs))

-- the text of the first value stands, and then those of the further ones
all_printed : (values : List Value) (first : Value) (out begun : List ℕ) → 0 < length values → first ≡ get_or values 0 first → begun ≡ out ++ text (value_tree first)
    → begun ++ further (take (length values - 1) (drop 1 values)) ≡ out ++ separated (map text (map value_tree values))
all_printed [] first out begun some is added = absurd (omega arith)
all_printed (v ∷ others) first out begun some is added = rw (take_rest (v ∷ others) 1, added, append_assoc, is) refl

pub returns : goal.returns
returns c =
    let others = take (length c.args.values.now - 1) (drop 1 c.args.values.now) in
    sym (append-nil c.loop-value.out.items)
    ∙ sym (ap (λ vs. c.loop-value.out.items ++ further vs) (drop_all c.loop-value.value-index others c.loop-value-test.false)) ∙ c.loop-value.invariant
    ∙ all_printed c.args.values.now c.first-item.result c.args.out.now.items c.print_value.new.out.items (omega arith) c.first-item.is c.in_ok-print_value.ensures.printed
