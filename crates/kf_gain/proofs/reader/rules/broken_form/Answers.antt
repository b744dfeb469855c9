use Rattle.std.proofs.Common.{◌≡◌, ◌∙◌, sym, ap, codes, take, drop, true}
use Rattle.serde_json.specs.View.{view}
use Rattle.kf_json.specs.Json.{is_the_text}
use Rattle.kf_json.proofs.Viewing.{seen_at}
use Rattle.kf_gain.specs.declared.error.TableError.TheVariants as broken
use Rattle.kf_gain.specs.Tables.{form_rules, narrow}
use Rattle.kf_gain.specs.Forms.{form_2, form_3, form_4, form_5, form_6}
use Rattle.kf_gain.proofs.Judging.{breaks}
use Rattle.kf_gain.proofs.reader.rules.broken_form.Goals.{Else-not-is_the_text}
use Rattle.kf_gain.proofs.reader.rules.broken_form.Goals as goal

second : (c : Else-not-is_the_text) → form_2 (view c.args.value.now) ≡ true
second c = sym (ap (is_the_text (codes "kuifje-gain-1")) (seen_at (codes "format") (view c.args.value.now) _ c.get.ensures))
    ∙ sym c.if-not-is_the_text.ensures

pub returns-then-not-has_numbers : goal.returns-then-not-has_numbers
returns-then-not-has_numbers c =
    let d = view c.args.value.now in
    let format = second (goal.at.returns-then-not-has_numbers c).Else-not-is_the_text in
    breaks (take 2 (form_rules d)) (form_3 d, broken.Form 3) (drop 3 (form_rules d))
    (sym c.if-not-has_keys.ensures, (format, tt))
    (sym c.if-not-has_numbers.ensures)

pub returns-then-not-has_actions : goal.returns-then-not-has_actions
returns-then-not-has_actions c =
    let d = view c.args.value.now in
    let format = second (goal.at.returns-then-not-has_actions c).Else-not-is_the_text in
    breaks (take 3 (form_rules d)) (form_4 d, broken.Form 4) (drop 4 (form_rules d))
    (sym c.if-not-has_keys.ensures, (format, (sym c.if-not-has_numbers.ensures, tt)))
    (sym c.if-not-has_actions.ensures)

pub returns-then-not-has_names : goal.returns-then-not-has_names
returns-then-not-has_names c =
    let d = view c.args.value.now in
    let format = second (goal.at.returns-then-not-has_names c).Else-not-is_the_text in
    breaks (take 4 (form_rules d)) (form_5 d, broken.Form 5) (drop 5 (form_rules d))
    (sym c.if-not-has_keys.ensures, (format, (sym c.if-not-has_numbers.ensures, (sym c.if-not-has_actions.ensures, tt))))
    (sym c.if-not-has_names.ensures)

pub returns-then-not-has_gains : goal.returns-then-not-has_gains
returns-then-not-has_gains c =
    let d = view c.args.value.now in
    let format = second (goal.at.returns-then-not-has_gains c).Else-not-is_the_text in
    breaks (take 5 (form_rules d)) (form_6 d, broken.Form 6) (drop 6 (form_rules d)) (
      sym c.if-not-has_keys.ensures,
      (
        format,
        (
          sym c.if-not-has_numbers.ensures,
          (
            sym c.if-not-has_actions.ensures,
            (sym c.if-not-has_names.ensures, tt),
          ),
        ),
      ),
    )
    (sym c.if-not-has_gains.ensures)

pub returns-then-not-is_narrow_table : goal.returns-then-not-is_narrow_table
returns-then-not-is_narrow_table c =
    let d = view c.args.value.now in
    let format = second (goal.at.returns-then-not-is_narrow_table c).Else-not-is_the_text in
    breaks (take 6 (form_rules d)) (narrow d, broken.Wide) (drop 7 (form_rules d)) (
      sym c.if-not-has_keys.ensures,
      (
        format,
        (
          sym c.if-not-has_numbers.ensures,
          (
            sym c.if-not-has_actions.ensures,
            (
              sym c.if-not-has_names.ensures,
              (sym c.if-not-has_gains.ensures, tt),
            ),
          ),
        ),
      ),
    )
    (sym c.if-not-is_narrow_table.ensures)
