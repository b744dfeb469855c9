-- What is written of a verdict is accepted for its hypers, or the check is too wide.
use Rattle.std.proofs.Common.{◌≡◌, ◌⊎◌, inl, inr, ⊎_elim, ℕ, ◌*◌, ◌<◌, ◌≤◌, List, [], ◌∷◌, All, length, sum_by, refl, sym, ◌∙◌, subst, arith}
use Rattle.std.specs.Prelude.{Ok, Err, Result}
use Rattle.std.proofs.lemmas.Bool.{cases_lt}
use Rattle.kf_frac.specs.Fractions.{limit}
use Rattle.kf_refine.specs.Refinements.{HyperTree, count, Fraction, Carries}
use Rattle.kf_column.specs.Hypers.{Inner}
use Rattle.kf_refine.specs.Verdicts.{VerdictTree, IsVerdict}
use Rattle.kf_refine.specs.Verdicts as verdict
use Rattle.kf_refine.specs.Views.{IsProper}
use Rattle.kf_refine.proofs.Certifying.{verdicts_prove}
use Rattle.kf_cert.specs.Certificates.{CertTree, Named, No, NamedTable, cert_of}
use Rattle.kf_cert.specs.CertTexts.{cert_text, named_of}
use Rattle.kf_cert.specs.declared.cert.CertError.{CertError}
use Rattle.kf_cert.specs.declared.mark.Mark.{Mark}
use Rattle.kf_cert.specs.declared.mark.Mark.TheVariants.{Accepted}
use Rattle.kf_cert.specs.declared.mark.CheckError.{CheckError}
use Rattle.kf_cert.specs.declared.mark.CheckError.TheVariants as error
use Rattle.kf_cert.specs.Marks.{IsMarked, MarkedByRules, NamesValues, width}
use Rattle.kf_cert.specs.Views.{IsLowest, IsPrintable, read_back, named_by}
use Rattle.kf_cert.specs.Laws.{ReadsBack, IsSeparating}
use Rattle.kf_cert.proofs.Accepting.{carrying_marked}
use Rattle.kf_cert.proofs.Marking.{one_mark}
use Rattle.kf_cert.proofs.Named.{TextsApart, names_values, stands_for_itself}
use Rattle.kf_cert.proofs.NamedRows.{names_all, widest_is}
use Rattle.kf_cert.proofs.Printable.{matrix_lowest, matrix_printable, all_namable, table_printable}

-- accepted, or too wide
abbrev AcceptedOrWide : HyperTree → HyperTree → CertTree → Type 0
AcceptedOrWide a b c = IsMarked a b c (Ok Accepted) ⊎ IsMarked a b c (Err error.Wide)

-- a table that names values and separates
separating_marked : (a b : HyperTree) (t : NamedTable) → NamesValues a.target t → IsSeparating a b t → AcceptedOrWide a b (No t)
separating_marked a b t known separates =
    ⊎_elim
    (λ (wide : limit < a.scale * width t). inr (too_wide (λ (fits : (a.scale * width t ≤ limit) × (b.scale * width t ≤ limit)). omega (arith, wide, fits.0))))
    (λ (fits_a : a.scale * width t ≤ limit). ⊎_elim
    (λ (wide : limit < b.scale * width t). inr (too_wide (λ (fits : (a.scale * width t ≤ limit) × (b.scale * width t ≤ limit)). omega (arith, wide, fits.1))))
    (λ (fits_b : b.scale * width t ≤ limit). inl (inr (known, inr ((fits_a, fits_b), inr (separates, refl)))))
    (cases_lt limit (b.scale * width t)))
    (cases_lt limit (a.scale * width t))
  where
    too_wide : ((a.scale * width t ≤ limit) × (b.scale * width t ≤ limit) → ⊥) → IsMarked a b (No t) (Err error.Wide)
    too_wide never = inr (known, inl (never, refl))

-- a hyper has an inner
pub some_inner : (h : HyperTree) → IsProper h → 0 < count h
some_inner h proper = some h.inners (subst (λ (n : ℕ). 0 < n) (sym proper.whole) proper.some)
  where
    some : (inners : List Inner) → 0 < sum_by (λ i. i.total) inners → 0 < length inners
    some [] more = absurd (omega (arith, more))
    some (i ∷ inners) more = omega arith

-- a matrix that carries, by the entries that aren't 0
module _ (a b : HyperTree) (rows : List (List Fraction)) (is_a : IsProper a) (carries : Carries a b rows) (low : All (λ row. All IsLowest row) rows) where
  entries_marked : (r : Result Mark CheckError) → MarkedByRules a b rows r → IsMarked a b (Named (named_of rows)) r
  entries_marked r marked =
      inr (
        (carries.shape.many, widest_is (count a) (count b) rows (some_inner a is_a) carries.shape),
        subst (λ (m : List (List Fraction)). MarkedByRules a b m r) (sym (names_all (count a) (count b) rows carries.shape low)) marked,
      )

  carrying_named : AcceptedOrWide a b (Named (named_of rows))
  carrying_named =
      ⊎_elim
      (λ (accepted : MarkedByRules a b rows (Ok Accepted)). inl (entries_marked (Ok Accepted) accepted))
      (λ (wide : MarkedByRules a b rows (Err error.Wide)). inr (entries_marked (Err error.Wide) wide))
      (carrying_marked a b rows carries)

module _ (a b : HyperTree) (pivots : ℕ) (is_a : IsProper a) (is_b : IsProper b) where
  verdict_printable : (v : VerdictTree) → IsVerdict a b pivots (Ok v) → IsPrintable a.target v
  verdict_printable (verdict.Yes rows) (solution, run, matrix) = matrix_printable a b solution rows is_a is_b matrix
  verdict_printable (verdict.No t) (multipliers, run, table) =
      table_printable a b pivots multipliers t is_a is_b run table (verdicts_prove a b pivots (verdict.No t) is_a is_b (multipliers, run, table)).2

  verdict_marked : (v : VerdictTree) → TextsApart a.target → IsVerdict a b pivots (Ok v) → AcceptedOrWide a b (read_back a.target v)
  verdict_marked (verdict.Yes rows) apart (solution, run, matrix) =
      carrying_named a b rows is_a (verdicts_prove a b pivots (verdict.Yes rows) is_a is_b (solution, run, matrix))
      (matrix_lowest (count a) (count b) solution rows matrix)
  verdict_marked (verdict.No t) apart (multipliers, run, table) =
      let namable = all_namable a b pivots multipliers t is_a is_b run table in
      separating_marked a b (named_by a.target t) (names_values a.target apart t namable)
      (t, stands_for_itself a.target apart t namable, (verdicts_prove a b pivots (verdict.No t) is_a is_b (multipliers, run, table)).0)

-- one certificate at most is read
same_read : (c d : CertTree) (found : Result CertTree CertError) → found ≡ Ok c → found ≡ Ok d → d ≡ c
same_read c d found is was = let both : ◌≡◌ {A = Result CertTree CertError} (Ok d) (Ok c) = sym was ∙ is in cc

-- where the target's values have different texts
pub written : ReadsBack → (a b : HyperTree) (pivots : ℕ) (v : VerdictTree) (c : CertTree) (r : Result Mark CheckError) → TextsApart a.target
    → IsProper a → IsProper b → IsVerdict a b pivots (Ok v) → cert_of (cert_text a.target v) ≡ Ok c → IsMarked a b c r
    → (r ≡ Ok Accepted) ⊎ (r ≡ Err error.Wide)
written reads a b pivots v c r apart is_a is_b is read marked =
    let back : read_back a.target v ≡ c =
    same_read c (read_back a.target v) (cert_of (cert_text a.target v)) read (reads a.target v (verdict_printable a b pivots is_a is_b v is)) in
    ⊎_elim
    (λ (accepted : IsMarked a b (read_back a.target v) (Ok Accepted)). inl (one_mark a b c r (Ok Accepted) marked (subst (λ (d : CertTree). IsMarked a b d (Ok Accepted)) back accepted)))
    (λ (wide : IsMarked a b (read_back a.target v) (Err error.Wide)). inr (one_mark a b c r (Err error.Wide) marked (subst (λ (d : CertTree). IsMarked a b d (Err error.Wide)) back wide)))
    (verdict_marked a b pivots is_a is_b v apart is)
