-- What is rejected doesn't prove.
use Rattle.std.proofs.Common.{◌≡◌, ◌⊎◌, inl, inr, ℕ, ◌<◌, List, sym, ◌∙◌, subst}
use Rattle.std.specs.Prelude.{Ok, Err, Result}
use Rattle.kf_refine.specs.Refinements.{HyperTree, Fraction, count, IsShaped, Carries}
use Rattle.kf_cert.specs.Certificates.{Yes, Named, No, NamedTree, matrix_of}
use Rattle.kf_cert.specs.Marks.{MarkedByRules}
use Rattle.kf_cert.specs.declared.mark.Mark.{Mark}
use Rattle.kf_cert.specs.declared.mark.Mark.TheVariants.{Rejected}
use Rattle.kf_cert.specs.declared.mark.Rule.{Rule}
use Rattle.kf_cert.specs.declared.mark.CheckError.{CheckError}
use Rattle.kf_cert.specs.declared.mark.CheckError.TheVariants as error
use Rattle.kf_cert.specs.Laws.{RejectedShowsNot}
use Rattle.kf_cert.proofs.Accepting.{not_rejected, in_range, sums, cells}
use Rattle.kf_cert.proofs.NamedRows.{matrix_shaped, widest_is}
use Rattle.kf_cert.proofs.Proclaiming.{some_inner}

module _ {R : Type 0} {r broken : R} {A B : Type 0} where
  -- a rule that holds isn't the one for which the answer stands
  kept : A → ((A → ⊥) × (r ≡ broken)) ⊎ (A × B) → B
  kept h (inl (never, is)) = absurd (never h)
  kept h (inr both) = both.1

  -- nor is one for whose breach another answer stands
  passed : (r ≡ broken → ⊥) → ((A → ⊥) × (r ≡ broken)) ⊎ (A × B) → B
  passed other (inl (never, is)) = absurd (other is)
  passed other (inr both) = both.1

-- being rejected is neither being too wide nor being accepted
rejected_fits : (rule : Rule) → ◌≡◌ {A = Result Mark CheckError} (Ok (Rejected rule)) (Err error.Wide) → ⊥
rejected_fits rule e = cc

-- the rules on the entries reject no matrix that carries
carrying_kept : (a b : HyperTree) (rows : List (List Fraction)) (rule : Rule) → Carries a b rows → MarkedByRules a b rows (Ok (Rejected rule)) → ⊥
carrying_kept a b rows rule is marked =
    let fits = kept (in_range a b rows is) marked in
    let sum = passed (rejected_fits rule) fits in
    let cell = kept (sums a b rows is) sum in
    not_rejected rule (sym (kept (cells a b rows is) cell))

-- a matrix that is named by its entries has the sizes that it says
sizes_are : (m n : ℕ) (t : NamedTree) → 0 < m → IsShaped m n (matrix_of t) → (t.rows ≡ m) × (t.columns ≡ n)
sizes_are m n t some shape =
    let rows : t.rows ≡ m = sym (matrix_shaped t).many ∙ shape.many in
    (rows, sym (widest_is t.rows t.columns (matrix_of t) (subst (λ (k : ℕ). 0 < k) (sym rows) some) (matrix_shaped t)) ∙ widest_is m n (matrix_of t) some shape)

pub rejected_shows_not : RejectedShowsNot
rejected_shows_not a b (Yes rows) rule is_a marked is = carrying_kept a b rows rule is (kept is.shape marked)
rejected_shows_not a b (Named t) rule is_a marked is =
    carrying_kept a b (matrix_of t) rule is (kept (sizes_are (count a) (count b) t (some_inner a is_a) is.shape) marked)
rejected_shows_not a b (No t) rule is_a marked is = not_rejected rule (sym (kept is.1 (passed (rejected_fits rule) (kept is.0 marked))))
