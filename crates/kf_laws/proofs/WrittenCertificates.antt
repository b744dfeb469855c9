-- A certificate that is written of a verdict is accepted by its check, or the check is too wide.
use Rattle.std.proofs.Common.{◌≡◌, ◌≢◌, ◌⊎◌, ◌≤◌, ℕ, nat_le, if◌then◌else◌, List, [], ◌∷◌, ◌++◌, length, codes, Bool, true, All, None, Some, Result, Ok, Err, refl, sym, ap, subst, ◌∙◌, inl, inr, ⊎_elim, le-leb}
use Rattle.std.specs.List.{AllByRecursion as Every}
use Rattle.std.proofs.lemmas.List.Elements.{All-from_recursion}
use Rattle.kf_value.specs.Sizes.{fault_of}
use Rattle.kf_value.specs.Targets.{Item}
use Rattle.kf_core.specs.JointLaws.{HypersAreOne}
use Rattle.kf_core.specs.Programs.{ProgramTree}
use Rattle.kf_refine.specs.Laws.{VerdictsProve}
use Rattle.kf_refine.specs.Refinements.{HyperTree}
use Rattle.kf_refine.specs.Verdicts.{VerdictTree, Yes, No, IsVerdict}
use Rattle.kf_refine.specs.Views.{IsProper}
use Rattle.kf_cert.specs.Certificates.{CertTree, cert_of}
use Rattle.kf_cert.specs.CertTexts.{cert_text}
use Rattle.kf_cert.specs.Laws.{ReadsBack, WrittenAccepted}
use Rattle.kf_cert.specs.Views.{read_back, IsPrintable}
use Rattle.kf_cert.specs.declared.mark.Mark.{Mark}
use Rattle.kf_cert.specs.declared.mark.Mark.TheVariants.{Accepted}
use Rattle.kf_cert.specs.declared.mark.CheckError.{CheckError}
use Rattle.kf_cert.specs.declared.mark.CheckError.TheVariants as check
use Rattle.kf_cert.proofs.Printable.{matrix_printable, table_printable}
use Rattle.kf_load.specs.Steps.{After, Refused, refusal}
use Rattle.kf_load.specs.Texts.{File, source_of}
use Rattle.kf_top.specs.Answer.{CertIn, CommandOutcome, MarkIn, MarkOn, RefineOutcome, Shown, mark_shown, other_target}
use Rattle.kf_top.specs.Ends.{Answer, settled}
use Rattle.kf_top.specs.Steps.{cert_read, wide_cert, most_pivots, showing, refusing, AreHypers, ClearedOf}
use Rattle.kf_words.specs.Task.{Command, Refine, Check}
use Rattle.kf_laws.specs.Held.{held, held_file}
use Rattle.kf_laws.specs.Laws.{CertificatesAccepted, asks_certificate, asks_check}
use Rattle.kf_laws.specs.Refusals.{RefusalsAreReasoned}
use Rattle.kf_laws.proofs.ClearedPrograms.{AreClear}
use Rattle.kf_laws.proofs.HeldFiles.{outcome_of_task}
use Rattle.kf_laws.proofs.OneAnswer.{HasOne, next_of, one_tree, one_cert}
use Rattle.kf_laws.proofs.ProperHypers.{AreProper, IsClear}
use Rattle.kf_laws.proofs.ShownAnswers.{task_shown, verdict_of}
use Rattle.kf_laws.proofs.SizedTargets.{IsSized}

-- ---- what is written can be read back

-- a verdict is about one target
pub one_target : (a b : HyperTree) (v : VerdictTree) → IsVerdict a b most_pivots (Ok v) → a.target ≡ b.target
one_target a b (Yes rows) is = is.1.targets
one_target a b (No t) is = is.1.targets

printable : VerdictsProve → (a b : HyperTree) (v : VerdictTree) → IsProper a → IsProper b → IsVerdict a b most_pivots (Ok v) → IsPrintable a.target v
printable verdicts_prove a b (Yes rows) proper proper' is = matrix_printable a b is.0 rows proper proper' is.2
printable verdicts_prove a b (No t) proper proper' is =
    table_printable a b most_pivots is.0 t proper proper' is.1 is.2 (verdicts_prove a b most_pivots (No t) proper proper' is).2

-- ---- what a check shows

abbrev accepted : Shown
accepted = record { yes = true; bytes = codes "accepted" ++ 10 ∷ [] }

-- the two ends of the check of a written certificate
abbrev IsEnd : Result Shown Refused → Type 0
IsEnd r = (r ≡ Ok accepted) ⊎ (r ≡ Err wide_cert)

-- the answer of each end
abbrev IsEndAnswer : Answer → Type 0
IsEndAnswer checked = (checked ≡ showing accepted) ⊎ (checked ≡ refusing wide_cert)

marked_end : (m : Result Mark CheckError) (r : Result Shown Refused) → r ≡ mark_shown m → (m ≡ Ok Accepted) ⊎ (m ≡ Err check.Wide) → IsEnd r
marked_end m r is ends = ⊎_elim (λ (accept : m ≡ Ok Accepted). inl (is ∙ ap mark_shown accept)) (λ (wide : m ≡ Err check.Wide). inr (is ∙ ap mark_shown wide)) ends

end_answer : (r : Result Shown Refused) (checked : Answer) → checked ≡ settled r → IsEnd r → IsEndAnswer checked
end_answer r checked settles ends =
    ⊎_elim (λ (accept : r ≡ Ok accepted). inl (settles ∙ ap settled accept)) (λ (wide : r ≡ Err wide_cert). inr (settles ∙ ap settled wide)) ends

abbrev too_long : List ℕ → Refused
too_long name = refusal 11 name (codes ": longer than 1048576 bytes")

-- the laws of hypers, of verdicts and of certificates
module _ (hypers_are_one : HypersAreOne) (are_proper : AreProper) (verdicts_prove : VerdictsProve) (reads_back : ReadsBack) (written_accepted : WrittenAccepted) where
  module _ (turns : ℕ) (p q : ProgramTree) (clear : IsClear turns p) (clear' : IsClear turns q) (a b : HyperTree) (are : AreHypers turns p q a b) (v : VerdictTree)
      (verdict : IsVerdict a b most_pivots (Ok v)) where
    proper : IsProper a
    proper = are_proper turns p a clear are.first

    proper' : IsProper b
    proper' = are_proper turns q b clear' are.second

    read : cert_of (cert_text a.target v) ≡ Ok (read_back a.target v)
    read = reads_back a.target v (printable verdicts_prove a b v proper proper' verdict)

    sized : All (λ (i : Item). fault_of i.ty ≡ None) a.target
    sized = All-from_recursion IsSized a.target (subst (Every IsSized) (sym are.first.target) clear.typed.sized)

    mark_end : (r : Result Shown Refused) → MarkIn a b (read_back a.target v) r → IsEnd r
    mark_end r marked =
        ⊎_elim (λ (other : (a.target ≢ b.target) × (r ≡ Err other_target)). absurd (other.0 (one_target a b v verdict)))
        (λ m. marked_end m.1.0 r m.1.2 (written_accepted a b most_pivots v (read_back a.target v) m.1.0 proper proper' sized verdict read m.1.1))
        marked

    hypers_end : (r : Result Shown Refused) (c : CertTree) → c ≡ read_back a.target v → (x y : HyperTree) → AreHypers turns p q x y → MarkIn x y c r → IsEnd r
    hypers_end r c same x y those marked =
        let first : x ≡ a = one_tree hypers_are_one turns p x a those.first are.first in
        let second : y ≡ b = one_tree hypers_are_one turns q y b those.second are.second in
        mark_end r
        (subst (λ (d : CertTree). MarkIn a b d r) same (subst (λ (h : HyperTree). MarkIn a h c r) second (subst (λ (h : HyperTree). MarkIn h y c r) first marked)))

    -- the certificate stands in a file, which isn't too long
    module _ (later : List ℕ → List ℕ) (cert : List ℕ) (stands : later cert ≡ cert_text a.target v) (short : length (cert_text a.target v) ≤ 1048576) where
      found : CertIn (held_file later cert) (Ok (read_back a.target v))
      found =
          let source : source_of (held_file later cert) ≡ Ok (cert_text a.target v) =
          ap (λ (bytes : List ℕ). if nat_le (length bytes) 1048576 then Ok bytes else Err (too_long cert)) stands
          ∙ ap (λ (fits : Bool). if fits then Ok (cert_text a.target v) else Err (too_long cert)) (le-leb (length (cert_text a.target v)) 1048576 short) in
          (cert_text a.target v, sym source, sym (ap (cert_read cert) read))

      check_end : (r : Result Shown Refused) → After (CertIn (held_file later cert)) (MarkOn turns p q) r → IsEnd r
      check_end r outcome =
          let marked = next_of (CertIn (held_file later cert)) (MarkOn turns p q) (one_cert (held_file later cert)) (read_back a.target v) found r outcome in
          hypers_end r (read_back a.target v) refl marked.0 marked.2.0 (record { first = marked.1; second = marked.2.1 }) marked.2.2

-- ---- the same texts have the same programs

module _ (contents later : List ℕ → List ℕ) where
  same_cleared : (cert first second : List ℕ) (turns : ℕ) → later first ≡ contents first → later second ≡ contents second → (ps : List ProgramTree)
      → ClearedOf (Refine true) turns (held contents (first ∷ second ∷ [])) (Ok ps) → ClearedOf (Check cert) turns (held later (first ∷ second ∷ [])) (Ok ps)
  same_cleared cert first second turns one two ps is =
      let files : held contents (first ∷ second ∷ []) ≡ held later (first ∷ second ∷ []) =
      λ i. record { name = first; reading = Some (sym one i) } ∷ record { name = second; reading = Some (sym two i) } ∷ [] in
      subst (λ (fs : List File). ClearedOf (Check cert) turns fs (Ok ps)) files (is.0, is.1, is.2)

-- ---- the law

-- of two clear programs
module _ (hypers_are_one : HypersAreOne) (are_proper : AreProper) (verdicts_prove : VerdictsProve) (reads_back : ReadsBack) (written_accepted : WrittenAccepted)
    (later : List ℕ → List ℕ) (cert : List ℕ) (turns : ℕ) (shown : Shown) (stands : later cert ≡ shown.bytes) (short : length shown.bytes ≤ 1048576) (r : Result Shown Refused) where
  pair_end : (p q : ProgramTree) → IsClear turns p → IsClear turns q → RefineOutcome true turns p q (Ok shown) → After (CertIn (held_file later cert)) (MarkOn turns p q) r → IsEnd r
  pair_end p q clear clear' refined checked =
      let a = refined.0 in
      let b = refined.2.0 in
      let v = verdict_of true a b refined.2.2.0 shown refined.2.2.2 in
      let verdict = subst (λ (x : Result VerdictTree _). IsVerdict a b most_pivots x) v.1 refined.2.2.1 in
      let bytes : shown.bytes ≡ cert_text a.target v.0 = ap (λ (s : Shown). s.bytes) v.3 in
      check_end hypers_are_one are_proper verdicts_prove reads_back written_accepted turns p q clear clear' a b (record { first = refined.1; second = refined.2.1 }) v.0 verdict later cert (stands ∙ bytes)
      (subst (λ (bs : List ℕ). length bs ≤ 1048576) bytes short) r checked

  command_end : (ps : List ProgramTree) → Every (IsClear turns) ps → CommandOutcome (Refine true) turns [] ps (Ok shown)
      → CommandOutcome (Check cert) turns (held_file later cert ∷ []) ps r → IsEnd r
  command_end [] clear refined checked = absurd (cc)
  command_end (p ∷ []) clear refined checked = absurd (cc)
  command_end (p ∷ q ∷ []) clear refined checked = pair_end p q clear.0 clear.1.0 refined checked
  command_end (p ∷ q ∷ s ∷ ps) clear refined checked = absurd (cc)

module _ (one_cleared : (command : Command) (turns : ℕ) (programs : List File) → HasOne (ClearedOf command turns programs)) (reasoned : RefusalsAreReasoned) (are_clear : AreClear)
    (hypers_are_one : HypersAreOne) (are_proper : AreProper) (verdicts_prove : VerdictsProve) (reads_back : ReadsBack) (written_accepted : WrittenAccepted) where
  pub certificates_accepted : CertificatesAccepted
  certificates_accepted words others contents later cert first second turns written checked asks is_written few asks' is_checked one two stands short =
      let w = task_shown reasoned contents words (asks_certificate first second turns) written asks is_written few in
      let refined = w.2 in
      let marked = outcome_of_task later others (asks_check cert first second turns) checked asks' is_checked in
      let clear = are_clear (Refine true) turns (held contents (first ∷ second ∷ [])) refined.0 refined.1 in
      let out : written.out ≡ w.0.bytes = ap (λ (x : Answer). x.out) w.1 in
      let outcome =
      next_of (ClearedOf (Check cert) turns (held later (first ∷ second ∷ []))) (CommandOutcome (Check cert) turns (held later (cert ∷ [])))
      (one_cleared (Check cert) turns (held later (first ∷ second ∷ []))) refined.0 (same_cleared contents later cert first second turns one two refined.0 refined.1) is_checked.result marked in
      end_answer is_checked.result checked is_checked.settles
      (command_end hypers_are_one are_proper verdicts_prove reads_back written_accepted later cert turns w.0 (stands ∙ out)
      (subst (λ (bs : List ℕ). length bs ≤ 1048576) out short) is_checked.result refined.0 clear refined.2 outcome)
