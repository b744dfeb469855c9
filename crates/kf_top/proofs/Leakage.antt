-- What is made of a program's hyper where a gain's width fits it, and where it doesn't.
use Rattle.std.proofs.Common.{◌≡◌, ℕ, ◌*◌, ◌≤◌, ◌<◌, le-leb, if◌then◌else◌, List, [], codes, Ok, Err, refl, sym, ap, inl, Bool, Result}
use Rattle.std.proofs.lemmas.Bool.{lt-leb}
use Rattle.kf_core.specs.Joint.{joint_of}
use Rattle.kf_core.specs.Rows.{IsHyperOf}
use Rattle.kf_frac.specs.Fractions.{limit}
use Rattle.kf_gain.specs.Gains.{GainOf, TableTree}
use Rattle.kf_gain.specs.Vulnerabilities.{IsWidth}
use Rattle.kf_hyper.specs.Views.{inners_of, scale_of, target_of}
use Rattle.kf_hyper.specs.declared.hyper.Hyper.{Hyper}
use Rattle.kf_load.specs.Steps.{After, Refused, Step, refusal}
use Rattle.kf_load.specs.Views.{program_in}
use Rattle.kf_refine.specs.Refinements.{HyperTree}
use Rattle.kf_refine.specs.Views.{hyper_tree}
use Rattle.kf_support.specs.Cleared.{turns_of, whole_scale}
use Rattle.kf_support.specs.declared.cleared.Cleared.{Cleared}
use Rattle.kf_top.specs.Answer.{NarrowGain, OnHyper, Shown, prints}
use Rattle.kf_top.proofs.Verdicts.{is_hyper_tree}

abbrev wide_gain : Refused
wide_gain = refusal 7 [] (codes "gain passes 2^127 - 1")

module _ (cleared : Cleared) (g : GainOf TableTree) (h : Hyper) (hyper : IsHyperOf (joint_of (turns_of cleared) (program_in cleared)) (inners_of h))
    (scale : scale_of h ≡ whole_scale cleared) (target : target_of h ≡ (program_in cleared).target) (m : ℕ) (width : IsWidth g (inners_of h) m) (next : HyperTree → Step Shown) where
  abbrev outcome : Step Shown
  outcome = OnHyper (turns_of cleared) (program_in cleared) (λ t. After (NarrowGain g t) (λ _. next t))

  abbrev bounded : Bool → Result ℕ Refused
  bounded fits = if fits then Ok m else Err wide_gain

  pub narrow_answers : scale_of h * m ≤ limit → (bytes : List ℕ) → next (hyper_tree h) (prints bytes) → outcome (prints bytes)
  narrow_answers narrow bytes is =
      (hyper_tree h, is_hyper_tree (turns_of cleared) cleared refl h hyper scale target, (m, (m, width, ap bounded (sym (le-leb (scale_of h * m) limit narrow))), is))

  pub wide_stops : limit < scale_of h * m → outcome (Err wide_gain)
  wide_stops wide =
      (hyper_tree h, is_hyper_tree (turns_of cleared) cleared refl h hyper scale target, inl (m, width, ap bounded (sym (lt-leb (scale_of h * m) limit wide))))
