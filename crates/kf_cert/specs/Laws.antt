-- For bodies: laws of certificates.
use Rattle.std.specs.Prelude.{◌≡◌, ◌⊎◌, ℕ, ◌*◌, ◌≤◌, All, List, Result, Ok, Err, None}
use Rattle.kf_frac.specs.Fractions.{limit}
use Rattle.kf_value.specs.Sizes.{fault_of}
use Rattle.kf_value.specs.Targets.{Item}
use Rattle.kf_gain.specs.Gains.{TableTree}
use Rattle.kf_refine.specs.Refinements.{HyperTree, Fraction, count, IsShaped, Carries, Separates}
use Rattle.kf_refine.specs.Verdicts.{VerdictTree, IsVerdict}
use Rattle.kf_refine.specs.Views.{IsProper}
use Rattle.kf_cert.specs.Certificates.{CertTree, Yes, Named, No, NamedTable, NamedTree, cert_of, matrix_of}
use Rattle.kf_cert.specs.CertTexts.{cert_text, named_of}
use Rattle.kf_cert.specs.Marks.{IsMarked, NamesValues, StandsFor, denominator, width}
use Rattle.kf_cert.specs.Shapes.{IsWritable}
use Rattle.kf_cert.specs.Views.{read_back, IsLowest, IsPrintable, IsSound}
use Rattle.kf_cert.specs.declared.mark.Mark.{Mark}
use Rattle.kf_cert.specs.declared.mark.Mark.TheVariants.{Accepted, Rejected}
use Rattle.kf_cert.specs.declared.mark.Rule.{Rule}
use Rattle.kf_cert.specs.declared.mark.CheckError.{CheckError}
use Rattle.kf_cert.specs.declared.mark.CheckError.TheVariants as error

-- the table that a named table stands for separates the hypers
abbrev pub IsSeparating : HyperTree → HyperTree → NamedTable → Type 0
IsSeparating a b t = (table : TableTree) × StandsFor a.target t table × Separates table a b

-- what a certificate proves: its matrix carries the one hyper to the other, or its table separates them and names values of their target,
-- none twice in an action
abbrev pub Shows : HyperTree → HyperTree → CertTree → Type 0
Shows a b (Yes rows) = Carries a b rows
Shows a b (Named t) = Carries a b (matrix_of t)
Shows a b (No t) = NamesValues a.target t × IsSeparating a b t

-- what is accepted proves
abbrev pub AcceptedShows : Type 0
AcceptedShows = (a b : HyperTree) (c : CertTree) → IsProper a → IsProper b → IsSound c → IsMarked a b c (Ok Accepted) → Shows a b c

-- what is rejected doesn't, whichever rule it breaks first
abbrev pub RejectedShowsNot : Type 0
RejectedShowsNot = (a b : HyperTree) (c : CertTree) (rule : Rule) → IsProper a → IsMarked a b c (Ok (Rejected rule)) → ¬ Shows a b c

-- a matrix that proves is accepted, if the check isn't too wide
abbrev pub CarryingAccepted : Type 0
CarryingAccepted = (a b : HyperTree) (rows : List (List Fraction)) → IsProper a → IsProper b → Carries a b rows
    → a.scale * denominator rows ≤ limit → IsMarked a b (Yes rows) (Ok Accepted)

-- so is one that is named by its entries, and a table that separates, with each value named once
abbrev pub NamedAccepted : Type 0
NamedAccepted = (a b : HyperTree) (t : NamedTree) → t.rows ≡ count a → t.columns ≡ count b → Carries a b (matrix_of t)
    → a.scale * denominator (matrix_of t) ≤ limit → IsMarked a b (Named t) (Ok Accepted)

abbrev pub SeparatingAccepted : Type 0
SeparatingAccepted = (a b : HyperTree) (t : NamedTable) → NamesValues a.target t → IsSeparating a b t
    → a.scale * width t ≤ limit → b.scale * width t ≤ limit → IsMarked a b (No t) (Ok Accepted)

-- the entries that are named of a matrix name that matrix, where its rows have one length and its fractions are in lowest terms
abbrev pub NamesAll : Type 0
NamesAll = (m n : ℕ) (rows : List (List Fraction)) → IsShaped m n rows → All (λ row. All IsLowest row) rows → matrix_of (named_of rows) ≡ rows

-- there is a mark, or the check is too wide
abbrev pub SomeMark : Type 0
SomeMark = (a b : HyperTree) (c : CertTree) → IsProper a → IsProper b → a.target ≡ b.target → IsSound c
    → (r : Result Mark CheckError) × IsMarked a b c r

-- and only one
abbrev pub OneMark : Type 0
OneMark = (a b : HyperTree) (c : CertTree) (r q : Result Mark CheckError) → IsMarked a b c r → IsMarked a b c q → r ≡ q

-- each verdict can be written: a table's actions have names for JSON, and values of the target
abbrev pub VerdictsWritable : Type 0
VerdictsWritable = (a b : HyperTree) (pivots : ℕ) (v : VerdictTree) → IsProper a → IsProper b → IsVerdict a b pivots (Ok v) → IsWritable a.target v

-- what is written of a verdict is read back
abbrev pub ReadsBack : Type 0
ReadsBack = (target : List Item) (v : VerdictTree) → IsPrintable target v → cert_of (cert_text target v) ≡ Ok (read_back target v)

-- what is written of a verdict, on hypers whose types have a size, is accepted for them, or the check is too wide
abbrev pub WrittenAccepted : Type 0
WrittenAccepted = (a b : HyperTree) (pivots : ℕ) (v : VerdictTree) (c : CertTree) (r : Result Mark CheckError) → IsProper a → IsProper b
    → All (λ i. fault_of i.ty ≡ None) a.target
    → IsVerdict a b pivots (Ok v) → cert_of (cert_text a.target v) ≡ Ok c → IsMarked a b c r
    → (r ≡ Ok Accepted) ⊎ (r ≡ Err error.Wide)

-- what is read has its bounds
abbrev pub ReadSound : Type 0
ReadSound = (bytes : List ℕ) (c : CertTree) → cert_of bytes ≡ Ok c → IsSound c
