use Rattle.kf_check.proofs.One.{one_judgement}
use Rattle.kf_check.proofs.Places.{broken_is_told}
use Rattle.kf_check.proofs.LawsPrograms.{typed_or_broken, one_typed, checked_if_typed}
use Rattle.kf_check.proofs.SizesAgree.{sizes_agree}
use Rattle.kf_check.proofs.laws.type_laws.Goals as goal

pub returns : goal.returns
returns c = record {
  one = one_judgement;
  typed = one_typed;
  either = typed_or_broken;
  told = broken_is_told;
  checked = checked_if_typed;
  sizes = sizes_agree;
}
