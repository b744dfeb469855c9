use Rattle.std.proofs.Common.{◌≡◌, drop}
use Rattle.kf_lex.specs.declared.cuts.TheConstants.{SIGNS}
use Rattle.kf_lex.specs.Cuts.{first_sign}
use Rattle.kf_lex.proofs.cuts.sign_at.Given as goal

-- the sign is sought among those that are left
abbrev pub invariant-loop-sign : goal.invariant-loop-sign
invariant-loop-sign l = first_sign (drop l.sign-index SIGNS) l.text ≡ first_sign SIGNS l.text
