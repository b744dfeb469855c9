use Rattle.std.proofs.Common.{◌≡◌, drop}
use Rattle.std.specs.Map.{lookup}
use Rattle.std.specs.Str.{bytes_eq}
use Rattle.kf_words.proofs.commands.first_row.Given as goal

-- looking through what is left gives the row
abbrev pub invariant-loop-named : goal.invariant-loop-named
invariant-loop-named l = lookup (λ key. bytes_eq l.word key.now) (drop l.named-index l.table) ≡ lookup (λ key. bytes_eq l.word key.now) l.table
