use Rattle.std.proofs.Common.{◌∙◌, sym, ap, map, string_bytes, ⊎_elim, subst}
use Rattle.clap.specs.Words.{App, IsAmong, is_simple, is_simple_and_free, found_of, rows_of, matches_of, fault_of, kind_of}
use Rattle.kf_words.proofs.Matches.{taken, refused}
use Rattle.kf_words.proofs.arguments.matches_of.Goals as goal

pub returns-in-Ok-clause-found : goal.returns-in-Ok-clause-found
returns-in-Ok-clause-found c =
    let line = c.in_ok-command.ensures in
    let words = map string_bytes c.args.words.now in
    let none = sym (ap (λ (a : App). fault_of a words) line) ∙ c.in-Ok.ensures.kinds (ap is_simple_and_free line) in
    let rows = (c.in-Ok.ensures.matches (ap is_simple line)).0 ∙ ap (λ (a : App). matches_of a words) line in
    taken words (rows_of (found_of c.in-Ok.matches)) none rows

pub returns : goal.returns
returns c =
    let line = c.in_ok-command.ensures in
    let words = map string_bytes c.args.words.now in
    record {
      found = tt;
      usage = λ _. ⊎_elim (λ memory. absurd (c.in_default.not-OutOfMemory (c.kind.ensures ∙ memory)))
          (λ among. refused words (kind_of c.in-Err.error) (subst (λ (a : App). IsAmong (kind_of c.in-Err.error) (fault_of a words)) line among))
          (c.in-Err.ensures.kinds (ap is_simple_and_free line));
    }
