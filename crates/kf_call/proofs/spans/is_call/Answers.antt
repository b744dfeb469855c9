use Rattle.std.proofs.Common.{rules}
use Rattle.kf_call.proofs.spans.is_call.Goals as goal

pub returns-then-are_texts : goal.returns-then-are_texts
returns-then-are_texts c =
    (λ yes. record { words_are = c.are_texts.ensures.0 (search rules); files_are = c.are_files.ensures.0 yes }, λ call. c.are_files.ensures.1 call.files_are)
