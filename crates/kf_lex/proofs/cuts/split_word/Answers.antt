use Rattle.std.proofs.Common.{rules}
use Rattle.unicode_ident.specs.Ident.{is_xid_continue}
use Rattle.std.proofs.lemmas.List.Sorted.{answers_always}
use Rattle.kf_lex.proofs.Runs.{run_cut}
use Rattle.kf_lex.proofs.cuts.split_word.Goals as goal

pub returns : goal.returns
returns c =
    run_cut is_xid_continue _ _ _ _ _ c.utf8.text c.find.ensures.cases (answers_always _ _ _ (λ f a r g called. search rules)) c.split.ensures.front c.split.ensures.back
