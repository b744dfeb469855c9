use Rattle.std.proofs.Common.{subst, sym, ◌∙◌, arith, List}
use Rattle.kf_quiet.specs.Views.{ShowBlames}
use Rattle.kf_quiet.specs.declared.blame.Blame.{Blame}
use Rattle.kf_text.proofs.Blaming.{all_printed, same_blames}
use Rattle.kf_text.proofs.blame.blame_text.Goals as goal

pub returns : goal.returns
returns c scale trees show =
    let blames = c.as_slice.result.now in
    all_printed blames c.all-item.result c.new-out.result.items c.print_all.new.out.items c.print_others.new.out.items (omega arith) c.all-item.is
    c.new-out.ensures.items c.in_ok-print_all.ensures c.in_ok-print_others.ensures
    ∙ same_blames scale trees blames (subst (λ (l : List Blame). ShowBlames scale trees l) (sym c.as_slice.ensures) show)
