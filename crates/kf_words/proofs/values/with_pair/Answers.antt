use Rattle.std.proofs.Common.{[], refl}
use Rattle.kf_words.proofs.AskedTasks.{not_none, choice_asked, reach_asked, quiet_asked}
use Rattle.kf_words.proofs.values.with_pair.Goals as goal

pub returns-in_default : goal.returns-in_default
returns-in_default c =
    let asked = choice_asked (record { ref_ptr = (0, 0); now = [] }) c.args.values.now _ (rw c.in-Choice.is at c.requires) c.in_default.ensures.value in
    rw (c.in-Choice.is, asked) (record { job = refl; none = λ is. refl; turns = tt; range = tt })

pub returns-in_default-parse_threshold : goal.returns-in_default-parse_threshold
returns-in_default-parse_threshold c =
    let asked = reach_asked (record { ref_ptr = (0, 0); now = [] }) c.args.values.now _ (rw c.in-Reach.is at c.requires) c.in_default-parse_threshold.ensures.value in
    rw (c.in-Reach.is, asked) (record { job = refl; none = λ is. refl; turns = tt; range = tt })

pub returns-in_default-parse_block : goal.returns-in_default-parse_block
returns-in_default-parse_block c =
    let asked = quiet_asked (record { ref_ptr = (0, 0); now = [] }) c.args.values.now _ (rw c.in-Quiet.is at c.requires) c.in_default-parse_block.ensures.value in
    rw (c.in-Quiet.is, asked) (record { job = refl; none = λ is. refl; turns = tt; range = tt })

pub returns-in_ok-a-in-Choice : goal.returns-in_ok-a-in-Choice
returns-in_ok-a-in-Choice c =
    let asked = choice_asked (record { ref_ptr = (0, 0); now = [] }) c.args.values.now _ (rw c.in-Choice.is at c.requires) c.in-Some.ensures.value in
    rw (c.in-Choice.is, asked, c.in_ok-a-in-Choice.ensures.0, c.in_ok-a-in-Choice.ensures.1)
    (record { job = refl; none = λ is. absurd (not_none _ is); turns = refl; range = c.in-Some.ensures.range })

pub returns-in_ok-name_of-in-Reach : goal.returns-in_ok-name_of-in-Reach
returns-in_ok-name_of-in-Reach c =
    let asked = reach_asked (record { ref_ptr = (0, 0); now = [] }) c.args.values.now _ (rw c.in-Reach.is at c.requires) c.in-Some-parse_threshold.ensures.value in
    rw (c.in-Reach.is, asked, c.in_ok-name_of-in-Reach.ensures)
    (record { job = refl; none = λ is. absurd (not_none _ is); turns = refl; range = c.in-Some-parse_threshold.ensures.range })

pub returns-in_ok-name_of-in-Quiet : goal.returns-in_ok-name_of-in-Quiet
returns-in_ok-name_of-in-Quiet c =
    let asked = quiet_asked (record { ref_ptr = (0, 0); now = [] }) c.args.values.now _ (rw c.in-Quiet.is at c.requires) c.in-Some-parse_block.ensures.value in
    rw (c.in-Quiet.is, asked, c.in_ok-name_of-in-Quiet.ensures)
    (record { job = refl; none = λ is. absurd (not_none _ is); turns = refl; range = c.in-Some-parse_block.ensures.range })
