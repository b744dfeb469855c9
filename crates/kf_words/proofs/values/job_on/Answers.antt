use Rattle.std.proofs.Common.{[], refl}
use Rattle.kf_words.proofs.AskedTasks.{not_none, one_word, two_words, three_words, some_job}
use Rattle.kf_words.proofs.values.job_on.Goals as goal

pub returns-in_default : goal.returns-in_default
returns-in_default c =
    let gain = rw c.in_default.is at c.in_ok-gain-in-UnderGain.ensures in
    rw (c.in-UnderGain.is, ← gain) (record { job = refl; none = λ is. refl; turns = tt; range = tt })

pub returns-in_ok-file-in-OneFile : goal.returns-in_ok-file-in-OneFile
returns-in_ok-file-in-OneFile c =
    let words = one_word (record { ref_ptr = (0, 0); now = [] }) c.args.values.now (rw c.in-OneFile.is at c.requires) in
    rw (c.in-OneFile.is, words, c.on_one_file.ensures.job, c.in_ok-file-in-OneFile.ensures)
    (record { job = refl; none = λ is. absurd (not_none _ is); turns = refl; range = c.on_one_file.ensures.range })

pub returns-in_ok-a-in-TwoFiles : goal.returns-in_ok-a-in-TwoFiles
returns-in_ok-a-in-TwoFiles c =
    let words = two_words (record { ref_ptr = (0, 0); now = [] }) c.args.values.now (rw c.in-TwoFiles.is at c.requires) in
    rw (c.in-TwoFiles.is, words, c.on_two_files.ensures.job, c.in_ok-a-in-TwoFiles.ensures.0, c.in_ok-a-in-TwoFiles.ensures.1)
    (record { job = refl; none = λ is. absurd (not_none _ is); turns = refl; range = c.on_two_files.ensures.range })

pub returns-in_ok-gain-in-UnderGain-2 : goal.returns-in_ok-gain-in-UnderGain-2
returns-in_ok-gain-in-UnderGain-2 c =
    let words = one_word (record { ref_ptr = (0, 0); now = [] }) c.args.values.now (rw c.in-UnderGain.is at c.requires) in
    let gain = rw c.in-Some.is at c.in_ok-gain-in-UnderGain.ensures in
    let both = c.in_ok-gain-in-UnderGain-2.ensures in
    let file = rw both.1 at c.name_of-in-UnderGain.ensures in
    rw (c.in-UnderGain.is, words, ← gain, c.under_gain.ensures.job, both.0, file)
    (record { job = refl; none = λ is. absurd (not_none _ is); turns = refl; range = rw both.0 at c.under_gain.ensures.range })

pub returns-in-WithPair : goal.returns-in-WithPair
returns-in-WithPair c =
    let pair = c.with_pair.ensures in
    rw (c.in-WithPair.is) (record { job = pair.job; none = pair.none; turns = pair.turns; range = pair.range })

pub returns-in-Some-parse_observations : goal.returns-in-Some-parse_observations
returns-in-Some-parse_observations c =
    let words = one_word (record { ref_ptr = (0, 0); now = [] }) c.args.values.now (rw c.in-Make.is at c.requires) in
    let number = c.in-Some-parse_observations.ensures in
    rw (c.in-Make.is, words, ← number.value) (record { job = refl; none = λ is. absurd (not_none _ is); turns = refl; range = number.range })

pub returns-in-Refine : goal.returns-in-Refine
returns-in-Refine c =
    let words = two_words (record { ref_ptr = (0, 0); now = [] }) c.args.values.now (rw c.in-Refine.is at c.requires) in
    let job = some_job _ _ c.refine_job.result c.refine_job.ensures tt in
    rw (c.in-Refine.is, words) (record { job = job.0; none = job.1; turns = job.2; range = job.3 })

pub returns-in-Check : goal.returns-in-Check
returns-in-Check c =
    let words = three_words (record { ref_ptr = (0, 0); now = [] }) c.args.values.now (rw c.in-Check.is at c.requires) in
    let job = some_job _ _ c.check_job.result c.check_job.ensures tt in
    rw (c.in-Check.is, words) (record { job = job.0; none = job.1; turns = job.2; range = job.3 })
