use Rattle.std.proofs.Common.{to_z, of_z, w64, sym, ap, ◌∙◌}
use Rattle.kf_value.proofs.ReadingNumbers.{whole_cut, front_reads, number_reads, some_is, some_none, same_place, same_number}
use Rattle.kf_value.proofs.readings.read_whole.Goals as goal

pub returns-in_err-ok : goal.returns-in_err-ok
returns-in_err-ok c = λ n v r place stops whole.
    let cut = whole_cut c.args.lo c.args.hi n c.numeric_length.result v r c.args.bytes.now c.split_at.result.0.now c.split_at.result.1.now c.requires place stops whole
    c.numeric_length.ensures.front c.split_at.ensures.front c.split_at.ensures.back in
    let reads = front_reads c.from_utf8.result c.split_at.result.0.now _ cut.whole cut.small cut.front_is c.from_utf8.ensures.cases in
    absurd (some_none reads.0 (c.in_err-ok.ensures.value ∙ reads.1))

pub returns-in_err-whole : goal.returns-in_err-whole
returns-in_err-whole c = λ n v r place stops whole.
    let cut = whole_cut c.args.lo c.args.hi n c.numeric_length.result v r c.args.bytes.now c.split_at.result.0.now c.split_at.result.1.now c.requires place stops whole
    c.numeric_length.ensures.front c.split_at.ensures.front c.split_at.ensures.back in
    let reads = front_reads c.from_utf8.result c.split_at.result.0.now _ cut.whole cut.small cut.front_is c.from_utf8.ensures.cases in
    let text = ap (λ s. s.now) (some_is c.in_ok-ok.field-0 reads.0 (c.in_ok-ok.ensures.value ∙ reads.1)) ∙ reads.2 in
    let number = number_reads c.in_ok-ok.field-0.now c.parse.result cut.whole cut.fits cut.small (text ∙ cut.front_is) c.parse.ensures.value.0 in
    absurd (some_none cut.whole (c.in_err-whole.ensures.value ∙ number))

pub returns-in_err-number_in_range : goal.returns-in_err-number_in_range
returns-in_err-number_in_range c = λ n v r place stops whole.
    let cut = whole_cut c.args.lo c.args.hi n c.numeric_length.result v r c.args.bytes.now c.split_at.result.0.now c.split_at.result.1.now c.requires place stops whole
    c.numeric_length.ensures.front c.split_at.ensures.front c.split_at.ensures.back in
    let reads = front_reads c.from_utf8.result c.split_at.result.0.now _ cut.whole cut.small cut.front_is c.from_utf8.ensures.cases in
    let text = ap (λ s. s.now) (some_is c.in_ok-ok.field-0 reads.0 (c.in_ok-ok.ensures.value ∙ reads.1)) ∙ reads.2 in
    let number = number_reads c.in_ok-ok.field-0.now c.parse.result cut.whole cut.fits cut.small (text ∙ cut.front_is) c.parse.ensures.value.0 in
    let same = some_is c.in_ok-whole.whole cut.whole (c.in_ok-whole.ensures.value ∙ number) in
    let kept = ap (λ z. to_z w64 (of_z w64 z)) same ∙ cut.whole_kept in
    absurd (c.in_err-number_in_range.ensures.place n (same_place c.args.lo c.args.hi cut.whole _ _ _ n cut.lo_kept cut.hi_kept kept cut.at))

pub returns : goal.returns
returns c = λ n v r place stops whole.
    let cut = whole_cut c.args.lo c.args.hi n c.numeric_length.result v r c.args.bytes.now c.split_at.result.0.now c.split_at.result.1.now c.requires place stops whole
    c.numeric_length.ensures.front c.split_at.ensures.front c.split_at.ensures.back in
    let reads = front_reads c.from_utf8.result c.split_at.result.0.now _ cut.whole cut.small cut.front_is c.from_utf8.ensures.cases in
    let text = ap (λ s. s.now) (some_is c.in_ok-ok.field-0 reads.0 (c.in_ok-ok.ensures.value ∙ reads.1)) ∙ reads.2 in
    let number = number_reads c.in_ok-ok.field-0.now c.parse.result cut.whole cut.fits cut.small (text ∙ cut.front_is) c.parse.ensures.value.0 in
    let same = some_is c.in_ok-whole.whole cut.whole (c.in_ok-whole.ensures.value ∙ number) in
    let kept = ap (λ z. to_z w64 (of_z w64 z)) same ∙ cut.whole_kept in
    let at = same_place _ _ _ c.args.lo c.args.hi cut.whole c.in_ok-number_in_range.field-0 (sym cut.lo_kept) (sym cut.hi_kept) (sym kept) c.in_ok-number_in_range.ensures.place in
    (c.from.ensures ∙ same_number c.args.lo c.args.hi c.in_ok-number_in_range.field-0 n cut.whole at cut.is, cut.back_is)
