-- A gain is as wide where statements are silent.
use Rattle.std.proofs.Common.{sym, ◌∙◌}
use Rattle.kf_quiet.specs.SilentLaws.{SilentWidth}
use Rattle.kf_silent.proofs.Averages.{same_average}

pub same_width : SilentWidth
same_width silent turns p g all left m of_all of_left = (
  λ w. record {
    average = w.average;
    is_average = record {
      ascending = w.is_average.ascending;
      positive = w.is_average.positive;
      weights = λ x. w.is_average.weights x ∙ sym (same_average silent turns p all left of_all of_left x);
    };
    is = w.is;
  },
  λ w. record {
    average = w.average;
    is_average = record {
      ascending = w.is_average.ascending;
      positive = w.is_average.positive;
      weights = λ x. w.is_average.weights x ∙ same_average silent turns p all left of_all of_left x;
    };
    is = w.is;
  },
)
