use Rattle.kf_value.proofs.Digits.{digit_value, digits_fit, from_digits, radix_below, to_digits, stores_counted}
use Rattle.kf_value.proofs.laws.store_laws.Goals as goal

pub returns : goal.returns
returns c = record {
  counted = stores_counted;
  at_digits = λ ts n i t s at store. digit_value ts n i t s at store;
  digits_fit = digits_fit;
  from_digits = from_digits;
  below = radix_below;
  to_digits = to_digits;
}
