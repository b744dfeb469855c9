use Rattle.kf_meaning.proofs.Composed.{cascade_is_product, first_marginal, parallel_has_pairs, parallel_is_independent, second_marginal}
use Rattle.kf_meaning.proofs.Placed.{places_show_secrets}
use Rattle.kf_meaning.proofs.laws.channel_products.Goals as goal

pub returns : goal.returns
returns c = record {
  cascade = cascade_is_product;
  places = places_show_secrets;
  parallel = parallel_is_independent;
  pairs = parallel_has_pairs;
  first = first_marginal;
  second = second_marginal;
}
