use Rattle.kf_channel.proofs.Listing.{some_secrets}
use Rattle.kf_channel.proofs.law.some_secrets.Goals as goal

pub returns : goal.returns
returns c = some_secrets
