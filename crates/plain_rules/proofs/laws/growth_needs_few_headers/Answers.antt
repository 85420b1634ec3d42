use Rattle.plain_rules.proofs.Headers.{no_header, one_header}
use Rattle.plain_rules.proofs.laws.growth_needs_few_headers.Goals as goal

pub returns : goal.returns
returns c = record { none = no_header; one = one_header }
