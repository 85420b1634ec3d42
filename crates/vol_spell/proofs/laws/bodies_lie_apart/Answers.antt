use Rattle.vol_spell.proofs.Frames.{of_body, body_once}
use Rattle.vol_spell.proofs.laws.bodies_lie_apart.Goals as goal

pub returns : goal.returns
returns c = record { each = λ g bs own cat n l s is t. of_body g bs own cat s n l is t; once = λ g bs own cat n s is. body_once g bs own cat s n is }
