-- Laws of worlds that are over, and of worlds that stop.
use Rattle.std.specs.Prelude.{◌≡◌, ℕ, List}
use Rattle.base_words.specs.Fields.{Block}
use Rattle.plain_cat.specs.declared.cat.Cat.{Cat}
use Rattle.plain_cat.specs.declared.history.Mended.{Mended}
use Rattle.plain_rules.specs.Replaying.{Replays}
use Rattle.vol_spell.specs.Owners.{Owners}
use Rattle.vol_parts.specs.Findings.{Accepts, CatOf}
use Rattle.vol_spell.specs.Spelling.{Spells}
use Rattle.vol_mends.specs.Weak.{NoOuts, shut}
use Rattle.vol_mends.specs.Mends.{Mends}
use Rattle.vol_rebuild.specs.Rebuilt.{IsRebuilt}
use Rattle.core_state.specs.Worlds.{Plain}
use Rattle.core_state.specs.Goods.{Good, IsAccepted}
use Rattle.core_state.specs.Deaths.{after_step}
use Rattle.run_engine.specs.Halting.{IsHalted}
use Rattle.run_engine.specs.Mending.{MendsAs}
use Rattle.core_state.specs.Ends.{GoesLawfully}

-- If the history of a world replays to a catalogue, and its drive spells this one with nothing outside at any node, as once every node
-- is over, the drive mends as the catalogue does.
abbrev pub OverWorldsMend : Type 0
OverWorldsMend = (w : Plain) (own : Owners) (c : Cat) → IsAccepted w.opening → Replays w.opening w.script w.history c → Spells w.geometry w.blocks own c → NoOuts own → MendsAs w.blocks c

-- if a world stops at any moment, the drive mends as the catalogue that is left
abbrev pub StoppedWorldsMend : Type 0
StoppedWorldsMend = (w : Plain) → Good w → IsAccepted w.opening → (c : Cat) × IsHalted w c × MendsAs w.blocks c

-- this catalogue is one, but for what the channels have open
abbrev pub HaltedIsOne : Type 0
HaltedIsOne = (w : Plain) (c d : Cat) → IsHalted w c → IsHalted w d → shut c ≡ shut d

-- a world keeps the rules over a step of a node: its turn, or the death in its place
abbrev pub StepsKeepTheRules : Type 0
StepsKeepTheRules = (w : Plain) (n : ℕ) → Good w → GoesLawfully w n → Good (after_step w n)

-- What mending makes of blocks is accepted and tells the catalogue to which they mend. So a mending that was stopped after any write, and
-- is made again, ends with the same catalogue.
abbrev pub RebuiltIsMended : Type 0
RebuiltIsMended = (bs new : List Block) (d : Cat) (done : Mended) → Mends bs d → IsRebuilt bs new done → Accepts new × CatOf new d
