-- A volume as it is mounted.
use Rattle.std.specs.Prelude.{◌≡◌, List, [], None, false, replicate}
use Rattle.base_words.specs.Fields.{Block}
use Rattle.plain_cat.specs.declared.cat.Cat.{Cat}
use Rattle.plain_cat.specs.declared.script.Script.{Script}
use Rattle.plain_rules.specs.Own.{newborn}
use Rattle.vol_parts.specs.declared.geometry.Geometry.{Geometry}
use Rattle.vol_parts.specs.Findings.{Accepts, CatOf}
use Rattle.vol_analyze.specs.Judging.{IsFirstFound}
use Rattle.core_state.specs.declared.mounting.MountFault.{MountFault}
use Rattle.core_state.specs.declared.mounting.MountFault.TheVariants as fault
use Rattle.core_space.specs.Rule.{no_run}
use Rattle.core_state.specs.Worlds.{empty_stock, NodeState, Plain}

abbrev pub at_rest : Geometry → NodeState
at_rest g = record {
  past = newborn;
  cmd = None;
  seen = record { geometry = g; channel = None; locks = []; blocks = []; clusters = []; number = None; short = None };
  plan = None;
  done = 0;
  tried = false;
  asked = [];
  kept = [];
  claims = [];
  opens = replicate 8 None;
  run = no_run;
  stock = empty_stock;
  cache = [];
  over = false;
  turns = 0;
  writes = 0;
  reads = 0;
  hits = 0;
}

abbrev pub mounted : List Block → Script → Cat → Geometry → Plain
mounted bs s c g = record { script = s; opening = c; geometry = g; blocks = bs; locks = []; nodes = replicate s.nodes (at_rest g); history = [] }

-- a world is that of these blocks, in which nothing is found, with the catalogue that they tell
pub record IsMounted (bs : List Block) (s : Script) (w : Plain) : Type 0 where
  pub opening : Cat
  pub geometry : Geometry
  pub accepted : Accepts bs
  pub told : CatOf bs opening
  pub is : w ≡ mounted bs s opening geometry

abbrev pub IsMountEnd : List Block → MountFault → Type 0
IsMountEnd bs (fault.NotAccepted f) = IsFirstFound bs f
IsMountEnd bs fault.NoMemory = Unit {0}
