-- What channels that open and close, and deaths, leave of the drive under way.
use Rattle.std.specs.Prelude.{◌≡◌, ◌+◌, ◌↔◌, ℕ, true, List, Option, length, map}
use Rattle.base_words.specs.Fields.{Block}
use Rattle.plain_cat.specs.declared.cat.Cat.{Cat}
use Rattle.plain_cat.specs.declared.cat.Open.{Open}
use Rattle.plain_rules.specs.Replaying.{dead, MayLeak}
use Rattle.base_words.specs.Lists.{Has, Once}
use Rattle.vol_spell.specs.Owners.{Owners, Things, nothing, Outs}
use Rattle.vol_parts.specs.declared.geometry.Geometry.{Geometry}
use Rattle.vol_spell.specs.Spelling.{Spells}
use Rattle.vol_under.specs.UnderWay.{UnderWay, stage_at, together, all_out, resting, changed, AreSole, StandsAt}
use Rattle.vol_under.specs.Under.{IsUnder}

-- what the channels have open is no matter of the drive
abbrev pub OpensKeep : Type 0
OpensKeep = (g : Geometry) (c : Cat) (nodes : ℕ → UnderWay) (drive : List Block) (opens : List (Option Open)) → IsUnder g c nodes drive → IsUnder g (record c { opens = opens }) nodes drive

-- the file numbers among these things
abbrev pub file_numbers : Things → List ℕ
file_numbers t = map (λ i. i + 1) t.numbers

-- the catalogue where node n is dead and these things are leaked
abbrev pub dead_with : Cat → ℕ → Things → Cat
dead_with c n t = dead c n (length t.clusters) (file_numbers t)

-- these are the file numbers among these things, each once, in whatever order
pub record AreNumbersOf (ns : List ℕ) (t : Things) : Type 0 where
  pub same : (n : ℕ) → Has ns n ↔ Has (file_numbers t) n
  pub once : Once ns

-- what is outside at a node is free by the catalogue, so that it may leak
abbrev pub OutsideMayLeak : Type 0
OutsideMayLeak = (g : Geometry) (bs : List Block) (own : Owners) (c : Cat) (n : ℕ) (took stock : Things) (ns : List ℕ) → Spells g bs own c → Outs n own took stock
    → AreNumbersOf ns (together took stock) → MayLeak c (length (together took stock).clusters) ns

-- a node that has stopped dies: its stock is leaked
abbrev pub LeakKeeps : Type 0
LeakKeeps = (g : Geometry) (c : Cat) (nodes : ℕ → UnderWay) (drive : List Block) (n : ℕ) (stock : Things) (ns : List ℕ) → IsUnder g c nodes drive → nodes n ≡ resting stock
    → AreNumbersOf ns stock → IsUnder g (dead c n (length stock.clusters) ns) (changed nodes n (resting nothing)) drive

-- Node n dies: the catalogue of the stage after its writes done, with what it had outside leaked, of numbers the list ns.
pub record Dies (g : Geometry) (c : Cat) (nodes : ℕ → UnderWay) (drive : List Block) (n : ℕ) (ns : List ℕ) : Type 0 where
  pub cat : Cat
  pub stage : StandsAt c n (nodes n).cmd (stage_at (nodes n).done (nodes n)) cat
  pub leaks : MayLeak cat (length (all_out (nodes n)).clusters) ns
  pub under : IsUnder g (dead cat n (length (all_out (nodes n)).clusters) ns) (changed nodes n (resting nothing)) drive

abbrev pub DeathKeeps : Type 0
DeathKeeps = (g : Geometry) (c : Cat) (nodes : ℕ → UnderWay) (drive : List Block) (n : ℕ) (ns : List ℕ) → AreSole nodes → IsUnder g c nodes drive → (nodes n).knows c ≡ true
    → AreNumbersOf ns (all_out (nodes n)) → Dies g c nodes drive n ns
