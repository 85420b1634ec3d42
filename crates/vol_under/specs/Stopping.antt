-- What the drive spells, and what is left where the world stops.
use Rattle.std.specs.Prelude.{◌≡◌, ◌⊎◌, ℕ, true, List, [], ◌∷◌}
use Rattle.base_words.specs.Fields.{Block}
use Rattle.plain_cat.specs.declared.cat.Cat.{Cat}
use Rattle.base_words.specs.Lists.{Has, Once}
use Rattle.vol_spell.specs.Owners.{Owners, nothing, Outs}
use Rattle.vol_parts.specs.declared.geometry.Geometry.{Geometry}
use Rattle.vol_spell.specs.Spelling.{Spells}
use Rattle.vol_under.specs.UnderWay.{UnderWay, stage_at, all_out, resting, AreSole, StandsAt}
use Rattle.vol_under.specs.Under.{IsUnder}
use Rattle.vol_under.specs.Ending.{dead_with}

-- the catalogue d to which c goes where these nodes stop, one after the other, each at the stage of its writes done
abbrev pub Stop : (ℕ → UnderWay) → List ℕ → Cat → Cat → Type 0
Stop nodes [] c d = d ≡ c
Stop nodes (n ∷ ns) c d = (x : Cat) × StandsAt c n (nodes n).cmd (stage_at (nodes n).done (nodes n)) x × Stop nodes ns x d

-- the same where they die
abbrev pub Die : (ℕ → UnderWay) → List ℕ → Cat → Cat → Type 0
Die nodes [] c d = d ≡ c
Die nodes (n ∷ ns) c d = (x : Cat) × StandsAt c n (nodes n).cmd (stage_at (nodes n).done (nodes n)) x × Die nodes ns (dead_with x n (all_out (nodes n))) d

-- what each of these nodes knows is true still after others of them have stopped or died, wherever the catalogue went by that
abbrev pub KnowsOn : (List ℕ → Cat → Cat → Type 0) → (ℕ → UnderWay) → List ℕ → Cat → Type 0
KnowsOn Goes nodes ns c = (n : ℕ) (ms : List ℕ) (d : Cat) → Once (n ∷ ms) → ((m : ℕ) → Has (n ∷ ms) m → Has ns m) → Goes ms c d → (nodes n).knows d ≡ true

-- The drive as it is spells the catalogue to which c goes where the nodes stop. What a node has outside is what its command
-- has by now, and its stock.
pub record IsSpeltBy (g : Geometry) (c : Cat) (nodes : ℕ → UnderWay) (ns : List ℕ) (drive : List Block) : Type 0 where
  pub cat : Cat
  pub own : Owners
  pub stops : Stop nodes ns c cat
  pub spelt : Spells g drive own cat
  pub outs : (n : ℕ) → Outs n own nothing (all_out (nodes n))

-- the nodes that have done a write are among these
abbrev pub DriveSpells : Type 0
DriveSpells = (g : Geometry) (c : Cat) (nodes : ℕ → UnderWay) (drive : List Block) (ns : List ℕ) → AreSole nodes → IsUnder g c nodes drive
    → Once ns → ((n : ℕ) → Has ns n ⊎ ((nodes n).done ≡ 0)) → KnowsOn (λ ms x d. Stop nodes ms x d) nodes ns c → IsSpeltBy g c nodes ns drive

-- The drive as it is spells the catalogue to which c goes where the nodes die. Nothing is outside at a node then.
pub record IsLeft (g : Geometry) (c : Cat) (nodes : ℕ → UnderWay) (ns : List ℕ) (drive : List Block) : Type 0 where
  pub cat : Cat
  pub own : Owners
  pub dies : Die nodes ns c cat
  pub spelt : Spells g drive own cat
  pub outs : (n : ℕ) → Outs n own nothing nothing

-- the nodes that have anything under way or outside are these
abbrev pub WorldStops : Type 0
WorldStops = (g : Geometry) (c : Cat) (nodes : ℕ → UnderWay) (drive : List Block) (ns : List ℕ) → AreSole nodes → IsUnder g c nodes drive
    → Once ns → ((n : ℕ) → Has ns n ⊎ (nodes n ≡ resting nothing)) → KnowsOn (λ ms x d. Die nodes ms x d) nodes ns c → IsLeft g c nodes ns drive
