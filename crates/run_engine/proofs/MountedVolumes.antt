-- A volume as it is mounted: its blocks spell the opening catalogue by the geometry that its home block tells.
use Rattle.std.proofs.Common.{◌≡◌, ◌∙◌, ℕ, List, [], Option, Some, None, Result, Ok, Err, refl, sym, ap, subst}
use Rattle.std.specs.Prelude.{replicate}
use Rattle.base_words.specs.Fields.{Block}
use Rattle.fx_home.specs.declared.home.Home.{Home}
use Rattle.fx_home.specs.declared.home.HomeFault.{HomeFault}
use Rattle.fx_home.specs.Homes.{home_read}
use Rattle.plain_cat.specs.declared.cat.Cat.{Cat}
use Rattle.plain_cat.specs.declared.script.Script.{Script}
use Rattle.vol_spell.specs.Owners.{Owners, nothing}
use Rattle.vol_parts.specs.declared.geometry.Geometry.{Geometry}
use Rattle.vol_parts.specs.Volumes.{volume, head, runs, geometry_of}
use Rattle.vol_parts.specs.Findings.{home_at}
use Rattle.vol_faults.specs.Free.{IsGeometryBy}
use Rattle.vol_spell.specs.Spelling.{IsHomeOf, Spells}
use Rattle.vol_spell.proofs.Told.{volume_tells}
use Rattle.vol_under.specs.UnderWay.{resting}
use Rattle.core_state.specs.Worlds.{NodeState, Plain, node_at}
use Rattle.core_state.specs.Goods.{Good, under_by, nodes_under}
use Rattle.core_state.specs.Mounting.{at_rest, mounted, IsMounted}
use Rattle.core_state.proofs.MountedWorlds.{at_rest_at}
use Rattle.run_engine.proofs.Ending.{rest_is_spelt}

-- the label plays no part
abbrev of_home : ℕ → ℕ → List ℕ → List Block → Geometry
of_home cluster files label bs = geometry_of (volume (record { cluster = cluster; files = files; label = label }) bs)

any_label : (cluster files : ℕ) (a b : List ℕ) (bs : List Block) → of_home cluster files a bs ≡ of_home cluster files b bs
unfolding runs head
any_label cluster files a b bs = refl

pub geometry_told : (g : Geometry) (bs : List Block) (own : Owners) (c : Cat) → Spells g bs own c → IsGeometryBy bs (home_read (home_at bs)) g
geometry_told g bs own c s = by (home_read (home_at bs)) s.structures.home where
  by : (r : Result Home HomeFault) → IsHomeOf g r → IsGeometryBy bs r g
  by (Ok h) e =
      sym (volume_tells g bs own c s).geometry
      ∙ ap (λ k. of_home k g.files [] bs) (sym e.0)
      ∙ ap (λ k. of_home h.cluster k [] bs) (sym e.1)
      ∙ any_label h.cluster h.files [] h.label bs
  by (Err fault) e = absurd e

-- no node of it has anything under way
rests : (bs : List Block) (s : Script) (c : Cat) (g : Geometry) (n : ℕ) → nodes_under [] (mounted bs s c g).nodes n ≡ resting nothing
rests bs s c g n = by (node_at (replicate s.nodes (at_rest g)) n) refl where
  by : (o : Option NodeState) → node_at (replicate s.nodes (at_rest g)) n ≡ o → under_by [] n o ≡ resting nothing
  by None e = refl
  by (Some r) e = ap (λ (y : NodeState). under_by [] n (Some y)) (at_rest_at s.nodes (at_rest g) n r e)

pub mounted_geometry : (bs : List Block) (s : Script) (w : Plain) → Good w → IsMounted bs s w → IsGeometryBy bs (home_read (home_at bs)) w.geometry
mounted_geometry bs s w good m =
    let P : Plain → Type 0 = λ v. (n : ℕ) → nodes_under v.locks v.nodes n ≡ resting nothing in
    let h = rest_is_spelt w good (subst P (sym m.is) (rests bs s m.opening m.geometry)) in
    subst (λ (b : List Block). IsGeometryBy b (home_read (home_at b)) w.geometry) (ap (λ (v : Plain). v.blocks) m.is) (geometry_told w.geometry w.blocks h.1.drive.own h.0 h.1.drive.spelt)
