-- The lost file without room comes behind the other fatal findings.
use Rattle.std.proofs.Common.{◌≡◌, ◌∙◌, ◌≤◌, Some, None, Result, Ok, Err, List, length, refl, sym, ap, subst, arith}
use Rattle.base_words.specs.Fields.{Block}
use Rattle.fx_home.specs.declared.home.Home.{Home}
use Rattle.fx_home.specs.declared.home.HomeFault.{HomeFault}
use Rattle.fx_home.specs.Homes.{home_read}
use Rattle.plain_cat.specs.declared.cat.Cat.{Cat}
use Rattle.vol_parts.specs.declared.finding.Finding.{Finding}
use Rattle.vol_parts.specs.declared.finding.Finding.TheVariants as finding
use Rattle.vol_parts.specs.Volumes.{volume}
use Rattle.vol_parts.specs.Catalogues.{catalogue}
use Rattle.vol_parts.specs.Findings.{home_at, IsFatalBy, IsFirstFatal, IsReadable, IsCatalogueBy, CatOf}
use Rattle.vol_faults.specs.CatFindings.{IsFirstIn, IsFatalOf}
use Rattle.vol_faults.proofs.FreeLemmas.{none-of-readable}
use Rattle.vol_faults.proofs.LiftLemmas.{catalogue-numbers}
use Rattle.vol_faults.proofs.WholeLemmas.{cat-step}
use Rattle.vol_spell.proofs.Accepted.{limits_of}

-- the home block is read, and the catalogue is that of the volume
record IsTold (bs : List Block) (c : Cat) : Type 0 where
  home : Home
  read : home_read (home_at bs) ≡ Ok home
  told : c ≡ catalogue (volume home bs)

home_told : (bs : List Block) (c : Cat) → IsCatalogueBy bs (home_read (home_at bs)) c → IsTold bs c
home_told bs c h = by_home (home_read (home_at bs)) refl h where
  by_home : (r : Result Home HomeFault) → home_read (home_at bs) ≡ r → IsCatalogueBy bs r c → IsTold bs c
  by_home (Ok home) e h = record { home = home; read = e; told = h }
  by_home (Err fault) e h = absurd h

-- the catalogue has a slot for each of the file numbers
pub few_files : (bs : List Block) (c : Cat) → IsCatalogueBy bs (home_read (home_at bs)) c → length c.files ≤ 4096
few_files bs c h =
    let t = home_told bs c h in
    let limits = limits_of (home_at bs) t.home t.read in
    let all : length c.files ≡ t.home.files = ap (λ (x : Cat). length x.files) t.told ∙ catalogue-numbers (volume t.home bs) in
    omega (arith, limits.files_high)

-- the first lost file without room is the first fatal finding
pub room_first : (bs : List Block) (c : Cat) (f : Finding) → IsReadable bs → IsCatalogueBy bs (home_read (home_at bs)) c → IsFirstIn c 16 (Some f) → IsFirstFatal bs f
room_first bs c f readable h first =
    let t = home_told bs c h in
    let v = volume t.home bs in
    let there = cat-step v c 16 17 (Some f) (sym t.told) (omega arith) (omega arith) (none-of-readable bs t.home readable t.read) first refl in
    record {
      fatal = subst (λ (x : Result Home HomeFault). IsFatalBy bs x f) (sym t.read) there.fatal;
      first = λ g k. there.first g (subst (λ (x : Result Home HomeFault). IsFatalBy bs x g) t.read k);
    }

-- where there is none, no fatal finding holds
pub room_none : (bs : List Block) (c : Cat) → IsReadable bs → IsCatalogueBy bs (home_read (home_at bs)) c → IsFirstIn c 16 None → CatOf bs c
room_none bs c readable h none =
    let t = home_told bs c h in
    record {
      weak = λ f fatal.
          let w = readable f fatal in
          let here : IsFatalBy bs (Ok t.home) f = subst (λ (x : Result Home HomeFault). IsFatalBy bs x f) t.read fatal in
          let room : IsFatalBy bs (Ok t.home) (finding.NoRoom w.0) = subst (λ (g : Finding). IsFatalBy bs (Ok t.home) g) w.1 here in
          none (finding.NoRoom w.0) refl (subst (λ (x : Cat). IsFatalOf x (finding.NoRoom w.0)) (sym t.told) room);
      told = h;
    }
