-- The mending of a world that is over, and how it is told.
use Rattle.std.proofs.Common.{◌≡◌, ◌∙◌, ℕ, List, Option, Some, None, refl, sym, ap, subst}
use Rattle.base_words.specs.Fields.{Block}
use Rattle.base_words.specs.Faults.{Rose}
use Rattle.plain_cat.specs.declared.cat.Cat.{Cat}
use Rattle.plain_cat.specs.declared.history.Entry.{Entry}
use Rattle.plain_rules.specs.Lookups.{free_clusters}
use Rattle.vol_parts.specs.declared.finding.Finding.{Finding}
use Rattle.vol_parts.specs.Findings.{CatOf, Weak}
use Rattle.vol_rebuild.specs.declared.fault.RebuildFault.{RebuildFault}
use Rattle.vol_rebuild.specs.declared.fault.RebuildFault.TheVariants as rebuild
use Rattle.core_state.specs.Worlds.{Plain}
use Rattle.blk_drive.specs.Telling.{IsTold}
use Rattle.blk_drive.specs.Telling.{told_as}
use Rattle.run_engine.specs.Reports.{report_bytes}
use Rattle.run_engine.specs.Mendings.{StillMends, IsMendEnd, IsMendImage}
use Rattle.run_engine.specs.Stops.{report_text}
use Rattle.run_engine.specs.Texts.{cut_text, unmended_text}
use Rattle.run_engine.specs.Inputs.{Leaves}
use Rattle.run_engine.specs.Halts.{IsHaltOf, IsMendedBy, IsUnmendedBy, IsHaltBy}
use Rattle.run_engine.specs.declared.over_mending.Halt.{Halt}
use Rattle.run_engine.specs.declared.over_mending.Halt.TheVariants as halt

module _ (w : Plain) (c : Cat) (told now : Option (List Block)) (h : List Entry) (new : List Block) (still : StillMends c w.blocks new) where
  pub partly_by : (f : Option RebuildFault) → IsMendImage c w.blocks told now new f → Leaves told now (StillMends c w.blocks)
  partly_by None image = record { new = new; left = image; holds = still }
  partly_by (Some (rebuild.NotMendable f)) image = record { new = new; left = image; holds = still }
  partly_by (Some rebuild.ImageFault) image = record { new = image.0; left = image.1; holds = image.2 }
  partly_by (Some rebuild.NoMemory) image = record { new = new; left = image; holds = still }

  pub mended_by : (text : List ℕ) → IsMendEnd w c h new None → IsMendImage c w.blocks told now new None → ((x : Cat) → CatOf new x → text ≡ report_bytes h (free_clusters x)) → Leaves told now (λ bs. IsMendedBy w c bs text)
  mended_by text end image written = record {
    new = new;
    left = image;
    holds = record {
      done = end.0;
      mended = end.1;
      written = written end.1.after end.1.left ∙ ap (λ (es : List Entry). report_text es end.1.after) end.2;
    };
  }

  pub halt_by : (f : RebuildFault) (had has : ℕ) (x : Halt) → IsHaltOf h f x → IsMendEnd w c h new (Some f) → IsMendImage c w.blocks told now new (Some f) → (Some f ≡ Some rebuild.ImageFault → Rose had has) → Leaves told now (λ bs. IsHaltBy w c bs had has x)
  halt_by rebuild.ImageFault had has (halt.Cut text) told_so end image cause = record { new = image.0; left = image.1; holds = (cause refl, image.2, told_so ∙ ap cut_text end) }
  halt_by rebuild.ImageFault had has halt.NoLines told_so end image cause = record { new = image.0; left = image.1; holds = (cause refl, image.2) }
  halt_by rebuild.ImageFault had has (halt.Unmended text g) told_so end image cause = absurd told_so
  halt_by rebuild.ImageFault had has (halt.By s) told_so end image cause = absurd told_so
  halt_by (rebuild.NotMendable f) had has (halt.Cut text) told_so end image cause = absurd told_so
  halt_by (rebuild.NotMendable f) had has halt.NoLines told_so end image cause = absurd told_so
  halt_by (rebuild.NotMendable f) had has (halt.Unmended text g) told_so end image cause = record {
    new = new;
    left = image;
    holds = subst (λ (k : Finding). IsUnmendedBy w c new k text.items) (sym told_so.1) (record { image = end.1; roomless = end.0; written = told_so.0 ∙ ap (λ (es : List Entry). unmended_text es f) end.2 });
  }
  halt_by (rebuild.NotMendable f) had has (halt.By s) told_so end image cause = record { new = new; left = image; holds = (told_so, still) }
  halt_by rebuild.NoMemory had has x told_so end image cause = record { new = new; left = image; holds = subst (IsHaltBy w c new had has) (sym told_so) (refl, still) }

-- a mending without a fault leaves no fatal finding
pub weak_by : (w : Plain) (c : Cat) (h : List Entry) (new : List Block) (f : Option RebuildFault) → f ≡ None → IsMendEnd w c h new f → Weak new
weak_by w c h new f none end = let e : IsMendEnd w c h new None = subst (IsMendEnd w c h new) none end in e.1.left.weak

pub retold : (told now final : Option (List Block)) (old blocks : List Block) → now ≡ told_as told old → final ≡ told_as now blocks → final ≡ told_as told blocks
retold None now final old blocks e f = f ∙ ap (λ (t : Option (List Block)). told_as t blocks) e
retold (Some x) now final old blocks e f = f ∙ ap (λ (t : Option (List Block)). told_as t blocks) e

-- what is left of the drive of the run is left of the blocks before it
pub left_then : (told now final : Option (List Block)) (old : List Block) (P : List Block → Type 0) → now ≡ told_as told old → Leaves now final P → Leaves told final P
left_then told now final old P e r = record { new = r.new; left = retold told now final old r.new e r.left; holds = r.holds }

-- the image tells the drive of the run
pub told_now : (told now : Option (List Block)) (bs : List Block) → now ≡ told_as told bs → IsTold now bs
told_now None now bs e = subst (λ (t : Option (List Block)). IsTold t bs) (sym e) tt
told_now (Some x) now bs e = subst (λ (t : Option (List Block)). IsTold t bs) (sym e) refl
