-- What the words of a way lead to, word by word.
use Rattle.std.proofs.Common.{◌≡◌, ◌≢◌, ◌∙◌, ◌-◌, ℕ, zero, suc, List, Option, Some, None, option_and_then, refl, sym, ap, arith}
use Rattle.plain_cat.specs.declared.ids.Fid.{Fid}
use Rattle.plain_cat.specs.declared.cat.Cat.{Cat}
use Rattle.plain_cat.specs.Names.{main_dir}
use Rattle.plain_rules.specs.Lookups.{in_use}
use Rattle.run_script.specs.Steps.{part_of}
use Rattle.vol_show.specs.Specifying.{entries_of, below, down}

module _ (c : Cat) (way : List ℕ) where
  abbrev next : ℕ → Fid → Option Fid
  next k fid = below (part_of 46 k way) (entries_of (in_use c fid))

  pub down_begins : (k : ℕ) → k ≡ 0 → Some main_dir ≡ down c way k
  unfolding down
  down_begins zero e = refl
  down_begins (suc k) e = absurd (omega arith)

  more : (k : ℕ) → k ≢ 0 → down c way k ≡ option_and_then (next (k - 1)) (down c way (k - 1))
  unfolding down
  more zero ne = absurd (ne refl)
  more (suc k) ne = let e : k ≡ suc k - 1 = omega arith in ap (λ (j : ℕ). option_and_then (next j) (down c way j)) e

  pub down_ends : (k : ℕ) (o : Option Fid) → k ≢ 0 → o ≡ down c way (k - 1) → o ≡ None → None ≡ down c way k
  down_ends k o ne e is = ap (λ (p : Option Fid). option_and_then (next (k - 1)) p) (sym is ∙ e) ∙ sym (more k ne)

  pub down_goes : (k : ℕ) (o : Option Fid) (fid : Fid) → k ≢ 0 → o ≡ down c way (k - 1) → o ≡ Some fid → next (k - 1) fid ≡ down c way k
  down_goes k o fid ne e is = ap (λ (p : Option Fid). option_and_then (next (k - 1)) p) (sym is ∙ e) ∙ sym (more k ne)
