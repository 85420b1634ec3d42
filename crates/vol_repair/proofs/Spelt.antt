-- Blocks that spell a catalogue before it is patched, and where their fixed parts lie.
use Rattle.std.proofs.Common.{◌≡◌, ◌∙◌, ◌<◌, ◌≤◌, ◌*◌, ℕ, true, List, length, refl, sym, ap, subst, inl, inr, arith, cond}
use Rattle.std.specs.Prelude.{Ok, Err, nat_lt}
use Rattle.std.specs.List.{list_any}
use Rattle.std.proofs.lemmas.Bool.{cases_Bool, ltb-true}
use Rattle.base_words.specs.Fields.{Block}
use Rattle.fx_home.specs.declared.home.Home.{Home}
use Rattle.fx_header.specs.Headers.{header_read}
use Rattle.fx_header.specs.declared.slot.HeaderFault.TheVariants.{BadSum}
use Rattle.plain_cat.specs.declared.cat.Cat.{Cat}
use Rattle.vol_parts.specs.declared.finding.Finding.TheVariants as finding
use Rattle.vol_parts.specs.declared.geometry.Geometry.{Geometry}
use Rattle.vol_parts.specs.Conditions.{HasSystemFiles, HasRunsInside, HasAllRunsInside}
use Rattle.vol_parts.specs.Fatal.{is_system_file, is_off_bounds}
use Rattle.vol_parts.specs.Volumes.{volume, IsNumber, head as head_of, header_lbn, header_at, runs, first_lbn, bitmap_lbn, quota_lbn, geometry_of}
use Rattle.vol_parts.specs.Catalogues.{catalogue}
use Rattle.vol_spell.specs.Accepting.{owners_told, IsSpelt}
use Rattle.vol_spell.specs.Spelling.{Spells}
use Rattle.vol_spell.proofs.Accepted.{beside_is_spelt}
use Rattle.vol_spell.proofs.Frames.{structure_number}
use Rattle.vol_mends.specs.Weak.{NoOuts}
use Rattle.vol_mends.proofs.Views.{v, v_bitmap, v_runs}
use Rattle.vol_repair.specs.Alike.{IsSpeltAs}
use Rattle.vol_repair.specs.Patching.{IsSpellable}

-- ---- where the fixed parts lie

-- they lie where the spelling says
pub geometry_stays : (home : Home) (g : Geometry) (bs : List Block) (c : Cat) → IsSpeltAs g bs c → g.cluster ≡ home.cluster → g.files ≡ home.files → geometry_of (volume home bs) ≡ g
geometry_stays home g bs c is cluster files = subst (λ (h : Home). geometry_of (volume h bs) ≡ g) same there where
  same : record { cluster = g.cluster; files = g.files; label = home.label } ≡ home
  same = λ i. record { cluster = cluster i; files = files i; label = home.label }

  bitmap : bitmap_lbn (v home.label g bs is.own c is.spelt) ≡ g.bitmap_lbn
  bitmap = v_bitmap home.label g bs is.own c is.spelt

  quota : quota_lbn (v home.label g bs is.own c is.spelt) ≡ g.quota_lbn
  quota = ap first_lbn (v_runs home.label g bs is.own c is.spelt 10 (structure_number g bs is.own c is.spelt 10 refl) ∙ is.spelt.structures.quota.run)

  there : geometry_of (v home.label g bs is.own c is.spelt) ≡ g
  there = λ i. record { blocks = is.spelt.counts.blocks i; cluster = g.cluster; files = g.files; bitmap_lbn = bitmap i; quota_lbn = quota i }

-- ---- what can be spelt

module _ (home : Home) (bs : List Block) (r : IsSpellable home bs) where
  pub spellable_systems : HasSystemFiles (volume home bs)
  spellable_systems = record { sound = each } where
    each : (n : ℕ) → 1 ≤ n → n ≤ 11 → is_system_file (volume home bs) n ≡ true
    each n from to = elim (cases_Bool (is_system_file (volume home bs) n)) [ inl t ↦ t | inr f ↦ absurd (r.findings (finding.SystemFile n) (from, to, f)) ]

  pub spellable_runs : HasAllRunsInside (volume home bs)
  spellable_runs = record { inside = each } where
    each : (n : ℕ) → IsNumber (volume home bs) n → HasRunsInside (volume home bs) n
    each n is = elim (cases_Bool (list_any (is_off_bounds (volume home bs)) (runs (volume home bs) n))) [
      | inl t ↦ absurd (r.findings (finding.Runs n) (is, t))
      | inr f ↦ record { inside = f }
    ]

  first_number : IsNumber (volume home bs) 1
  first_number = let low = r.within.files_low in record { from = omega arith; to = omega (arith, low) }

  -- the index-file bitmap is on the volume
  pub spellable_index : 4 * home.cluster < length bs
  unfolding head_of
  spellable_index = elim (cases_Bool (nat_lt (header_lbn (volume home bs) 1) (length bs))) [
    | inl t ↦ (let h = ltb-true (header_lbn (volume home bs) 1) (length bs) t in omega (arith, h))
    | inr f ↦ absurd (r.findings (finding.Header 1 BadSum) (first_number, ap (λ b. cond b (header_read (header_at (volume home bs) 1)) (Err BadSum)) f))
  ]

  -- they spell what they tell
  pub spellable_spelt : IsSpeltAs (geometry_of (volume home bs)) bs (catalogue (volume home bs))
  spellable_spelt = by_spelt (beside_is_spelt home bs r.size.from r.size.to r.whole r.read r.findings) where
    by_spelt : IsSpelt bs (catalogue (volume home bs)) → IsSpeltAs (geometry_of (volume home bs)) bs (catalogue (volume home bs))
    by_spelt s =
        let both : Ok s.home ≡ Ok home = sym s.read ∙ r.read in
        let same : s.home ≡ home = cc both in
        record {
          own = owners_told (volume home bs);
          spelt = subst (λ (h : Home). Spells (geometry_of (volume h bs)) bs (owners_told (volume h bs)) (catalogue (volume home bs))) same s.spelt;
          none = subst (λ (h : Home). NoOuts (owners_told (volume h bs))) same s.outs;
        }
