-- What a command of channel 1 of node 1 has seen, where that channel has a file open and nobody else has: it fits the command on blocks that spell a catalogue.
use Rattle.std.proofs.Common.{◌≡◌, ◌≤◌, ◌∙◌, ℕ, true, List, [], ◌∷◌, ◌++◌, Some, None, refl, sym, ap, subst}
use Rattle.std.specs.Prelude.{◌==◌, ◌&&◌, nat_lt, if◌then◌else◌}
use Rattle.base_words.specs.Fields.{Block}
use Rattle.fx_home.specs.Homes.{home_read}
use Rattle.plain_cat.specs.Modes.{rank}
use Rattle.plain_cat.specs.declared.command.Cmd.{Cmd}
use Rattle.plain_cat.specs.declared.cat.Cat.{Cat}
use Rattle.plain_rules.specs.Accounts.{Accounted}
use Rattle.plain_rules.specs.Lookups.{in_use}
use Rattle.base_words.specs.Lists.{StandsIn}
use Rattle.vol_spell.specs.Owners.{Owners, nothing, Outs}
use Rattle.vol_parts.specs.Findings.{home_at}
use Rattle.vol_parts.specs.Volumes.{volume, geometry_of}
use Rattle.vol_faults.specs.Free.{IsGeometryBy}
use Rattle.vol_spell.specs.Spelling.{Spells}
use Rattle.vol_spell.specs.Accepting.{IsSpelt, owners_told}
use Rattle.vol_under.proofs.Endings.{opens_spelt}
use Rattle.op_law.specs.declared.seen.Seen.{Seen}
use Rattle.op_law.specs.declared.seen.Chan.{Chan}
use Rattle.op_law.specs.Events.{space_of, HasNoSpace}
use Rattle.op_law.specs.Knows.{channel_of, has_channel, is_new_number, is_short, wanted, may_ask, changes_usage, knows}
use Rattle.plain_rules.specs.Opens.{is_plain_file}
use Rattle.op_law.specs.Fits.{things, FitsOn}
use Rattle.op_law.specs.Laws.{Lawful}
use Rattle.op_law.proofs.Going.{seen_goes_on}
use Rattle.base_words.proofs.Booleans.{where_so}
use Rattle.op_law.proofs.Asking.{both}
use Rattle.rows_ops.proofs.Meeting.{all_charged}
use Rattle.vol_analyze.proofs.Accepting.{same_number}

-- the catalogue with this open on channel 1 of node 1, and nothing else
abbrev opened : Cat → Chan → Cat
opened c p = record c { opens = Some (record { file = p.file.num; mode = p.mode }) ∷ [] }

module _ (x : Cmd) (of : channel_of x ≡ Some 1) (c : Cat) (p : Chan) (mode : nat_lt 0 (rank p.mode) ≡ true) (above : nat_lt 11 p.file.num ≡ true) (plain : is_plain_file (in_use c p.file) ≡ true) where
  has_it : has_channel (opened c p) 1 (Some 1) (Some p) ≡ true
  has_it = both _ _ (same_number p.file.num) (both _ _ (same_number (rank p.mode)) (both _ _ above plain))

  knows_it : (seen : Seen) → Accounted c → seen.channel ≡ Some p → HasNoSpace (space_of seen) → knows 1 x seen (opened c p) ≡ true
  knows_it seen accounted channel none = both _ _
      (ap (λ k. has_channel (opened c p) 1 (channel_of x) k) channel ∙ (ap (λ k. has_channel (opened c p) 1 k (Some p)) of ∙ has_it))
      (both _ _ (ap is_new_number none.number)
      (both _ _ (ap (λ r. is_short (opened c p) (wanted seen x) r) none.short)
      (both _ _ (where_so (changes_usage x) _ (all_charged (opened c p) c.quota accounted.usage)) (where_so (may_ask x) _ (both _ _ mode refl)))))

  -- nothing is seen, and nothing given
  pub begins : (seen : Seen) (bs : List Block) → Lawful x → IsSpelt bs c → Accounted c → IsGeometryBy bs (home_read (home_at bs)) seen.geometry
      → seen.channel ≡ Some p → seen.locks ≡ [] → seen.blocks ≡ [] → HasNoSpace (space_of seen) → FitsOn x seen bs
  begins seen bs law s accounted g channel no_locks no_blocks none =
      let e : seen.geometry ≡ geometry_of (volume s.home bs) = subst (λ r. IsGeometryBy bs r seen.geometry) s.read g in
      let own : Owners = owners_told (volume s.home bs) in
      let given : things seen.clusters seen.number ≡ nothing = ap (λ n. things seen.clusters n) none.number ∙ ap (λ cs. things cs None) none.clusters in
      record {
        order = (seen_goes_on x law.searches).first seen no_locks no_blocks none;
        node = 1;
        own = own;
        cat = opened c p;
        on = record {
          spelt = subst (λ k. Spells k bs own (opened c p)) (sym e) (opens_spelt (geometry_of (volume s.home bs)) bs own c (opened c p).opens s.spelt);
          stands = subst (StandsIn bs) (sym no_blocks) tt;
          stock = nothing;
          outs = subst (λ o. Outs 1 own o nothing) (sym given) (s.outs 1);
          known = knows_it seen accounted channel none;
        };
      }
