-- What channels that open and close, and deaths, leave of the drive under way.
use Rattle.std.proofs.Common.{◌≡◌, ◌≤◌, ◌+◌, ◌==◌, ℕ, Bool, true, false, List, [], Option, length, map, refl, sym, ap, subst, ◌∙◌, inr, arith, cond}
use Rattle.std.specs.Prelude.{count_by}
use Rattle.base_words.specs.Fields.{Block}
use Rattle.plain_cat.specs.declared.cat.Cat.{Cat}
use Rattle.plain_cat.specs.declared.cat.Open.{Open}
use Rattle.plain_rules.specs.Replaying.{closed_channels, flagged, dead}
use Rattle.vol_spell.specs.declared.owner.Owner.TheVariants.{Outside, Leaked}
use Rattle.base_words.specs.Lists.{Once, Touches, StandsIn}
use Rattle.vol_spell.specs.Owners.{Owners, OwnersMove, IsDeathMove, nothing, Outs}
use Rattle.vol_spell.specs.Hands.{handed, AreOf}
use Rattle.vol_spell.specs.Counts.{is_same_owner}
use Rattle.vol_spell.proofs.Handing.{handed_moves, outside_to_leaked}
use Rattle.vol_parts.specs.declared.geometry.Geometry.{Geometry}
use Rattle.vol_spell.specs.Spelling.{Spells}
use Rattle.vol_spell.specs.Kinds.{with_leaks}
use Rattle.vol_spell.proofs.Keeping.{death_leaks}
use Rattle.vol_under.specs.Guards.{guard_of, MayWrite, MayLook}
use Rattle.vol_under.specs.UnderWay.{bare, UnderWay, writes_to, all_out, resting, idle, changed, AreSole}
use Rattle.vol_under.specs.Under.{IsLawful, IsUnder}
use Rattle.vol_under.specs.Ending.{OpensKeep, file_numbers, LeakKeeps, DeathKeeps}
use Rattle.vol_under.specs.Answering.{AnswerKeeps}
use Rattle.vol_under.proofs.Guarding.{guard_stays, death_write, death_look, outs_stay}
use Rattle.vol_under.proofs.Lying.{over_same}
use Rattle.vol_under.proofs.Nodes.{changed_here, each, done_alike}
use Rattle.vol_under.proofs.Steps.{idle_lawful, commit_keeps, stop_keeps}
use Rattle.vol_under.proofs.Leaking.{outside_may_leak, leaks_count, leaks_flagged, flagged_alike}

pub opens_spelt : (g : Geometry) (bs : List Block) (own : Owners) (c : Cat) (opens : List (Option Open)) → Spells g bs own c → Spells g bs own (record c { opens = opens })
opens_spelt g bs own c opens s = record {
  counts = record { geometry = s.counts.geometry; blocks = s.counts.blocks; clusters = s.counts.clusters; numbers = s.counts.numbers; slots = s.counts.slots };
  whole = s.whole;
  structures = s.structures;
  constants = record { factor = s.constants.factor; total = s.constants.total; reserved = s.constants.reserved; rows = s.constants.rows };
  files = s.files;
  slots = s.slots;
  rows = record { quota = s.rows.quota; once = s.rows.once };
  owners = record { cluster_bits = s.owners.cluster_bits; number_bits = s.owners.number_bits; known = s.owners.known; known_numbers = s.owners.known_numbers; leaked = s.owners.leaked; leaked_numbers = s.owners.leaked_numbers };
}

pub opens_keep : OpensKeep
opens_keep g c nodes drive opens u = record {
  base = u.base;
  own = u.own;
  spelt = opens_spelt g u.base u.own c opens u.spelt;
  over = u.over;
  within = u.within;
  stands = u.stands;
  outs = u.outs;
  lawful = u.lawful;
  plan_guarded = u.plan_guarded;
  seen_guarded = u.seen_guarded;
}

-- what leaks, by numbers
pub dead_spelt : (g : Geometry) (bs : List Block) (own new : Owners) (c : Cat) (n k : ℕ) (ns : List ℕ) → Spells g bs own c → OwnersMove (IsDeathMove n) own new → count_by (is_same_owner Leaked) new.clusters ≡ c.leaked + k
    → map (is_same_owner Leaked) new.numbers ≡ flagged c.leaked_numbers ns → Spells g bs new (dead c n k ns)
unfolding dead
dead_spelt g bs own new c n k ns s moves clusters numbers =
    let e : with_leaks new c ≡ record c { leaked = c.leaked + k; leaked_numbers = flagged c.leaked_numbers ns } = λ i. record c { leaked = clusters i; leaked_numbers = numbers i } in
    opens_spelt g bs new (record c { leaked = c.leaked + k; leaked_numbers = flagged c.leaked_numbers ns }) (closed_channels n 8 c.opens) (subst (λ (d : Cat). Spells g bs new d) e (death_leaks g bs own new c n s moves))

pub leak_keeps : LeakKeeps
leak_keeps g c nodes drive n stock ns u is are =
    let rest : UnderWay = resting nothing in
    record {
      base = u.base;
      own = new;
      spelt = dead_spelt g u.base u.own new c n (length stock.clusters) ns u.spelt moves
          (leaks_count n stock.clusters u.own.clusters out.clusters.once clusters ∙ ap (λ k. k + length stock.clusters) (sym u.spelt.owners.leaked))
          (leaks_flagged stock.numbers u.own.numbers ∙ ap (λ (fs : List Bool). flagged fs (file_numbers stock)) (sym u.spelt.owners.leaked_numbers) ∙ sym (flagged_alike ns (file_numbers stock) c.leaked_numbers are.same));
      over = over_same (λ m. writes_to (nodes m).done (nodes m)) (λ m. writes_to (changed nodes n rest m).done (changed nodes n rest m)) u.base drive u.over (done_alike nodes n rest (sym (ap (λ v. writes_to v.done v) is)));
      within = each (λ m v. v.done ≤ length v.plan) nodes n rest (omega arith) (λ m ne. u.within m);
      stands = each (λ m v. StandsIn u.base v.seen) nodes n rest tt (λ m ne. u.stands m);
      outs = each (λ m v. Outs m new v.took v.stock) nodes n rest
          (record { clusters = outside_to_leaked n [] stock.clusters u.own.clusters out.clusters; numbers = outside_to_leaked n [] stock.numbers u.own.numbers out.numbers })
          (λ m ne. outs_stay (IsDeathMove n) m u.own new (nodes m).took (nodes m).stock moves ne (u.outs m));
      lawful = each (λ m v. IsLawful g m v) nodes n rest (idle_lawful g n rest refl) (λ m ne. u.lawful m);
      plan_guarded = each (λ m v. (l : ℕ) → Touches (bare v.plan) l → MayWrite m v.write (guard_of g new l)) nodes n rest (λ l t. absurd t)
          (λ m ne l t. guard_stays (IsDeathMove n) (λ x. MayWrite m (nodes m).write x) g u.own new l (death_write n m (nodes m).write ne) moves (u.plan_guarded m l t));
      seen_guarded = each (λ m v. (l : ℕ) → Touches v.seen l → MayLook v.read (guard_of g new l)) nodes n rest (λ l t. absurd t)
          (λ m ne l t. guard_stays (IsDeathMove n) (λ x. MayLook (nodes m).read x) g u.own new l (death_look n (nodes m).read) moves (u.seen_guarded m l t));
    } where
      out : Outs n u.own nothing stock
      out = subst (λ (v : UnderWay). Outs n u.own v.took v.stock) is (u.outs n)

      clusters : AreOf stock.clusters (Outside n) u.own.clusters
      clusters q t = (out.clusters.all q).1 (inr t)

      numbers : AreOf stock.numbers (Outside n) u.own.numbers
      numbers q t = (out.numbers.all q).1 (inr t)

      new : Owners
      new = record { clusters = handed stock.clusters Leaked u.own.clusters; numbers = handed stock.numbers Leaked u.own.numbers }

      moves : OwnersMove (IsDeathMove n) u.own new
      moves = record {
        clusters = handed_moves stock.clusters (Outside n) Leaked u.own.clusters clusters (IsDeathMove n) refl tt;
        numbers = handed_moves stock.numbers (Outside n) Leaked u.own.numbers numbers (IsDeathMove n) refl tt;
      }

twice : (b : Bool) (u v x : UnderWay) → cond b v (cond b u x) ≡ cond b v x
twice true u v x = refl
twice false u v x = refl

pub changed_again : (nodes : ℕ → UnderWay) (n : ℕ) (u v : UnderWay) → changed (changed nodes n u) n v ≡ changed nodes n v
changed_again nodes n u v = λ i m. twice (m == n) u v (nodes m) i

-- what a node has outside after its writes done stands there once
pub all_out_once : (g : Geometry) (c : Cat) (nodes : ℕ → UnderWay) (drive : List Block) (n : ℕ) → AreSole nodes → IsUnder g c nodes drive → (nodes n).knows c ≡ true → Once (all_out (nodes n)).numbers
all_out_once g c nodes drive n sole u knows =
    let s = stop_keeps g c nodes drive n sole u knows in
    let is : changed nodes n (idle (nodes n)) n ≡ resting (all_out (nodes n)) = changed_here nodes n (idle (nodes n)) in
    let out : Outs n s.2.own nothing (all_out (nodes n)) = subst (λ (v : UnderWay). Outs n s.2.own v.took v.stock) is (s.2.outs n) in
    out.numbers.once

pub death_keeps : DeathKeeps
death_keeps g c nodes drive n ns sole u knows are =
    let s = stop_keeps g c nodes drive n sole u knows in
    let after : ℕ → UnderWay = changed nodes n (idle (nodes n)) in
    let is : after n ≡ resting (all_out (nodes n)) = changed_here nodes n (idle (nodes n)) in
    let out : Outs n s.2.own nothing (all_out (nodes n)) = subst (λ (v : UnderWay). Outs n s.2.own v.took v.stock) is (s.2.outs n) in
    record {
      cat = s.0;
      stage = s.1;
      leaks = outside_may_leak g s.2.base s.2.own s.0 n nothing (all_out (nodes n)) ns s.2.spelt out are;
      under = subst (λ (f : ℕ → UnderWay). IsUnder g (dead s.0 n (length (all_out (nodes n)).clusters) ns) f drive) (changed_again nodes n (idle (nodes n)) (resting nothing)) (leak_keeps g s.0 after drive n (all_out (nodes n)) ns s.2 is are);
    }

pub answer_keeps : AnswerKeeps
answer_keeps g c nodes drive n x r sole u knows all reply =
    let h = reply u.base u.own c (nodes n).stock (nodes n).done u.spelt knows (u.stands n) (u.outs n) all in
    (record h.leaves.cat { opens = h.opens }, h.answer, opens_keep g h.leaves.cat (changed nodes n (idle (nodes n))) drive h.opens (commit_keeps g c nodes drive n sole u h.leaves))
