-- The drive under way as a node dies, over committed blocks that are named: its writes done are committed, and what it has outside is
-- leaked.
use Rattle.std.proofs.Common.{◌≡◌, ◌≤◌, ◌+◌, ℕ, Bool, true, List, [], length, refl, sym, ap, subst, ◌∙◌, inr, arith}
use Rattle.base_words.specs.Fields.{Block}
use Rattle.plain_cat.specs.declared.cat.Cat.{Cat}
use Rattle.plain_rules.specs.Replaying.{flagged, dead, MayLeak}
use Rattle.vol_spell.specs.declared.owner.Owner.TheVariants.{Outside, Leaked}
use Rattle.base_words.specs.Lists.{Touches, StandsIn, written}
use Rattle.vol_spell.specs.Owners.{Owners, OwnersMove, IsDeathMove, Things, nothing, Outs}
use Rattle.vol_spell.specs.Hands.{handed, AreOf}
use Rattle.vol_spell.proofs.Handing.{handed_moves, outside_to_leaked}
use Rattle.vol_parts.specs.declared.geometry.Geometry.{Geometry}
use Rattle.vol_under.specs.Guards.{guard_of, MayWrite, MayLook}
use Rattle.vol_under.specs.UnderWay.{bare, UnderWay, writes_to, all_out, resting, idle, changed, AreSole}
use Rattle.vol_under.specs.Under.{IsLawful, Leaves}
use Rattle.vol_under.specs.Ending.{file_numbers, AreNumbersOf}
use Rattle.vol_under.proofs.Guarding.{guard_stays, death_write, death_look, outs_stay}
use Rattle.vol_under.proofs.Lying.{over_same}
use Rattle.vol_under.proofs.Nodes.{changed_here, each, done_alike}
use Rattle.vol_under.proofs.Steps.{idle_lawful}
use Rattle.vol_under.proofs.Endings.{changed_again, dead_spelt}
use Rattle.vol_under.proofs.Leaking.{outside_may_leak, leaks_count, leaks_flagged, flagged_alike}
use Rattle.core_state.specs.Committed.{IsUnderOn}
use Rattle.core_state.proofs.Committed.{commit_on}

-- a death leaves the files
pub same_files : (c : Cat) (n k : ℕ) (ns : List ℕ) → (dead c n k ns).files ≡ c.files
unfolding dead
same_files c n k ns = refl

-- What is left where a node that rests with this stock dies: the same blocks, and owners that have moved so.
pub record LeaksOn (g : Geometry) (c : Cat) (base : List Block) (own : Owners) (nodes : ℕ → UnderWay) (drive : List Block) (n : ℕ) (stock : Things) (ns : List ℕ) : Type 0 where
  pub new : Owners
  pub moves : OwnersMove (IsDeathMove n) own new
  pub under : IsUnderOn g (dead c n (length stock.clusters) ns) base new (changed nodes n (resting nothing)) drive

module _ (g : Geometry) (c : Cat) (base : List Block) (own : Owners) (nodes : ℕ → UnderWay) (drive : List Block) (n : ℕ) (stock : Things) (ns : List ℕ) (u : IsUnderOn g c base own nodes drive) (is : nodes n ≡ resting stock) (are : AreNumbersOf ns stock) where
  out : Outs n own nothing stock
  out = subst (λ (v : UnderWay). Outs n own v.took v.stock) is (u.outs n)

  clusters : AreOf stock.clusters (Outside n) own.clusters
  clusters q t = (out.clusters.all q).1 (inr t)

  numbers : AreOf stock.numbers (Outside n) own.numbers
  numbers q t = (out.numbers.all q).1 (inr t)

  abbrev new : Owners
  new = record { clusters = handed stock.clusters Leaked own.clusters; numbers = handed stock.numbers Leaked own.numbers }

  moves : OwnersMove (IsDeathMove n) own new
  moves = record {
    clusters = handed_moves stock.clusters (Outside n) Leaked own.clusters clusters (IsDeathMove n) refl tt;
    numbers = handed_moves stock.numbers (Outside n) Leaked own.numbers numbers (IsDeathMove n) refl tt;
  }

  abbrev rest : UnderWay
  rest = resting nothing

  under_then : IsUnderOn g (dead c n (length stock.clusters) ns) base new (changed nodes n rest) drive
  under_then = record {
    spelt = dead_spelt g base own new c n (length stock.clusters) ns u.spelt moves
        (leaks_count n stock.clusters own.clusters out.clusters.once clusters ∙ ap (λ k. k + length stock.clusters) (sym u.spelt.owners.leaked))
        (leaks_flagged stock.numbers own.numbers ∙ ap (λ (fs : List Bool). flagged fs (file_numbers stock)) (sym u.spelt.owners.leaked_numbers) ∙ sym (flagged_alike ns (file_numbers stock) c.leaked_numbers are.same));
    over = over_same (λ m. writes_to (nodes m).done (nodes m)) (λ m. writes_to (changed nodes n rest m).done (changed nodes n rest m)) base drive u.over (done_alike nodes n rest (sym (ap (λ v. writes_to v.done v) is)));
    within = each (λ m v. v.done ≤ length v.plan) nodes n rest (omega arith) (λ m ne. u.within m);
    stands = each (λ m v. StandsIn base v.seen) nodes n rest tt (λ m ne. u.stands m);
    outs = each (λ m v. Outs m new v.took v.stock) nodes n rest
        (record { clusters = outside_to_leaked n [] stock.clusters own.clusters out.clusters; numbers = outside_to_leaked n [] stock.numbers own.numbers out.numbers })
        (λ m ne. outs_stay (IsDeathMove n) m own new (nodes m).took (nodes m).stock moves ne (u.outs m));
    lawful = each (λ m v. IsLawful g m v) nodes n rest (idle_lawful g n rest refl) (λ m ne. u.lawful m);
    plan_guarded = each (λ m v. (l : ℕ) → Touches (bare v.plan) l → MayWrite m v.write (guard_of g new l)) nodes n rest (λ l t. absurd t)
        (λ m ne l t. guard_stays (IsDeathMove n) (λ x. MayWrite m (nodes m).write x) g own new l (death_write n m (nodes m).write ne) moves (u.plan_guarded m l t));
    seen_guarded = each (λ m v. (l : ℕ) → Touches v.seen l → MayLook v.read (guard_of g new l)) nodes n rest (λ l t. absurd t)
        (λ m ne l t. guard_stays (IsDeathMove n) (λ x. MayLook (nodes m).read x) g own new l (death_look n (nodes m).read) moves (u.seen_guarded m l t));
  }

  pub leak_on : LeaksOn g c base own nodes drive n stock ns
  leak_on = record { new = new; moves = moves; under = under_then }

-- What a node's writes done leave, which are lawful.
abbrev pub Stops : Geometry → Cat → List Block → Owners → (ℕ → UnderWay) → ℕ → Type 0
Stops g c base own nodes n = Leaves g n (nodes n) base own c (nodes n).stock (nodes n).done

module _ (g : Geometry) (c : Cat) (base : List Block) (own : Owners) (nodes : ℕ → UnderWay) (drive : List Block) (n : ℕ) (sole : AreSole nodes) (u : IsUnderOn g c base own nodes drive) where
  pub stop_on : (nodes n).knows c ≡ true → Stops g c base own nodes n
  stop_on knows = u.lawful n base own c (nodes n).stock (nodes n).done u.spelt knows (u.stands n) (u.outs n) (u.within n)

  module _ (law : Stops g c base own nodes n) where
    abbrev new_base : List Block
    new_base = written (writes_to (nodes n).done (nodes n)) base

    abbrev after : ℕ → UnderWay
    after = changed nodes n (idle (nodes n))

    stopped : IsUnderOn g law.cat new_base law.new after drive
    stopped = commit_on g c base own nodes drive n sole u law

    here : after n ≡ resting (all_out (nodes n))
    here = changed_here nodes n (idle (nodes n))

    -- all that the node has outside then is its own
    pub stopped_out : Outs n law.new nothing (all_out (nodes n))
    stopped_out = subst (λ (v : UnderWay). Outs n law.new v.took v.stock) here (stopped.outs n)

    -- where it dies, that is leaked
    module _ (ns : List ℕ) (are : AreNumbersOf ns (all_out (nodes n))) where
      pub may_leak : MayLeak law.cat (length (all_out (nodes n)).clusters) ns
      may_leak = outside_may_leak g new_base law.new law.cat n nothing (all_out (nodes n)) ns law.spelt stopped_out are

      pub death_on : LeaksOn g law.cat new_base law.new nodes drive n (all_out (nodes n)) ns
      death_on =
          let h = leak_on g law.cat new_base law.new after drive n (all_out (nodes n)) ns stopped here are in
          record {
            new = h.new;
            moves = h.moves;
            under = subst (λ (f : ℕ → UnderWay). IsUnderOn g (dead law.cat n (length (all_out (nodes n)).clusters) ns) new_base h.new f drive) (changed_again nodes n (idle (nodes n)) (resting nothing)) h.under;
          }
