-- What each event leaves of the drive under way.
use Rattle.std.proofs.Common.{◌≡◌, ◌≤◌, ◌+◌, ℕ, zero, suc, List, [], ◌∷◌, Option, Some, None, length, slice_get, slice_set, refl, sym, ap, subst, ◌∙◌, inl, inr, arith}
use Rattle.std.proofs.lemmas.Option.{slice_get_within}
use Rattle.base_words.specs.Fields.{Block}
use Rattle.lock_db.specs.declared.name.LockName.{LockName}
use Rattle.plain_cat.specs.declared.command.Cmd.{Cmd}
use Rattle.plain_cat.specs.declared.cat.Cat.{Cat}
use Rattle.plain_rules.specs.Stages.{staged}
use Rattle.plain_rules.proofs.LawSteps.{pick_exists}
use Rattle.vol_spell.specs.declared.owner.Owner.{Owner}
use Rattle.base_words.specs.Lists.{Has, written, Touches, StandsIn}
use Rattle.vol_spell.specs.Owners.{Owners, OwnersMove, IsSpaceMove, Things, nothing, Outs}
use Rattle.vol_spell.proofs.Moving.{still, moves_grow}
use Rattle.vol_spell.proofs.Handing.{out_regroups}
use Rattle.base_words.proofs.ListWrites.{stands_still}
use Rattle.vol_parts.specs.declared.geometry.Geometry.{Geometry}
use Rattle.vol_parts.specs.Volumes.{volume, geometry_of}
use Rattle.vol_spell.specs.Accepting.{owners_told}
use Rattle.vol_spell.proofs.Accepted.{catalogue_is_spelt}
use Rattle.vol_under.specs.Guards.{Guard, guard_of, MayWrite, MayLook, IsCommandMove}
use Rattle.vol_under.specs.UnderWay.{bare, UnderWay, first_stage, writes_to, outs_at, together, resting, idle, changed, AreSole, StandsAt}
use Rattle.vol_under.specs.Under.{IsLawful, IsUnder}
use Rattle.vol_under.specs.Keeping.{IdleLawful, RestStands, MountStands, NodesAlike, WriteKeeps, CommitKeeps, StopKeeps, BitsKeep, HeldStands, LookKeeps, PlanKeeps, GrantKeeps, ReadyKeeps}
use Rattle.vol_under.proofs.Guarding.{guard_stays, space_look, space_command, wider_command, wider_write, wider_look, alone, unlooked, outs_stay, bitmap_guard}
use Rattle.vol_under.proofs.Lying.{over_write, over_commit, over_base, over_same, over_none}
use Rattle.vol_under.proofs.Nodes.{each, done_here, done_else, done_alike, writes_next, done_in, next_in, no_writes}
use Rattle.vol_under.proofs.Planning.{others_write, others_look, stands_else}

-- a command stands at its first stage where the catalogue is as it was
pub stands_first : (c : Cat) (n : ℕ) (cmd : Option Cmd) → StandsAt c n cmd (first_stage cmd) c
unfolding staged
stands_first c n cmd = let p = pick_exists c in (p.0, p.1, by_cmd cmd p.0) where
  by_cmd : (x : Option Cmd) (new : Option ℕ) → staged c n x (first_stage x) new ≡ Some c
  by_cmd None new = refl
  by_cmd (Some y) new = refl

owners_still : (P : Option Owner → Type 0) (own : Owners) → OwnersMove P own own
owners_still P own = record { clusters = still P own.clusters; numbers = still P own.numbers }

pub idle_lawful : IdleLawful
idle_lawful g n u no_plan base own c stock zero spelt knows stands outs le =
    record { new = own; cat = c; stage = stands_first c n u.cmd; spelt = spelt; moves = owners_still (IsCommandMove n u.write) own; outs = outs }
idle_lawful g n u no_plan base own c stock (suc k) spelt knows stands outs le = absurd (let e : length u.plan ≡ 0 = ap (λ ws. length ws) no_plan in omega arith)

-- a law stays the node's after writes, other stock and more locks
lawful_as : (g : Geometry) (n : ℕ) (u : UnderWay) (read more : List LockName) (done : ℕ) (kept : Things) → ((x : LockName) → Has u.write x → Has more x) → IsLawful g n u
    → IsLawful g n (record u { read = read; write = more; done = done; stock = kept })
lawful_as g n u read more done kept wider law base own c stock k spelt knows stands outs le =
    let h = law base own c stock k spelt knows stands outs le in
    record { new = h.new; cat = h.cat; stage = h.stage; spelt = h.spelt; moves = moves_grow (IsCommandMove n u.write) (IsCommandMove n more) (wider_command n u.write more wider) own h.new h.moves; outs = h.outs }

lawful_done : (g : Geometry) (n : ℕ) (u : UnderWay) (done : ℕ) → IsLawful g n u → IsLawful g n (record u { done = done })
lawful_done g n u done law = lawful_as g n u u.read u.write done u.stock (λ x t. t) law

lawful_stock : (g : Geometry) (n : ℕ) (u : UnderWay) (kept : Things) → IsLawful g n u → IsLawful g n (record u { stock = kept })
lawful_stock g n u kept law = lawful_as g n u u.read u.write u.done kept (λ x t. t) law

-- all is stock
pub out_joined : (n : ℕ) (own : Owners) (took stock : Things) → Outs n own took stock → Outs n own nothing (together took stock)
out_joined n own took stock h = record {
  clusters = (out_regroups n own.clusters [] took.clusters stock.clusters).1 h.clusters;
  numbers = (out_regroups n own.numbers [] took.numbers stock.numbers).1 h.numbers;
}

pub rest_stands : RestStands
rest_stands g c own drive spelt outs = record {
  base = drive;
  own = own;
  spelt = spelt;
  over = over_none drive;
  within = λ n. omega arith;
  stands = λ n. tt;
  outs = outs;
  lawful = λ n. idle_lawful g n (resting nothing) refl;
  plan_guarded = λ n l t. absurd t;
  seen_guarded = λ n l t. absurd t;
}

pub mount_stands : MountStands
mount_stands bs c from to whole at =
    let h = catalogue_is_spelt bs c from to whole at in
    (h.home, h.read, rest_stands (geometry_of (volume h.home bs)) c (owners_told (volume h.home bs)) bs h.spelt h.outs)

pub nodes_alike : NodesAlike
nodes_alike g c nodes others drive same u =
    let e : nodes ≡ others = λ i n. same n i in
    subst (λ (f : ℕ → UnderWay). IsUnder g c f drive) e u

-- what a node writes, no other node writes
plans_apart : (g : Geometry) (c : Cat) (nodes : ℕ → UnderWay) (drive : List Block) → AreSole nodes → IsUnder g c nodes drive → (n m l : ℕ) → Touches (bare (nodes n).plan) l → Touches (bare (nodes m).plan) l → n ≡ m
plans_apart g c nodes drive sole u n m l s t = alone nodes sole n m (guard_of g u.own l) (u.plan_guarded n l s) (u.plan_guarded m l t)

pub write_keeps : WriteKeeps
write_keeps g c nodes drive n w sole u next =
    let more : UnderWay = record (nodes n) { done = (nodes n).done + 1 } in
    record {
      base = u.base;
      own = u.own;
      spelt = u.spelt;
      over = over_write (λ m. writes_to (nodes m).done (nodes m)) (λ m. writes_to (changed nodes n more m).done (changed nodes n more m)) u.base drive n w.lbn w.block u.over
          (done_here nodes n more ∙ writes_next (nodes n).plan (nodes n).done w next) (λ m ne. done_else nodes n more m ne)
          (λ m ne t. ne (plans_apart g c nodes drive sole u m n w.lbn (done_in (nodes m) w.lbn t) (next_in (nodes n).plan (nodes n).done w next)));
      within = each (λ m v. v.done ≤ length v.plan) nodes n more (let h = slice_get_within (nodes n).plan (nodes n).done w next in omega arith) (λ m ne. u.within m);
      stands = each (λ m v. StandsIn u.base v.seen) nodes n more (u.stands n) (λ m ne. u.stands m);
      outs = each (λ m v. Outs m u.own v.took v.stock) nodes n more (u.outs n) (λ m ne. u.outs m);
      lawful = each (λ m v. IsLawful g m v) nodes n more (lawful_done g n (nodes n) ((nodes n).done + 1) (u.lawful n)) (λ m ne. u.lawful m);
      plan_guarded = each (λ m v. (l : ℕ) → Touches (bare v.plan) l → MayWrite m v.write (guard_of g u.own l)) nodes n more (u.plan_guarded n) (λ m ne. u.plan_guarded m);
      seen_guarded = each (λ m v. (l : ℕ) → Touches v.seen l → MayLook v.read (guard_of g u.own l)) nodes n more (u.seen_guarded n) (λ m ne. u.seen_guarded m);
    }

pub commit_keeps : CommitKeeps
commit_keeps g c nodes drive n sole u law =
    let rest : UnderWay = idle (nodes n) in
    let done = writes_to (nodes n).done (nodes n) in
    record {
      base = written done u.base;
      own = law.new;
      spelt = law.spelt;
      over = over_commit (λ m. writes_to (nodes m).done (nodes m)) (λ m. writes_to (changed nodes n rest m).done (changed nodes n rest m)) u.base drive n u.over (done_here nodes n rest) (λ m ne. done_else nodes n rest m ne);
      within = each (λ m v. v.done ≤ length v.plan) nodes n rest (omega arith) (λ m ne. u.within m);
      stands = each (λ m v. StandsIn (written done u.base) v.seen) nodes n rest tt
          (λ m ne. stands_still done u.base (nodes m).seen (λ l t s. ne (sym (unlooked nodes sole n m (guard_of g u.own l) (u.plan_guarded n l (done_in (nodes n) l t)) (u.seen_guarded m l s)))) (u.stands m));
      outs = each (λ m v. Outs m law.new v.took v.stock) nodes n rest (out_joined n law.new (outs_at (nodes n).done (nodes n)) (nodes n).stock law.outs)
          (λ m ne. outs_stay (IsCommandMove n (nodes n).write) m u.own law.new (nodes m).took (nodes m).stock law.moves ne (u.outs m));
      lawful = each (λ m v. IsLawful g m v) nodes n rest (idle_lawful g n rest refl) (λ m ne. u.lawful m);
      plan_guarded = each (λ m v. (l : ℕ) → Touches (bare v.plan) l → MayWrite m v.write (guard_of g law.new l)) nodes n rest (λ l t. absurd t)
          (λ m ne l t. others_write g nodes u.own law.new n m l sole law.moves ne (u.plan_guarded m l t));
      seen_guarded = each (λ m v. (l : ℕ) → Touches v.seen l → MayLook v.read (guard_of g law.new l)) nodes n rest (λ l t. absurd t)
          (λ m ne l t. others_look g nodes u.own law.new n m l sole law.moves ne (u.seen_guarded m l t));
    }

pub stop_keeps : StopKeeps
stop_keeps g c nodes drive n sole u knows =
    let law = u.lawful n u.base u.own c (nodes n).stock (nodes n).done u.spelt knows (u.stands n) (u.outs n) (u.within n) in
    (law.cat, law.stage, commit_keeps g c nodes drive n sole u law)

pub bits_keep : BitsKeep
bits_keep g c nodes drive n l old b stock sole u no_plan bitmap holds unseen at refill =
    let next : UnderWay = record (nodes n) { stock = stock } in
    let same : slice_get drive l ≡ slice_get u.base l = u.over.elsewhere l free in
    let law = refill u.base u.own u.spelt (u.outs n) (sym same ∙ at) in
    let moves : OwnersMove (IsCommandMove n (nodes n).write) u.own law.new = moves_grow (IsSpaceMove n) (IsCommandMove n (nodes n).write) (space_command n (nodes n).write) u.own law.new law.moves in
    record {
      base = slice_set u.base l b;
      own = law.new;
      spelt = law.spelt;
      over = over_base (λ m. writes_to (nodes m).done (nodes m)) (λ m. writes_to (changed nodes n next m).done (changed nodes n next m)) u.base drive l b u.over (done_alike nodes n next refl) free;
      within = each (λ m v. v.done ≤ length v.plan) nodes n next (u.within n) (λ m ne. u.within m);
      stands = each (λ m v. StandsIn (slice_set u.base l b) v.seen) nodes n next (stands_else u.base l b (nodes n).seen unseen (u.stands n))
          (λ m ne. stands_else u.base l b (nodes m).seen (λ t. ne (sym (unlooked nodes sole n m (guard_of g u.own l) mine (u.seen_guarded m l t)))) (u.stands m));
      outs = each (λ m v. Outs m law.new v.took v.stock) nodes n next law.outs (λ m ne. outs_stay (IsCommandMove n (nodes n).write) m u.own law.new (nodes m).took (nodes m).stock moves ne (u.outs m));
      lawful = each (λ m v. IsLawful g m v) nodes n next (lawful_stock g n (nodes n) stock (u.lawful n)) (λ m ne. u.lawful m);
      plan_guarded = each (λ m v. (k : ℕ) → Touches (bare v.plan) k → MayWrite m v.write (guard_of g law.new k)) nodes n next (λ k t. absurd (no_writes (nodes n) k no_plan t))
          (λ m ne k t. others_write g nodes u.own law.new n m k sole moves ne (u.plan_guarded m k t));
      seen_guarded = each (λ m v. (k : ℕ) → Touches v.seen k → MayLook v.read (guard_of g law.new k)) nodes n next
          (λ k t. guard_stays (IsSpaceMove n) (λ x. MayLook (nodes n).read x) g u.own law.new k (space_look n (nodes n).read) law.moves (u.seen_guarded n k t))
          (λ m ne k t. others_look g nodes u.own law.new n m k sole moves ne (u.seen_guarded m k t));
    } where
      mine : MayWrite n (nodes n).write (guard_of g u.own l)
      mine = let P : Option Guard → Type 0 = λ x. MayWrite n (nodes n).write x in subst P (sym (bitmap_guard g u.own l bitmap)) holds

      free : (m : ℕ) → Touches (writes_to (nodes m).done (nodes m)) l → ⊥
      free m t =
          let e : m ≡ n = alone nodes sole m n (guard_of g u.own l) (u.plan_guarded m l (done_in (nodes m) l t)) mine in
          no_writes (nodes n) l no_plan (subst (λ (k : ℕ). Touches (bare (nodes k).plan) l) e (done_in (nodes m) l t))

pub held_stands : HeldStands
held_stands g c nodes drive n l sole u untouched holds = u.over.elsewhere l free where
  mine : (m : ℕ) → MayWrite m (nodes m).write (guard_of g u.own l) → m ≡ n
  mine m may = elim holds [ inl h ↦ alone nodes sole m n (guard_of g u.own l) may h | inr h ↦ unlooked nodes sole m n (guard_of g u.own l) may h ]

  free : (m : ℕ) → Touches (writes_to (nodes m).done (nodes m)) l → ⊥
  free m t = untouched (subst (λ (k : ℕ). Touches (writes_to (nodes k).done (nodes k)) l) (mine m (u.plan_guarded m l (done_in (nodes m) l t))) t)

pub look_keeps : LookKeeps
look_keeps g c nodes drive n l b sole u no_plan at guarded =
    let more : UnderWay = record (nodes n) { seen = (l, b) ∷ (nodes n).seen } in
    record {
      base = u.base;
      own = u.own;
      spelt = u.spelt;
      over = over_same (λ m. writes_to (nodes m).done (nodes m)) (λ m. writes_to (changed nodes n more m).done (changed nodes n more m)) u.base drive u.over (done_alike nodes n more refl);
      within = each (λ m v. v.done ≤ length v.plan) nodes n more (u.within n) (λ m ne. u.within m);
      stands = each (λ m v. StandsIn u.base v.seen) nodes n more (sym (u.over.elsewhere l free) ∙ at, u.stands n) (λ m ne. u.stands m);
      outs = each (λ m v. Outs m u.own v.took v.stock) nodes n more (u.outs n) (λ m ne. u.outs m);
      lawful = each (λ m v. IsLawful g m v) nodes n more (idle_lawful g n more no_plan) (λ m ne. u.lawful m);
      plan_guarded = each (λ m v. (k : ℕ) → Touches (bare v.plan) k → MayWrite m v.write (guard_of g u.own k)) nodes n more (u.plan_guarded n) (λ m ne. u.plan_guarded m);
      seen_guarded = each (λ m v. (k : ℕ) → Touches v.seen k → MayLook v.read (guard_of g u.own k)) nodes n more
          (λ k t. elim t [ inl e ↦ subst (λ (j : ℕ). MayLook (nodes n).read (guard_of g u.own j)) e here | inr s ↦ u.seen_guarded n k s ]) (λ m ne. u.seen_guarded m);
    } where
      here : MayLook (nodes n).read (guard_of g u.own l)
      here = guarded u.base u.own u.spelt (u.stands n)

      free : (m : ℕ) → Touches (writes_to (nodes m).done (nodes m)) l → ⊥
      free m t =
          let e : m ≡ n = unlooked nodes sole m n (guard_of g u.own l) (u.plan_guarded m l (done_in (nodes m) l t)) here in
          no_writes (nodes n) l no_plan (subst (λ (k : ℕ). Touches (bare (nodes k).plan) l) e (done_in (nodes m) l t))

pub plan_keeps : PlanKeeps
plan_keeps g c nodes drive n knows plan took stock u same le law outs guarded =
    let next : UnderWay = record (nodes n) { knows = knows; plan = plan; took = took; stock = stock } in
    record {
      base = u.base;
      own = u.own;
      spelt = u.spelt;
      over = over_same (λ m. writes_to (nodes m).done (nodes m)) (λ m. writes_to (changed nodes n next m).done (changed nodes n next m)) u.base drive u.over (done_alike nodes n next (ap (λ ws. bare ws) same));
      within = each (λ m v. v.done ≤ length v.plan) nodes n next le (λ m ne. u.within m);
      stands = each (λ m v. StandsIn u.base v.seen) nodes n next (u.stands n) (λ m ne. u.stands m);
      outs = each (λ m v. Outs m u.own v.took v.stock) nodes n next (outs u.own (u.outs n)) (λ m ne. u.outs m);
      lawful = each (λ m v. IsLawful g m v) nodes n next law (λ m ne. u.lawful m);
      plan_guarded = each (λ m v. (k : ℕ) → Touches (bare v.plan) k → MayWrite m v.write (guard_of g u.own k)) nodes n next (guarded u.base u.own u.spelt (u.stands n) (outs u.own (u.outs n))) (λ m ne. u.plan_guarded m);
      seen_guarded = each (λ m v. (k : ℕ) → Touches v.seen k → MayLook v.read (guard_of g u.own k)) nodes n next (u.seen_guarded n) (λ m ne. u.seen_guarded m);
    }

pub grant_keeps : GrantKeeps
grant_keeps g c nodes drive n read write u reads writes =
    let next : UnderWay = record (nodes n) { read = read; write = write } in
    record {
      base = u.base;
      own = u.own;
      spelt = u.spelt;
      over = over_same (λ m. writes_to (nodes m).done (nodes m)) (λ m. writes_to (changed nodes n next m).done (changed nodes n next m)) u.base drive u.over (done_alike nodes n next refl);
      within = each (λ m v. v.done ≤ length v.plan) nodes n next (u.within n) (λ m ne. u.within m);
      stands = each (λ m v. StandsIn u.base v.seen) nodes n next (u.stands n) (λ m ne. u.stands m);
      outs = each (λ m v. Outs m u.own v.took v.stock) nodes n next (u.outs n) (λ m ne. u.outs m);
      lawful = each (λ m v. IsLawful g m v) nodes n next (lawful_as g n (nodes n) read write (nodes n).done (nodes n).stock writes (u.lawful n)) (λ m ne. u.lawful m);
      plan_guarded = each (λ m v. (k : ℕ) → Touches (bare v.plan) k → MayWrite m v.write (guard_of g u.own k)) nodes n next
          (λ k t. wider_write n (nodes n).write write writes (guard_of g u.own k) (u.plan_guarded n k t)) (λ m ne. u.plan_guarded m);
      seen_guarded = each (λ m v. (k : ℕ) → Touches v.seen k → MayLook v.read (guard_of g u.own k)) nodes n next
          (λ k t. wider_look (nodes n).read read reads (guard_of g u.own k) (u.seen_guarded n k t)) (λ m ne. u.seen_guarded m);
    }

pub ready_keeps : ReadyKeeps
ready_keeps g c nodes drive n cmd knows read write u no_plan still_guarded =
    let next : UnderWay = record (nodes n) { cmd = cmd; knows = knows; read = read; write = write } in
    record {
      base = u.base;
      own = u.own;
      spelt = u.spelt;
      over = over_same (λ m. writes_to (nodes m).done (nodes m)) (λ m. writes_to (changed nodes n next m).done (changed nodes n next m)) u.base drive u.over (done_alike nodes n next refl);
      within = each (λ m v. v.done ≤ length v.plan) nodes n next (u.within n) (λ m ne. u.within m);
      stands = each (λ m v. StandsIn u.base v.seen) nodes n next (u.stands n) (λ m ne. u.stands m);
      outs = each (λ m v. Outs m u.own v.took v.stock) nodes n next (u.outs n) (λ m ne. u.outs m);
      lawful = each (λ m v. IsLawful g m v) nodes n next (idle_lawful g n next no_plan) (λ m ne. u.lawful m);
      plan_guarded = each (λ m v. (k : ℕ) → Touches (bare v.plan) k → MayWrite m v.write (guard_of g u.own k)) nodes n next (λ k t. absurd (no_writes (nodes n) k no_plan t)) (λ m ne. u.plan_guarded m);
      seen_guarded = each (λ m v. (k : ℕ) → Touches v.seen k → MayLook v.read (guard_of g u.own k)) nodes n next (λ k t. still_guarded u.own k t (u.seen_guarded n k t)) (λ m ne. u.seen_guarded m);
    }
