-- The drive under way over committed blocks that are named.
use Rattle.std.proofs.Common.{◌≡◌, ◌≤◌, ◌+◌, ℕ, zero, suc, List, [], ◌∷◌, Option, length, take, slice_get, slice_set, refl, sym, ap, subst, ◌∙◌, inl, inr, arith}
use Rattle.std.proofs.lemmas.Option.{slice_get_within}
use Rattle.base_words.specs.Fields.{Block}
use Rattle.plain_cat.specs.declared.cat.Cat.{Cat}
use Rattle.base_words.specs.Lists.{Touches, StandsIn, written}
use Rattle.vol_spell.specs.Owners.{Owners, OwnersMove, IsSpaceMove, Things, Outs}
use Rattle.vol_spell.proofs.Moving.{moves_grow}
use Rattle.base_words.proofs.ListWrites.{stands_still}
use Rattle.vol_parts.specs.declared.geometry.Geometry.{Geometry}
use Rattle.vol_under.specs.Guards.{Guard, guard_of, MayWrite, MayLook, IsCommandMove}
use Rattle.vol_under.specs.UnderWay.{PlannedWrite, bare, UnderWay, writes_to, outs_at, idle, changed}
use Rattle.vol_under.specs.Under.{IsLawful}
use Rattle.vol_under.proofs.Guarding.{guard_stays, space_look, space_command, alone, unlooked, outs_stay, bitmap_guard}
use Rattle.vol_under.proofs.Lying.{over_write, over_commit, over_base, over_same}
use Rattle.vol_under.proofs.Nodes.{each, done_here, done_else, done_alike, writes_next, done_in, next_in, no_writes}
use Rattle.vol_under.proofs.Steps.{idle_lawful, out_joined}
use Rattle.vol_under.proofs.Endings.{opens_spelt}
use Rattle.core_state.specs.Committed.{IsUnderOn, AlikeOn, WriteOn, LookOn, PlanOn, QuietOn, LocksOn, OpensOn, CommitOn, AnswerOn, BitsKeepOn}
use Rattle.vol_under.proofs.Planning.{lawful_seen, others_write, others_look, stands_else}

-- ---- the laws of plans

lawful_with : (g : Geometry) (n : ℕ) (u : UnderWay) (done : ℕ) (stock : Things) → IsLawful g n u → IsLawful g n (record u { done = done; stock = stock })
lawful_with g n u done stock law base own c left k spelt knows stands outs le =
    let h = law base own c left k spelt knows stands outs le in
    record { new = h.new; cat = h.cat; stage = h.stage; spelt = h.spelt; moves = h.moves; outs = h.outs }

-- ---- what stays

pub alike_on : AlikeOn
alike_on g c base own nodes others drive same u =
    let e : nodes ≡ others = λ i n. same n i in
    subst (λ (f : ℕ → UnderWay). IsUnderOn g c base own f drive) e u

pub write_on : WriteOn
write_on g c base own nodes drive n w sole u next =
    let more : UnderWay = record (nodes n) { done = (nodes n).done + 1 } in
    record {
      spelt = u.spelt;
      over = over_write (λ m. writes_to (nodes m).done (nodes m)) (λ m. writes_to (changed nodes n more m).done (changed nodes n more m)) base drive n w.lbn w.block u.over
          (done_here nodes n more ∙ writes_next (nodes n).plan (nodes n).done w next) (λ m ne. done_else nodes n more m ne)
          (λ m ne t. ne (apart m n w.lbn (done_in (nodes m) w.lbn t) (next_in (nodes n).plan (nodes n).done w next)));
      within = each (λ m v. v.done ≤ length v.plan) nodes n more (let h = slice_get_within (nodes n).plan (nodes n).done w next in omega arith) (λ m ne. u.within m);
      stands = each (λ m v. StandsIn base v.seen) nodes n more (u.stands n) (λ m ne. u.stands m);
      outs = each (λ m v. Outs m own v.took v.stock) nodes n more (u.outs n) (λ m ne. u.outs m);
      lawful = each (λ m v. IsLawful g m v) nodes n more (lawful_with g n (nodes n) ((nodes n).done + 1) (nodes n).stock (u.lawful n)) (λ m ne. u.lawful m);
      plan_guarded = each (λ m v. (l : ℕ) → Touches (bare v.plan) l → MayWrite m v.write (guard_of g own l)) nodes n more (u.plan_guarded n) (λ m ne. u.plan_guarded m);
      seen_guarded = each (λ m v. (l : ℕ) → Touches v.seen l → MayLook v.read (guard_of g own l)) nodes n more (u.seen_guarded n) (λ m ne. u.seen_guarded m);
    } where
      apart : (m k l : ℕ) → Touches (bare (nodes m).plan) l → Touches (bare (nodes k).plan) l → m ≡ k
      apart m k l s t = alone nodes sole m k (guard_of g own l) (u.plan_guarded m l s) (u.plan_guarded k l t)

-- where no node but n may write to a block, and n has not written it, no node has
unwritten : (g : Geometry) (c : Cat) (base : List Block) (own : Owners) (nodes : ℕ → UnderWay) (drive : List Block) (n l : ℕ) (u : IsUnderOn g c base own nodes drive) → ((m : ℕ) → MayWrite m (nodes m).write (guard_of g own l) → m ≡ n)
    → (Touches (writes_to (nodes n).done (nodes n)) l → ⊥) → (m : ℕ) → Touches (writes_to (nodes m).done (nodes m)) l → ⊥
unwritten g c base own nodes drive n l u mine untouched m t =
    untouched (subst (λ (k : ℕ). Touches (writes_to (nodes k).done (nodes k)) l) (mine m (u.plan_guarded m l (done_in (nodes m) l t))) t)

pub look_on : LookOn
look_on g c base own nodes drive n l b sole u untouched at here =
    let more : UnderWay = record (nodes n) { seen = (l, b) ∷ (nodes n).seen } in
    record {
      spelt = u.spelt;
      over = over_same (λ m. writes_to (nodes m).done (nodes m)) (λ m. writes_to (changed nodes n more m).done (changed nodes n more m)) base drive u.over (done_alike nodes n more refl);
      within = each (λ m v. v.done ≤ length v.plan) nodes n more (u.within n) (λ m ne. u.within m);
      stands = each (λ m v. StandsIn base v.seen) nodes n more (sym (u.over.elsewhere l free) ∙ at, u.stands n) (λ m ne. u.stands m);
      outs = each (λ m v. Outs m own v.took v.stock) nodes n more (u.outs n) (λ m ne. u.outs m);
      lawful = each (λ m v. IsLawful g m v) nodes n more (lawful_seen g n (nodes n) l b (u.lawful n)) (λ m ne. u.lawful m);
      plan_guarded = each (λ m v. (k : ℕ) → Touches (bare v.plan) k → MayWrite m v.write (guard_of g own k)) nodes n more (u.plan_guarded n) (λ m ne. u.plan_guarded m);
      seen_guarded = each (λ m v. (k : ℕ) → Touches v.seen k → MayLook v.read (guard_of g own k)) nodes n more
          (λ k t. elim t [ inl e ↦ subst (λ (j : ℕ). MayLook (nodes n).read (guard_of g own j)) e here | inr s ↦ u.seen_guarded n k s ]) (λ m ne. u.seen_guarded m);
    } where
      free : (m : ℕ) → Touches (writes_to (nodes m).done (nodes m)) l → ⊥
      free = unwritten g c base own nodes drive n l u (λ m may. unlooked nodes sole m n (guard_of g own l) may here) untouched

pub plan_on : PlanOn
plan_on g c base own nodes drive n knows plan took stock u same le law outs guarded =
    let next : UnderWay = record (nodes n) { knows = knows; plan = plan; took = took; stock = stock } in
    record {
      spelt = u.spelt;
      over = over_same (λ m. writes_to (nodes m).done (nodes m)) (λ m. writes_to (changed nodes n next m).done (changed nodes n next m)) base drive u.over (done_alike nodes n next (ap (λ ws. bare ws) same));
      within = each (λ m v. v.done ≤ length v.plan) nodes n next le (λ m ne. u.within m);
      stands = each (λ m v. StandsIn base v.seen) nodes n next (u.stands n) (λ m ne. u.stands m);
      outs = each (λ m v. Outs m own v.took v.stock) nodes n next outs (λ m ne. u.outs m);
      lawful = each (λ m v. IsLawful g m v) nodes n next law (λ m ne. u.lawful m);
      plan_guarded = each (λ m v. (k : ℕ) → Touches (bare v.plan) k → MayWrite m v.write (guard_of g own k)) nodes n next guarded (λ m ne. u.plan_guarded m);
      seen_guarded = each (λ m v. (k : ℕ) → Touches v.seen k → MayLook v.read (guard_of g own k)) nodes n next (u.seen_guarded n) (λ m ne. u.seen_guarded m);
    }

none_done : (u : UnderWay) → u.plan ≡ [] → writes_to u.done u ≡ []
none_done u e = ap (λ (ws : List PlannedWrite). bare (take u.done ws)) e ∙ take_none u.done where
  take_none : (k : ℕ) → bare (take k (let ws : List PlannedWrite = [] in ws)) ≡ []
  take_none zero = refl
  take_none (suc k) = refl

pub quiet_on : QuietOn
quiet_on g c base own nodes drive n v u no_plan none done outs stands guarded = record {
  spelt = u.spelt;
  over = over_same (λ m. writes_to (nodes m).done (nodes m)) (λ m. writes_to (changed nodes n v m).done (changed nodes n v m)) base drive u.over (done_alike nodes n v (none_done v none ∙ sym (none_done (nodes n) no_plan)));
  within = each (λ m z. z.done ≤ length z.plan) nodes n v (subst (λ (k : ℕ). k ≤ length v.plan) (sym done) (omega arith)) (λ m ne. u.within m);
  stands = each (λ m z. StandsIn base z.seen) nodes n v stands (λ m ne. u.stands m);
  outs = each (λ m z. Outs m own z.took z.stock) nodes n v outs (λ m ne. u.outs m);
  lawful = each (λ m z. IsLawful g m z) nodes n v (idle_lawful g n v none) (λ m ne. u.lawful m);
  plan_guarded = each (λ m z. (k : ℕ) → Touches (bare z.plan) k → MayWrite m z.write (guard_of g own k)) nodes n v (λ k t. absurd (no_writes v k none t)) (λ m ne. u.plan_guarded m);
  seen_guarded = each (λ m z. (k : ℕ) → Touches z.seen k → MayLook z.read (guard_of g own k)) nodes n v guarded (λ m ne. u.seen_guarded m);
}

pub locks_on : LocksOn
locks_on g c base own nodes drive n read write u law writes reads =
    let next : UnderWay = record (nodes n) { read = read; write = write } in
    record {
      spelt = u.spelt;
      over = over_same (λ m. writes_to (nodes m).done (nodes m)) (λ m. writes_to (changed nodes n next m).done (changed nodes n next m)) base drive u.over (done_alike nodes n next refl);
      within = each (λ m v. v.done ≤ length v.plan) nodes n next (u.within n) (λ m ne. u.within m);
      stands = each (λ m v. StandsIn base v.seen) nodes n next (u.stands n) (λ m ne. u.stands m);
      outs = each (λ m v. Outs m own v.took v.stock) nodes n next (u.outs n) (λ m ne. u.outs m);
      lawful = each (λ m v. IsLawful g m v) nodes n next law (λ m ne. u.lawful m);
      plan_guarded = each (λ m v. (k : ℕ) → Touches (bare v.plan) k → MayWrite m v.write (guard_of g own k)) nodes n next writes (λ m ne. u.plan_guarded m);
      seen_guarded = each (λ m v. (k : ℕ) → Touches v.seen k → MayLook v.read (guard_of g own k)) nodes n next reads (λ m ne. u.seen_guarded m);
    }

pub opens_on : OpensOn
opens_on g c base own nodes drive opens u = record {
  spelt = opens_spelt g base own c opens u.spelt;
  over = u.over;
  within = u.within;
  stands = u.stands;
  outs = u.outs;
  lawful = u.lawful;
  plan_guarded = u.plan_guarded;
  seen_guarded = u.seen_guarded;
}

pub commit_on : CommitOn
commit_on g c base own nodes drive n sole u law =
    let rest : UnderWay = idle (nodes n) in
    let done = writes_to (nodes n).done (nodes n) in
    record {
      spelt = law.spelt;
      over = over_commit (λ m. writes_to (nodes m).done (nodes m)) (λ m. writes_to (changed nodes n rest m).done (changed nodes n rest m)) base drive n u.over (done_here nodes n rest) (λ m ne. done_else nodes n rest m ne);
      within = each (λ m v. v.done ≤ length v.plan) nodes n rest (omega arith) (λ m ne. u.within m);
      stands = each (λ m v. StandsIn (written done base) v.seen) nodes n rest tt
          (λ m ne. stands_still done base (nodes m).seen (λ l t s. ne (sym (unlooked nodes sole n m (guard_of g own l) (u.plan_guarded n l (done_in (nodes n) l t)) (u.seen_guarded m l s)))) (u.stands m));
      outs = each (λ m v. Outs m law.new v.took v.stock) nodes n rest (out_joined n law.new (outs_at (nodes n).done (nodes n)) (nodes n).stock law.outs)
          (λ m ne. outs_stay (IsCommandMove n (nodes n).write) m own law.new (nodes m).took (nodes m).stock law.moves ne (u.outs m));
      lawful = each (λ m v. IsLawful g m v) nodes n rest (idle_lawful g n rest refl) (λ m ne. u.lawful m);
      plan_guarded = each (λ m v. (l : ℕ) → Touches (bare v.plan) l → MayWrite m v.write (guard_of g law.new l)) nodes n rest (λ l t. absurd t)
          (λ m ne l t. others_write g nodes own law.new n m l sole law.moves ne (u.plan_guarded m l t));
      seen_guarded = each (λ m v. (l : ℕ) → Touches v.seen l → MayLook v.read (guard_of g law.new l)) nodes n rest (λ l t. absurd t)
          (λ m ne l t. others_look g nodes own law.new n m l sole law.moves ne (u.seen_guarded m l t));
    }

pub answer_on : AnswerOn
answer_on g c base own nodes drive n x r sole u knows all reply =
    let h = reply base own c (nodes n).stock (nodes n).done u.spelt knows (u.stands n) (u.outs n) all in
    record {
      cat = record h.leaves.cat { opens = h.opens };
      new = h.leaves.new;
      moves = h.leaves.moves;
      answer = h.answer;
      under = opens_on g h.leaves.cat (written (writes_to (nodes n).done (nodes n)) base) h.leaves.new (changed nodes n (idle (nodes n))) drive h.opens (commit_on g c base own nodes drive n sole u h.leaves);
    }

pub bits_keep_on : BitsKeepOn
bits_keep_on g c base own nodes drive n l old b stock sole u untouched bitmap holds unseen at refill guarded =
    let next : UnderWay = record (nodes n) { stock = stock } in
    let same : slice_get drive l ≡ slice_get base l = u.over.elsewhere l free in
    let law = refill (sym same ∙ at) in
    let moves : OwnersMove (IsCommandMove n (nodes n).write) own law.new = moves_grow (IsSpaceMove n) (IsCommandMove n (nodes n).write) (space_command n (nodes n).write) own law.new law.moves in
    let stands : StandsIn (slice_set base l b) (nodes n).seen = stands_else base l b (nodes n).seen unseen (u.stands n) in
    record {
      new = law.new;
      moves = law.moves;
      under = record {
        spelt = law.spelt;
        over = over_base (λ m. writes_to (nodes m).done (nodes m)) (λ m. writes_to (changed nodes n next m).done (changed nodes n next m)) base drive l b u.over (done_alike nodes n next refl) free;
        within = each (λ m v. v.done ≤ length v.plan) nodes n next (u.within n) (λ m ne. u.within m);
        stands = each (λ m v. StandsIn (slice_set base l b) v.seen) nodes n next stands
            (λ m ne. stands_else base l b (nodes m).seen (λ t. ne (sym (unlooked nodes sole n m (guard_of g own l) mine (u.seen_guarded m l t)))) (u.stands m));
        outs = each (λ m v. Outs m law.new v.took v.stock) nodes n next law.outs (λ m ne. outs_stay (IsCommandMove n (nodes n).write) m own law.new (nodes m).took (nodes m).stock moves ne (u.outs m));
        lawful = each (λ m v. IsLawful g m v) nodes n next (lawful_with g n (nodes n) (nodes n).done stock (u.lawful n)) (λ m ne. u.lawful m);
        plan_guarded = each (λ m v. (k : ℕ) → Touches (bare v.plan) k → MayWrite m v.write (guard_of g law.new k)) nodes n next (guarded (slice_set base l b) law.new law.spelt stands law.outs)
            (λ m ne k t. others_write g nodes own law.new n m k sole moves ne (u.plan_guarded m k t));
        seen_guarded = each (λ m v. (k : ℕ) → Touches v.seen k → MayLook v.read (guard_of g law.new k)) nodes n next
            (λ k t. guard_stays (IsSpaceMove n) (λ x. MayLook (nodes n).read x) g own law.new k (space_look n (nodes n).read) law.moves (u.seen_guarded n k t))
            (λ m ne k t. others_look g nodes own law.new n m k sole moves ne (u.seen_guarded m k t));
      };
    } where
      mine : MayWrite n (nodes n).write (guard_of g own l)
      mine = let P : Option Guard → Type 0 = λ x. MayWrite n (nodes n).write x in subst P (sym (bitmap_guard g own l bitmap)) holds

      free : (m : ℕ) → Touches (writes_to (nodes m).done (nodes m)) l → ⊥
      free = unwritten g c base own nodes drive n l u (λ m may. alone nodes sole m n (guard_of g own l) may mine) untouched
