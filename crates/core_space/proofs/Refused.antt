-- Where the rules refuse a need, and what they look at.
use Rattle.std.proofs.Common.{◌≡◌, ◌≤◌, ◌<◌, ◌&&◌, ℕ, zero, suc, Bool, true, false, List, [], ◌∷◌, Option, Some, None, length, slice_get, refl, ap, subst, inl, inr, arith, cond, nat_lt}
use Rattle.std.specs.Prelude.{not, find, option_map}
use Rattle.std.specs.List.{range_with_len}
use Rattle.std.proofs.lemmas.List.FromFn.{length-map-range_with_len}
use Rattle.base_words.specs.Fields.{Block}
use Rattle.plain_cat.specs.declared.mode.Mode.{Mode}
use Rattle.plain_cat.specs.declared.mode.Mode.TheVariants.{NL, CR, CW, PR, PW, EX}
use Rattle.plain_cat.specs.declared.reply.Refusal.{Refusal}
use Rattle.plain_cat.specs.declared.reply.Refusal.TheVariants.{IndexFull, DeviceFull}
use Rattle.extent_cache.specs.Takings.{holds_enough}
use Rattle.extent_cache.specs.Stock.{Stock}
use Rattle.lock_db.specs.declared.name.LockName.TheVariants.{X, V}
use Rattle.base_words.proofs.Listing.{has_map}
use Rattle.base_words.specs.Lists.{Has}
use Rattle.base_words.proofs.Listing.{has_at}
use Rattle.vol_spell.proofs.Placing.{ranged_has}
use Rattle.vol_parts.specs.declared.geometry.Geometry.{Geometry}
use Rattle.vol_parts.specs.declared.geometry.Part.TheVariants.{IndexBitmap, Storage}
use Rattle.vol_parts.specs.Parts.{storage_blocks}
use Rattle.vol_spell.specs.Reading.{total_of}
use Rattle.vol_spell.specs.Places.{place_of}
use Rattle.op_law.specs.declared.need.PlanWrite.{PlanWrite}
use Rattle.core_space.specs.declared.outcome.Search.{Search}
use Rattle.core_space.specs.declared.outcome.Search.TheVariants as search
use Rattle.core_space.specs.Searching.{Found, More, Short, Enough, places, storage_places, cluster_places, free_number, free_from, number_write, found_number, found}
use Rattle.core_space.specs.Answering.{answered, answer, blocks_alone}
use Rattle.core_space.proofs.Chosen.{found_passes}
use Rattle.core_space.proofs.Ending.{looks_in_order}
use Rattle.core_space.proofs.Ways.{short_of, is_below}
use Rattle.core_space.specs.declared.run.Phase.TheVariants.{Off, Fill, Drain, Last, Back}
use Rattle.core_space.specs.declared.run.Phase.{Phase}
use Rattle.core_space.specs.declared.run.SpaceRun.{SpaceRun}
use Rattle.core_space.specs.declared.run.SpaceNeed.{SpaceNeed}
use Rattle.core_space.specs.declared.event.SpaceEvent.{SpaceEvent}
use Rattle.core_space.specs.declared.event.SpaceEvent.TheVariants as event
use Rattle.core_space.specs.Filling.{clusters_to_take, lacks_number, fill_place, filled}
use Rattle.core_space.specs.Giving.{is_wanting, storage_range, clusters_place, give_place, is_seen}
use Rattle.core_space.specs.Rule.{SpaceState, is_shared, is_exclusive, is_writer, put_of, next_put, after_writes, after_looks, next_fill, next_give, by_search, fill_event, drain_event, event_in, give_by, fill_or_give, fill_by, search_by, decision_in}
use Rattle.core_space.specs.Laws.{LooksAtBitmaps, IsRefusedLast, RefusedLast, DecidedLast, FullIsWhole}

-- ---- a refusal as the next event

-- behind writes and looks comes no refusal
no_short_looks : (o : Option ℕ) (e : SpaceEvent) (r : Refusal) → (e ≡ event.Short r → ⊥) → after_looks o e ≡ event.Short r → ⊥
no_short_looks (Some l) e r other h = absurd (let f : event.Look l ≡ event.Short r = h in cc)
no_short_looks None e r other h = other h

short_behind : (o : Option PlanWrite) (e : SpaceEvent) (r : Refusal) → after_writes (put_of o) e ≡ event.Short r → (o ≡ None) × (e ≡ event.Short r)
short_behind (Some w) e r h = absurd (let f : event.Put w.lbn w.block ≡ event.Short r = h in cc)
short_behind None e r h = (refl, h)

fill_refuses : (s : SpaceState) (need : SpaceNeed) (r : Refusal) (a b : Bool) → cond a (event.Ask X CR) (cond b (event.Ask V PW) (after_writes (next_put s.run) (after_looks (next_fill s need) event.LowerV))) ≡ event.Short r → ⊥
fill_refuses s need r true b h = absurd (let f : event.Ask X CR ≡ event.Short r = h in cc)
fill_refuses s need r false true h = absurd (let f : event.Ask V PW ≡ event.Short r = h in cc)
fill_refuses s need r false false h =
    no_short_looks (next_fill s need) event.LowerV r (λ e. absurd (cc)) (short_behind (slice_get s.run.writes s.run.made) (after_looks (next_fill s need) event.LowerV) r h).1

off_refuses : (s : SpaceState) (need : SpaceNeed) (r : Refusal) (a : Bool) → cond a event.Enough (fill_event s need) ≡ event.Short r → ⊥
off_refuses s need r true h = absurd (let f : event.Enough ≡ event.Short r = h in cc)
off_refuses s need r false h = fill_refuses s need r (not (is_shared s.locks.x)) (not (is_writer s.locks.v)) h

drain_refuses : (s : SpaceState) (r : Refusal) → drain_event s ≡ event.Short r → ⊥
drain_refuses s r h =
    no_short_looks (next_give s) event.LowerX r (λ e. absurd (cc)) (short_behind (slice_get s.run.writes s.run.made) (after_looks (next_give s) event.LowerX) r h).1

back_refuses : (s : SpaceState) (r : Refusal) (b : Bool) → cond b (event.Ask V PW) (after_writes (next_put s.run) (after_looks (next_give s) event.Return)) ≡ event.Short r → ⊥
back_refuses s r true h = absurd (let f : event.Ask V PW ≡ event.Short r = h in cc)
back_refuses s r false h =
    no_short_looks (next_give s) event.Return r (λ e. absurd (cc)) (short_behind (slice_get s.run.writes s.run.made) (after_looks (next_give s) event.Return) r h).1

-- ---- the search of all free space

short_found : (l : ℕ) (f : Found) (r : Refusal) → by_search (answered l f) ≡ event.Short r → f ≡ Short r
short_found l More r h = absurd (let f : event.Look l ≡ event.Short r = h in cc)
short_found l (Short x) r h = ap Short (let f : event.Short x ≡ event.Short r = h in cc)
short_found l (Enough ws) r h = absurd (let f : event.Enough ≡ event.Short r = h in cc)

in_ex : (x : Option Mode) → not (is_exclusive x) ≡ false → x ≡ Some EX
in_ex None h = absurd (let f : true ≡ false = h in cc)
in_ex (Some NL) h = absurd (let f : true ≡ false = h in cc)
in_ex (Some CR) h = absurd (let f : true ≡ false = h in cc)
in_ex (Some CW) h = absurd (let f : true ≡ false = h in cc)
in_ex (Some PR) h = absurd (let f : true ≡ false = h in cc)
in_ex (Some PW) h = absurd (let f : true ≡ false = h in cc)
in_ex (Some EX) h = refl

in_pw : (v : Option Mode) → not (is_writer v) ≡ false → v ≡ Some PW
in_pw None h = absurd (let f : true ≡ false = h in cc)
in_pw (Some NL) h = absurd (let f : true ≡ false = h in cc)
in_pw (Some CR) h = absurd (let f : true ≡ false = h in cc)
in_pw (Some CW) h = absurd (let f : true ≡ false = h in cc)
in_pw (Some PR) h = absurd (let f : true ≡ false = h in cc)
in_pw (Some PW) h = refl
in_pw (Some EX) h = absurd (let f : true ≡ false = h in cc)

last_refuses : (s : SpaceState) (need : SpaceNeed) (r : Refusal) (a b : Bool) → not (is_exclusive s.locks.x) ≡ a → not (is_writer s.locks.v) ≡ b → s.run.phase ≡ Last
    → cond a (event.Ask X EX) (cond b (event.Ask V PW) (after_writes (next_put s.run) (by_search (answer s.geometry need.clusters need.number (blocks_alone s.run.looked))))) ≡ event.Short r → IsRefusedLast s need r
last_refuses s need r true b x v last h = absurd (let f : event.Ask X EX ≡ event.Short r = h in cc)
last_refuses s need r false true x v last h = absurd (let f : event.Ask V PW ≡ event.Short r = h in cc)
last_refuses s need r false false x v last h =
    let t = short_behind (slice_get s.run.writes s.run.made) (by_search (answer s.geometry need.clusters need.number (blocks_alone s.run.looked))) r h in
    record {
      last = last;
      alone = in_ex s.locks.x x;
      writer = in_pw s.locks.v v;
      made = t.0;
      short = short_found _ (found s.geometry need.clusters need.number (blocks_alone s.run.looked)) r t.1;
    }

by_phase : (p : Phase) (s : SpaceState) (need : SpaceNeed) (r : Refusal) → s.run.phase ≡ p → event_in p s need ≡ event.Short r → IsRefusedLast s need r
by_phase Off s need r e h = absurd (off_refuses s need r (holds_enough need.clusters need.number s.stock) h)
by_phase Fill s need r e h = absurd (fill_refuses s need r (not (is_shared s.locks.x)) (not (is_writer s.locks.v)) h)
by_phase Drain s need r e h = absurd (drain_refuses s r h)
by_phase Last s need r e h = last_refuses s need r (not (is_exclusive s.locks.x)) (not (is_writer s.locks.v)) refl refl e h
by_phase Back s need r e h = absurd (back_refuses s r (not (is_writer s.locks.v)) h)

pub refused_last : RefusedLast
refused_last s need r h = by_phase s.run.phase s need r refl h

-- ---- a refusal that is decided

no_short_gives : (p : Phase) (g : Geometry) (looked : List (ℕ × Block)) (stock : Stock) (o : Option ℕ) (r : Refusal) → (give_by p g looked stock o).short ≡ Some r → ⊥
no_short_gives p g looked stock (Some l) r h = absurd (let f : None ≡ Some r = h in cc)
no_short_gives p g looked stock None r h = absurd (let f : None ≡ Some r = h in cc)

no_short_fill : (g : Geometry) (looked : List (ℕ × Block)) (stock : Stock) (o : Option (List PlanWrite)) (r : Refusal) → (fill_or_give g looked stock o).short ≡ Some r → ⊥
no_short_fill g looked stock (Some ws) r h = absurd (let f : None ≡ Some r = h in cc)
no_short_fill g looked stock None r h = no_short_gives Drain g looked stock (give_place g stock.clusters stock.numbers looked) r h

no_short_fills : (g : Geometry) (looked : List (ℕ × Block)) (stock : Stock) (need : SpaceNeed) (o : Option ℕ) (r : Refusal) → (fill_by g looked stock need o).short ≡ Some r → ⊥
no_short_fills g looked stock need (Some l) r h = absurd (let f : None ≡ Some r = h in cc)
no_short_fills g looked stock need None r h =
    no_short_fill g looked stock (filled g need.clusters (length stock.clusters) (lacks_number need.number stock.numbers) (blocks_alone looked)) r h

decided_short : (l : ℕ) (f : Found) (r : Refusal) → (search_by (answered l f)).short ≡ Some r → f ≡ Short r
decided_short l More r h = absurd (let f : None ≡ Some r = h in cc)
decided_short l (Short x) r h = ap Short (let f : Some x ≡ Some r = h in cc)
decided_short l (Enough ws) r h = absurd (let f : None ≡ Some r = h in cc)

decided_by : (p : Phase) (g : Geometry) (run : SpaceRun) (stock : Stock) (need : SpaceNeed) (r : Refusal) → run.phase ≡ p → (decision_in p g run.looked stock need).short ≡ Some r
    → (run.phase ≡ Last) × (found g need.clusters need.number (blocks_alone run.looked) ≡ Short r)
decided_by Off g run stock need r e h = absurd (let f : None ≡ Some r = h in cc)
decided_by Fill g run stock need r e h =
    absurd (no_short_fills g run.looked stock need (fill_place g (clusters_to_take need.clusters (length stock.clusters)) (lacks_number need.number stock.numbers) (blocks_alone run.looked)) r h)
decided_by Drain g run stock need r e h = absurd (no_short_gives Drain g run.looked stock (give_place g stock.clusters stock.numbers run.looked) r h)
decided_by Last g run stock need r e h = (e, decided_short _ (found g need.clusters need.number (blocks_alone run.looked)) r h)
decided_by Back g run stock need r e h = absurd (no_short_gives Back g run.looked stock (give_place g stock.clusters stock.numbers run.looked) r h)

pub decided_last : DecidedLast
decided_last g run stock need r h = decided_by run.phase g run stock need r refl h

-- ---- a full device

whole_clusters : (g : Geometry) (clusters : ℕ) (number : Option ℕ) (first : List PlanWrite) (bs : List Block) → storage_blocks (total_of g) ≤ length bs → length (cluster_places g clusters) ≤ length bs
whole_clusters g zero number first bs le = omega arith
whole_clusters g (suc more) number first bs le =
    let count = length-map-range_with_len (λ j. place_of g (Storage j)) 0 (storage_blocks (total_of g)) in
    omega (arith, count)

whole_number : (g : Geometry) (clusters : ℕ) (index : Block) (n : Option ℕ) (bs : List Block) → found_number g clusters index n bs ≡ Short DeviceFull → length (cluster_places g clusters) ≤ length bs
whole_number g clusters index None bs h = absurd (let f : Short IndexFull ≡ Short DeviceFull = h in cc)
whole_number g clusters index (Some n) bs h = whole_clusters g clusters (Some n) (number_write g n index ∷ []) bs (short_of g clusters (Some n) (number_write g n index ∷ []) bs DeviceFull h).1

pub full_is_whole : FullIsWhole
full_is_whole g clusters false bs h = whole_clusters g clusters None [] bs (short_of g clusters None [] bs DeviceFull h).1
full_is_whole g clusters true [] h = absurd (let f : More ≡ Short DeviceFull = h in cc)
full_is_whole g clusters true (index ∷ bs) h = let le = whole_number g clusters index (free_number g index) bs h in omega arith

-- ---- what is looked at

storage_in : (g : Geometry) (k : ℕ) → k < storage_blocks (total_of g) → Has (places g 1 true) (place_of g (Storage k))
storage_in g k lt = inr (has_map (λ j. place_of g (Storage j)) (range_with_len 0 (storage_blocks (total_of g))) k (ranged_has 0 (storage_blocks (total_of g)) k (omega arith) (omega arith)))

look_is : (o : Option ℕ) (e : SpaceEvent) (l : ℕ) → (e ≡ event.Look l → ⊥) → after_looks o e ≡ event.Look l → o ≡ Some l
look_is (Some k) e l other h = ap Some (let f : event.Look k ≡ event.Look l = h in cc)
look_is None e l other h = absurd (other h)

look_behind : (o : Option PlanWrite) (e : SpaceEvent) (l : ℕ) → after_writes (put_of o) e ≡ event.Look l → e ≡ event.Look l
look_behind (Some w) e l h = absurd (let f : event.Put w.lbn w.block ≡ event.Look l = h in cc)
look_behind None e l h = h

storage_looked : (g : Geometry) (bs : List Block) (a b : Bool) (l : ℕ) → nat_lt (length bs) (storage_blocks (total_of g)) ≡ b → cond (a && b) (Some (place_of g (Storage (length bs)))) None ≡ Some l → Has (places g 1 true) l
storage_looked g bs false b l e h = absurd (let f : None ≡ Some l = h in cc)
storage_looked g bs true false l e h = absurd (let f : None ≡ Some l = h in cc)
storage_looked g bs true true l e h =
    let same : place_of g (Storage (length bs)) ≡ l = (let f : Some (place_of g (Storage (length bs))) ≡ Some l = h in cc) in
    subst (λ (k : ℕ). Has (places g 1 true) k) same (storage_in g (length bs) (is_below (length bs) (storage_blocks (total_of g)) e))

pub fill_looked : (g : Geometry) (wanted : ℕ) (lacks : Bool) (bs : List Block) (l : ℕ) → fill_place g wanted lacks bs ≡ Some l → Has (places g 1 true) l
fill_looked g wanted false bs l h = storage_looked g bs (nat_lt (length (free_from g 0 bs)) wanted) (nat_lt (length bs) (storage_blocks (total_of g))) l refl h
fill_looked g wanted true [] l h = inl (let f : Some (place_of g IndexBitmap) ≡ Some l = h in cc)
fill_looked g wanted true (index ∷ bs) l h = storage_looked g bs (nat_lt (length (free_from g 0 bs)) wanted) (nat_lt (length bs) (storage_blocks (total_of g))) l refl h

clusters_looked : (g : Geometry) (cs : List ℕ) (looked : List (ℕ × Block)) (o : Option ℕ) (l : ℕ) → find (is_wanting g cs looked) (storage_range g) ≡ o → option_map (λ k. place_of g (Storage k)) o ≡ Some l → Has (places g 1 true) l
clusters_looked g cs looked None l e h = absurd (let f : None ≡ Some l = h in cc)
clusters_looked g cs looked (Some k) l e h =
    let same : place_of g (Storage k) ≡ l = (let f : Some (place_of g (Storage k)) ≡ Some l = h in cc) in
    let t = (found_passes (is_wanting g cs looked) (storage_range g) k e).0 in
    inr (subst (λ (j : ℕ). Has (storage_places g 0 (storage_blocks (total_of g))) j) same (has_map (λ j. place_of g (Storage j)) (storage_range g) k t))

pub give_looked : (g : Geometry) (cs ns : List ℕ) (looked : List (ℕ × Block)) (l : ℕ) → give_place g cs ns looked ≡ Some l → Has (places g 1 true) l
unfolding give_place
give_looked g cs ns looked l h = by_index (nat_lt 0 (length ns) && not (is_seen looked (place_of g IndexBitmap))) h where
  by_index : (b : Bool) → cond b (Some (place_of g IndexBitmap)) (clusters_place g cs looked) ≡ Some l → Has (places g 1 true) l
  by_index true e = inl (let f : Some (place_of g IndexBitmap) ≡ Some l = e in cc)
  by_index false e = clusters_looked g cs looked (find (is_wanting g cs looked) (storage_range g)) l refl e

-- a search of all free space
searched : (g : Geometry) (clusters : ℕ) (number : Bool) (l : ℕ) → Has (places g clusters number) l → Has (places g 1 true) l
searched g zero true l (inl e) = inl e
searched g zero true l (inr t) = absurd t
searched g (suc more) true l t = t
searched g zero false l t = absurd t
searched g (suc more) false l t = inr t

search_look : (s : Search) (l : ℕ) → by_search s ≡ event.Look l → s ≡ search.Look l
search_look (search.Look k) l h = ap search.Look (let f : event.Look k ≡ event.Look l = h in cc)
search_look (search.Short r) l h = absurd (let f : event.Short r ≡ event.Look l = h in cc)
search_look (search.Take ws) l h = absurd (let f : event.Enough ≡ event.Look l = h in cc)

fill_event_looks : (s : SpaceState) (need : SpaceNeed) (l : ℕ) (a b : Bool) → cond a (event.Ask X CR) (cond b (event.Ask V PW) (after_writes (next_put s.run) (after_looks (next_fill s need) event.LowerV))) ≡ event.Look l → Has (places s.geometry 1 true) l
fill_event_looks s need l true b h = absurd (let f : event.Ask X CR ≡ event.Look l = h in cc)
fill_event_looks s need l false true h = absurd (let f : event.Ask V PW ≡ event.Look l = h in cc)
fill_event_looks s need l false false h =
    let t = look_behind (slice_get s.run.writes s.run.made) (after_looks (next_fill s need) event.LowerV) l h in
    fill_looked s.geometry (clusters_to_take need.clusters (length s.stock.clusters)) (lacks_number need.number s.stock.numbers) (blocks_alone s.run.looked) l
    (look_is (next_fill s need) event.LowerV l (λ e. absurd (cc)) t)

off_looks : (s : SpaceState) (need : SpaceNeed) (l : ℕ) (a : Bool) → cond a event.Enough (fill_event s need) ≡ event.Look l → Has (places s.geometry 1 true) l
off_looks s need l true h = absurd (let f : event.Enough ≡ event.Look l = h in cc)
off_looks s need l false h = fill_event_looks s need l (not (is_shared s.locks.x)) (not (is_writer s.locks.v)) h

give_event_looks : (s : SpaceState) (last : SpaceEvent) (l : ℕ) → (last ≡ event.Look l → ⊥) → after_writes (next_put s.run) (after_looks (next_give s) last) ≡ event.Look l → Has (places s.geometry 1 true) l
give_event_looks s last l other h =
    give_looked s.geometry s.stock.clusters s.stock.numbers s.run.looked l
    (look_is (next_give s) last l other (look_behind (slice_get s.run.writes s.run.made) (after_looks (next_give s) last) l h))

back_looks : (s : SpaceState) (l : ℕ) (b : Bool) → cond b (event.Ask V PW) (after_writes (next_put s.run) (after_looks (next_give s) event.Return)) ≡ event.Look l → Has (places s.geometry 1 true) l
back_looks s l true h = absurd (let f : event.Ask V PW ≡ event.Look l = h in cc)
back_looks s l false h = give_event_looks s event.Return l (λ e. absurd (cc)) h

last_looks : (s : SpaceState) (need : SpaceNeed) (l : ℕ) (a b : Bool) → cond a (event.Ask X EX) (cond b (event.Ask V PW) (after_writes (next_put s.run) (by_search (answer s.geometry need.clusters need.number (blocks_alone s.run.looked))))) ≡ event.Look l → Has (places s.geometry 1 true) l
last_looks s need l true b h = absurd (let f : event.Ask X EX ≡ event.Look l = h in cc)
last_looks s need l false true h = absurd (let f : event.Ask V PW ≡ event.Look l = h in cc)
last_looks s need l false false h =
    let bs = blocks_alone s.run.looked in
    let t = look_behind (slice_get s.run.writes s.run.made) (by_search (answer s.geometry need.clusters need.number bs)) l h in
    let at = looks_in_order s.geometry need.clusters need.number bs l (search_look (answer s.geometry need.clusters need.number bs) l t) in
    searched s.geometry need.clusters need.number l (has_at (places s.geometry need.clusters need.number) (length bs) l at)

looks_by : (p : Phase) (s : SpaceState) (need : SpaceNeed) (l : ℕ) → event_in p s need ≡ event.Look l → Has (places s.geometry 1 true) l
looks_by Off s need l h = off_looks s need l (holds_enough need.clusters need.number s.stock) h
looks_by Fill s need l h = fill_event_looks s need l (not (is_shared s.locks.x)) (not (is_writer s.locks.v)) h
looks_by Drain s need l h = give_event_looks s event.LowerX l (λ e. absurd (cc)) h
looks_by Last s need l h = last_looks s need l (not (is_exclusive s.locks.x)) (not (is_writer s.locks.v)) h
looks_by Back s need l h = back_looks s l (not (is_writer s.locks.v)) h

pub looks_at_bitmaps : LooksAtBitmaps
looks_at_bitmaps s need l h = looks_by s.run.phase s need l h
