-- What all steps together have done.
use Rattle.std.proofs.Common.{◌≡◌, ◌∙◌, Bool, true, false, List, [], ◌∷◌, Some, All, map, refl, sym, ap, arith}
use Rattle.std.specs.List.{count_by}
use Rattle.std.proofs.lemmas.List.Elements.{All-nil, All-cons}
use Rattle.base_words.specs.Fields.{Block}
use Rattle.plain_cat.specs.declared.history.Mended.{Mended}
use Rattle.plain_cat.specs.declared.cat.Cat.{Cat}
use Rattle.plain_cat.specs.declared.cat.Slot.{Slot}
use Rattle.plain_cat.specs.declared.cat.QuotaRow.{QuotaRow}
use Rattle.plain_rules.specs.Accounts.{charge}
use Rattle.plain_rules.specs.Mending.{stays, without_opens, is_true, counts, put_right, mended, without_leaks}
use Rattle.plain_mends.specs.Resuming.{AllStay, MendsTo}
use Rattle.plain_mends.specs.Waiting.{IsDone}
use Rattle.plain_mends.proofs.Frames.{mended_by}
use Rattle.vol_parts.specs.declared.geometry.Geometry.{Geometry}
use Rattle.vol_mends.specs.Told.{IsTold}
use Rattle.vol_rebuild.specs.Leaving.{gone_numbers}
use Rattle.vol_rebuild.specs.Steps.{leaking, AreSingles, IsStripped, AreEntered, AreFreed, IsTidy, AreSummed}
use Rattle.vol_rebuild.specs.Tails.{AreTailsClear}
use Rattle.vol_rebuild.specs.Ways.{IsWay}
use Rattle.vol_rebuild.specs.Rebuilt.{IsRebuilt}
use Rattle.vol_rebuild.proofs.Stepping.{way_mends}
use Rattle.vol_rebuild.proofs.Reading.{ends_at}
use Rattle.vol_rebuild.proofs.Going.{settled_aside, none_lost, unmarked_left}
use Rattle.vol_mends.proofs.Finished.{done_is_accepted}

some_same : {X : Type 0} {x y : X} → Some x ≡ Some y → x ≡ y
some_same e = cc e

-- the catalogue without leaks, with these rows
abbrev settled_up : Cat → List QuotaRow → Cat
settled_up c rows = record (without_leaks c) { quota = rows }

-- which entries stay is no matter of leaks and rows
stay_up : (c : Cat) (rows : List QuotaRow) → AllStay c → AllStay (settled_up c rows)
unfolding stays
stay_up c rows stay = ap (λ (fs : List Slot). record (without_opens (settled_up c rows)) { files = fs }) (ap (λ (z : Cat). z.files) stay)

all_false : (bs : List Bool) → All (λ (b : Bool). b ≡ false) (map (λ (b : Bool). false) bs)
all_false [] = All-nil (λ (b : Bool). b ≡ false)
all_false (b ∷ bs) = All-cons (λ (b : Bool). b ≡ false) false (map (λ (b : Bool). false) bs) refl (all_false bs)

-- nothing is left to mend
pub is_done : (c : Cat) (rows : List QuotaRow) → AllStay c → gone_numbers c ≡ [] → All (λ (r : QuotaRow). r.usage ≡ charge (without_leaks c) r.owner) rows → IsDone (settled_up c rows)
is_done c rows stay none usage = record {
  stay = stay_up c rows stay;
  full = none_lost c false none;
  empty = none_lost c true none;
  marks = unmarked_left c none;
  clusters = refl;
  numbers = all_false c.leaked_numbers;
  usage = usage;
}

-- the steps, one after another
pub record AreSteps (g : Geometry) (old new : List Block) (c : Cat) (done : Mended) : Type 0 where
  pub told : IsTold g old c
  pub way : IsWay old new
  pub first : Cat
  pub second : Cat
  pub third : Cat
  pub stripped_blocks : List Block
  pub packed_blocks : List Block
  pub entered_blocks : List Block
  pub freed_blocks : List Block
  pub tidy_blocks : List Block
  pub strips : IsStripped g c first stripped_blocks done.removed
  pub packs : AreSingles g packed_blocks
  pub enters : AreEntered g first second packed_blocks entered_blocks done.entered
  pub frees : AreFreed g second third entered_blocks freed_blocks done.gone
  pub cleared_blocks : List Block
  pub clears : AreTailsClear g (leaking third frees.told.leaked frees.told.flags) freed_blocks cleared_blocks
  pub tidies : IsTidy g (leaking third frees.told.leaked frees.told.flags) cleared_blocks tidy_blocks
  pub sums : AreSummed g (without_leaks (leaking third frees.told.leaked frees.told.flags)) tidy_blocks new
  pub clusters : done.clusters ≡ c.leaked
  pub numbers : done.numbers ≡ count_by is_true c.leaked_numbers

same_done : (a b : Mended) → a.entered ≡ b.entered → a.removed ≡ b.removed → a.gone ≡ b.gone → a.clusters ≡ b.clusters → a.numbers ≡ b.numbers → a ≡ b
same_done a b e r n k f = λ i. record { entered = e i; removed = r i; gone = n i; clusters = k i; numbers = f i }

pub rebuilt : (g : Geometry) (old new : List Block) (c : Cat) (done : Mended) → AreSteps g old new c done → IsRebuilt old new done
rebuilt g old new c done s = record {
  cat = c;
  after = last;
  told = s.told.cat;
  mends = mends;
  accepted = done_is_accepted.accepted g new last s.sums.told finished (s.sums.clean (s.tidies.clean s.clears.clean)) (λ n is. s.sums.singles n is (s.tidies.singles n is (s.clears.singles n is (s.frees.singles n is (s.enters.singles n is (s.packs n is))))));
  left = s.sums.told.cat;
} where
  -- what the blocks tell once the slots are free
  left : Cat
  left = leaking s.third s.frees.told.leaked s.frees.told.flags

  last : Cat
  last = settled_up left s.sums.rows

  finished : IsDone last
  finished = is_done left s.sums.rows (settled_aside s.third s.frees.told.leaked s.frees.told.flags s.frees.settled).stay s.frees.none s.sums.usage

  ends : (z : Cat) × MendsTo c z
  ends = ends_at g old c s.told

  same : ends.0 ≡ last
  same = done_is_accepted.ends g new last ends.0 s.sums.told finished (way_mends old new s.way ends.0 (record { cat = c; told = s.told.cat; ends = ends.1 }))

  by : mended c ≡ Some (put_right s.second, counts c s.first s.second (put_right s.second))
  by = mended_by c s.first s.second s.strips.first s.enters.entered

  right : put_right s.second ≡ last
  right = let both : Some (put_right s.second, counts c s.first s.second (put_right s.second)) ≡ Some (ends.0, ends.1.0) = sym by ∙ ends.1.1 in ap (λ (p : Cat × Mended). p.0) (some_same both) ∙ same

  counted : counts c s.first s.second last ≡ done
  counted =
      let a = s.strips.counted in let b = s.enters.counted in let d = s.frees.files in let e = s.enters.files in let f = s.strips.files in
      same_done (counts c s.first s.second last) done (omega (arith, b)) (omega (arith, a)) (omega (arith, d, e, f)) (sym s.clusters) (sym s.numbers)

  mends : mended c ≡ Some (last, done)
  mends = by ∙ (ap (λ (z : Cat). Some (z, counts c s.first s.second z)) right ∙ ap (λ (m : Mended). Some (last, m)) counted)
