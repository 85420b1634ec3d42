-- What a command alone on the blocks of a volume has seen, as its needs are met.
use Rattle.std.proofs.Common.{◌≡◌, ◌≤◌, ◌∙◌, ℕ, Bool, true, List, [], ◌∷◌, ◌++◌, Option, Some, None, slice_get, length, refl, sym, ap, subst, arith, length-append}
use Rattle.std.specs.Prelude.{◌&&◌, ◌<◌, All, if◌then◌else◌}
use Rattle.std.specs.List.{list_all}
use Rattle.std.proofs.lemmas.List.Sums.{list_all-from_AllPass}
use Rattle.base_words.specs.Fields.{Block}
use Rattle.fx_home.specs.Homes.{home_read}
use Rattle.lock_db.specs.declared.name.LockName.{LockName}
use Rattle.plain_cat.specs.declared.mode.Mode.{Mode}
use Rattle.plain_cat.specs.declared.command.Cmd.{Cmd}
use Rattle.plain_cat.specs.declared.cat.Cat.{Cat}
use Rattle.plain_cat.specs.declared.cat.QuotaRow.{QuotaRow}
use Rattle.plain_cat.specs.declared.reply.Refusal.{Refusal}
use Rattle.plain_rules.specs.Accounts.{IsCharged, Accounted}
use Rattle.base_words.specs.Lists.{StandsIn}
use Rattle.vol_spell.specs.Owners.{Owners, nothing, Outs}
use Rattle.vol_parts.specs.Findings.{home_at, CatOf}
use Rattle.vol_parts.specs.Volumes.{volume, geometry_of}
use Rattle.vol_faults.specs.Free.{IsGeometryBy}
use Rattle.vol_spell.specs.Spelling.{Spells}
use Rattle.vol_spell.specs.Accepting.{IsSpelt, owners_told}
use Rattle.vol_under.proofs.Endings.{opens_spelt}
use Rattle.op_law.specs.declared.need.Need.TheVariants as need
use Rattle.op_law.specs.declared.seen.Seen.{Seen}
use Rattle.op_law.specs.Events.{space_of, HasNoSpace}
use Rattle.op_law.specs.Needs.{need_of, IsNext}
use Rattle.op_law.specs.Knows.{channel_of, has_channel, is_new_number, wanted, is_short, may_ask, changes_usage, is_charged, usages_fit, opens_hold, knows}
use Rattle.op_law.specs.Fits.{things, FitsOn, FitsSeen}
use Rattle.op_law.specs.Going.{with_lock, with_block, IsLookAt}
use Rattle.rows_ops.specs.Alone.{IsSeenAlone, needs_met, IsMet, Begins}
use Rattle.op_law.specs.Laws.{Lawful}
use Rattle.op_law.proofs.Going.{seen_goes_on}
use Rattle.base_words.proofs.Booleans.{at_most, where_so}
use Rattle.op_law.proofs.Asking.{both}

pub fits : (x : Cmd) (seen : Seen) (bs : List Block) → FitsOn x seen bs → FitsSeen x seen
fits x seen bs f = record { order = f.order; node = f.node; blocks = bs; own = f.own; cat = f.cat; on = f.on }

-- ---- what a command takes for granted, where nothing is open and each usage is what its owner's files cost

-- the catalogue with nothing open
abbrev closed : Cat → Cat
closed c = record c { opens = [] }

pub all_charged : (c : Cat) (rows : List QuotaRow) → All (IsCharged c) rows → list_all (is_charged c) rows ≡ true
all_charged c rows all = list_all-from_AllPass (is_charged c) rows (λ k row at. both _ _ (at_most _ _ (all k row at).0) (at_most _ _ (all k row at).1))

nothing_open : (c : Cat) (chan : Option ℕ) → has_channel (closed c) 0 chan None ≡ true
nothing_open c None = refl
nothing_open c (Some chan) = refl

knows_first : (x : Cmd) (seen : Seen) (c : Cat) → Accounted c → seen.channel ≡ None → HasNoSpace (space_of seen) → knows 0 x seen (closed c) ≡ true
knows_first x seen c accounted no_channel none = both _ _
    (ap (λ k. has_channel (closed c) 0 (channel_of x) k) no_channel ∙ nothing_open c (channel_of x))
    (both _ _ (ap is_new_number none.number)
    (both _ _ (ap (λ r. is_short (closed c) (wanted seen x) r) none.short)
    (both _ _ (where_so (changes_usage x) _ (all_charged (closed c) c.quota accounted.usage)) (where_so (may_ask x) true refl))))

-- ---- what was seen

-- nothing is seen, and nothing given, on blocks that spell a catalogue
begins : (x : Cmd) (seen : Seen) (bs : List Block) (c : Cat) → Lawful x → IsSpelt bs c → Accounted c → IsGeometryBy bs (home_read (home_at bs)) seen.geometry
    → seen.channel ≡ None → seen.locks ≡ [] → seen.blocks ≡ [] → HasNoSpace (space_of seen) → FitsOn x seen bs
begins x seen bs c law s accounted g no_channel no_locks no_blocks none =
    let e : seen.geometry ≡ geometry_of (volume s.home bs) = subst (λ r. IsGeometryBy bs r seen.geometry) s.read g in
    let own : Owners = owners_told (volume s.home bs) in
    let given : things seen.clusters seen.number ≡ nothing = ap (λ n. things seen.clusters n) none.number ∙ ap (λ cs. things cs None) none.clusters in
    record {
      order = (seen_goes_on x law.searches).first seen no_locks no_blocks none;
      node = 0;
      own = own;
      cat = closed c;
      on = record {
        spelt = subst (λ k. Spells k bs own (closed c)) (sym e) (opens_spelt (geometry_of (volume s.home bs)) bs own c [] s.spelt);
        stands = subst (StandsIn bs) (sym no_blocks) tt;
        stock = nothing;
        outs = subst (λ o. Outs 0 own o nothing) (sym given) (s.outs 0);
        known = knows_first x seen c accounted no_channel none;
      };
    }

pub locked : (x : Cmd) (seen : Seen) (bs : List Block) (name : LockName) (mode : Mode) → Lawful x → FitsOn x seen bs → IsNext x seen (need.Lock name mode) → FitsOn x (with_lock name mode seen) bs
locked x seen bs name mode law f is = record {
  order = (seen_goes_on x law.searches).granted seen name mode f.order is;
  node = f.node;
  own = f.own;
  cat = f.cat;
  on = record { spelt = f.on.spelt; stands = f.on.stands; stock = f.on.stock; outs = f.on.outs; known = f.on.known };
}

stands_more : (bs : List Block) (seen : List (ℕ × Block)) (l : ℕ) (b : Block) → StandsIn bs seen → slice_get bs l ≡ Some b → StandsIn bs (seen ++ (l, b) ∷ [])
stands_more bs [] l b stands at = (at, tt)
stands_more bs (s ∷ seen) l b stands at = (stands.0, stands_more bs seen l b stands.1 at)

-- where no space was refused, one block more changes nothing of what is known
known_more : (node : ℕ) (x : Cmd) (seen : Seen) (c : Cat) (lbn : ℕ) (b : Block) → seen.short ≡ None → knows node x seen c ≡ true → knows node x (with_block lbn b seen) c ≡ true
known_more node x seen c lbn b none known = ap (by_refusal (with_block lbn b seen)) none ∙ (sym (ap (by_refusal seen) none) ∙ known) where
  by_refusal : Seen → Option Refusal → Bool
  by_refusal s r = has_channel c node (channel_of x) seen.channel && (is_new_number seen.number && (is_short c (wanted s x) r && (usages_fit c x && opens_hold c x)))

pub looked : (x : Cmd) (seen : Seen) (bs : List Block) (lbn : ℕ) (b : Block) → Lawful x → FitsOn x seen bs → seen.short ≡ None → IsLookAt lbn (need_of x seen) → slice_get bs lbn ≡ Some b → FitsOn x (with_block lbn b seen) bs
looked x seen bs lbn b law f none is at = record {
  order = (seen_goes_on x law.searches).looked seen lbn b f.order is;
  node = f.node;
  own = f.own;
  cat = f.cat;
  on = record { spelt = f.on.spelt; stands = stands_more bs seen.blocks lbn b f.on.stands at; stock = f.on.stock; outs = f.on.outs; known = known_more f.node x seen f.cat lbn b none f.on.known };
}

-- ---- a command alone

-- it begins, on blocks whose catalogue is in order
pub begins_alone : (x : Cmd) (seen : Seen) (bs : List Block) (c : Cat) → Lawful x → IsSpelt bs c → CatOf bs c → Accounted c → IsGeometryBy bs (home_read (home_at bs)) seen.geometry
    → seen.channel ≡ None → seen.locks ≡ [] → seen.blocks ≡ [] → HasNoSpace (space_of seen) → Begins x bs seen
begins_alone x seen bs c law s told accounted g no_channel no_locks no_blocks none = record {
  order = record { cat = c; told = told; accounted = accounted };
  alone = record { fits = begins x seen bs c law s accounted g no_channel no_locks no_blocks none; channel = no_channel; none = none };
  first = rw (no_locks, no_blocks) refl;
}

pub locked_alone : (x : Cmd) (bs : List Block) (seen : Seen) (name : LockName) (mode : Mode) → Lawful x → IsSeenAlone x bs seen → IsNext x seen (need.Lock name mode) → IsMet x bs seen (with_lock name mode seen)
locked_alone x bs seen name mode law a is = record {
  alone = record { fits = locked x seen bs name mode law a.fits is; channel = a.channel; none = a.none };
  more = (let e = length-append seen.locks ((name, mode) ∷ []) in omega arith);
}

pub looked_alone : (x : Cmd) (bs : List Block) (seen : Seen) (lbn : ℕ) (b : Block) → Lawful x → IsSeenAlone x bs seen → IsLookAt lbn (need_of x seen) → slice_get bs lbn ≡ Some b → IsMet x bs seen (with_block lbn b seen)
looked_alone x bs seen lbn b law a is at = record {
  alone = record { fits = looked x seen bs lbn b law a.fits a.none.short is at; channel = a.channel; none = a.none };
  more = (let e = length-append seen.blocks ((lbn, b) ∷ []) in omega arith);
}

-- a block that it needs is one of the volume's
pub look_within : (x : Cmd) (bs : List Block) (seen : Seen) (name : LockName) (lbn : ℕ) → Lawful x → IsSeenAlone x bs seen → IsNext x seen (need.Block name lbn) → lbn < length bs
look_within x bs seen name lbn law a is = (law.needs a.fits.node seen bs a.fits.own a.fits.cat (need.Block name lbn) a.fits.order a.fits.on is).within

pub bare_within : (x : Cmd) (bs : List Block) (seen : Seen) (lbn : ℕ) → Lawful x → IsSeenAlone x bs seen → IsNext x seen (need.Bare lbn) → lbn < length bs
bare_within x bs seen lbn law a is = (law.needs a.fits.node seen bs a.fits.own a.fits.cat (need.Bare lbn) a.fits.order a.fits.on is).within

-- it has met at most 89 needs
pub few_met : (x : Cmd) (bs : List Block) (seen : Seen) → Lawful x → IsSeenAlone x bs seen → needs_met seen ≤ 89
few_met x bs seen law a =
    let brief = law.brief a.fits.node seen bs a.fits.own a.fits.cat a.fits.order a.fits.on in
    let locks = brief.locks in
    let blocks = brief.blocks in
    omega arith
