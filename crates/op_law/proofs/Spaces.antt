-- What is known of the space that a command was given, and why it was given none.
use Rattle.std.proofs.Common.{◌≡◌, ◌≤◌, ◌<◌, ◌+◌, ◌-◌, ◌∙◌, inl, ℕ, suc, Bool, true, false, List, ◌++◌, Option, Some, None, length, slice_get, refl, sym, ap, subst, arith}
use Rattle.std.specs.Prelude.{◌&&◌, not, nat_lt}
use Rattle.std.proofs.lemmas.Bool.{and_parts}
use Rattle.std.proofs.lemmas.Bool.Decides.{nat_tests}
use Rattle.std.proofs.lemmas.Option.{slice_get_within}
use Rattle.std.proofs.Math.ListN.{length-append}
use Rattle.base_words.specs.Fields.{Block}
use Rattle.plain_cat.specs.declared.ids.Fid.{Fid}
use Rattle.plain_cat.specs.declared.command.Cmd.{Cmd}
use Rattle.plain_cat.specs.declared.reply.Refusal.{Refusal}
use Rattle.plain_cat.specs.declared.reply.Refusal.TheVariants as refusal
use Rattle.plain_cat.specs.declared.cat.Cat.{Cat}
use Rattle.plain_cat.specs.declared.cat.File.{File}
use Rattle.plain_cat.specs.declared.cat.Slot.{Slot}
use Rattle.plain_cat.specs.declared.cat.Slot.TheVariants.{Used, Free}
use Rattle.plain_rules.specs.Lookups.{slot_at, file_in, file_at, of_seq, unmarked, live, free_clusters, is_free_slot, is_leaked, is_free_number, free_count, has_free_number}
use Rattle.plain_rules.specs.Answers.{IsPick}
use Rattle.plain_rules.proofs.Picks.{number_of, pick_of}
use Rattle.vol_spell.specs.declared.owner.Owner.TheVariants.{Outside}
use Rattle.vol_spell.specs.Owners.{Owners, Things, Outs}
use Rattle.vol_parts.specs.declared.geometry.Geometry.{Geometry}
use Rattle.vol_spell.specs.Reading.{IsFileNumber}
use Rattle.vol_spell.specs.Spelling.{Spells}
use Rattle.vol_under.specs.UnderWay.{together}
use Rattle.vol_under.specs.Ending.{file_numbers}
use Rattle.vol_under.proofs.Leaking.{numbers_all, outside_may_leak}
use Rattle.op_law.specs.declared.seen.Seen.{Seen}
use Rattle.op_law.specs.Knows.{channel_of, has_channel, Wanted, wanted, is_short, is_new_number, usages_fit, opens_hold, knows}
use Rattle.op_law.specs.Fits.{things}

-- ---- a free number

free_slot : (o : Option Slot) → is_free_slot o ≡ true → file_in o ≡ None
free_slot None e = refl
free_slot (Some (Free seq)) e = refl
free_slot (Some (Used f)) e = absurd (cc)

-- no file has a number that is free
pub no_file_at : (c : Cat) (n : ℕ) → is_free_number c n ≡ true → file_at c n ≡ None
no_file_at c n free = free_slot (slot_at c n) (and_parts (is_free_slot (slot_at c n)) (not (is_leaked c n)) free).0

-- a number that is free is no live file's
pub not_live_number : (c : Cat) (fid : Fid) (f : File) (n : ℕ) → is_free_number c n ≡ true → live c fid ≡ Some f → n ≡ fid.num → ⊥
not_live_number c fid f n free at same =
    let slot = (and_parts (is_free_slot (slot_at c n)) (not (is_leaked c n)) free).0 in
    let none : live c fid ≡ None = ap (λ k. unmarked (of_seq fid.seq (file_in (slot_at c k)))) (sym same) ∙ ap (λ o. unmarked (of_seq fid.seq o)) (free_slot (slot_at c n) slot) in
    let both : None ≡ Some f = sym none ∙ at in
    absurd (cc)

-- ---- space that was given

-- as many clusters are free as are given
pub clusters_given : (g : Geometry) (bs : List Block) (own : Owners) (c : Cat) (node : ℕ) (qs : List ℕ) (number : Option ℕ) (stock : Things) → Spells g bs own c → Outs node own (things qs number) stock → length qs ≤ free_clusters c
clusters_given g bs own c node qs number stock s outs = by_number number outs where
  count : (took : Things) → Outs node own took stock → length took.clusters ≤ free_clusters c
  count took outs =
      let leak = outside_may_leak g bs own c node took stock (file_numbers (together took stock)) s outs (numbers_all (together took stock) outs.numbers.once) in
      let long = length-append took.clusters stock.clusters in
      let le : length (took.clusters ++ stock.clusters) ≤ free_clusters c = leak.0 in
      omega arith

  by_number : (number : Option ℕ) → Outs node own (things qs number) stock → length qs ≤ free_clusters c
  by_number None outs = count (things qs None) outs
  by_number (Some n) outs = count (things qs (Some n)) outs

-- the number is one of the volume's, above those of the system files, and may be taken, and so many clusters are free
pub record IsSpace (g : Geometry) (c : Cat) (qs : List ℕ) (n : ℕ) : Type 0 where
  pub number : IsFileNumber g n
  pub above : 11 < n
  pub free : is_free_number c n ≡ true
  pub pick : IsPick c (Some n)
  pub enough : length qs ≤ free_clusters c

pub space_given : (g : Geometry) (bs : List Block) (own : Owners) (c : Cat) (node : ℕ) (qs : List ℕ) (n : ℕ) (stock : Things) → Spells g bs own c → Outs node own (things qs (Some n)) stock → is_new_number (Some n) ≡ true
    → IsSpace g c qs n
space_given g bs own c node qs n stock s outs new =
    let took = things qs (Some n) in
    let leak = outside_may_leak g bs own c node took stock (file_numbers (together took stock)) s outs (numbers_all (together took stock) outs.numbers.once) in
    let many : suc (length (file_numbers stock)) ≤ free_count c = leak.2 in
    let above : 11 < n = grind (arith, nat_tests) in
    let back : n - 1 + 1 ≡ n = omega arith in
    let out : slice_get own.numbers (n - 1) ≡ Some (Outside node) = (outs.numbers.all (n - 1)).1 (inl (inl refl)) in
    let lt = slice_get_within own.numbers (n - 1) (Outside node) out in
    let count = s.counts.numbers in
    let free : is_free_number c n ≡ true = subst (λ k. is_free_number c k ≡ true) back (and_parts (is_free_number c (n - 1 + 1)) _ leak.1).0 in
    let has : has_free_number c ≡ true = grind (arith, nat_tests) in
    record {
      number = record { from = omega arith; to = omega arith };
      above = above;
      free = free;
      pick = pick_of c n free has;
      enough = clusters_given g bs own c node qs (Some n) stock s outs;
    }

-- ---- space that was refused

-- why space was refused to a command that wants a number
abbrev pub IsShort : Cat → ℕ → Refusal → Type 0
IsShort c clusters refusal.IndexFull = IsPick c None
IsShort c clusters refusal.DeviceFull = (n : ℕ) × IsPick c (Some n) × (nat_lt (free_clusters c) clusters ≡ true)
IsShort c clusters other = ⊥

pub space_refused : (c : Cat) (k : Wanted) (r : Refusal) → k.number ≡ true → is_short c k (Some r) ≡ true → IsShort c k.clusters r
space_refused c k refusal.IndexFull wants e = by_tests k.number (has_free_number c) wants e where
  by_tests : (w h : Bool) → w ≡ true → (w && not h) ≡ true → h ≡ false
  by_tests true true w e = absurd (cc)
  by_tests true false w e = refl
  by_tests false h w e = absurd (cc)
space_refused c k refusal.DeviceFull wants e =
    let parts = and_parts (not (k.number && not (has_free_number c))) _ e in
    let has = by_tests k.number (has_free_number c) wants parts.0 in
    let some = number_of c has in
    (some.0, pick_of c some.0 some.1 has, parts.1) where
      by_tests : (w h : Bool) → w ≡ true → not (w && not h) ≡ true → h ≡ true
      by_tests true true w e = refl
      by_tests true false w e = absurd (cc)
      by_tests false h w e = absurd (cc)
space_refused c k other wants e = absurd (let f : false ≡ true = e in cc)

-- space was refused to a command that wants no number
pub clusters_refused : (c : Cat) (k : Wanted) (r : Refusal) → k.number ≡ false → is_short c k (Some r) ≡ true → (r ≡ refusal.DeviceFull) × (nat_lt (free_clusters c) k.clusters ≡ true)
clusters_refused c k refusal.IndexFull wants e = let f : false ≡ true = sym (ap (λ t. t && not (has_free_number c)) wants) ∙ e in absurd (cc)
clusters_refused c k refusal.DeviceFull wants e = (refl, (and_parts (not (k.number && not (has_free_number c))) _ e).1)
clusters_refused c k other wants e = absurd (let f : false ≡ true = e in cc)

-- ---- what a command knows of the space

-- what was given is outside at the node, a number is above those of the system files, and for a refusal there was a reason
pub record IsKnown (node : ℕ) (x : Cmd) (seen : Seen) (own : Owners) (c : Cat) (stock : Things) : Type 0 where
  pub outs : Outs node own (things seen.clusters seen.number) stock
  pub new : is_new_number seen.number ≡ true
  pub short : is_short c (wanted seen x) seen.short ≡ true

pub known_space : (node : ℕ) (x : Cmd) (seen : Seen) (own : Owners) (c : Cat) (stock : Things) → Outs node own (things seen.clusters seen.number) stock → knows node x seen c ≡ true → IsKnown node x seen own c stock
known_space node x seen own c stock outs e =
    let a = and_parts (has_channel c node (channel_of x) seen.channel) (is_new_number seen.number && (is_short c (wanted seen x) seen.short && (usages_fit c x && opens_hold c x))) e in
    let b = and_parts (is_new_number seen.number) (is_short c (wanted seen x) seen.short && (usages_fit c x && opens_hold c x)) a.1 in
    record { outs = outs; new = b.0; short = (and_parts (is_short c (wanted seen x) seen.short) (usages_fit c x && opens_hold c x) b.1).0 }
