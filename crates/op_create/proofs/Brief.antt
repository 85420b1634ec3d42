-- How much CREATE and MKDIR need and write.
use Rattle.std.proofs.Common.{◌≡◌, ◌≤◌, ◌*◌, ◌++◌, ◌∙◌, ℕ, Bool, true, false, List, [], ◌∷◌, Option, Some, None, length, map, refl, sym, ap, subst, arith, length-append}
use Rattle.std.specs.Prelude.{if◌then◌else◌}
use Rattle.std.proofs.lemmas.List.{length-map}
use Rattle.base_words.specs.Fields.{Block}
use Rattle.fx_dir.specs.Writing.{block_of}
use Rattle.lock_db.specs.declared.name.LockName.TheVariants.{S}
use Rattle.plain_cat.specs.declared.mode.Mode.TheVariants.{PW}
use Rattle.plain_cat.specs.declared.command.Cmd.{Cmd}
use Rattle.plain_cat.specs.declared.command.Cmd.TheVariants as cmd
use Rattle.plain_cat.specs.declared.history.Stage.TheVariants as stage
use Rattle.plain_cat.specs.declared.reply.Refusal.{Refusal}
use Rattle.plain_cat.specs.declared.cat.Cat.{Cat}
use Rattle.plain_cat.specs.declared.cat.File.{File}
use Rattle.plain_rules.specs.Answers.{first_refusal}
use Rattle.vol_spell.specs.Owners.{Owners}
use Rattle.vol_spell.specs.Spread.{spread}
use Rattle.vol_spell.proofs.Placing.{spread_places}
use Rattle.vol_parts.specs.declared.geometry.Geometry.{Geometry}
use Rattle.vol_parts.specs.Parts.{IsGeometry}
use Rattle.vol_spell.specs.Reading.{header_block}
use Rattle.vol_spell.specs.Spelling.{Spells}
use Rattle.op_law.specs.declared.need.PlanWrite.{PlanWrite}
use Rattle.op_law.specs.Events.{Events, Find, Space, space_of, has_space}
use Rattle.op_law.specs.Needs.{events_of}
use Rattle.op_law.specs.Bounds.{most_locks, most_looks, most_writes}
use Rattle.op_law.specs.Refusing.{if_space}
use Rattle.op_law.specs.Writing.{holding, empty_handed, write_at, header_write}
use Rattle.op_law.specs.Quotas.{rows_seen, row_charged, owner_write}
use Rattle.op_law.specs.Moving.{SeenDir, entries_of, insertion_writes}
use Rattle.op_law.specs.Entering.{NewEntry, cost_of, numbered, new_header, body_writes, entry_for, making_writes, quota_refusals, into_slot, making_events}
use Rattle.op_law.proofs.Brief.{BriefBy, Briefs}
use Rattle.op_law.proofs.Counting.{unless_brief, quota_brief, directory_brief, owner_few, insertion_few}
use Rattle.op_create.specs.Kinds.{IsMake}
use Rattle.op_create.proofs.Makers.{Maker, to_make, maker_events, maker, events_are}
use Rattle.op_create.proofs.Walks.{given_all}

-- ---- the writes

-- a directory's own blocks are those of one cluster; no others are written
body_few : (g : Geometry) (n : ℕ) (f : File) (qs : List ℕ) → IsGeometry g → (f.dir ≡ true → length qs ≡ 1) → length (body_writes g n f qs) ≤ 16
unfolding body_writes
body_few g n f qs geo one = by_kind f.dir refl where
  writes : List PlanWrite
  writes = map (λ l. write_at (S n) l (block_of []) stage.Charged (holding qs (Some n))) (spread g.cluster qs)

  by_kind : (t : Bool) → f.dir ≡ t → length (if t then writes else []) ≤ 16
  by_kind false e = omega arith
  by_kind true e =
      let top = geo.cluster_to in
      let all = length-map (spread g.cluster qs) (λ l. write_at (S n) l (block_of []) stage.Charged (holding qs (Some n))) in
      let same : length (spread g.cluster qs) ≡ 1 * g.cluster = spread_places.count g.cluster qs ∙ ap (λ k. k * g.cluster) (one e) in
      omega arith

making_few : (g : Geometry) (d : SeenDir) (quota : List Block) (e : NewEntry) (n : ℕ) (qs : List ℕ) → IsGeometry g → length d.blocks ≤ 16 → (e.file.dir ≡ true → length qs ≡ 1)
    → length (making_writes g d quota e n qs) ≤ 120
unfolding making_writes
making_few g d quota e n qs geo few one =
    let row = owner_write g quota e.file.owner (row_charged (cost_of g e.file)) stage.Charged (holding qs (Some n)) in
    let body = body_writes g n e.file qs in
    let entering = insertion_writes d (entry_for n e) stage.Lost stage.Done in
    let behind = header_write g n (new_header g d.fid n e qs) stage.Lost empty_handed ∷ entering in
    let a = length-append row (body ++ behind) in
    let b = length-append body behind in
    omega (arith, owner_few g quota e.file.owner (row_charged (cost_of g e.file)) stage.Charged (holding qs (Some n)), body_few g n e.file qs geo one, insertion_few d (entry_for n e) stage.Lost stage.Done few)

-- ---- the events

module _ (g : Geometry) (bs : List Block) (own : Owners) (c : Cat) (s : Spells g bs own c) (space : Space) (m : Maker) (one : m.file.dir ≡ true → m.file.clusters ≡ 1) where
  abbrev Within : Events → ℕ → ℕ → Type 0
  Within es locks looks = BriefBy bs space 120 es locks looks

  module _ (d : SeenDir) (few : length d.blocks ≤ 16) (quota : List Block) where
    abbrev new : NewEntry
    new = to_make m (entries_of d)

    by_space : (cs : List ℕ) (n : Option ℕ) (short : Option Refusal) → has_space m.file.clusters true (record { clusters = cs; number = n; short = short }) ≡ true
        → Within (if_space (into_slot g d quota new) cs n short) 17 37
    by_space cs n (Some r) has = omega arith
    by_space cs None None has = omega arith
    by_space cs (Some n) None has =
        let all = given_all m.file.clusters cs n has in
        (omega arith, (omega arith, λ b at. making_few g d quota (numbered b new) n cs s.counts.geometry few (λ dir. all ∙ one dir)))

  making_brief : (d : SeenDir) → length d.blocks ≤ 16 → Within (making_events g d (to_make m (entries_of d))) 18 53
  making_brief d few = quota_brief bs space 120 g own c s PW _ 18 53 (omega arith) (omega arith)
      (λ quota few_quota. unless_brief bs space 120 (first_refusal (quota_refusals g (to_make m (entries_of d)) (rows_seen quota)))
      (Find m.file.clusters true (if_space (into_slot g d quota (to_make m (entries_of d))))) 17 37 (λ paid. by_space d few quota space.clusters space.number space.short))

  names_brief : Within (maker_events g m) 19 70
  names_brief = directory_brief bs space 120 g own c s m.dir PW 19 70 (omega arith) _ (omega arith)
      (λ blocks few. let d : SeenDir = record { fid = m.dir; head = header_block g bs m.dir.num; blocks = blocks } in
      unless_brief bs space 120 (first_refusal (m.refusals (entries_of d))) (making_events g d (to_make m (entries_of d))) 18 53 (λ order. making_brief d few))

-- a directory has one cluster
one_for : (g : Geometry) (x : Cmd) (is : IsMake x) → (maker g x is).file.dir ≡ true → (maker g x is).file.clusters ≡ 1
one_for g (cmd.Create reg dir name ver blocks owner) is d = absurd (let f : false ≡ true = d in cc)
one_for g (cmd.MkDir reg dir name owner) is d = refl
one_for g other is d = absurd is

writes_for : (x : Cmd) → IsMake x → most_writes x ≡ 120
writes_for (cmd.Create reg dir name ver blocks owner) is = refl
writes_for (cmd.MkDir reg dir name owner) is = refl
writes_for other is = absurd is

pub makes_brief : (x : Cmd) → IsMake x → Briefs x
makes_brief x is node seen bs own c on =
    let g = seen.geometry in
    let space = space_of seen in
    subst (λ k. BriefBy bs space k (events_of g seen.channel x) most_locks most_looks) (sym (writes_for x is))
    (subst (λ es. BriefBy bs space 120 es most_locks most_looks) (sym (events_are x is g seen.channel)) (names_brief g bs own c on.spelt space (maker g x is) (one_for g x is)))
