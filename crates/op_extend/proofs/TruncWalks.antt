-- What holds of the events of TRUNC where it holds at their ends: no space is searched for, a refusal writes nothing, nothing is
-- asked, and nothing is left outside.
use Rattle.std.proofs.Common.{◌≡◌, ◌∙◌, ℕ, Bool, true, false, cond, List, [], ◌∷◌, Option, Some, None, length, map, refl, arith}
use Rattle.std.specs.Prelude.{option_map, nat_lt}
use Rattle.std.proofs.lemmas.List.{length-map}
use Rattle.base_words.specs.Fields.{Block}
use Rattle.fx_header.specs.declared.slot.Hdr.{Hdr}
use Rattle.lock_db.specs.declared.name.LockName.{LockName}
use Rattle.lock_db.specs.declared.name.LockName.TheVariants.{Q, V}
use Rattle.plain_cat.specs.declared.ids.Fid.{Fid}
use Rattle.plain_cat.specs.declared.mode.Mode.{Mode}
use Rattle.plain_cat.specs.declared.mode.Mode.TheVariants.{PW}
use Rattle.plain_cat.specs.declared.command.Cmd.TheVariants as cmd
use Rattle.plain_cat.specs.declared.reply.Refusal.{Refusal}
use Rattle.plain_cat.specs.declared.reply.Refusal.TheVariants as refusal
use Rattle.plain_rules.specs.Lookups.{extra}
use Rattle.plain_rules.specs.Answers.{is_kept}
use Rattle.vol_parts.specs.declared.geometry.Geometry.{Geometry}
use Rattle.vol_parts.specs.declared.geometry.Part.TheVariants.{IndexBitmap, Storage}
use Rattle.vol_spell.specs.Reading.{quota_places}
use Rattle.vol_spell.specs.Places.{place_of}
use Rattle.op_law.specs.declared.seen.Chan.{Chan}
use Rattle.op_law.specs.Events.{Events, Take, Look, Make, Space, HasNoSpace, HasNoSearch}
use Rattle.op_law.specs.Fits.{things}
use Rattle.op_law.specs.Freeing.{SeenSpace, blocks_for, look_index}
use Rattle.op_law.specs.Headers.{through_chain}
use Rattle.op_law.specs.Needs.{events_of}
use Rattle.op_law.specs.Rows.{answers, refuses, live_in, look_all}
use Rattle.op_law.specs.Refusing.{SeenFile, seen_file, if_file, unless_refused}
use Rattle.op_law.specs.Sizes.{size_shown, cut_clusters, cut_numbers, cutting_writes, cut_to, keep_clusters, trunc_in, trunc_events}
use Rattle.op_law.specs.Writing.{plan_of, clusters_for}
use Rattle.op_law.proofs.Links.{links_so}
use Rattle.op_law.proofs.Walking.{EveryPlan}
use Rattle.op_law.proofs.Through.{header_so}
use Rattle.op_law.proofs.Doing.{IsShaped}
use Rattle.op_law.proofs.Ends.{EndsBy, nothing_given}
use Rattle.op_extend.proofs.TruncEnds.{cutting_outs}

module _ (T : Events → Type 0) (take : (name : LockName) (mode : Mode) (next : Events) → T next → T (Take name mode next))
    (look : (name : LockName) (lbn : ℕ) (next : Block → Events) → ((b : Block) → T (next b)) → T (Look name lbn next)) (refused : (r : Refusal) → T (refuses r))
    (stays : (g : Geometry) (clusters : ℕ) → T (answers (size_shown g clusters)))
    (cuts : (g : Geometry) (f : SeenFile) (kept : ℕ) (s : SeenSpace) → length s.storage ≡ length (blocks_for g (cut_clusters g f kept)) → T (Make (plan_of (cutting_writes g f kept s) (size_shown g kept)))) where
  all_so : (name : LockName) (ls : List ℕ) (next : List Block → Events) → ((bs : List Block) → length bs ≡ length ls → T (next bs)) → T (look_all name ls next)
  all_so name [] next so = so [] refl
  all_so name (l ∷ ls) next so = look name l (λ b. look_all name ls (λ bs. next (b ∷ bs))) (λ b. all_so name ls (λ bs. next (b ∷ bs)) (λ bs e. so (b ∷ bs) (omega arith)))

  index_so : (g : Geometry) (ns : List ℕ) (next : Block → Events) → ((b : Block) → T (next b)) → T (look_index g ns next)
  index_so g [] next so = so []
  index_so g (n ∷ ns) next so = look V (place_of g IndexBitmap) next so

  cut_so : (g : Geometry) (kept : ℕ) (f : SeenFile) → T (cut_to g f kept)
  cut_so g kept f =
      let ks = blocks_for g (cut_clusters g f kept) in
      take Q PW _ (all_so Q (quota_places g) _ (λ quota q. take V PW _ (index_so g (cut_numbers g f kept) _ (λ index. all_so V (map (λ k. place_of g (Storage k)) ks) _
      (λ storage len. cuts g f kept (record { quota = quota; index = index; storage = storage }) (len ∙ length-map ks (λ k. place_of g (Storage k))))))))

  keep_so : (g : Geometry) (kept : ℕ) (f : SeenFile) → T (keep_clusters g kept f)
  keep_so g kept f = by_less (nat_lt kept f.file.clusters) where
    by_less : (t : Bool) → T (cond t (cut_to g f kept) (answers (size_shown g f.file.clusters)))
    by_less true = cut_so g kept f
    by_less false = stays g f.file.clusters

  file_so : (g : Geometry) (kept : ℕ) (f : SeenFile) → T (trunc_in g kept f)
  file_so g kept f = by_kept (is_kept f.num f.file) where
    by_kept : (t : Bool) → T (unless_refused (cond t (Some refusal.NoPriv) None) (through_chain g PW f (keep_clusters g kept)))
    by_kept true = refused refusal.NoPriv
    by_kept false = links_so T take look g PW (extra f.file.clusters) f.head f (keep_clusters g kept) (λ rest len. keep_so g kept (record f { rest = rest }))

  pub trunc_so : (file : Fid) (blocks : ℕ) (g : Geometry) (channel : Option Chan) → T (events_of g channel (cmd.Trunc file blocks))
  unfolding events_of trunc_events
  trunc_so file blocks g channel = header_so T take look g file PW (λ b. if_file (refuses refusal.NoSuchFile) (trunc_in g (clusters_for g blocks)) (option_map (seen_file g file.num b) (live_in file.seq b)))
      (refused refusal.NoSuchFile) (λ b. by_live b (live_in file.seq b)) where
        by_live : (b : Block) (o : Option Hdr) → T (if_file (refuses refusal.NoSuchFile) (trunc_in g (clusters_for g blocks)) (option_map (seen_file g file.num b) o))
        by_live b None = refused refusal.NoSuchFile
        by_live b (Some h) = file_so g (clusters_for g blocks) (seen_file g file.num b h)

pub trunc_no_search : (file : Fid) (blocks : ℕ) (g : Geometry) (channel : Option Chan) → HasNoSearch (events_of g channel (cmd.Trunc file blocks))
trunc_no_search file blocks g channel = trunc_so HasNoSearch (λ name mode next h. h) (λ name lbn next h. h) (λ r. tt) (λ g k. tt) (λ g f k s len. tt) file blocks g channel

-- a plan asks for nothing, and where it is refused it writes nothing
pub trunc_shaped : (file : Fid) (blocks : ℕ) (g : Geometry) (channel : Option Chan) → EveryPlan IsShaped (events_of g channel (cmd.Trunc file blocks))
trunc_shaped file blocks g channel = trunc_so (EveryPlan IsShaped) (λ name mode next h. h) (λ name lbn next h. h) (λ r. record { ask = refl; refused = (refl, refl) })
    (λ g k. record { ask = refl; refused = tt }) (λ g f k s len. record { ask = refl; refused = tt }) file blocks g channel

-- after its writes the command has nothing outside
pub trunc_end : (file : Fid) (blocks : ℕ) (g : Geometry) (channel : Option Chan) (space : Space) → EndsBy (things space.clusters space.number) (HasNoSpace space) (events_of g channel (cmd.Trunc file blocks))
trunc_end file blocks g channel space = trunc_so (EndsBy (things space.clusters space.number) (HasNoSpace space)) (λ name mode next h. h) (λ name lbn next h. h) (λ r. nothing_given space) (λ g k. nothing_given space)
    (λ g f k s len none. cutting_outs g f k s len (things space.clusters space.number)) file blocks g channel
