-- The law of a packing.
use Rattle.std.proofs.Common.{◌≡◌, ◌∙◌, true, ℕ, List, [], Ok, map, take, length, refl, sym, ap, subst, arith}
use Rattle.std.proofs.lemmas.List.{length-map}
use Rattle.base_words.specs.Fields.{Block}
use Rattle.base_words.specs.Packing.{pack, over}
use Rattle.fx_dir.specs.declared.RawEnt.{RawEnt}
use Rattle.fx_dir.specs.declared.Move.{Move}
use Rattle.fx_dir.specs.Lists.{Each, In}
use Rattle.fx_dir.specs.Entries.{rises, plain}
use Rattle.fx_dir.specs.Directory.{directory, plainly, all_entries}
use Rattle.fx_dir.specs.Writing.{IsUniform, name_of, block_of}
use Rattle.fx_dir.specs.Moves.{written, rising, packed_as, Packs}
use Rattle.fx_dir.proofs.Meeting.{Reads, Sound}
use Rattle.fx_dir.proofs.Greedy.{pack-length}
use Rattle.fx_dir.proofs.Mixing.{each-take, pack-reads, pack-fits}
use Rattle.fx_dir.proofs.Views.{IsView, plain-view, own-view, over-view}
use Rattle.fx_dir.proofs.Showing.{IsParsed, seen, shows}
use Rattle.fx_dir.proofs.Building.{Keeps, keeps-plain, keeps-uniform, blocks-parsed, pack-writable, pack-seen, map-own}
use Rattle.fx_dir.proofs.Images.{rising-whole}
use Rattle.fx_dir.proofs.Passing.{to-packing}
use Rattle.fx_dir.proofs.Based.{IsLong, map-nil, based, read-parsed, read-order, read-uniform, seen-plain, seen-own}
use Rattle.fx_dir.proofs.Changing.{rising-changes, written-each, rising-each}

module _ (v : RawEnt → RawEnt) (view : IsView v) (old : List Block) (fs : List RawEnt)
    (read : directory old ≡ Ok fs) (base : Reads (map v fs) (map (seen v) old)) (sound : Sound fs)
    (keeps : (gs : List (List RawEnt)) → Each (λ g. Each (λ x. In fs x) g) gs → Keeps v gs) where
  abbrev k : ℕ
  k = length old

  abbrev gs : List (List RawEnt)
  gs = pack name_of k fs

  abbrev left : List Block
  left = map block_of gs

  abbrev writes : List Move
  writes = rising 1 old left

  order : rises fs ≡ true
  order = read-order old fs read

  fits : over name_of k fs ≡ []
  fits = map-nil v _ (sym (over-view v view k fs) ∙ pack-fits k (map v fs) (map (seen v) old) (omega (arith, length-map old (seen v))) base)

  left-seen : map (seen v) left ≡ pack name_of k (map v fs)
  left-seen = pack-seen v view k fs order sound (keeps gs (pack-reads k fs fits order).no_clash)

  -- every block is read as a list of records at every moment
  parsed : (n : ℕ) → Each IsParsed (written (take n writes) old)
  parsed n = written-each IsParsed (take n writes) old (read-parsed old fs read) (each-take (λ w. IsParsed w.block) n writes (rising-each IsParsed 1 old left (blocks-parsed gs (pack-writable k fs order sound))))

  pub reads-on : (n : ℕ) → (hs : List RawEnt) × (directory (written (take n writes) old) ≡ Ok hs) × (map v hs ≡ map v fs)
  reads-on n = shows v view (written (take n writes) old) (map v fs) (parsed n) (to-packing v k (map v fs) old left n refl base left-seen)

-- the writes of a packing keep its law
pub packs : (old : List Block) (fs : List RawEnt) (ws : List Move) → Each IsLong old → directory old ≡ Ok fs → Sound fs → ws ≡ rising 1 old (map block_of (pack name_of (length old) fs)) → Packs old ws
packs old fs ws long read sound is =
    subst (λ (t : List Move). Packs old t) (sym is) (record {
      entries = λ n. let r = reads-on plain plain-view old fs read base sound plainly-kept n in ap plainly r.1 ∙ ap Ok r.2 ∙ sym (ap plainly read);
      kept = λ u n. let r = reads-on (λ x. x) own-view old fs read (own-base u) sound (own-kept u) n in r.1 ∙ ap Ok (sym (map-own r.0) ∙ r.2 ∙ map-own fs) ∙ sym read;
      whole = rising-whole old left [] 1 count refl ∙ sym (ap (packed_as old) read);
      changes = rising-changes old left [] 1 count refl;
    })
  where
    left : List Block
    left = map block_of (pack name_of (length old) fs)

    count : length old ≡ length left
    count = sym (length-map (pack name_of (length old) fs) block_of ∙ pack-length (length old) fs)

    base : Reads (map plain fs) (map (seen plain) old)
    base = based plain plain-view old fs long read (seen-plain old fs read)

    plainly-kept : (gs : List (List RawEnt)) → Each (λ g. Each (λ x. In fs x) g) gs → Keeps plain gs
    plainly-kept gs n = keeps-plain gs

    own-base : IsUniform (all_entries old) → Reads (map (λ x. x) fs) (map (seen (λ x. x)) old)
    own-base u = based (λ x. x) own-view old fs long read (seen-own old fs read u)

    own-kept : IsUniform (all_entries old) → (gs : List (List RawEnt)) → Each (λ g. Each (λ x. In fs x) g) gs → Keeps (λ x. x) gs
    own-kept u gs n = keeps-uniform fs gs (read-uniform old fs read u) n
