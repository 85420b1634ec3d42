-- The walk along the links of a file, in the events of commands. What holds of the events behind each lock and look holds of those
-- along the links (`links_so`, and `links_held_so` where the locks that are held matter): what comes next is asked for with any other
-- headers, as many more as were looked at. The locks and looks are counted (`links_brief`). On blocks that spell a catalogue each lock
-- is new and comes behind all that are held, each look is under the lock that was taken for it, and what comes next is asked for with
-- the headers of the file that stand there (`links_obey`, and for all headers `chain_obeys`, for those up to that of a virtual block
-- `part_obeys`). The locks that are held then are of levels up to that of the last header (`links_up_to`).
use Rattle.std.proofs.Common.{◌≡◌, ◌≤◌, ◌<◌, ◌+◌, ◌-◌, ◌/◌, ◌*◌, ◌∙◌, inl, inr, ℕ, Bool, true, false, cond, zero, suc, List, [], ◌∷◌, ◌++◌, Some, length, map, filter, take, slice_get, append_assoc, append-nil, refl, sym, ap, subst, arith}
use Rattle.std.specs.Prelude.{nat_le}
use Rattle.std.proofs.lemmas.List.{length-append, length-map, take_all}
use Rattle.base_words.specs.Fields.{Block}
use Rattle.base_words.specs.Lists.{Has}
use Rattle.std.proofs.lemmas.Option.{slice_get_within}
use Rattle.fx_header.specs.declared.slot.Hdr.{Hdr}
use Rattle.fx_header.specs.Headers.{header_read}
use Rattle.lock_db.specs.declared.name.LockName.{LockName}
use Rattle.lock_db.specs.declared.name.LockName.TheVariants.{S, Q}
use Rattle.plain_cat.specs.Modes.{rank}
use Rattle.plain_cat.specs.declared.mode.Mode.{Mode}
use Rattle.plain_cat.specs.declared.mode.Mode.TheVariants.{PR, PW}
use Rattle.plain_cat.specs.declared.command.Cmd.{Cmd}
use Rattle.plain_cat.specs.declared.cat.Cat.{Cat}
use Rattle.plain_rules.specs.Lookups.{header_most, extra}
use Rattle.vol_parts.specs.declared.geometry.Geometry.{Geometry}
use Rattle.vol_parts.specs.ChainLaws.{AreLinked}
use Rattle.vol_parts.specs.Volumes.{fields_in}
use Rattle.vol_parts.proofs.Alone.{first-is}
use Rattle.vol_parts.proofs.Walks.{follows-parts}
use Rattle.vol_spell.specs.declared.owner.Owner.TheVariants.{InFile}
use Rattle.vol_spell.specs.Owners.{Owners}
use Rattle.vol_spell.specs.Reading.{IsFileNumber, header_place, header_block, headers_at, fields_told}
use Rattle.vol_spell.specs.Spelling.{Spells}
use Rattle.op_law.specs.declared.need.Plan.{Plan}
use Rattle.op_law.specs.declared.seen.Seen.{Seen}
use Rattle.op_law.specs.Events.{Events, Take, Look, Space}
use Rattle.op_law.specs.Headers.{link_in, next_number, with_header, through_links, through_chain, through_part, placed, others_told, locks_behind, part_file, whole_file}
use Rattle.op_law.specs.Laws.{held_in}
use Rattle.op_law.specs.Order.{place_by, level_by, level}
use Rattle.op_law.specs.Refusing.{SeenFile, seen_file}
use Rattle.op_law.proofs.Brief.{BriefBy, brief_more}
use Rattle.op_law.proofs.Chains.{file_chain, says_first, others_are, others_few, others_count, other_owned, other_level}
use Rattle.op_law.proofs.Levels.{AreUpTo, up_to_both, up_to_more, new_above, behind_above}
use Rattle.op_law.proofs.SeenRuns.{part_whole, part_within}
use Rattle.op_law.proofs.Through.{number_obeys}
use Rattle.op_law.proofs.Walking.{ObeysBy}

-- ---- whatever the blocks show

module _ (T : Events → Type 0) (take : (name : LockName) (mode : Mode) (next : Events) → T next → T (Take name mode next))
    (look : (name : LockName) (lbn : ℕ) (next : Block → Events) → ((b : Block) → T (next b)) → T (Look name lbn next)) where
  pub links_so : (g : Geometry) (mode : Mode) (k : ℕ) (b : Block) (f : SeenFile) (next : SeenFile → Events)
      → ((rest : List (ℕ × Block)) → length rest ≡ length f.rest + k → T (next (record f { rest = rest }))) → T (through_links g mode k b f next)
  links_so g mode zero b f next so = so f.rest (let e : length f.rest ≡ length f.rest + 0 = omega arith in e)
  links_so g mode (suc k) b f next so =
      let m = next_number b in
      take (S m) mode _ (look (S m) (header_place g m) _ (λ x. links_so g mode k x (with_header g m x f) next (λ rest len. so rest (one_more m x rest len)))) where
        one_more : (m : ℕ) (x : Block) (rest : List (ℕ × Block)) → length rest ≡ length (f.rest ++ (header_place g m, x) ∷ []) + k → length rest ≡ length f.rest + suc k
        one_more m x rest len = let a = length-append f.rest ((header_place g m, x) ∷ []) in omega arith

-- a lock that is held in a mode is held in it with more locks
pub held_with : (mode : Mode) (held more : List (LockName × Mode)) (name : LockName) → Has (held_in mode held) name → Has (held_in mode (held ++ more)) name
held_with mode [] more name t = absurd t
held_with mode (l ∷ held) more name t = by_mode (nat_le (rank mode) (rank l.1)) t (held_with mode held more name) where
  by_mode : (w : Bool) → Has (map (λ k. k.0) (cond w (l ∷ filter (λ k. nat_le (rank mode) (rank k.1)) held) (filter (λ k. nat_le (rank mode) (rank k.1)) held))) name
      → (Has (held_in mode held) name → Has (held_in mode (held ++ more)) name)
      → Has (map (λ k. k.0) (cond w (l ∷ filter (λ k. nat_le (rank mode) (rank k.1)) (held ++ more)) (filter (λ k. nat_le (rank mode) (rank k.1)) (held ++ more)))) name
  by_mode true (inl e) behind = inl e
  by_mode true (inr u) behind = inr (behind u)
  by_mode false u behind = behind u

module _ (T : Events → List (LockName × Mode) → Type 0) (takes : (name : LockName) (mode : Mode) (next : Events) (held : List (LockName × Mode)) → T next (held ++ (name, mode) ∷ []) → T (Take name mode next) held)
    (looks : (name : LockName) (lbn : ℕ) (next : Block → Events) (held : List (LockName × Mode)) → ((b : Block) → T (next b) held) → T (Look name lbn next) held) where
  pub links_held_so : (g : Geometry) (mode : Mode) (k : ℕ) (b : Block) (f : SeenFile) (next : SeenFile → Events) (held : List (LockName × Mode))
      → ((rest : List (ℕ × Block)) (more : List (LockName × Mode)) → length rest ≡ length f.rest + k → T (next (record f { rest = rest })) (held ++ more)) → T (through_links g mode k b f next) held
  links_held_so g mode zero b f next held so = subst (λ ls. T (next f) ls) (append-nil held) (so f.rest [] (let e : length f.rest ≡ length f.rest + 0 = omega arith in e))
  links_held_so g mode (suc k) b f next held so =
      let m = next_number b in
      takes (S m) mode _ held (looks (S m) (header_place g m) _ (held ++ (S m, mode) ∷ []) (λ x. links_held_so g mode k x (with_header g m x f) next (held ++ (S m, mode) ∷ []) (one_more m x))) where
        one_more : (m : ℕ) (x : Block) (rest : List (ℕ × Block)) (more : List (LockName × Mode)) → length rest ≡ length (f.rest ++ (header_place g m, x) ∷ []) + k
            → T (next (record f { rest = rest })) ((held ++ (S m, mode) ∷ []) ++ more)
        one_more m x rest more len =
            let a = length-append f.rest ((header_place g m, x) ∷ []) in
            let count : length rest ≡ length f.rest + suc k = omega arith in
            subst (λ ls. T (next (record f { rest = rest })) ls) (sym (append_assoc held ((S m, mode) ∷ []) more)) (so rest ((S m, mode) ∷ more) count)

-- ---- how many locks and looks

module _ (bs : List Block) (space : Space) (writes : ℕ) where
  pub links_brief : (g : Geometry) (mode : Mode) (k : ℕ) (b : Block) (f : SeenFile) (next : SeenFile → Events) (locks looks : ℕ)
      → ((rest : List (ℕ × Block)) → length rest ≡ length f.rest + k → BriefBy bs space writes (next (record f { rest = rest })) locks looks)
      → BriefBy bs space writes (through_links g mode k b f next) (k + locks) (k + looks)
  links_brief g mode zero b f next locks looks so =
      brief_more bs space writes (next f) locks looks (0 + locks) (0 + looks) (omega arith) (omega arith) (so f.rest (let e : length f.rest ≡ length f.rest + 0 = omega arith in e))
  links_brief g mode (suc k) b f next locks looks so =
      let m = next_number b in
      (omega arith, (omega arith, λ x at. fewer (through_links g mode k x (with_header g m x f) next) (omega arith) (omega arith) (links_brief g mode k x (with_header g m x f) next locks looks (one_more m x)))) where
        one_more : (m : ℕ) (x : Block) (rest : List (ℕ × Block)) → length rest ≡ length (f.rest ++ (header_place g m, x) ∷ []) + k → BriefBy bs space writes (next (record f { rest = rest })) locks looks
        one_more m x rest len =
            let a = length-append f.rest ((header_place g m, x) ∷ []) in
            so rest (let e : length rest ≡ length f.rest + suc k = omega arith in e)

        fewer : (es : Events) → k + locks ≤ suc k + locks - 1 → k + looks ≤ suc k + looks - 1 → BriefBy bs space writes es (k + locks) (k + looks) → BriefBy bs space writes es (suc k + locks - 1) (suc k + looks - 1)
        fewer es first second brief = brief_more bs space writes es (k + locks) (k + looks) (suc k + locks - 1) (suc k + looks - 1) first second brief

-- ---- on blocks that spell a catalogue

-- the locks of these numbers in a mode
abbrev locks_on : Mode → List ℕ → List (LockName × Mode)
locks_on mode ns = map (λ m. (S m, mode)) ns

module _ (x : Cmd) (g : Geometry) (bs : List Block) (own : Owners) (c : Cat) (s : Spells g bs own c) (seen : Seen) (P : List (LockName × Mode) → Plan → Type 0) where
  abbrev O : Events → List (LockName × Mode) → Type 0
  O es held = ObeysBy x g bs own c seen P es held

  module _ (n : ℕ) (mode : Mode) (allowed : Has (PR ∷ PW ∷ []) mode) (next : SeenFile → Events) where
    -- along headers that are linked behind the block b, which is a header of file n with the fields h
    linked_obey : (k : ℕ) (others : List (ℕ × Hdr)) (b : Block) (h : Hdr) (f : SeenFile) (held : List (LockName × Mode)) → AreLinked (headers_at g bs) h others → fields_in (header_read b) ≡ Some h
        → ((m : ℕ) → Has (map (λ (o : ℕ × Hdr). o.0) others) m → slice_get own.numbers (m - 1) ≡ Some (InFile n)) → k ≤ length others → h.seg + k ≤ 15 → AreUpTo g bs own h.seg held
        → O (next (record f { rest = f.rest ++ take k (map (placed g bs) (map (λ (o : ℕ × Hdr). o.0) others)) })) (held ++ take k (locks_on mode (map (λ (o : ℕ × Hdr). o.0) others)))
        → O (through_links g mode k b f next) held
    linked_obey zero others b h f held linked reads owned le few up o =
        subst (λ ls. O (next f) ls) (append-nil held) (subst (λ (xs : List (ℕ × Block)). O (next (record f { rest = xs })) (held ++ [])) (append-nil f.rest) o)
    linked_obey (suc k) [] b h f held linked reads owned le few up o = absurd (omega arith)
    linked_obey (suc k) ((m, y) ∷ others) b h f held linked reads owned le few up o =
        let says : fields_in (header_read (header_block g bs m)) ≡ Some y = linked.2 in
        let rises : y.seg ≡ h.seg + 1 = (follows-parts h y linked.3).segment in
        let here : level g bs own (S m) ≡ y.seg = ap (level_by (header_block g bs m)) (owned m (inl refl)) ∙ ap place_by says in
        let is : IsFileNumber g m = record { from = linked.0.from; to = linked.0.to } in
        let same : next_number b ≡ m = ap link_in reads ∙ linked.1 in
        let behind = linked_obey k others (header_block g bs m) y (with_header g m (header_block g bs m) f) (held ++ (S m, mode) ∷ []) linked.4 says (λ j t. owned j (inr t)) (omega arith) (omega arith)
        (up_to_more g bs own h.seg y.seg held (S m) mode up (omega arith) (omega arith))
        (subst (λ ls. O (next (record f { rest = (f.rest ++ (header_place g m, header_block g bs m) ∷ []) ++ take k (map (placed g bs) (map (λ (o : ℕ × Hdr). o.0) others)) })) ls)
        (sym (append_assoc held ((S m, mode) ∷ []) (take k (locks_on mode (map (λ (o : ℕ × Hdr). o.0) others)))))
        (subst (λ (xs : List (ℕ × Block)). O (next (record f { rest = xs })) (held ++ (S m, mode) ∷ take k (locks_on mode (map (λ (o : ℕ × Hdr). o.0) others))))
        (sym (append_assoc f.rest ((header_place g m, header_block g bs m) ∷ []) (take k (map (placed g bs) (map (λ (o : ℕ × Hdr). o.0) others))))) o)) in
        subst (λ j. O (Take (S j) mode (Look (S j) (header_place g j) (λ z. through_links g mode k z (with_header g j z f) next))) held) (sym same)
        (number_obeys x g bs own c s seen P held mode allowed m (λ z. through_links g mode k z (with_header g m z f) next)
        (new_above g bs own h.seg held (S m) up (omega arith))
        (inl (λ t. let low = up Q t in let most : 16 ≤ h.seg = low in absurd (omega arith)))
        (behind_above g bs own c h.seg held (S m) up (omega arith)) is behind)

  module _ (n : ℕ) (h : Hdr) (is : IsFileNumber g n) (used : fields_told (header_block g bs n) ≡ Some h) (mode : Mode) (allowed : Has (PR ∷ PW ∷ []) mode) (held : List (LockName × Mode)) (low : AreUpTo g bs own 0 held)
      (next : SeenFile → Events) where
    -- along the first k of the file's other headers, where the locks that are held are of level 0: those of the file and of directories
    pub links_obey : (k : ℕ) → k ≤ length (others_told g bs n) → O (next (part_file g bs n h k)) (held ++ take k (locks_behind g bs n mode))
        → O (through_links g mode k (header_block g bs n) (seen_file g n (header_block g bs n) h) next) held
    links_obey k le o =
        let chain = file_chain g bs n h used in
        let are = others_are g bs n h used in
        let first : h.seg ≡ 0 = (first-is (header_read (header_block g bs n)) h used).1 in
        let few : length (others_told g bs n) ≤ 15 = others_few g bs n h used in
        let count : length (others_told g bs n) ≡ length chain.others = ap length are ∙ length-map chain.others _ in
        linked_obey n mode allowed next k chain.others (header_block g bs n) h (seen_file g n (header_block g bs n) h) held chain.linked (says_first g bs n h used)
        (λ m t. other_owned g bs own c s n h is used m (subst (λ (ns : List ℕ). Has ns m) (sym are) t)) (omega arith) (omega arith)
        (subst (λ j. AreUpTo g bs own j held) (sym first) low)
        (subst (λ (ns : List ℕ). O (next (record (seen_file g n (header_block g bs n) h) { rest = take k (map (placed g bs) ns) })) (held ++ take k (locks_on mode ns))) are o)

    -- along all of them
    pub chain_obeys : 11 < n → O (next (whole_file g bs n h)) (held ++ locks_behind g bs n mode) → O (through_chain g mode (seen_file g n (header_block g bs n) h) next) held
    chain_obeys above o =
        let count : length (others_told g bs n) ≡ extra (h.blocks / g.cluster) = others_count g bs own c s n h is used above in
        let many : length (locks_behind g bs n mode) ≡ length (others_told g bs n) = length-map (others_told g bs n) _ in
        links_obey (extra (h.blocks / g.cluster)) (omega arith)
        (subst (λ f. O (next f) (held ++ take (extra (h.blocks / g.cluster)) (locks_behind g bs n mode))) (sym (part_whole g bs n h used (extra (h.blocks / g.cluster)) (omega arith)))
        (subst (λ ls. O (next (whole_file g bs n h)) (held ++ ls)) (sym (take_all (extra (h.blocks / g.cluster)) (locks_behind g bs n mode) (omega arith))) o))

    -- along those up to that of a virtual block
    pub part_obeys : 11 < n → (vbn : ℕ) → 1 ≤ vbn → vbn ≤ h.blocks
        → O (next (part_file g bs n h ((vbn - 1) / (header_most * g.cluster)))) (held ++ take ((vbn - 1) / (header_most * g.cluster)) (locks_behind g bs n mode))
        → O (through_part g mode vbn (seen_file g n (header_block g bs n) h) next) held
    part_obeys above vbn some le o = links_obey ((vbn - 1) / (header_most * g.cluster)) (part_within g bs own c s n h is used above vbn some le) o

-- ---- the locks that are held behind the links

-- a lock of these is that of one of the numbers
lock_of : (mode : Mode) (k : ℕ) (ms : List ℕ) (name : LockName) → Has (map (λ l. l.0) (take k (locks_on mode ms))) name → (i : ℕ) × (m : ℕ) × (slice_get ms i ≡ Some m) × (S m ≡ name)
lock_of mode zero ms name t = absurd t
lock_of mode (suc k) [] name t = absurd t
lock_of mode (suc k) (m ∷ ms) name (inl e) = (0, m, refl, e)
lock_of mode (suc k) (m ∷ ms) name (inr t) = let more = lock_of mode k ms name t in (suc more.0, more.1, more.2, more.3)

module _ (g : Geometry) (bs : List Block) (own : Owners) (c : Cat) (s : Spells g bs own c) (n : ℕ) (h : Hdr) (is : IsFileNumber g n) (used : fields_told (header_block g bs n) ≡ Some h) where
  -- none has a higher level than 15, that of the last header which a file may have; so Q, X, V and the numbers of no file come behind them
  pub links_up_to : (mode : Mode) (held : List (LockName × Mode)) → AreUpTo g bs own 0 held → (k : ℕ) → AreUpTo g bs own 15 (held ++ take k (locks_behind g bs n mode))
  links_up_to mode held low k = up_to_both g bs own 15 held (take k (locks_behind g bs n mode)) (λ other t. let here = low other t in omega arith) of_other where
    of_other : AreUpTo g bs own 15 (take k (locks_behind g bs n mode))
    of_other other t =
        let lock = lock_of mode k (others_told g bs n) other t in
        let at = slice_get_within (others_told g bs n) lock.0 lock.1 lock.2 in
        let few = others_few g bs n h used in
        let here : level g bs own (S lock.1) ≡ lock.0 + 1 = other_level g bs own c s n h is used lock.0 lock.1 lock.2 in
        subst (λ y. level g bs own y ≤ 15) lock.3 (omega arith)

  pub chain_up_to : (mode : Mode) (held : List (LockName × Mode)) → AreUpTo g bs own 0 held → AreUpTo g bs own 15 (held ++ locks_behind g bs n mode)
  chain_up_to mode held low =
      let all : take (length (locks_behind g bs n mode)) (locks_behind g bs n mode) ≡ locks_behind g bs n mode = take_all (length (locks_behind g bs n mode)) (locks_behind g bs n mode) (omega arith) in
      subst (λ ls. AreUpTo g bs own 15 (held ++ ls)) all (links_up_to mode held low (length (locks_behind g bs n mode)))
