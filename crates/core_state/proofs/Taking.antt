-- The drive under way after an event of a node that is known to stand as u.
use Rattle.std.proofs.Common.{◌≡◌, ◌≤◌, ◌+◌, ℕ, true, List, [], Some, Bool, length, take, slice_get, slice_set, refl, sym, ap, subst, ◌∙◌, inl, inr, arith}
use Rattle.base_words.specs.Fields.{Block}
use Rattle.lock_db.specs.declared.name.LockName.{LockName}
use Rattle.lock_db.specs.declared.name.LockName.TheVariants.{V}
use Rattle.plain_cat.specs.declared.command.Cmd.{Cmd}
use Rattle.plain_cat.specs.declared.reply.Reply.{Reply}
use Rattle.plain_cat.specs.declared.cat.Cat.{Cat}
use Rattle.plain_rules.specs.Answers.{Answer}
use Rattle.base_words.specs.Lists.{Has, Touches, StandsIn, written}
use Rattle.vol_spell.specs.Owners.{Owners, OwnersMove, IsSpaceMove, Things, Outs}
use Rattle.base_words.proofs.Listing.{same_or_not}
use Rattle.vol_parts.specs.declared.geometry.Geometry.{Geometry}
use Rattle.vol_spell.specs.Spelling.{Spells}
use Rattle.vol_under.specs.Guards.{guard_of, MayWrite, MayLook, IsCommandMove}
use Rattle.vol_under.specs.UnderWay.{PlannedWrite, bare, UnderWay, writes_to, idle, changed, AreSole}
use Rattle.vol_under.specs.Under.{IsLawful, IsUnder}
use Rattle.vol_under.specs.Answering.{IsReply}
use Rattle.vol_under.specs.Keeping.{Refills, IsBitmap}
use Rattle.vol_under.proofs.Nodes.{each, changed_here, changed_else, done_in, no_writes}
use Rattle.vol_under.proofs.Guarding.{wider_write, wider_look}
use Rattle.core_state.specs.Committed.{IsUnderOn, on_its_own, of_it}
use Rattle.core_state.proofs.Committed.{alike_on, write_on, plan_on, locks_on, answer_on, bits_keep_on}
use Rattle.core_state.proofs.Driving.{quiet_keeps, looked_stands, lawful_wider}

-- what a node's answer leaves: its writes are committed, and owners have moved that the command may move
pub record AnswersBy (g : Geometry) (c : Cat) (base : List Block) (own : Owners) (nodes : ℕ → UnderWay) (drive : List Block) (n : ℕ) (u : UnderWay) (x : Cmd) (r : Reply) : Type 0 where
  pub cat : Cat
  pub new : Owners
  pub moves : OwnersMove (IsCommandMove n u.write) own new
  pub answer : Answer c n x r cat
  pub under : IsUnderOn g cat (written (writes_to u.done u) base) new (changed nodes n (idle u)) drive

-- what a write of a bitmap leaves: it is committed
pub record BitsBy (g : Geometry) (c : Cat) (base : List Block) (own : Owners) (nodes : ℕ → UnderWay) (drive : List Block) (n : ℕ) (u : UnderWay) (l : ℕ) (b : Block) (stock : Things) : Type 0 where
  pub new : Owners
  pub moves : OwnersMove (IsSpaceMove n) own new
  pub under : IsUnderOn g c (slice_set base l b) new (changed nodes n (record u { stock = stock })) (slice_set drive l b)

module _ (g : Geometry) (c : Cat) (nodes : ℕ → UnderWay) (drive : List Block) (n : ℕ) (u : UnderWay) (is : nodes n ≡ u) (under : IsUnder g c nodes drive) where
  pub its_outs : Outs n under.own u.took u.stock
  its_outs = subst (λ (v : UnderWay). Outs n under.own v.took v.stock) is (under.outs n)

  pub its_seen : StandsIn under.base u.seen
  its_seen = subst (λ (v : UnderWay). StandsIn under.base v.seen) is (under.stands n)

  pub its_guards : (l : ℕ) → Touches u.seen l → MayLook u.read (guard_of g under.own l)
  its_guards = subst (λ (v : UnderWay). (l : ℕ) → Touches v.seen l → MayLook v.read (guard_of g under.own l)) is (under.seen_guarded n)

  -- without a plan it comes to stand otherwise
  pub becomes : u.plan ≡ [] → (v : UnderWay) → v.plan ≡ [] → v.done ≡ 0 → Outs n under.own v.took v.stock → StandsIn under.base v.seen → ((l : ℕ) → Touches v.seen l → MayLook v.read (guard_of g under.own l)) → IsUnderOn g c under.base under.own (changed nodes n v) drive
  becomes no_plan v none done outs stands guarded = quiet_keeps g c nodes drive n v under (ap (λ (z : UnderWay). z.plan) is ∙ no_plan) none done outs stands guarded

  -- what it may look at is committed
  pub is_committed : AreSole nodes → u.plan ≡ [] → (l : ℕ) → MayLook u.read (guard_of g under.own l) → slice_get drive l ≡ slice_get under.base l
  is_committed sole no_plan l may =
      looked_stands g c nodes drive n l sole under (ap (λ (z : UnderWay). z.plan) is ∙ no_plan) (subst (λ (v : UnderWay). MayLook v.read (guard_of g under.own l)) (sym is) may)

  abbrev on : IsUnderOn g c under.base under.own nodes drive
  on = on_its_own g c nodes drive under

  -- What it knows and its plan become others, of which the writes that are made are the first too.
  pub replans : (know : Cat → Bool) (plan : List PlannedWrite) → take u.done plan ≡ take u.done u.plan → u.done ≤ length plan → IsLawful g n (record u { knows = know; plan = plan })
      → ((base : List Block) (own : Owners) → Spells g base own c → StandsIn base u.seen → Outs n own u.took u.stock → (l : ℕ) → Touches (bare plan) l → MayWrite n u.write (guard_of g own l))
      → IsUnderOn g c under.base under.own (changed nodes n (record u { knows = know; plan = plan })) drive
  replans know plan same le law guarded =
      let P : UnderWay → Type 0 = λ v. take v.done plan ≡ take v.done v.plan → v.done ≤ length plan → IsLawful g n (record v { knows = know; plan = plan; took = u.took; stock = u.stock }) → Outs n under.own u.took u.stock
      → ((l : ℕ) → Touches (bare plan) l → MayWrite n v.write (guard_of g under.own l)) → IsUnderOn g c under.base under.own (changed nodes n (record v { knows = know; plan = plan; took = u.took; stock = u.stock })) drive in
      subst P is (λ a b d e f. plan_on g c under.base under.own nodes drive n know plan u.took u.stock on a b d e f) same le law its_outs (guarded under.base under.own under.spelt its_seen its_outs)

  -- it decides on writes
  pub decides : u.plan ≡ [] → u.done ≡ 0 → (plan : List PlannedWrite) → IsLawful g n (record u { plan = plan })
      → ((base : List Block) (own : Owners) → Spells g base own c → StandsIn base u.seen → Outs n own u.took u.stock → (l : ℕ) → Touches (bare plan) l → MayWrite n u.write (guard_of g own l))
      → IsUnderOn g c under.base under.own (changed nodes n (record u { plan = plan })) drive
  decides no_plan none_done plan law guarded = replans u.knows plan (subst (λ (k : ℕ). take k plan ≡ take k u.plan) (sym none_done) refl) (subst (λ (k : ℕ). k ≤ length plan) (sym none_done) (omega arith)) law guarded

  -- it is granted more locks
  pub widens : (read write : List LockName) → ((name : LockName) → Has u.read name → Has read name) → ((name : LockName) → Has u.write name → Has write name)
      → IsUnderOn g c under.base under.own (changed nodes n (record u { read = read; write = write })) drive
  widens read write reads writes =
      let P : UnderWay → Type 0 = λ v. ((name : LockName) → Has v.read name → Has read name) → ((name : LockName) → Has v.write name → Has write name) → IsLawful g n v
      → ((l : ℕ) → Touches (bare v.plan) l → MayWrite n v.write (guard_of g under.own l)) → ((l : ℕ) → Touches v.seen l → MayLook v.read (guard_of g under.own l))
      → IsUnderOn g c under.base under.own (changed nodes n (record v { read = read; write = write })) drive in
      subst P is (λ a b law f h. locks_on g c under.base under.own nodes drive n read write on (lawful_wider g n (nodes n) read write b law)
      (λ l t. wider_write n (nodes n).write write b (guard_of g under.own l) (f l t)) (λ l t. wider_look (nodes n).read read a (guard_of g under.own l) (h l t)))
      reads writes (subst (λ (v : UnderWay). IsLawful g n v) is (under.lawful n))
      (subst (λ (v : UnderWay). (l : ℕ) → Touches (bare v.plan) l → MayWrite n v.write (guard_of g under.own l)) is (under.plan_guarded n)) its_guards

  -- it makes the next write of its plan
  pub writes : AreSole nodes → (v : PlannedWrite) → slice_get u.plan u.done ≡ Some v → IsUnderOn g c under.base under.own (changed nodes n (record u { done = u.done + 1 })) (slice_set drive v.lbn v.block)
  writes sole v at =
      let P : UnderWay → Type 0 = λ q. slice_get q.plan q.done ≡ Some v → IsUnderOn g c under.base under.own (changed nodes n (record q { done = q.done + 1 })) (slice_set drive v.lbn v.block) in
      subst P is (λ a. write_on g c under.base under.own nodes drive n v sole on a) at

  -- it answers
  pub answers : AreSole nodes → (x : Cmd) (r : Reply) → u.knows c ≡ true → u.done ≡ length u.plan → IsReply g n u x r → AnswersBy g c under.base under.own nodes drive n u x r
  answers sole x r known done reply =
      let P : UnderWay → Type 0 = λ v. v.knows c ≡ true → v.done ≡ length v.plan → IsReply g n v x r → AnswersBy g c under.base under.own nodes drive n v x r in
      subst P is (λ a b d. let h = answer_on g c under.base under.own nodes drive n x r sole on a b d in record { cat = h.cat; new = h.new; moves = h.moves; answer = h.answer; under = h.under }) known done reply

  -- it writes to a bitmap, at a block that it has not seen
  pub refills : AreSole nodes → u.plan ≡ [] → (l : ℕ) (old b : Block) (stock : Things) → IsBitmap g l → Has u.write V → (Touches u.seen l → ⊥) → slice_get drive l ≡ Some old
      → (slice_get under.base l ≡ Some old → Refills g n u.took stock l b under.base under.own c)
      → BitsBy g c under.base under.own nodes drive n u l b stock
  refills sole no_plan l old b stock bitmap holds unseen at refill =
      let P : UnderWay → Type 0 = λ v. v.plan ≡ [] → Has v.write V → (Touches v.seen l → ⊥)
      → (slice_get under.base l ≡ Some old → Refills g n v.took stock l b under.base under.own c)
      → BitsBy g c under.base under.own nodes drive n v l b stock in
      subst P is (λ p h s r.
      let k = bits_keep_on g c under.base under.own nodes drive n l old b stock sole on (λ t. no_writes (nodes n) l p (done_in (nodes n) l t)) bitmap h s at r
      (λ base own spelt stands outs j t. absurd (no_writes (nodes n) j p t)) in
      record { new = k.new; moves = k.moves; under = k.under }) no_plan holds unseen refill

-- ---- a write of a search

pub changed_twice : (nodes : ℕ → UnderWay) (n : ℕ) (a b : UnderWay) (m : ℕ) → changed (changed nodes n a) n b m ≡ changed nodes n b m
changed_twice nodes n a b m = elim (same_or_not m n) [
  | inl e ↦ ap (changed (changed nodes n a) n b) e ∙ changed_here (changed nodes n a) n b ∙ sym (ap (changed nodes n b) e ∙ changed_here nodes n b)
  | inr ne ↦ changed_else (changed nodes n a) n b m ne ∙ changed_else nodes n a m ne ∙ sym (changed_else nodes n b m ne)
]

-- nodes that hold the same locks
pub still_sole : (nodes others : ℕ → UnderWay) → ((m : ℕ) → (others m).read ≡ (nodes m).read) → ((m : ℕ) → (others m).write ≡ (nodes m).write) → AreSole nodes → AreSole others
still_sole nodes others read write sole = record {
  writers = λ n m name a b. sole.writers n m name (subst (λ (ls : List LockName). Has ls name) (write n) a) (subst (λ (ls : List LockName). Has ls name) (write m) b);
  readers = λ n m name a b. sole.readers n m name (subst (λ (ls : List LockName). Has ls name) (write n) a) (subst (λ (ls : List LockName). Has ls name) (read m) b);
}

module _ (g : Geometry) (c : Cat) (nodes : ℕ → UnderWay) (drive : List Block) (n : ℕ) (u : UnderWay) (is : nodes n ≡ u) (under : IsUnder g c nodes drive) where
  -- its plan becomes another as it is granted more locks
  pub replans_wider : (know : Cat → Bool) (plan : List PlannedWrite) (read write : List LockName) → ((name : LockName) → Has u.read name → Has read name) → ((name : LockName) → Has u.write name → Has write name)
      → take u.done plan ≡ take u.done u.plan → u.done ≤ length plan → IsLawful g n (record u { knows = know; plan = plan })
      → ((base : List Block) (own : Owners) → Spells g base own c → StandsIn base u.seen → Outs n own u.took u.stock → (l : ℕ) → Touches (bare plan) l → MayWrite n u.write (guard_of g own l))
      → IsUnderOn g c under.base under.own (changed nodes n (record u { knows = know; plan = plan; read = read; write = write })) drive
  replans_wider know plan read write reads writes_too same le law guarded =
      let a : UnderWay = record u { knows = know; plan = plan } in
      let b : UnderWay = record u { knows = know; plan = plan; read = read; write = write } in
      let one : IsUnder g c (changed nodes n a) drive = of_it g c under.base under.own (changed nodes n a) drive (replans g c nodes drive n u is under know plan same le law guarded) in
      let two : IsUnderOn g c under.base under.own (changed (changed nodes n a) n b) drive = widens g c (changed nodes n a) drive n a (changed_here nodes n a) one read write reads writes_too in
      alike_on g c under.base under.own (changed (changed nodes n a) n b) (changed nodes n b) drive (λ m. changed_twice nodes n a b m) two

  -- it answers, by more than it knew when it decided
  pub answers_by : AreSole nodes → (know : Cat → Bool) → IsLawful g n (record u { knows = know })
      → ((base : List Block) (own : Owners) → Spells g base own c → StandsIn base u.seen → Outs n own u.took u.stock → (l : ℕ) → Touches (bare u.plan) l → MayWrite n u.write (guard_of g own l))
      → (x : Cmd) (r : Reply) → know c ≡ true → u.done ≡ length u.plan → IsReply g n (record u { knows = know }) x r → AnswersBy g c under.base under.own nodes drive n u x r
  answers_by sole know law guarded x r known done reply =
      let a : UnderWay = record u { knows = know } in
      let one : IsUnder g c (changed nodes n a) drive = of_it g c under.base under.own (changed nodes n a) drive (replans g c nodes drive n u is under know u.plan refl (omega (arith, done)) law guarded) in
      let same_read = each (λ m (v : UnderWay). v.read ≡ (nodes m).read) nodes n a (sym (ap (λ (v : UnderWay). v.read) is)) (λ m ne. refl) in
      let same_write = each (λ m (v : UnderWay). v.write ≡ (nodes m).write) nodes n a (sym (ap (λ (v : UnderWay). v.write) is)) (λ m ne. refl) in
      let two = answers g c (changed nodes n a) drive n a (changed_here nodes n a) one (still_sole nodes (changed nodes n a) same_read same_write sole) x r known done reply in
      record {
        cat = two.cat;
        new = two.new;
        moves = two.moves;
        answer = two.answer;
        under = alike_on g two.cat (written (writes_to u.done u) under.base) two.new (changed (changed nodes n a) n (idle a)) (changed nodes n (idle u)) drive (λ m. changed_twice nodes n a (idle u) m) two.under;
      }

-- what such a write leaves, where the nodes are these then
pub record GrabsBy (g : Geometry) (c : Cat) (base : List Block) (own : Owners) (nodes : ℕ → UnderWay) (drive : List Block) (n l : ℕ) (b : Block) : Type 0 where
  pub new : Owners
  pub moves : OwnersMove (IsSpaceMove n) own new
  pub under : IsUnderOn g c (slice_set base l b) new nodes (slice_set drive l b)

-- Node n, which stands as u and has no plan, writes to a block of a bitmap that it has looked at: of what it has seen these
-- remain, and what the write takes is its stock, or its command's.
pub grabs : (g : Geometry) (c : Cat) (nodes : ℕ → UnderWay) (drive : List Block) (n : ℕ) (u : UnderWay) (is : nodes n ≡ u) (under : IsUnder g c nodes drive) → AreSole nodes → u.plan ≡ [] → u.done ≡ 0
    → (l : ℕ) (old b : Block) (rest : List (ℕ × Block)) (stock : Things) → IsBitmap g l → Has u.write V → (Touches rest l → ⊥) → StandsIn under.base rest → ((k : ℕ) → Touches rest k → MayLook u.read (guard_of g under.own k)) → slice_get drive l ≡ Some old
    → (slice_get under.base l ≡ Some old → Refills g n u.took stock l b under.base under.own c)
    → (knows : Cat → Bool) (took left : Things) → ((own : Owners) → Outs n own u.took stock → Outs n own took left)
    → GrabsBy g c under.base under.own (changed nodes n (record u { seen = rest; knows = knows; took = took; stock = left })) drive n l b
grabs g c nodes drive n u is under sole no_plan no_done l old b rest stock bitmap holds unseen stands guarded at refill knows took left goes =
    let a : UnderWay = record u { seen = rest } in
    let one : IsUnder g c (changed nodes n a) drive = of_it g c under.base under.own (changed nodes n a) drive (becomes g c nodes drive n u is under no_plan a no_plan no_done (its_outs g c nodes drive n u is under) stands guarded) in
    let same_read = each (λ m (v : UnderWay). v.read ≡ (nodes m).read) nodes n a (sym (ap (λ (v : UnderWay). v.read) is)) (λ m ne. refl) in
    let same_write = each (λ m (v : UnderWay). v.write ≡ (nodes m).write) nodes n a (sym (ap (λ (v : UnderWay). v.write) is)) (λ m ne. refl) in
    let b1 : UnderWay = record u { seen = rest; stock = stock } in
    let two = refills g c (changed nodes n a) drive n a (changed_here nodes n a) one (still_sole nodes (changed nodes n a) same_read same_write sole) no_plan l old b stock bitmap holds unseen at refill in
    let moved : IsUnder g c (changed (changed nodes n a) n b1) (slice_set drive l b) = of_it g c (slice_set under.base l b) two.new (changed (changed nodes n a) n b1) (slice_set drive l b) two.under in
    let v : UnderWay = record u { seen = rest; knows = knows; took = took; stock = left } in
    let here = changed_here (changed nodes n a) n b1 in
    let three : IsUnderOn g c (slice_set under.base l b) two.new (changed (changed (changed nodes n a) n b1) n v) (slice_set drive l b)
    = becomes g c (changed (changed nodes n a) n b1) (slice_set drive l b) n b1 here moved no_plan v no_plan no_done
    (goes two.new (its_outs g c (changed (changed nodes n a) n b1) (slice_set drive l b) n b1 here moved))
    (its_seen g c (changed (changed nodes n a) n b1) (slice_set drive l b) n b1 here moved)
    (its_guards g c (changed (changed nodes n a) n b1) (slice_set drive l b) n b1 here moved) in
    record {
      new = two.new;
      moves = two.moves;
      under = alike_on g c (slice_set under.base l b) two.new (changed (changed (changed nodes n a) n b1) n v) (changed nodes n v) (slice_set drive l b)
          (λ m. changed_twice (changed nodes n a) n b1 v m ∙ changed_twice nodes n a v m) three;
    }
