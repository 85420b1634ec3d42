-- The words on the map underneath, on entries.
use Rattle.std.proofs.Common.{◌≡◌, ◌∙◌, ◌-◌, ◌≤◌, ◌==◌, ◌&&◌, ℕ, true, false, List, [], ◌∷◌, length, take, find, nat_eq, nat_le, Option, Some, None, is_some, option_map, if◌then◌else◌, refl, sym, ap, arith}
use Rattle.std.specs.Option.{option_map_or}
use Rattle.std.specs.Map.{lookup, lookup_entry, remove_entry, set_value}
use Rattle.lru.specs.LruCache.{promoted, put_entries, LruCache}
use Rattle.node_cache.specs.declared.held.Held.{Held}
use Rattle.node_cache.specs.Cached.{Cached, cached, IsCache, is_for, is_under, is_since, found, used, kept, replaced, without, moved_to_front}
use Rattle.node_cache.specs.Views.{entry_of, entries_of, renewed}
use Rattle.base_words.specs.Fields.{Block}
use Rattle.lock_db.specs.declared.name.LockName.{LockName}
use Rattle.lock_db.specs.Names.{is_same}
use Rattle.lock_db.proofs.Names.{is_same-same}
use Rattle.std.proofs.lemmas.List.{take_all}
use Rattle.std.specs.List.{take-map, list_any}
use Rattle.lru.proofs.Pairs.{lookup-lookup_entry}
use Rattle.lru.proofs.CallerLemmas.{Contains-lookup_entry}
use Rattle.node_cache.proofs.Entries.{first_out, AreApart, passed, NoneFor, apart-first, apart-rest, found-find, first_out-without, find-none, none-without, none-replaced, length-without, is_for-same, cache-front}
use Rattle.base_words.proofs.Booleans.{or_false}

pub find-lookup_entry : (lbn : ℕ) (ps : List (ℕ × Held)) → find (is_for lbn) (entries_of ps) ≡ option_map entry_of (lookup_entry (nat_eq lbn) ps)
find-lookup_entry lbn [] = refl
find-lookup_entry lbn (p ∷ ps) = elim (nat_eq lbn p.0) as (λ b. (if b then Some (entry_of p) else find (is_for lbn) (entries_of ps)) ≡ option_map entry_of (if b then Some p else lookup_entry (nat_eq lbn) ps)) [
  | true ↦ refl
  | false ↦ find-lookup_entry lbn ps
]

-- what is held, as the part of an entry
abbrev pub held_of : Cached → Held
held_of e = record { lock = e.lock; seq = e.seq; block = e.block }

pub lookup-find : (lbn : ℕ) (ps : List (ℕ × Held)) → lookup (nat_eq lbn) ps ≡ option_map held_of (find (is_for lbn) (entries_of ps))
lookup-find lbn [] = refl
lookup-find lbn (p ∷ ps) = elim (nat_eq lbn p.0) as (λ b. (if b then Some p.1 else lookup (nat_eq lbn) ps) ≡ option_map held_of (if b then Some (entry_of p) else find (is_for lbn) (entries_of ps))) [
  | true ↦ refl
  | false ↦ lookup-find lbn ps
]

pub entries-remove_entry : (lbn : ℕ) (ps : List (ℕ × Held)) → entries_of (remove_entry (nat_eq lbn) ps) ≡ first_out lbn (entries_of ps)
entries-remove_entry lbn [] = refl
entries-remove_entry lbn (p ∷ ps) = elim (nat_eq lbn p.0) as (λ b. entries_of (if b then ps else p ∷ remove_entry (nat_eq lbn) ps) ≡ (if b then entries_of ps else entry_of p ∷ first_out lbn (entries_of ps))) [
  | true ↦ refl
  | false ↦ ap (λ l. entry_of p ∷ l) (entries-remove_entry lbn ps)
]

-- the pair of a block gives its entry
passed-pair : (lock : LockName) (seq : ℕ) (q : Option (ℕ × Held)) → is_some (passed lock seq (option_map entry_of q)) ≡ option_map_or (λ p. is_same lock p.1.lock && (seq == p.1.seq)) q false
passed-pair lock seq None = refl
passed-pair lock seq (Some p) = elim (is_same lock p.1.lock && (seq == p.1.seq)) as (λ b. is_some (if b then Some (entry_of p) else None) ≡ b) [
  | true ↦ refl
  | false ↦ refl
]

held-pair : (lock : LockName) (seq : ℕ) (q : Option (ℕ × Held)) → option_map_or (λ p. is_same lock p.1.lock && (seq == p.1.seq)) q false ≡ option_map_or (λ (h : Held). is_same lock h.lock && (seq == h.seq)) (option_map (λ p. p.1) q) false
held-pair lock seq None = refl
held-pair lock seq (Some p) = refl

-- whether the entry is found, by what is held for the block
pub is_some-found : (lbn : ℕ) (lock : LockName) (seq : ℕ) (ps : List (ℕ × Held)) → AreApart (entries_of ps)
    → is_some (found lbn lock seq (entries_of ps)) ≡ option_map_or (λ (h : Held). is_same lock h.lock && (seq == h.seq)) (lookup (nat_eq lbn) ps) false
is_some-found lbn lock seq ps apart =
    ap is_some (found-find lbn lock seq (entries_of ps) apart ∙ ap (passed lock seq) (find-lookup_entry lbn ps))
    ∙ passed-pair lock seq (lookup_entry (nat_eq lbn) ps)
    ∙ held-pair lock seq (lookup_entry (nat_eq lbn) ps)
    ∙ ap (λ (o : Option Held). option_map_or (λ (h : Held). is_same lock h.lock && (seq == h.seq)) o false) (lookup-lookup_entry (nat_eq lbn) ps)

-- the pair that is found has the block's number
key-pair : (lbn : ℕ) (ps : List (ℕ × Held)) (p : ℕ × Held) → lookup_entry (nat_eq lbn) ps ≡ Some p → p.0 ≡ lbn
key-pair lbn ps p at = is_for-same lbn (entry_of p) (Contains-lookup_entry (nat_eq lbn) ps p at).1

rest-pair : (lbn : ℕ) (ps : List (ℕ × Held)) → AreApart (entries_of ps) → entries_of (remove_entry (nat_eq lbn) ps) ≡ without lbn (entries_of ps)
rest-pair lbn ps apart = entries-remove_entry lbn ps ∙ first_out-without lbn (entries_of ps) apart

promoted-at : (lbn : ℕ) (lock : LockName) (seq : ℕ) (ps : List (ℕ × Held)) → AreApart (entries_of ps) → (q : Option (ℕ × Held)) → lookup_entry (nat_eq lbn) ps ≡ q → is_some (passed lock seq (option_map entry_of q)) ≡ true
    → entries_of (option_map_or (λ p. p ∷ remove_entry (nat_eq lbn) ps) q ps) ≡ option_map_or (λ e. moved_to_front e (entries_of ps)) (passed lock seq (option_map entry_of q)) (entries_of ps)
promoted-at lbn lock seq ps apart None at h = absurd cc
promoted-at lbn lock seq ps apart (Some p) at h =
    let key = key-pair lbn ps p at in
    let rest = rest-pair lbn ps apart in
    (elim (is_same lock p.1.lock && (seq == p.1.seq)) as (λ b. is_some (if b then Some (entry_of p) else None) ≡ true → entry_of p ∷ entries_of (remove_entry (nat_eq lbn) ps) ≡ option_map_or (λ e. moved_to_front e (entries_of ps)) (if b then Some (entry_of p) else None) (entries_of ps)) [
      | true ↦ λ g. ap (λ l. entry_of p ∷ l) (rest ∙ ap (λ n. without n (entries_of ps)) (sym key))
      | false ↦ λ g. absurd cc
    ]) h

-- a pair that is looked at goes to the front, and so does its entry
pub promoted-used : (lbn : ℕ) (lock : LockName) (seq : ℕ) (ps : List (ℕ × Held)) → AreApart (entries_of ps) → is_some (found lbn lock seq (entries_of ps)) ≡ true → entries_of (promoted (nat_eq lbn) ps) ≡ used lbn lock seq (entries_of ps)
promoted-used lbn lock seq ps apart h =
    let q = lookup_entry (nat_eq lbn) ps in
    let f = found-find lbn lock seq (entries_of ps) apart ∙ ap (passed lock seq) (find-lookup_entry lbn ps) in
    promoted-at lbn lock seq ps apart q refl (ap is_some (sym f) ∙ h) ∙ ap (λ o. option_map_or (λ e. moved_to_front e (entries_of ps)) o (entries_of ps)) (sym f)

front-at : (lbn : ℕ) (ps : List (ℕ × Held)) → IsCache (entries_of ps) → (q : Option (ℕ × Held)) → lookup_entry (nat_eq lbn) ps ≡ q → IsCache (entries_of (option_map_or (λ p. p ∷ remove_entry (nat_eq lbn) ps) q ps))
front-at lbn ps is None at = is
front-at lbn ps is (Some p) at =
    let first = find-lookup_entry lbn ps ∙ ap (option_map entry_of) at in
    let rest = rest-pair lbn ps is.apart ∙ ap (λ n. without n (entries_of ps)) (sym (key-pair lbn ps p at)) in
    rw rest (cache-front lbn (entry_of p) (entries_of ps) is first)

-- and a cache stays one, whichever pair is looked at
pub promoted-cache : (lbn : ℕ) (ps : List (ℕ × Held)) → IsCache (entries_of ps) → IsCache (entries_of (promoted (nat_eq lbn) ps))
promoted-cache lbn ps is = front-at lbn ps is (lookup_entry (nat_eq lbn) ps) refl

block-at : (lock : LockName) (seq : ℕ) (q : Option (ℕ × Held)) → is_some (passed lock seq (option_map entry_of q)) ≡ true
    → option_map (λ (h : Held). h.block) (option_map (λ p. p.1) q) ≡ option_map (λ (e : Cached). e.block) (passed lock seq (option_map entry_of q))
block-at lock seq None h = absurd cc
block-at lock seq (Some p) h =
    (elim (is_same lock p.1.lock && (seq == p.1.seq)) as (λ b. is_some (if b then Some (entry_of p) else None) ≡ true → Some p.1.block ≡ option_map (λ (e : Cached). e.block) (if b then Some (entry_of p) else None)) [
      | true ↦ λ g. refl
      | false ↦ λ g. absurd cc
    ]) h

-- the bytes that are held are those of the entry
pub block-found : (lbn : ℕ) (lock : LockName) (seq : ℕ) (ps : List (ℕ × Held)) → AreApart (entries_of ps) → is_some (found lbn lock seq (entries_of ps)) ≡ true
    → option_map (λ (h : Held). h.block) (lookup (nat_eq lbn) ps) ≡ option_map (λ (e : Cached). e.block) (found lbn lock seq (entries_of ps))
block-found lbn lock seq ps apart h =
    let q = lookup_entry (nat_eq lbn) ps in
    let f = found-find lbn lock seq (entries_of ps) apart ∙ ap (passed lock seq) (find-lookup_entry lbn ps) in
    ap (option_map (λ (x : Held). x.block)) (sym (lookup-lookup_entry (nat_eq lbn) ps))
    ∙ block-at lock seq q (ap is_some (sym f) ∙ h)
    ∙ ap (option_map (λ (e : Cached). e.block)) (sym f)

put-at : (lbn : ℕ) (h : Held) (c : LruCache ℕ Held) → IsCache (entries_of c.entries) → c.cap ≡ 64 → (q : Option (ℕ × Held)) → lookup_entry (nat_eq lbn) c.entries ≡ q
    → entries_of (option_map_or (λ p. (p.0, h) ∷ remove_entry (nat_eq lbn) c.entries) q ((lbn, h) ∷ take (c.cap - 1) c.entries)) ≡ kept (entry_of (lbn, h)) (entries_of c.entries)
put-at lbn h c is cap None at =
    let es = entries_of c.entries in
    let none = find-none lbn es (find-lookup_entry lbn c.entries ∙ ap (option_map entry_of) at) in
    rw (cap, none-without lbn es none) (ap (λ l. entry_of (lbn, h) ∷ l) (sym (take-map entry_of 63 c.entries)))
put-at lbn h c is cap (Some p) at =
    let es = entries_of c.entries in
    let first = find-lookup_entry lbn c.entries ∙ ap (option_map entry_of) at in
    let there : is_some (find (is_for lbn) es) ≡ true = ap is_some first in
    let less = length-without lbn es there in
    let few : length (without lbn es) ≤ 63 = omega (arith, is.fits) in
    rw (key-pair lbn c.entries p at, take_all 63 (without lbn es) few) (ap (λ l. entry_of (lbn, h) ∷ l) (rest-pair lbn c.entries is.apart))

-- a pair that is put is an entry that is kept
pub put-kept : (lbn : ℕ) (h : Held) (c : LruCache ℕ Held) → IsCache (entries_of c.entries) → c.cap ≡ 64 → entries_of (put_entries nat_eq c lbn h) ≡ kept (entry_of (lbn, h)) (entries_of c.entries)
put-kept lbn h c is cap = put-at lbn h c is cap (lookup_entry (nat_eq lbn) c.entries) refl

-- ---- a value written in its place
renewed-entry : (lbn : ℕ) (lock : LockName) (seq : ℕ) (block : Block) (p : ℕ × Held) → nat_eq lbn p.0 ≡ true
    → entry_of (p.0, renewed lock seq block p.1) ≡ (if is_same lock p.1.lock then cached lbn lock seq block else entry_of p)
renewed-entry lbn lock seq block p key = (elim (is_same lock p.1.lock) as (λ b. is_same lock p.1.lock ≡ b → entry_of (p.0, if b then record p.1 { seq = seq; block = block } else p.1) ≡ (if b then cached lbn lock seq block else entry_of p)) [
  | true ↦ λ t.
      let number = is_for-same lbn (entry_of p) key in
      let name = is_same-same lock p.1.lock t in
      λ i. record { lbn = number i; lock = sym name i; seq = seq; block = block }
  | false ↦ λ t. refl
]) refl

pub set_value-replaced : (lbn : ℕ) (lock : LockName) (seq : ℕ) (block : Block) (ps : List (ℕ × Held)) (h : Held) → AreApart (entries_of ps) → lookup (nat_eq lbn) ps ≡ Some h
    → entries_of (set_value (nat_eq lbn) ps (renewed lock seq block h)) ≡ replaced (cached lbn lock seq block) (entries_of ps)
set_value-replaced lbn lock seq block [] h apart found_at = absurd cc
set_value-replaced lbn lock seq block (p ∷ ps) h apart found_at = (elim (nat_eq lbn p.0) as (λ b. nat_eq lbn p.0 ≡ b → entries_of (if b then (p.0, renewed lock seq block h) ∷ ps else p ∷ set_value (nat_eq lbn) ps (renewed lock seq block h)) ≡ (if b && is_same lock p.1.lock then cached lbn lock seq block else entry_of p) ∷ replaced (cached lbn lock seq block) (entries_of ps)) [
  | true ↦ λ t.
      let g = rw t at found_at in
      let same : p.1 ≡ h = cc in
      let others = none-replaced (cached lbn lock seq block) (entries_of ps) (apart-first lbn (entry_of p) (entries_of ps) apart t) in
      let first = renewed-entry lbn lock seq block p t in
      rw (← same, others) (λ i. first i ∷ entries_of ps)
  | false ↦ λ t. ap (λ l. entry_of p ∷ l) (set_value-replaced lbn lock seq block ps h (apart-rest (entry_of p) (entries_of ps) apart) (rw t at found_at))
]) refl

pub lookup-none : (lbn : ℕ) (ps : List (ℕ × Held)) → lookup (nat_eq lbn) ps ≡ None → NoneFor lbn (entries_of ps)
lookup-none lbn [] found_at = tt
lookup-none lbn (p ∷ ps) found_at = (elim (nat_eq lbn p.0) as (λ b. nat_eq lbn p.0 ≡ b → NoneFor lbn (entries_of (p ∷ ps))) [
  | true ↦ λ t. let g = rw t at found_at in absurd cc
  | false ↦ λ t. (t, lookup-none lbn ps (rw t at found_at))
]) refl

-- the first pair under a lock
pub find-under : (lock : LockName) (ps : List (ℕ × Held)) → option_map (λ p. p.0) (find (λ p. is_same lock p.1.lock) ps) ≡ option_map (λ (e : Cached). e.lbn) (find (is_under lock) (entries_of ps))
find-under lock [] = refl
find-under lock (p ∷ ps) = elim (is_same lock p.1.lock) as (λ b. option_map (λ q. q.0) (if b then Some p else find (λ q. is_same lock q.1.lock) ps) ≡ option_map (λ (e : Cached). e.lbn) (if b then Some (entry_of p) else find (is_under lock) (entries_of ps))) [
  | true ↦ refl
  | false ↦ find-under lock ps
]

-- ---- an entry with a sequence or a later one

none-since : (lbn : ℕ) (lock : LockName) (seq : ℕ) (es : List Cached) → NoneFor lbn es → list_any (is_since lbn lock seq) es ≡ false
none-since lbn lock seq [] h = refl
none-since lbn lock seq (e ∷ es) h = rw h.0 (none-since lbn lock seq es h.1)

any-since : (lbn : ℕ) (lock : LockName) (seq : ℕ) (es : List Cached) → AreApart es → list_any (is_since lbn lock seq) es ≡ option_map_or (λ (e : Cached). is_under lock e && nat_le seq e.seq) (find (is_for lbn) es) false
any-since lbn lock seq [] apart = refl
any-since lbn lock seq (e ∷ es) apart = (elim (is_for lbn e) as (λ b. is_for lbn e ≡ b → list_any (is_since lbn lock seq) (e ∷ es) ≡ option_map_or (λ (x : Cached). is_under lock x && nat_le seq x.seq) (find (is_for lbn) (e ∷ es)) false) [
  | true ↦ λ t. rw (t, none-since lbn lock seq es (apart-first lbn e es apart t)) (or_false (is_under lock e && nat_le seq e.seq))
  | false ↦ λ t. rw t (any-since lbn lock seq es (apart-rest e es apart))
]) refl

since-held : (lock : LockName) (seq : ℕ) (o : Option Cached) → option_map_or (λ (e : Cached). is_under lock e && nat_le seq e.seq) o false ≡ option_map_or (λ (h : Held). is_same lock h.lock && nat_le seq h.seq) (option_map held_of o) false
since-held lock seq None = refl
since-held lock seq (Some e) = refl

-- whether there is one, by what is held for the block
pub is-since : (lbn : ℕ) (lock : LockName) (seq : ℕ) (ps : List (ℕ × Held)) → AreApart (entries_of ps)
    → list_any (is_since lbn lock seq) (entries_of ps) ≡ option_map_or (λ (h : Held). is_same lock h.lock && nat_le seq h.seq) (lookup (nat_eq lbn) ps) false
is-since lbn lock seq ps apart =
    any-since lbn lock seq (entries_of ps) apart
    ∙ since-held lock seq (find (is_for lbn) (entries_of ps))
    ∙ ap (λ (o : Option Held). option_map_or (λ (h : Held). is_same lock h.lock && nat_le seq h.seq) o false) (sym (lookup-find lbn ps))

-- where none is found, a use changes nothing
pub unused : (lbn : ℕ) (lock : LockName) (seq : ℕ) (es : List Cached) → is_some (found lbn lock seq es) ≡ false → used lbn lock seq es ≡ es
unused lbn lock seq es h = by_found (found lbn lock seq es) h where
  by_found : (o : Option Cached) → is_some o ≡ false → option_map_or (λ e. moved_to_front e es) o es ≡ es
  by_found None f = refl
  by_found (Some e) f = absurd (let x : true ≡ false = f in cc)

-- and where it is found in none, there are no bytes
pub no-block : (lbn : ℕ) (lock : LockName) (seq : ℕ) (es : List Cached) → is_some (found lbn lock seq es) ≡ false → option_map (λ (e : Cached). e.block) (found lbn lock seq es) ≡ None
no-block lbn lock seq es h = by_found (found lbn lock seq es) h where
  by_found : (o : Option Cached) → is_some o ≡ false → option_map (λ (e : Cached). e.block) o ≡ None
  by_found None f = refl
  by_found (Some e) f = absurd (let x : true ≡ false = f in cc)

-- the bytes that a look finds, by what is held for the block
abbrev looked : LockName → ℕ → Option Held → Option Block
looked lock seq None = None
looked lock seq (Some h) = if is_same lock h.lock && (seq == h.seq) then Some h.block else None

looked-pair : (lock : LockName) (seq : ℕ) (q : Option (ℕ × Held)) → option_map (λ (e : Cached). e.block) (passed lock seq (option_map entry_of q)) ≡ looked lock seq (option_map (λ p. p.1) q)
looked-pair lock seq None = refl
looked-pair lock seq (Some p) = elim (is_same lock p.1.lock && (seq == p.1.seq)) as (λ b. option_map (λ (e : Cached). e.block) (if b then Some (entry_of p) else None) ≡ (if b then Some p.1.block else None)) [
  | true ↦ refl
  | false ↦ refl
]

looked_at : (lbn : ℕ) (lock : LockName) (seq : ℕ) (ps : List (ℕ × Held)) → AreApart (entries_of ps) → looked lock seq (lookup (nat_eq lbn) ps) ≡ option_map (λ (e : Cached). e.block) (found lbn lock seq (entries_of ps))
looked_at lbn lock seq ps apart =
    let f = found-find lbn lock seq (entries_of ps) apart ∙ ap (passed lock seq) (find-lookup_entry lbn ps) in
    ap (looked lock seq) (sym (lookup-lookup_entry (nat_eq lbn) ps)) ∙ sym (looked-pair lock seq (lookup_entry (nat_eq lbn) ps)) ∙ ap (option_map (λ (e : Cached). e.block)) (sym f)

-- where nothing is held for the block, or not what is looked for, or just that
pub looked-none : (lbn : ℕ) (lock : LockName) (seq : ℕ) (ps : List (ℕ × Held)) → AreApart (entries_of ps) → lookup (nat_eq lbn) ps ≡ None → None ≡ option_map (λ (e : Cached). e.block) (found lbn lock seq (entries_of ps))
looked-none lbn lock seq ps apart at = ap (looked lock seq) (sym at) ∙ looked_at lbn lock seq ps apart

pub looked-other : (lbn : ℕ) (lock : LockName) (seq : ℕ) (ps : List (ℕ × Held)) (h : Held) → AreApart (entries_of ps) → lookup (nat_eq lbn) ps ≡ Some h → (is_same lock h.lock && (seq == h.seq)) ≡ false
    → None ≡ option_map (λ (e : Cached). e.block) (found lbn lock seq (entries_of ps))
looked-other lbn lock seq ps h apart at other = ap (λ b. if b then Some h.block else None) (sym other) ∙ ap (looked lock seq) (sym at) ∙ looked_at lbn lock seq ps apart

pub looked-one : (lbn : ℕ) (lock : LockName) (seq : ℕ) (ps : List (ℕ × Held)) (h : Held) → AreApart (entries_of ps) → lookup (nat_eq lbn) ps ≡ Some h → (is_same lock h.lock && (seq == h.seq)) ≡ true
    → Some h.block ≡ option_map (λ (e : Cached). e.block) (found lbn lock seq (entries_of ps))
looked-one lbn lock seq ps h apart at one = ap (λ b. if b then Some h.block else None) (sym one) ∙ ap (looked lock seq) (sym at) ∙ looked_at lbn lock seq ps apart
