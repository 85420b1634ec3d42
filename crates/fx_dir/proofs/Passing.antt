-- The blocks of a directory after each number of the writes of an insertion or a removal, as lists of what is seen of
-- each block.
use Rattle.std.proofs.Common.{◌≡◌, ◌≤◌, ◌+◌, ◌-◌, ◌<◌, false, ℕ, zero, suc, List, [], ◌∷◌, ◌++◌, map, take, drop, length, slice_set, refl, sym, ap, subst, ◌∙◌, arith, append_assoc, length-append}
use Rattle.std.proofs.lemmas.List.{length-map}
use Rattle.base_words.specs.Fields.{Block}
use Rattle.base_words.specs.Packing.{pack, over}
use Rattle.fx_dir.specs.declared.RawEnt.{RawEnt}
use Rattle.fx_dir.specs.declared.Move.{Move}
use Rattle.fx_dir.specs.Entries.{has, without}
use Rattle.fx_dir.specs.Writing.{name_of}
use Rattle.fx_dir.specs.Moves.{written, rising, falling, less_last, inserted}
use Rattle.fx_dir.proofs.Finding.{map-join}
use Rattle.fx_dir.proofs.Meeting.{Reads}
use Rattle.fx_dir.proofs.Greedy.{pack-length, pack-room}
use Rattle.fx_dir.proofs.Mixing.{mixed, parts-read, pack-joined, pack-reads, pack-ahead, pack-fits}
use Rattle.fx_dir.proofs.Showing.{seen}
use Rattle.fx_dir.proofs.Groups.{joined-without, without-room, rises-inserted, rises-filter, left-out-reads}
use Rattle.fx_dir.proofs.Images.{written-append, rising-state, rising-whole, falling-state, falling-whole, less_last-prefix, less_last-set, through-append, take-front, take-past}

map-drop : {A B : Type 0} (f : A → B) (j : ℕ) (ys : List A) → map f (drop j ys) ≡ drop j (map f ys)
map-drop f zero ys = refl
map-drop f (suc j) [] = refl
map-drop f (suc j) (y ∷ ys) = map-drop f j ys

map-take : {A B : Type 0} (f : A → B) (j : ℕ) (xs : List A) → map f (take j xs) ≡ take j (map f xs)
map-take f zero xs = refl
map-take f (suc j) [] = refl
map-take f (suc j) (x ∷ xs) = λ i. f x ∷ map-take f j xs i

map-mix : {A B : Type 0} (f : A → B) (j : ℕ) (xs ys : List A) → map f (take j xs ++ drop j ys) ≡ take j (map f xs) ++ drop j (map f ys)
map-mix f j xs ys = map-join f (take j xs) (drop j ys) ∙ λ i. map-take f j xs i ++ map-drop f j ys i

module _ (v : RawEnt → RawEnt) where
  -- blocks of which the first j are those of xs and the others those of ys read as the entries of both
  mixed-blocks : (j : ℕ) (es : List RawEnt) (xs ys : List Block) (gs hs : List (List RawEnt)) → map (seen v) xs ≡ gs → map (seen v) ys ≡ hs → (a : List RawEnt)
      → Reads es (take j gs ++ drop j hs) → Reads es (map (seen v) (take j xs ++ drop j ys))
  mixed-blocks j es xs ys gs hs g h a r =
      subst (λ (t : List (List RawEnt)). Reads es t) (sym (map-mix (seen v) j xs ys ∙ (λ i. take j (g i) ++ drop j (h i)))) r

  -- a pass from blocks with the entries es to their packing, first block to last
  pub to-packing : (k : ℕ) (es : List RawEnt) (from to : List Block) (n : ℕ) → length from ≡ k → Reads es (map (seen v) from) → map (seen v) to ≡ pack name_of k es
      → Reads es (map (seen v) (written (take n (rising 1 from to)) from))
  to-packing k es from to n count reads packed =
      let l : length from ≡ length to = count ∙ sym (sym (length-map to (seen v)) ∙ ap length packed ∙ pack-length k es) in
      let s = rising-state from to [] 1 n l refl in
      let j : s.0 ≤ k = (let h : s.0 ≤ length to = s.1 in omega arith) in
      let fits = pack-fits k es (map (seen v) from) (omega (arith, length-map from (seen v))) reads in
      let a = pack-ahead s.0 k es (map (seen v) from) j reads in
      let m = mixed s.0 es (pack name_of k es) (map (seen v) from) a.0 a.1 (pack-reads k es fits reads.order) reads in
      subst (λ (t : List Block). Reads es (map (seen v) t)) (sym s.2) (mixed-blocks s.0 es to from (pack name_of k es) (map (seen v) from) packed refl a.0 m)

  -- and from the packing to other blocks with these entries, last block to first
  from-packing : (k : ℕ) (es : List RawEnt) (from to : List Block) (n : ℕ) → length to ≡ k → Reads es (map (seen v) to) → map (seen v) from ≡ pack name_of k es
      → Reads es (map (seen v) (written (take n (falling 1 from to)) from))
  from-packing k es from to n count reads packed =
      let l : length from ≡ length to = (sym (length-map from (seen v)) ∙ ap length packed ∙ pack-length k es) ∙ sym count in
      let s = falling-state from to [] 1 n l refl in
      let j : s.0 ≤ k = (let h : s.0 ≤ length from = s.1 in omega arith) in
      let fits = pack-fits k es (map (seen v) to) (omega (arith, length-map to (seen v))) reads in
      let a = pack-ahead s.0 k es (map (seen v) to) j reads in
      let m = mixed s.0 es (pack name_of k es) (map (seen v) to) a.0 a.1 (pack-reads k es fits reads.order) reads in
      subst (λ (t : List Block). Reads es (map (seen v) t)) (sym s.2) (mixed-blocks s.0 es from to (pack name_of k es) (map (seen v) to) packed refl a.0 m)

  -- ---- an insertion: left are the blocks of the old packing, right those of the new one without the new entry, which
  -- the last write to the block `at` completes
  module _ (old left right new : List Block) (es : List RawEnt) (e : RawEnt) (at : ℕ) (last : Block)
      (reads : Reads es (map (seen v) old)) (absent : has es e ≡ false) (fits : over name_of (length old) (inserted e es) ≡ [])
      (left-seen : map (seen v) left ≡ pack name_of (length old) es)
      (right-seen : map (seen v) right ≡ map (without e) (pack name_of (length old) (inserted e es)))
      (new-seen : map (seen v) new ≡ pack name_of (length old) (inserted e es))
      (back : slice_set right at last ≡ new) where
    abbrev k : ℕ
    k = length old

    left-count : length left ≡ k
    left-count = sym (length-map left (seen v)) ∙ ap length left-seen ∙ pack-length k es

    right-count : length right ≡ k
    right-count = sym (length-map right (seen v)) ∙ ap length right-seen ∙ length-map (pack name_of k (inserted e es)) (without e) ∙ pack-length k (inserted e es)

    right-reads : Reads es (map (seen v) right)
    right-reads = subst (λ (t : List (List RawEnt)). Reads es t) (sym right-seen) (left-out-reads k e es absent reads.order fits)

    left-done : written (rising 1 old left) old ≡ left
    left-done = rising-whole old left [] 1 (sym left-count) refl

    right-done : written (falling 1 left right) left ≡ right
    right-done = falling-whole left right [] 1 (left-count ∙ sym right-count) refl

    right-part : (n : ℕ) → Reads es (map (seen v) (written (take n (less_last (suc at) (falling 1 left right))) (written (rising 1 old left) old)))
    right-part n =
        let p = less_last-prefix (suc at) (falling 1 left right) n in
        rw (left-done, p.1) (from-packing k es left right p.0 right-count right-reads left-seen)

    abbrev first : List Move
    first = rising 1 old left ++ less_last (suc at) (falling 1 left right)

    abbrev all : List Move
    all = first ++ record { vbn = suc at; block = last } ∷ []

    pub first-reads : (n : ℕ) → Reads es (map (seen v) (written (take n first) old))
    first-reads n = through-append (λ t. Reads es (map (seen v) t)) (rising 1 old left) (less_last (suc at) (falling 1 left right)) old (λ n. to-packing k es old left n refl reads left-seen) right-part n

    pub insert-before : (n : ℕ) → n < length all → Reads es (map (seen v) (written (take n all) old))
    insert-before n h =
        let c : length all ≡ length first + 1 = length-append first _ in
        let f : take n all ≡ take n first = take-front n first _ (omega arith) in
        subst (λ (t : List Move). Reads es (map (seen v) (written t old))) (sym f) (first-reads n)

    pub insert-done : written all old ≡ new
    insert-done =
        let s : suc at - 1 ≡ at = omega arith in
        written-append first (record { vbn = suc at; block = last } ∷ []) old
        ∙ ap (λ (t : List Block). slice_set t (suc at - 1) last) (written-append (rising 1 old left) (less_last (suc at) (falling 1 left right)) old ∙ ap (written (less_last (suc at) (falling 1 left right))) left-done)
        ∙ less_last-set (suc at) (falling 1 left right) left last
        ∙ ap (λ (t : List Block). slice_set t (suc at - 1) last) right-done
        ∙ ap (λ (i : ℕ). slice_set right i last) s
        ∙ back

    pub insert-after : Reads (inserted e es) (map (seen v) (written all old))
    insert-after =
        subst (λ (t : List (List RawEnt)). Reads (inserted e es) t) (sym (ap (map (seen v)) insert-done ∙ new-seen)) (pack-reads k (inserted e es) fits (rises-inserted e es absent reads.order))

  -- ---- a removal: left are the blocks of the packing, right the same without the entry, which the write to the block
  -- `at` makes of them, new those of the packing of the rest
  module _ (old left right new : List Block) (es : List RawEnt) (e : RawEnt) (at : ℕ) (decides : Block)
      (reads : Reads es (map (seen v) old))
      (left-seen : map (seen v) left ≡ pack name_of (length old) es)
      (right-seen : map (seen v) right ≡ map (without e) (pack name_of (length old) es))
      (new-seen : map (seen v) new ≡ pack name_of (length old) (without e es))
      (out : slice_set left at decides ≡ right) where
    abbrev size : ℕ
    size = length old

    fits-left : over name_of size es ≡ []
    fits-left = pack-fits size es (map (seen v) old) (omega (arith, length-map old (seen v))) reads

    count-left : length left ≡ size
    count-left = sym (length-map left (seen v)) ∙ ap length left-seen ∙ pack-length size es

    count-right : length right ≡ size
    count-right = sym (length-map right (seen v)) ∙ ap length right-seen ∙ length-map (pack name_of size es) (without e) ∙ pack-length size es

    rest-reads : Reads (without e es) (map (seen v) right)
    rest-reads = subst (λ (t : List (List RawEnt)). Reads (without e es) t) (sym right-seen)
        (parts-read (without e es) (map (without e) (pack name_of size es)) (joined-without e (pack name_of size es) ∙ ap (without e) (pack-joined size es fits-left)) (rises-filter _ es reads.order) (without-room e (pack name_of size es) (pack-room size es)))

    abbrev pass : List Move
    pass = rising 1 old left

    abbrev writes : List Move
    writes = pass ++ record { vbn = suc at; block = decides } ∷ rising 1 right new

    decided : written (pass ++ record { vbn = suc at; block = decides } ∷ []) old ≡ right
    decided =
        let s : suc at - 1 ≡ at = omega arith in
        written-append pass (record { vbn = suc at; block = decides } ∷ []) old
        ∙ ap (λ (t : List Block). slice_set t (suc at - 1) decides) (rising-whole old left [] 1 (sym count-left) refl)
        ∙ ap (λ (i : ℕ). slice_set left i decides) s
        ∙ out

    pub remove-before : (n : ℕ) → n ≤ length pass → Reads es (map (seen v) (written (take n writes) old))
    remove-before n h = subst (λ (t : List Move). Reads es (map (seen v) (written t old))) (sym (take-front n pass _ h)) (to-packing size es old left n refl reads left-seen)

    pub remove-after : (n : ℕ) → length pass < n → Reads (without e es) (map (seen v) (written (take n writes) old))
    remove-after n h =
        let p = take-past n pass (record { vbn = suc at; block = decides }) (rising 1 right new) h in
        let q : written (take n writes) old ≡ written (take p.0 (rising 1 right new)) right =
        ap (λ (t : List Move). written t old) p.1
        ∙ written-append (pass ++ record { vbn = suc at; block = decides } ∷ []) (take p.0 (rising 1 right new)) old
        ∙ ap (written (take p.0 (rising 1 right new))) decided in
        subst (λ (t : List Block). Reads (without e es) (map (seen v) t)) (sym q) (to-packing size (without e es) right new p.0 count-right rest-reads new-seen)

    pub remove-done : written writes old ≡ new
    remove-done =
        let count-new : length new ≡ size = sym (length-map new (seen v)) ∙ ap length new-seen ∙ pack-length size (without e es) in
        ap (λ (t : List Move). written t old) (sym (append_assoc pass (record { vbn = suc at; block = decides } ∷ []) (rising 1 right new)))
        ∙ written-append (pass ++ record { vbn = suc at; block = decides } ∷ []) (rising 1 right new) old
        ∙ ap (written (rising 1 right new)) decided
        ∙ rising-whole right new [] 1 (count-right ∙ sym count-new) refl
