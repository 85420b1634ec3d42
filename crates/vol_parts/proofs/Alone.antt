-- What is told of a file, by its first header; and files that have one header.
use Rattle.std.proofs.Common.{◌≡◌, ◌∙◌, ◌-◌, ◌≤◌, ◌==◌, ◌&&◌, nat_lt, ℕ, min, Bool, true, false, List, [], ◌∷◌, Some, None, Result, Ok, Err, All, flat_map, refl, sym, ap, inl, inr, arith, append-nil}
use Rattle.std.specs.Prelude.{if◌then◌else◌, not}
use Rattle.std.proofs.lemmas.Bool.{and_parts, cases_lt, eqb-true, eq-eqb, ne_eqb, le-ltb, lt-ltb, not_from_true, or_from}
use Rattle.fx_header.specs.declared.run.Run.{Run}
use Rattle.fx_header.specs.declared.slot.Slot.{Slot}
use Rattle.fx_header.specs.declared.slot.Slot.TheVariants.{Free, Used}
use Rattle.fx_header.specs.declared.slot.Hdr.{Hdr}
use Rattle.fx_header.specs.declared.slot.HeaderFault.{HeaderFault}
use Rattle.base_words.specs.Fields.{Block}
use Rattle.fx_header.specs.Headers.{runs_in}
use Rattle.fx_header.specs.Pointers.{blocks_in}
use Rattle.vol_parts.specs.Chains.{Headers, as_first, held, cut, chain_of, has_link, is_broken}
use Rattle.vol_parts.specs.ChainLaws.{HasBlocks}
use Rattle.vol_parts.specs.Fatal.{is_one_header}
use Rattle.vol_parts.specs.Volumes.{Volume, head, header_at, first_head, fields_in, used_slot, fields, Told, runs_with, listed_in, headers_of, chain_from, told_with, told_by, told, runs}
use Rattle.vol_parts.proofs.Linked.{one-alone}
use Rattle.vol_parts.proofs.Cuts.{cut-counts, cut-leaves}
use Rattle.vol_parts.proofs.Listed.{runs-some}

-- ---- as a first header

pub first-used : (f : Hdr) → f.seg ≡ 0 → as_first (Ok (Used f)) ≡ Ok (Used f)
first-used f e = rw (eq-eqb f.seg 0 e) refl

-- the first header of a file is the one in its slot, and has SEG_NUM 0
pub first-is : (r : Result Slot HeaderFault) (f : Hdr) → fields_in (as_first r) ≡ Some f → (r ≡ Ok (Used f)) × (f.seg ≡ 0)
first-is (Ok (Used g)) f e = by_seg (g.seg == 0) refl e where
  by_seg : (t : Bool) → (g.seg == 0) ≡ t → fields_in (if t then Ok (Used g) else Ok (Free g.seq)) ≡ Some f → (◌≡◌ {A = Result Slot HeaderFault} (Ok (Used g)) (Ok (Used f))) × (f.seg ≡ 0)
  by_seg true s e =
      let same : g ≡ f = cc in
      (ap (λ (x : Hdr). Ok (Used x)) same, ap (λ (x : Hdr). x.seg) (sym same) ∙ eqb-true g.seg 0 s)
  by_seg false s e = absurd (cc)
first-is (Ok (Free seq)) f e = absurd (cc)
first-is (Err fault) f e = absurd (cc)

pub first-says : (v : Volume) (n : ℕ) (f : Hdr) → fields v n ≡ Some f → (first_head v n ≡ Ok (Used f)) × (used_slot v n ≡ Some f)
first-says v n f e =
    let is = first-is (head v n) f e in
    (ap as_first is.0 ∙ first-used f is.1, ap fields_in is.0)

-- ---- what is told

-- what is told of a file of which this header is the only one, with these runs
abbrev pub alone : ℕ → Hdr → List Run → Told
alone n f rs = record { head = Ok (Used f); slots = n ∷ []; parts = rs ∷ []; runs = rs; surplus = false }

-- and of a number that has no file
abbrev pub no_file : Result Slot HeaderFault → Told
no_file said = record { head = said; slots = []; parts = []; runs = []; surplus = false }

-- a header without a link that has SEG_NUM 0
pub record IsOnly (f : Hdr) : Type 0 where
  pub first : f.seg ≡ 0
  pub last : f.ext ≡ 0

-- the chain of one header without a link whose runs have all blocks
chain-whole : (h : Headers) (n : ℕ) (f : Hdr) (rs : List Run) → h.says n ≡ Some f → h.lists n ≡ rs → f.ext ≡ 0 → f.blocks ≡ blocks_in rs → All HasBlocks rs
    → told_with (Ok (Used f)) (chain_of h n f) ≡ alone n f rs
chain-whole h n f rs says lists last size some =
    let enough : f.blocks ≤ held h n = rw lists (omega arith) in
    let one : flat_map h.lists (n ∷ []) ≡ rs = append-nil (h.lists n) ∙ lists in
    let whole : cut f.blocks (flat_map h.lists (n ∷ [])) ≡ rs = ap (cut f.blocks) one ∙ cut-leaves f.blocks rs some (omega arith) in
    let linked : has_link (h.says n) ≡ false = ap has_link says ∙ not_from_true (f.ext == 0) (eq-eqb f.ext 0 last) in
    let behind : nat_lt f.blocks (blocks_in (flat_map h.lists (n ∷ []))) ≡ false = ap (λ xs. nat_lt f.blocks (blocks_in xs)) one ∙ le-ltb _ _ (omega arith) in
    ap (told_with (Ok (Used f))) (one-alone h n f (inr enough))
    ∙ (λ i. record { head = Ok (Used f); slots = n ∷ []; parts = lists i ∷ []; runs = whole i; surplus = or_from _ _ linked behind i })

-- one used header that lists just the file's blocks is all that there is of its file
pub alone-by : (h : Headers) (n : ℕ) (f : Hdr) (b : Block) → IsOnly f → f.blocks ≡ blocks_in (runs_in b) → h.says n ≡ Some f → h.lists n ≡ runs_in b
    → told_by h n (as_first (Ok (Used f))) ≡ alone n f (runs_in b)
alone-by h n f b only size says lists =
    ap (told_by h n) (first-used f only.first) ∙ chain-whole h n f (runs_in b) says lists only.last size (runs-some b)

-- what a first header lists that has at least the file's blocks
pub record IsInOne (n : ℕ) (f : Hdr) (rs : List Run) (t : Told) : Type 0 where
  pub slots : t.slots ≡ n ∷ []
  pub parts : t.parts ≡ rs ∷ []
  pub runs : t.runs ≡ cut f.blocks rs

pub enough-by : (h : Headers) (n : ℕ) (f : Hdr) (rs : List Run) → f.seg ≡ 0 → f.blocks ≤ blocks_in rs → h.lists n ≡ rs
    → IsInOne n f rs (told_by h n (as_first (Ok (Used f))))
enough-by h n f rs first enough lists =
    let all : f.blocks ≤ held h n = rw lists enough in
    let one : flat_map h.lists (n ∷ []) ≡ rs = append-nil (h.lists n) ∙ lists in
    let is = ap (told_by h n) (first-used f first) ∙ ap (told_with (Ok (Used f))) (one-alone h n f (inr all)) in
    record {
      slots = ap (λ (t : Told). t.slots) is;
      parts = ap (λ (t : Told). t.parts) is ∙ ap (λ rs. rs ∷ []) lists;
      runs = ap (λ (t : Told). t.runs) is ∙ ap (cut f.blocks) one;
    }

-- of a slot that is the first of no file nothing is told but what it says
pub none-by : (h : Headers) (n : ℕ) (said : Result Slot HeaderFault) → fields_in said ≡ None → told_by h n said ≡ no_file said
none-by h n said e = ap (λ o. told_with said (chain_from h n o)) e

-- ---- of a volume

-- what is told of a file in use
pub file_told : (v : Volume) (n : ℕ) (f : Hdr) → fields v n ≡ Some f → told v n ≡ told_with (Ok (Used f)) (chain_of (headers_of v) n f)
file_told v n f e = ap (told_by (headers_of v) n) (first-says v n f e).0

pub lists-used : (v : Volume) (n : ℕ) (f : Hdr) → used_slot v n ≡ Some f → listed_in v n ≡ runs_in (header_at v n)
lists-used v n f says = ap (λ o. runs_with o (header_at v n)) says

-- a chain is broken if blocks are left behind its runs
pub broken-left : (v : Volume) (n : ℕ) (f : Hdr) (left : ℕ) → fields v n ≡ Some f → left ≡ f.blocks - blocks_in (runs v n)
    → not (left == 0) ≡ is_broken f (chain_of (headers_of v) n f)
unfolding runs
broken-left v n f left e rest =
    let h = headers_of v in
    let same : blocks_in (told v n).runs ≡ blocks_in (chain_of h n f).runs = ap (λ (t : Told). blocks_in t.runs) (file_told v n f e) in
    let few : blocks_in (chain_of h n f).runs ≡ min f.blocks _ = cut-counts f.blocks (flat_map h.lists (chain_of h n f).slots) in
    let alike : (left == 0) ≡ (blocks_in (chain_of h n f).runs == f.blocks) =
    elim (cases_lt 0 left) [
      | inl some ↦ rw (ne_eqb left 0 (λ e. omega arith), ne_eqb (blocks_in (chain_of h n f).runs) f.blocks (λ e. omega arith)) refl
      | inr none ↦ rw (eq-eqb left 0 (omega arith), eq-eqb (blocks_in (chain_of h n f).runs) f.blocks (omega arith)) refl
    ] in
    ap not alike

-- a file whose first header has no link and lists just its blocks has this header alone
pub alone_told : (v : Volume) (n : ℕ) (f : Hdr) → head v n ≡ Ok (Used f) → IsOnly f → f.blocks ≡ blocks_in (runs_in (header_at v n))
    → told v n ≡ alone n f (runs_in (header_at v n))
alone_told v n f e only size =
    let says : used_slot v n ≡ Some f = ap fields_in e in
    ap (λ r. told_by (headers_of v) n (as_first r)) e ∙ alone-by (headers_of v) n f (header_at v n) only size says (lists-used v n f says)

-- a file whose first header lists its blocks, and maybe more, has the slot of this header alone
pub enough_told : (v : Volume) (n : ℕ) (f : Hdr) → head v n ≡ Ok (Used f) → f.seg ≡ 0 → f.blocks ≤ blocks_in (runs_in (header_at v n))
    → IsInOne n f (runs_in (header_at v n)) (told v n)
enough_told v n f e first enough =
    rw e (enough-by (headers_of v) n f (runs_in (header_at v n)) first enough (lists-used v n f (ap fields_in e)))

-- a number that has no file
pub none_told : (v : Volume) (n : ℕ) → fields v n ≡ None → told v n ≡ no_file (first_head v n)
none_told v n e = none-by (headers_of v) n (first_head v n) e

-- ---- files with one header, by what is told

-- without a link the blocks and the surplus of a chain are those of its header
one_by : (t : Bool) (h : Headers) (n : ℕ) (f : Hdr) (said : Result Slot HeaderFault) → (f.ext == 0) ≡ t → h.says n ≡ Some f
    → is_one_header f (told_with said (chain_of h n f)) ≡ ((f.ext == 0) && (held h n == f.blocks))
one_by false h n f said e says =
    let t = told_with said (chain_of h n f) in
    ap (λ x. x && (not t.surplus && (blocks_in t.runs == f.blocks))) e ∙ ap (λ x. x && (held h n == f.blocks)) (sym e)
one_by true h n f said e says =
    let none : f.ext ≡ 0 = eqb-true f.ext 0 e in
    let alone = one-alone h n f (inl none) in
    let one : flat_map h.lists (n ∷ []) ≡ h.lists n = append-nil (h.lists n) in
    let linked : has_link (h.says n) ≡ false = ap has_link says ∙ not_from_true (f.ext == 0) e in
    let count : blocks_in (cut f.blocks (flat_map h.lists (n ∷ []))) ≡ min f.blocks (held h n) =
    ap (λ rs. blocks_in (cut f.blocks rs)) one ∙ cut-counts f.blocks (h.lists n) in
    ap (λ c. is_one_header f (told_with said c)) alone ∙ rw (linked, count, one, e) (decided f.blocks (held h n))
  where
    decided : (a b : ℕ) → (not (nat_lt a b) && (min a b == a)) ≡ (b == a)
    decided a b =
        elim (cases_lt a b) [
          | inl more ↦ rw (lt-ltb a b more, ne_eqb b a (λ e. omega arith)) refl
          | inr few ↦
              elim (cases_lt b a) [
                | inl less ↦ rw (le-ltb a b few, ne_eqb (min a b) a (λ e. omega arith), ne_eqb b a (λ e. omega arith)) refl
                | inr same ↦ rw (le-ltb a b few, eq-eqb (min a b) a (omega arith), eq-eqb b a (omega arith)) refl
              ]
        ]

pub one_header : (v : Volume) (n : ℕ) (f : Hdr) → fields v n ≡ Some f
    → is_one_header f (told v n) ≡ ((f.ext == 0) && (held (headers_of v) n == f.blocks))
one_header v n f e =
    ap (is_one_header f) (file_told v n f e) ∙ one_by (f.ext == 0) (headers_of v) n f (Ok (Used f)) refl (first-says v n f e).1

-- so its header is all that there is of the file
pub one_told : (v : Volume) (n : ℕ) (f : Hdr) → fields v n ≡ Some f → is_one_header f (told v n) ≡ true → told v n ≡ alone n f (runs_in (header_at v n))
one_told v n f e one =
    let says = (first-says v n f e).1 in
    let parts = and_parts (f.ext == 0) (held (headers_of v) n == f.blocks) (sym (one_header v n f e) ∙ one) in
    let lists = lists-used v n f says in
    let size : f.blocks ≡ blocks_in (runs_in (header_at v n)) = sym (eqb-true _ _ parts.1) ∙ ap blocks_in lists in
    file_told v n f e ∙ chain-whole (headers_of v) n f (runs_in (header_at v n)) says lists (eqb-true f.ext 0 parts.0) size (runs-some (header_at v n))
