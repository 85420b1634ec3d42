-- Lines: what a line says is read from it, and nothing else.
use Rattle.std.proofs.Common.{◌≡◌, ◌∙◌, ◌≤◌, ◌<◌, ◌^◌, ◌⊎◌, ◌++◌, ◌==◌, ℕ, true, false, List, [], ◌∷◌, Option, Some, None, length, drop, get_or, refl, sym, ap, subst, cond, leb, arith, inl, inr, codes}
use Rattle.std.specs.Fmt.{decimal}
use Rattle.std.specs.Str.{bytes_eq}
use Rattle.std.proofs.lemmas.Bool.{cases_Bool, eqb-true, le-leb, leb-true}
use Rattle.std.proofs.lemmas.Slice.Eq.{bytes_eq-Decides}
use Rattle.plain_cat.specs.declared.script.KillAt.{KillAt}
use Rattle.plain_cat.specs.declared.script.KillAt.TheVariants.{Turn, Write}
use Rattle.plain_cat.specs.declared.script.Kill.{Kill}
use Rattle.plain_cat.specs.InForm.{is_within, is_eighth, kill_count}
use Rattle.run_script.specs.Lines.{parts, words_of}
use Rattle.run_script.specs.Grammar.{IsRunText, AreRunTexts, IsSchedule, kill_words, IsDeath, IsItemText, is_skipped, IsLineText}
use Rattle.run_script.specs.declared.items.Run.{Run}
use Rattle.run_script.specs.declared.items.Item.{Item}
use Rattle.run_script.specs.declared.items.Item.TheVariants.{Skipped, Nodes, Plays, Death, Command}
use Rattle.run_script.specs.Steps.{number_of, run_of, runs_of, moment_of, death_of, nodes_of, schedule_of, line_of, said_of, item_of, part_of, with1, with2}
use Rattle.run_script.proofs.Numerals.{number-sound, first_byte}
use Rattle.run_script.proofs.Pieces.{parts-none, parts-at, joined, two_of, four_of, number_lacks, within, limits, reads_back, chosen, by_word, same_some, no_none, made1, made2}
use Rattle.run_script.proofs.Words.{channel-back, channel-sound, some-back, some-sound}
use Rattle.run_script.proofs.Commanded.{line-back, line-sound}

-- a word of a schedule
abbrev run_from : List (List ℕ) → List ℕ → Option Run
run_from ps word = cond (length ps == 1) (with1 (number_of 10 1 8 word) (λ node. record { node = node; count = 1 }))
    (cond (length ps == 2) (with2 (number_of 10 1 8 (get_or ps 0 [])) (number_of 10 1 65536 (get_or ps 1 [])) (λ node count. record { node = node; count = count })) None)

run_of-parts : (word : List ℕ) → run_of word ≡ run_from (parts 42 word) word
unfolding run_of
run_of-parts word = refl

pub node_small : (n : ℕ) → is_eighth n ≡ true → n < 2 ^ 64
node_small n h = let l = limits 1 8 n h in omega (arith, l)

count_small : (n : ℕ) → is_within 1 65536 n ≡ true → n < 2 ^ 64
count_small n h = let l = limits 1 65536 n h in omega (arith, l)

run-back : (r : Run) (word : List ℕ) → IsRunText r word → run_of word ≡ Some r
run-back r word h = by h.text
  where
    by : ((word ≡ decimal r.node) × (r.count ≡ 1)) ⊎ (word ≡ decimal r.node ++ (codes "*" ++ decimal r.count)) → run_of word ≡ Some r
    by (inl e) =
        ap run_of e.0 ∙ run_of-parts (decimal r.node)
        ∙ ap (λ ps. run_from ps (decimal r.node)) (parts-none 42 (decimal r.node) (number_lacks 42 10 r.node (inl refl) (node_small r.node h.node) (inl (omega arith))))
        ∙ ap (λ o. with1 o (λ node. record { node = node; count = 1 })) (channel-back r.node h.node)
        ∙ ap (λ n. Some (record { node = r.node; count = n })) (sym e.1)
    by (inr e) =
        ap run_of e ∙ run_of-parts (decimal r.node ++ (codes "*" ++ decimal r.count))
        ∙ ap (λ ps. run_from ps (decimal r.node ++ (codes "*" ++ decimal r.count))) (
        parts-at 42 (decimal r.node) (decimal r.count) (number_lacks 42 10 r.node (inl refl) (node_small r.node h.node) (inl (omega arith)))
        ∙ ap (λ l. decimal r.node ∷ l) (parts-none 42 (decimal r.count) (number_lacks 42 10 r.count (inl refl) (count_small r.count h.count) (inl (omega arith))))
        )
        ∙ ap (λ o. with2 o (number_of 10 1 65536 (decimal r.count)) (λ node count. record { node = node; count = count })) (channel-back r.node h.node)
        ∙ ap (λ o. with1 o (λ count. record { node = r.node; count = count })) (some-back r.count h.count)

run-sound : (word : List ℕ) (r : Run) → run_of word ≡ Some r → IsRunText r word
run-sound word r h = elim (cases_Bool (length (parts 42 word) == 1)) [
  | inl one ↦
      let m = made1 (number_of 10 1 8 word) (λ node. record { node = node; count = 1 }) r (sym (ap (λ t. cond t (with1 (number_of 10 1 8 word) (λ node. record { node = node; count = 1 })) (two_from (parts 42 word))) one) ∙ sym (run_of-parts word) ∙ h) in
      let s = channel-sound word m.a m.is_a in
      let P : Run → Type 0 = λ r. IsRunText r word in
      subst P m.made (record { node = s.0; count = refl; text = inl (s.1, refl) })
  | inr more ↦
      let c = chosen (length (parts 42 word) == 2) _ r (sym (ap (λ t. cond t (with1 (number_of 10 1 8 word) (λ node. record { node = node; count = 1 })) (two_from (parts 42 word))) more) ∙ sym (run_of-parts word) ∙ h) in
      let m = made2 _ _ _ r c.1 in
      let n = channel-sound (part_of 42 0 word) m.a m.is_a in
      let k = some-sound (part_of 42 1 word) m.b m.is_b in
      let P : Run → Type 0 = λ r. IsRunText r word in
      subst P m.made (record {
        node = n.0;
        count = k.0;
        text = inr (joined 42 word _ (two_of (parts 42 word) (eqb-true (length (parts 42 word)) 2 c.0) ∙ (λ i. n.1 i ∷ k.1 i ∷ [])));
      })
]
  where
    two_from : List (List ℕ) → Option Run
    two_from ps = cond (length ps == 2) (with2 (number_of 10 1 8 (get_or ps 0 [])) (number_of 10 1 65536 (get_or ps 1 [])) (λ node count. record { node = node; count = count })) None

runs-back : (rs : List Run) (ws : List (List ℕ)) → AreRunTexts rs ws → runs_of ws ≡ Some rs
runs-back [] [] h = refl
runs-back [] (w ∷ ws) h = absurd h
runs-back (r ∷ rs) [] h = absurd h
runs-back (r ∷ rs) (w ∷ ws) h =
    ap (λ o. with2 o (runs_of ws) (λ r rs. r ∷ rs)) (run-back r w h.0) ∙ ap (λ o. with1 o (λ rs. r ∷ rs)) (runs-back rs ws h.1)

runs-sound : (ws : List (List ℕ)) (rs : List Run) → runs_of ws ≡ Some rs → AreRunTexts rs ws
runs-sound [] rs h = let P : List Run → Type 0 = λ rs. AreRunTexts rs [] in subst P (same_some [] rs h) tt
runs-sound (w ∷ ws) rs h =
    let m = made2 (run_of w) (runs_of ws) (λ r rs. r ∷ rs) rs h in
    let P : List Run → Type 0 = λ rs. AreRunTexts rs (w ∷ ws) in
    subst P m.made (run-sound w m.a m.is_a, runs-sound ws m.b m.is_b)

schedule-back : (rs : List Run) (ws : List (List ℕ)) → IsSchedule rs ws → schedule_of ws ≡ Some rs
unfolding schedule_of
schedule-back rs ws h = let items = h.0 in
    ap schedule_of h.1 ∙ ap (λ t. cond t (runs_of items) None) (le-leb 2 (length (codes "SCHED" ∷ items)) (omega (arith, h.2))) ∙ runs-back rs items h.3

behind_first : (ws : List (List ℕ)) (w : List ℕ) → 2 ≤ length ws → get_or ws 0 [] ≡ w → (ws ≡ w ∷ drop 1 ws) × (0 < length (drop 1 ws))
behind_first [] w h e = absurd (omega arith)
behind_first (x ∷ ws) w h e = (ap (λ l. l ∷ ws) e, omega arith)

schedule-sound : (ws : List (List ℕ)) (rs : List Run) → get_or ws 0 [] ≡ codes "SCHED" → schedule_of ws ≡ Some rs → IsSchedule rs ws
unfolding schedule_of
schedule-sound ws rs first h =
    let c = chosen (leb 2 (length ws)) _ rs h in
    let b = behind_first ws (codes "SCHED") (leb-true 2 (length ws) c.0) first in
    (drop 1 ws, b.0, b.1, runs-sound (drop 1 ws) rs c.1)

-- deaths
moment-back : (at : KillAt) (a b : List ℕ) → (a ∷ b ∷ []) ≡ kill_words at → is_within 1 1000000 (kill_count at) ≡ true → moment_of a b ≡ Some at
unfolding moment_of
moment-back (Turn t) a b e h = (λ i. moment_of (get_or (e i) 0 []) (get_or (e i) 1 [])) ∙ ap (λ o. with1 o Turn) (reads_back 10 1 1000000 t (inl refl) (omega arith) h)
moment-back (Write k) a b e h = (λ i. moment_of (get_or (e i) 0 []) (get_or (e i) 1 [])) ∙ ap (λ o. with1 o Write) (reads_back 10 1 1000000 k (inl refl) (omega arith) h)

moment-sound : (a b : List ℕ) (at : KillAt) → moment_of a b ≡ Some at → (a ∷ b ∷ [] ≡ kill_words at) × (is_within 1 1000000 (kill_count at) ≡ true)
unfolding moment_of
moment-sound a b at h =
    let P : KillAt → Type 0 = λ at. (a ∷ b ∷ [] ≡ kill_words at) × (is_within 1 1000000 (kill_count at) ≡ true) in
    elim (by_word a (codes "TURN") _ _ at h) [
      | inl turn ↦
          let m = made1 _ _ at turn.1 in
          let s = number-sound 10 1 1000000 b m.a m.is_a in
          subst P m.made ((λ i. turn.0 i ∷ s.2 i ∷ []), within 1 1000000 m.a s.0 s.1)
      | inr rest ↦ elim (by_word a (codes "WRITE") _ _ at rest) [
        | inl write ↦
            let m = made1 _ _ at write.1 in
            let s = number-sound 10 1 1000000 b m.a m.is_a in
            subst P m.made ((λ i. write.0 i ∷ s.2 i ∷ []), within 1 1000000 m.a s.0 s.1)
        | inr none ↦ absurd (no_none at none)
      ]
    ]

by_moment : (node : ℕ) (at : KillAt) → is_eighth node ≡ true → is_within 1 1000000 (kill_count at) ≡ true
    → death_of (codes "KILL" ∷ decimal node ∷ kill_words at) ≡ Some (record { node = node; at = at })
unfolding death_of
by_moment node (Turn t) n c =
    ap (λ o. with2 o (moment_of (codes "TURN") (decimal t)) (λ node at. record { node = node; at = at })) (channel-back node n)
    ∙ ap (λ o. with1 o (λ at. record { node = node; at = at })) (moment-back (Turn t) (codes "TURN") (decimal t) refl c)
by_moment node (Write t) n c =
    ap (λ o. with2 o (moment_of (codes "WRITE") (decimal t)) (λ node at. record { node = node; at = at })) (channel-back node n)
    ∙ ap (λ o. with1 o (λ at. record { node = node; at = at })) (moment-back (Write t) (codes "WRITE") (decimal t) refl c)

death-back : (k : Kill) (ws : List (List ℕ)) → IsDeath k ws → death_of ws ≡ Some k
death-back k ws h = ap death_of h.whole ∙ by_moment k.node k.at h.node h.count

death-sound : (ws : List (List ℕ)) (k : Kill) → get_or ws 0 [] ≡ codes "KILL" → death_of ws ≡ Some k → IsDeath k ws
unfolding death_of
death-sound ws k first h =
    let c = chosen (length ws == 4) _ k h in
    let m = made2 (number_of 10 1 8 (get_or ws 1 [])) (moment_of (get_or ws 2 []) (get_or ws 3 [])) (λ node at. record { node = node; at = at }) k c.1 in
    let n = channel-sound (get_or ws 1 []) m.a m.is_a in
    let at = moment-sound (get_or ws 2 []) (get_or ws 3 []) m.b m.is_b in
    let P : Kill → Type 0 = λ k. IsDeath k ws in
    subst P m.made (record {
      whole = four_of ws (eqb-true (length ws) 4 c.0) ∙ (λ i. first i ∷ n.1 i ∷ at.0 i);
      node = n.0;
      count = at.1;
    })

nodes-back : (n : ℕ) → is_eighth n ≡ true → nodes_of (codes "NODES" ∷ decimal n ∷ []) ≡ Some n
unfolding nodes_of
nodes-back n h = channel-back n h

nodes-sound : (ws : List (List ℕ)) (n : ℕ) → get_or ws 0 [] ≡ codes "NODES" → nodes_of ws ≡ Some n → (ws ≡ codes "NODES" ∷ decimal n ∷ []) × (is_eighth n ≡ true)
unfolding nodes_of
nodes-sound ws n first h =
    let c = chosen (length ws == 2) _ n h in
    let s = channel-sound (get_or ws 1 []) n c.1 in
    (two_of ws (eqb-true (length ws) 2 c.0) ∙ (λ i. first i ∷ s.1 i ∷ []), s.0)

-- a number begins with a digit, and no other line does
no_word : (n : ℕ) (word : List ℕ) → is_eighth n ≡ true → 57 < get_or word 0 0 → bytes_eq (decimal n) word ≡ false
no_word n word h letter = elim (cases_Bool (bytes_eq (decimal n) word)) [
  | inr other ↦ other
  | inl same ↦
      let e = (bytes_eq-Decides (decimal n) word).0 same in
      let f = first_byte n (node_small n h) in
      let here : get_or (decimal n) 0 0 ≡ get_or word 0 0 = ap (λ l. get_or l 0 0) e in
      absurd (omega (arith, f, here))
]

pub said-back : (item : Item) (ws : List (List ℕ)) → IsItemText item ws → said_of ws ≡ Some item
unfolding said_of
said-back Skipped ws h = absurd h
said-back (Nodes n) ws h = ap said_of h.0 ∙ ap (λ o. with1 o Nodes) (nodes-back n h.1)
said-back (Plays rs) ws h = ap said_of h.1 ∙ ap (λ o. with1 o Plays) (sym (ap schedule_of h.1) ∙ schedule-back rs ws h)
said-back (Death k) ws h = ap said_of h.whole ∙ ap (λ o. with1 o Death) (sym (ap death_of h.whole) ∙ death-back k ws h)
said-back (Command l) ws h =
    let first : get_or ws 0 [] ≡ decimal l.node = ap (λ ws. get_or ws 0 []) h.whole in
    ap (λ t. cond t (with1 (nodes_of ws) Nodes) (cond (bytes_eq (get_or ws 0 []) (codes "SCHED")) (with1 (schedule_of ws) Plays)
    (cond (bytes_eq (get_or ws 0 []) (codes "KILL")) (with1 (death_of ws) Death) (with1 (line_of ws) Command))))
    (ap (λ w. bytes_eq w (codes "NODES")) first ∙ no_word l.node (codes "NODES") h.node (omega arith))
    ∙ ap (λ t. cond t (with1 (schedule_of ws) Plays) (cond (bytes_eq (get_or ws 0 []) (codes "KILL")) (with1 (death_of ws) Death) (with1 (line_of ws) Command)))
    (ap (λ w. bytes_eq w (codes "SCHED")) first ∙ no_word l.node (codes "SCHED") h.node (omega arith))
    ∙ ap (λ t. cond t (with1 (death_of ws) Death) (with1 (line_of ws) Command))
    (ap (λ w. bytes_eq w (codes "KILL")) first ∙ no_word l.node (codes "KILL") h.node (omega arith))
    ∙ ap (λ o. with1 o Command) (line-back l ws h)

pub said-sound : (ws : List (List ℕ)) (item : Item) → said_of ws ≡ Some item → IsItemText item ws
unfolding said_of
said-sound ws item h =
    let P : Item → Type 0 = λ item. IsItemText item ws in
    elim (by_word (get_or ws 0 []) (codes "NODES") _ _ item h) [
      | inl nodes ↦ let m = made1 (nodes_of ws) Nodes item nodes.1 in subst P m.made (nodes-sound ws m.a nodes.0 m.is_a)
      | inr rest ↦ elim (by_word (get_or ws 0 []) (codes "SCHED") _ _ item rest) [
        | inl plays ↦ let m = made1 (schedule_of ws) Plays item plays.1 in subst P m.made (schedule-sound ws m.a plays.0 m.is_a)
        | inr rest ↦ elim (by_word (get_or ws 0 []) (codes "KILL") _ _ item rest) [
          | inl death ↦ let m = made1 (death_of ws) Death item death.1 in subst P m.made (death-sound ws m.a death.0 m.is_a)
          | inr line ↦ let m = made1 (line_of ws) Command item line in subst P m.made (line-sound ws m.a m.is_a)
        ]
      ]
    ]

-- what a line says is read
pub item-back : (item : Item) (bytes : List ℕ) → IsLineText item bytes → item_of bytes ≡ Some item
unfolding item_of
item-back item bytes (inl h) = ap (λ t. cond t (Some Skipped) (said_of (words_of bytes))) h.0 ∙ ap (λ i. Some i) (sym h.1)
item-back item bytes (inr h) = ap (λ t. cond t (Some Skipped) (said_of (words_of bytes))) h.0 ∙ said-back item (words_of bytes) h.1

-- and what is read of it it says
pub item-sound : (bytes : List ℕ) (item : Item) → item_of bytes ≡ Some item → IsLineText item bytes
unfolding item_of
item-sound bytes item h = elim (cases_Bool (is_skipped bytes)) [
  | inl skipped ↦ inl (skipped, sym (same_some Skipped item (sym (ap (λ t. cond t (Some Skipped) (said_of (words_of bytes))) skipped) ∙ h)))
  | inr spoken ↦ inr (spoken, said-sound (words_of bytes) item (sym (ap (λ t. cond t (Some Skipped) (said_of (words_of bytes))) spoken) ∙ h))
]
