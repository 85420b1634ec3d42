-- What is read of lines is what they spell, and the fault is the first.
use Rattle.std.proofs.Common.{◌≡◌, ◌∙◌, ◌+◌, ◌⊎◌, ◌++◌, ℕ, true, false, List, [], ◌∷◌, Option, Some, None, Result, Ok, Err, IfOk, length, refl, sym, ap, subst, cond, arith, inl, inr}
use Rattle.std.proofs.lemmas.Bool.{cases_Bool, both_ways}
use Rattle.plain_cat.specs.declared.script.Script.{Script}
use Rattle.run_script.specs.Grammar.{IsLineText}
use Rattle.run_script.specs.Spelling.{may_stand, has_room, with_item, Leads, SpellsScript, IsBadNext, IsOverNext, IsBadLine, IsTooMany}
use Rattle.run_script.specs.declared.items.Item.{Item}
use Rattle.run_script.specs.declared.fault.LineFault.{LineFault}
use Rattle.run_script.specs.declared.fault.LineFault.TheVariants as line_fault
use Rattle.run_script.specs.declared.fault.ScriptFault.{ScriptFault}
use Rattle.run_script.specs.declared.fault.ScriptFault.TheVariants as script_fault
use Rattle.run_script.specs.Steps.{item_of, taken, step_of, at_end, read_on, read_from, Reads}
use Rattle.run_script.proofs.Pieces.{same_some, no_none}
use Rattle.run_script.proofs.Said.{item-back, item-sound}

-- one line: it goes on, or is bad, or one too many
record GoesOn (state : Option Script) (l : List ℕ) : Type 0 where
  item : Item
  text : IsLineText item l
  stands : may_stand state item ≡ true
  room : has_room state item ≡ true
  is : step_of state l ≡ Ok (with_item state item)

abbrev Step : Option Script → List ℕ → Type 0
Step state l = GoesOn state l
    ⊎ ((((item : Item) → IsLineText item l → may_stand state item ≡ true → ⊥) × (step_of state l ≡ Err line_fault.Bad))
    ⊎ (((item : Item) × IsLineText item l × (may_stand state item ≡ true) × (has_room state item ≡ false)) × (step_of state l ≡ Err line_fault.TooMany)))

step_goes : (state : Option Script) (l : List ℕ) (item : Item) → item_of l ≡ Some item → may_stand state item ≡ true → has_room state item ≡ true → step_of state l ≡ Ok (with_item state item)
unfolding step_of
step_goes state l item h s r = ap (taken state) h ∙ ap (λ b. cond b (cond (has_room state item) (Ok (with_item state item)) (Err line_fault.TooMany)) (Err line_fault.Bad)) s ∙ ap (λ b. cond b (Ok (with_item state item)) (Err line_fault.TooMany)) r

step_over : (state : Option Script) (l : List ℕ) (item : Item) → item_of l ≡ Some item → may_stand state item ≡ true → has_room state item ≡ false → step_of state l ≡ Err line_fault.TooMany
unfolding step_of
step_over state l item h s r = ap (taken state) h ∙ ap (λ b. cond b (cond (has_room state item) (Ok (with_item state item)) (Err line_fault.TooMany)) (Err line_fault.Bad)) s ∙ ap (λ b. cond b (Ok (with_item state item)) (Err line_fault.TooMany)) r

step_bad : (state : Option Script) (l : List ℕ) (item : Item) → item_of l ≡ Some item → may_stand state item ≡ false → step_of state l ≡ Err line_fault.Bad
unfolding step_of
step_bad state l item h s = ap (taken state) h ∙ ap (λ b. cond b (cond (has_room state item) (Ok (with_item state item)) (Err line_fault.TooMany)) (Err line_fault.Bad)) s

step_none : (state : Option Script) (l : List ℕ) → item_of l ≡ None → step_of state l ≡ Err line_fault.Bad
unfolding step_of
step_none state l h = ap (taken state) h

option_cases : {A : Type 0} (o : Option A) → (o ≡ None) ⊎ ((x : A) × (o ≡ Some x))
option_cases None = inl refl
option_cases (Some x) = inr (x, refl)

steps : (state : Option Script) (l : List ℕ) → Step state l
steps state l = elim (option_cases (item_of l)) [
  | inl none ↦ inr (inl ((λ item text stands. no_none item (sym none ∙ item-back item l text)), step_none state l none))
  | inr found ↦
      let item = found.0 in
      elim (cases_Bool (may_stand state item)) [
        | inl stands ↦ elim (cases_Bool (has_room state item)) [
          | inl room ↦ inl (record { item = item; text = item-sound l item found.1; stands = stands; room = room; is = step_goes state l item found.1 stands room })
          | inr full ↦ inr (inr ((item, item-sound l item found.1, stands, full), step_over state l item found.1 stands full))
        ]
        | inr fails ↦ inr (inl (
          (λ other text stands.
              let same : other ≡ item = same_some other item (sym (item-back other l text) ∙ found.1) in
              both_ways (may_stand state item) fails (ap (may_stand state) (sym same) ∙ stands)),
          step_bad state l item found.1 fails,
        ))
      ]
]

-- a fault of lines behind lines that spell this
record BadFrom (start : Option Script) (first : ℕ) (lines : List (List ℕ)) (n : ℕ) : Type 0 where
  front : List (List ℕ)
  rest : List (List ℕ)
  whole : lines ≡ front ++ rest
  state : Option Script
  led : Leads start front state
  bad : IsBadNext state rest
  number : n ≡ length front + first

record OverFrom (start : Option Script) (lines : List (List ℕ)) : Type 0 where
  front : List (List ℕ)
  rest : List (List ℕ)
  whole : lines ≡ front ++ rest
  state : Option Script
  led : Leads start front state
  over : IsOverNext state rest

-- what reading lines gives says what they spell
abbrev Says : Option Script → ℕ → List (List ℕ) → Result Script ScriptFault → Type 0
Says start number lines (Ok s) = Leads start lines (Some s)
Says start number lines (Err (script_fault.BadLine n)) = BadFrom start number lines n
Says start number lines (Err script_fault.TooMany) = OverFrom start lines
Says start number lines (Err script_fault.NoMemory) = ⊥

says_more : (state : Option Script) (number : ℕ) (l : List ℕ) (ls : List (List ℕ)) (g : GoesOn state l) (r : Result Script ScriptFault)
    → Says (with_item state g.item) (number + 1) ls r → Says state number (l ∷ ls) r
says_more state number l ls g (Ok s) h = (g.item, g.text, g.stands, g.room, h)
says_more state number l ls g (Err (script_fault.BadLine n)) h = record {
  front = l ∷ h.front;
  rest = h.rest;
  whole = ap (λ x. l ∷ x) h.whole;
  state = h.state;
  led = (g.item, g.text, g.stands, g.room, h.led);
  bad = h.bad;
  number = omega (arith, h.number);
}
says_more state number l ls g (Err script_fault.TooMany) h = record {
  front = l ∷ h.front;
  rest = h.rest;
  whole = ap (λ x. l ∷ x) h.whole;
  state = h.state;
  led = (g.item, g.text, g.stands, g.room, h.led);
  over = h.over;
}
says_more state number l ls g (Err script_fault.NoMemory) h = h

says : (state : Option Script) (number : ℕ) (lines : List (List ℕ)) → Says state number lines (read_from state number lines)
says None number [] = record { front = []; rest = []; whole = refl; state = None; led = refl; bad = refl; number = omega arith }
says (Some s) number [] = refl
says state number (l ∷ ls) =
    let rest : Option Script → Result Script ScriptFault = λ next. read_from next (number + 1) ls in
    let P : Result (Option Script) LineFault → Type 0 = λ r. Says state number (l ∷ ls) (read_on r number rest) in
    elim (steps state l) [
      | inl g ↦ subst P (sym g.is) (says_more state number l ls g (rest (with_item state g.item)) (says (with_item state g.item) (number + 1) ls))
      | inr (inl b) ↦ subst P (sym b.1) (record { front = []; rest = l ∷ ls; whole = refl; state = state; led = refl; bad = b.0; number = omega arith })
      | inr (inr o) ↦ subst P (sym o.1) (record { front = []; rest = l ∷ ls; whole = refl; state = state; led = refl; over = o.0 })
    ]

-- and what lines spell is what reading them gives
pub reads_on : (start end : Option Script) (number : ℕ) (front rest : List (List ℕ)) → Leads start front end
    → read_from start number (front ++ rest) ≡ read_from end (number + length front) rest
reads_on start end number [] rest h =
    let e : number ≡ number + 0 = omega arith in
    (λ i. read_from (h i) (e i) rest)
reads_on start end number (l ∷ ls) rest h =
    let e : number + 1 + length ls ≡ number + length (l ∷ ls) = omega arith in
    ap (λ r. read_on r number (λ next. read_from next (number + 1) (ls ++ rest))) (step_goes start l h.0 (item-back h.0 l h.1) h.2 h.3)
    ∙ reads_on (with_item start h.0) end (number + 1) ls rest h.4
    ∙ ap (λ n. read_from end n rest) e

no_step : (state : Option Script) (l : List ℕ) → ((item : Item) → IsLineText item l → may_stand state item ≡ true → ⊥) → step_of state l ≡ Err line_fault.Bad
no_step state l h = elim (steps state l) [
  | inl g ↦ absurd (h g.item g.text g.stands)
  | inr (inl b) ↦ b.1
  | inr (inr o) ↦ absurd (h o.0.0 o.0.1 o.0.2)
]

bad_next : (state : Option Script) (number : ℕ) (rest : List (List ℕ)) → IsBadNext state rest → read_from state number rest ≡ Err (script_fault.BadLine number)
bad_next state number [] h = ap (λ s. at_end s number) h
bad_next state number (l ∷ ls) h = ap (λ r. read_on r number (λ next. read_from next (number + 1) ls)) (no_step state l h)

over_next : (state : Option Script) (number : ℕ) (rest : List (List ℕ)) → IsOverNext state rest → read_from state number rest ≡ Err script_fault.TooMany
over_next state number [] h = absurd h
over_next state number (l ∷ ls) h =
    ap (λ r. read_on r number (λ next. read_from next (number + 1) ls)) (step_over state l h.0 (item-back h.0 l h.1) h.2 h.3)

pub spelt_is_read : (lines : List (List ℕ)) (s : Script) → SpellsScript lines s → read_from None 1 lines ≡ Ok s
spelt_is_read lines s h = ap (read_from None 1) (sym (no_more lines)) ∙ reads_on None (Some s) 1 lines [] h
  where
    no_more : (ls : List (List ℕ)) → ls ++ [] ≡ ls
    no_more [] = refl
    no_more (l ∷ ls) = ap (λ x. l ∷ x) (no_more ls)

pub bad_is_read : (lines : List (List ℕ)) (n : ℕ) → IsBadLine lines n → read_from None 1 lines ≡ Err (script_fault.BadLine n)
bad_is_read lines n h =
    let e : 1 + length h.front ≡ n = omega (arith, h.number) in
    ap (read_from None 1) h.whole ∙ reads_on None h.state 1 h.front h.rest h.led ∙ bad_next h.state (1 + length h.front) h.rest h.bad ∙ ap (λ n. Err (script_fault.BadLine n)) e

pub over_is_read : (lines : List (List ℕ)) → IsTooMany lines → read_from None 1 lines ≡ Err script_fault.TooMany
over_is_read lines h =
    ap (read_from None 1) h.whole ∙ reads_on None h.state 1 h.front h.rest h.led ∙ over_next h.state (1 + length h.front) h.rest h.over

-- from what a call answers
pub spelt_from : (lines : List (List ℕ)) (r : Result Script ScriptFault) → Reads (read_from None 1 lines) r → IfOk r (SpellsScript lines)
spelt_from lines (Ok s) h = let P : Result Script ScriptFault → Type 0 = Says None 1 lines in subst P h (says None 1 lines)
spelt_from lines (Err fault) h = tt

pub bad_from : (lines : List (List ℕ)) (r : Result Script ScriptFault) (n : ℕ) → Reads (read_from None 1 lines) r → r ≡ Err (script_fault.BadLine n) → IsBadLine lines n
bad_from lines r n h e =
    let Q : Result Script ScriptFault → Type 0 = Reads (read_from None 1 lines) in
    let P : Result Script ScriptFault → Type 0 = Says None 1 lines in
    let b = subst P (subst Q e h) (says None 1 lines) in
    record { front = b.front; rest = b.rest; whole = b.whole; state = b.state; led = b.led; bad = b.bad; number = b.number }

pub over_from : (lines : List (List ℕ)) (r : Result Script ScriptFault) → Reads (read_from None 1 lines) r → r ≡ Err script_fault.TooMany → IsTooMany lines
over_from lines r h e =
    let Q : Result Script ScriptFault → Type 0 = Reads (read_from None 1 lines) in
    let P : Result Script ScriptFault → Type 0 = Says None 1 lines in
    let b = subst P (subst Q e h) (says None 1 lines) in
    record { front = b.front; rest = b.rest; whole = b.whole; state = b.state; led = b.led; over = b.over }

-- lines spell a script, or have a first fault
pub said_so : (lines : List (List ℕ)) → ((s : Script) × SpellsScript lines s) ⊎ (((n : ℕ) × IsBadLine lines n) ⊎ IsTooMany lines)
said_so lines = by (read_from None 1 lines) (says None 1 lines)
  where
    by : (r : Result Script ScriptFault) → Says None 1 lines r → ((s : Script) × SpellsScript lines s) ⊎ (((n : ℕ) × IsBadLine lines n) ⊎ IsTooMany lines)
    by (Ok s) h = inl (s, h)
    by (Err (script_fault.BadLine n)) b = inr (inl (n, record { front = b.front; rest = b.rest; whole = b.whole; state = b.state; led = b.led; bad = b.bad; number = b.number }))
    by (Err script_fault.TooMany) b = inr (inr (record { front = b.front; rest = b.rest; whole = b.whole; state = b.state; led = b.led; over = b.over }))
    by (Err script_fault.NoMemory) h = absurd h

-- a call gives what reading gives, or says that memory ran out
unless_memory : (given r x : Result Script ScriptFault) → Reads given r → given ≡ x → (r ≡ x) ⊎ (r ≡ Err script_fault.NoMemory)
unless_memory given (Ok s) x h e = inl (sym h ∙ e)
unless_memory given (Err (script_fault.BadLine n)) x h e = inl (sym h ∙ e)
unless_memory given (Err script_fault.TooMany) x h e = inl (sym h ∙ e)
unless_memory given (Err script_fault.NoMemory) x h e = inr refl

pub each_script : (lines : List (List ℕ)) (r : Result Script ScriptFault) (s : Script) → Reads (read_from None 1 lines) r → SpellsScript lines s → (r ≡ Ok s) ⊎ (r ≡ Err script_fault.NoMemory)
each_script lines r s h k = unless_memory _ r (Ok s) h (spelt_is_read lines s k)

pub each_bad_line : (lines : List (List ℕ)) (r : Result Script ScriptFault) (n : ℕ) → Reads (read_from None 1 lines) r → IsBadLine lines n
    → (r ≡ Err (script_fault.BadLine n)) ⊎ (r ≡ Err script_fault.NoMemory)
each_bad_line lines r n h k = unless_memory _ r (Err (script_fault.BadLine n)) h (bad_is_read lines n k)

pub each_excess : (lines : List (List ℕ)) (r : Result Script ScriptFault) → Reads (read_from None 1 lines) r → IsTooMany lines → (r ≡ Err script_fault.TooMany) ⊎ (r ≡ Err script_fault.NoMemory)
each_excess lines r h k = unless_memory _ r (Err script_fault.TooMany) h (over_is_read lines k)
