-- The draws of a command one after another, and the limits of what is drawn.
use Rattle.std.proofs.Common.{◌≡◌, ◌<◌, ◌≤◌, ◌+◌, ◌*◌, ◌/◌, ◌%◌, ◌++◌, ◌&&◌, ℕ, Bool, true, false, List, [], ◌∷◌, map, zero, suc, refl, sym, ap, ◌∙◌, arith, cond, IsTrue, leb, get_or, nat_lt, ◌==◌, inl, inr}
use Rattle.std.specs.Fmt.{digits}
use Rattle.std.specs.List.{range_with_len, list_all, IsDistinct}
use Rattle.std.proofs.lemmas.Bool.{le-leb, cases_lt, and_from, and_parts}
use Rattle.std.proofs.lemmas.List.FromFn.{map-range_with_len_more, length-map-range_with_len}
use Rattle.std.proofs.lemmas.List.Elements.{All-map}
use Rattle.base_words.specs.Names.{is_name, is_part, is_character}
use Rattle.plain_cat.specs.declared.script.LineCmd.{LineCmd}
use Rattle.plain_cat.specs.declared.script.LineCmd.TheVariants as line
use Rattle.plain_cat.specs.declared.script.FileRef.TheVariants.{Reg}
use Rattle.plain_cat.specs.declared.script.Line.{Line}
use Rattle.plain_cat.specs.InForm.{InForm, is_within, is_eighth, line_in_form}
use Rattle.run_script.specs.Soaks.{next_state, state_after, draw, main_dir, user, file_name, soak_command, soak_line, soak_script}

-- a draw leaves the state after one more
after_more : (n k x y : ℕ) → x ≡ state_after n k → y ≡ next_state x → y ≡ state_after n (suc k)
unfolding state_after
after_more n k x y e f = f ∙ ap next_state e

drawn_is : (n k y : ℕ) → y ≡ state_after n (suc k) → y / 65536 ≡ draw n k
unfolding draw
drawn_is n k y e = ap (λ s. s / 65536) e

-- the next line: s is the state before its draws, and a, b, c, d are the states after them
pub line_more : (n i s a b c d : ℕ) (cmd : LineCmd) (lines : List Line) → s ≡ state_after n (4 * i)
    → a ≡ next_state s → b ≡ next_state a → c ≡ next_state b → d ≡ next_state c
    → cmd ≡ soak_command (a / 65536 % 8) (1 + b / 65536 % 8) (c / 65536 % 16) (d / 65536 % 64)
    → lines ≡ map (soak_line n) (range_with_len 0 i)
    → (d ≡ state_after n (4 * (i + 1))) × (lines ++ (record { node = 1 + i % 4; cmd = cmd }) ∷ [] ≡ map (soak_line n) (range_with_len 0 (i + 1)))
unfolding soak_line
line_more n i s a b c d cmd lines s-is a-is b-is c-is d-is cmd-is made =
    let ha = after_more n (4 * i) s a s-is a-is in
    let hb = after_more n (4 * i + 1) a b (ha ∙ ap (state_after n) (omega arith)) b-is in
    let hc = after_more n (4 * i + 2) b c (hb ∙ ap (state_after n) (omega arith)) c-is in
    let hd = after_more n (4 * i + 3) c d (hc ∙ ap (state_after n) (omega arith)) d-is in
    let whole : cmd ≡ (soak_line n i).cmd = cmd-is ∙ rw (drawn_is n (4 * i) a ha, drawn_is n (4 * i + 1) b hb, drawn_is n (4 * i + 2) c hc, drawn_is n (4 * i + 3) d hd) refl in
    let one : lines ++ (record { node = 1 + i % 4; cmd = cmd }) ∷ [] ≡ map (soak_line n) (range_with_len 0 i) ++ soak_line n i ∷ [] = rw (made, whole) refl in
    (hd ∙ ap (state_after n) (omega arith), one ∙ sym (map-range_with_len_more (soak_line n) 0 i i (omega arith)))

-- a command within its limits
record IsFit (c : LineCmd) : Type 0 where
  is : IsTrue (line_in_form c)

chosen : (b : Bool) (x y : LineCmd) → IsFit x → IsFit y → IsFit (cond b x y)
chosen true x y p q = p
chosen false x y p q = q

-- a test that holds of k numbers from a on holds of each of them
each_of : (p : ℕ → Bool) (a k : ℕ) → IsTrue (list_all p (range_with_len a k)) → (j : ℕ) → a ≤ j → j < a + k → IsTrue (p j)
each_of p a zero h j le lt = absurd (omega arith)
each_of p a (suc k) h j le lt = elim (cases_lt a j) [
  | inl more ↦ each_of p (a + 1) k (and_parts _ _ h).1 j (omega arith) (omega arith)
  | inr less ↦ (let e : j ≡ a = omega arith in ap p e ∙ (and_parts _ _ h).0)
]

names_in_form : (j : ℕ) → j < 16 → IsTrue (is_name (file_name j))
unfolding is_name is_part is_character digits
names_in_form j lt = each_of (λ i. is_name (file_name i)) 0 16 refl j (omega arith) lt

within : (low high n : ℕ) → low ≤ n → n ≤ high → IsTrue (is_within low high n)
within low high n le ge = and_from _ _ (le-leb low n le) (le-leb n high ge)

command_in_form : (kind reg j size : ℕ) → 1 ≤ reg → reg ≤ 8 → j < 16 → size < 64 → IsFit (soak_command kind reg j size)
unfolding line_in_form
command_in_form kind reg j size low high lt small =
    let of_reg : IsTrue (is_eighth reg) = within 1 8 reg low high in
    let named : IsTrue (is_name (file_name j)) = names_in_form j lt in
    let entry : IsTrue (is_name (file_name j) && true) = and_from _ _ named refl in
    let sized : IsTrue (leb size 65536 && true) = and_from _ _ (le-leb size 65536 (omega arith)) refl in
    let create : IsFit (line.Create reg main_dir (file_name j) 0 size user) = record { is = and_from _ _ of_reg (and_from _ _ named sized) } in
    let look_up : IsFit (line.Lookup reg main_dir (file_name j) 0) = record { is = and_from _ _ of_reg entry } in
    let extend : IsFit (line.Extend (Reg reg) (1 + size % 16)) = record { is = and_from _ _ of_reg (within 1 65536 (1 + size % 16) (omega arith) (omega arith)) } in
    let trunc : IsFit (line.Trunc (Reg reg) (size % 32)) = record { is = and_from _ _ of_reg (le-leb (size % 32) 65536 (omega arith)) } in
    let delete : IsFit (line.Delete main_dir (file_name j) 0) = record { is = entry } in
    let list : IsFit (line.List main_dir) = record { is = refl } in
    chosen (nat_lt kind 3) _ _ create (chosen (kind == 3) _ _ look_up (chosen (kind == 4) _ _ extend (chosen (kind == 5) _ _ trunc (chosen (kind == 6) _ _ delete list))))

line_in_range : (n i : ℕ) → IsTrue (is_within 1 4 (soak_line n i).node && line_in_form (soak_line n i).cmd)
unfolding soak_line
line_in_range n i = and_from _ _ (within 1 4 (1 + i % 4) (omega arith) (omega arith)) (command_in_form (draw n (4 * i) % 8) (1 + draw n (4 * i + 1) % 8) (draw n (4 * i + 2) % 16) (draw n (4 * i + 3) % 64) (omega arith) (omega arith) (omega arith) (omega arith)).is

pub soak_in_form : (n : ℕ) → n ≤ 256 → InForm (soak_script n)
unfolding IsDistinct
soak_in_form n le = let fits : Line → Type 0 = λ l. IsTrue (is_within 1 4 l.node && line_in_form l.cmd) in record {
  nodes = refl;
  lines_fit = (let e = length-map-range_with_len (soak_line n) 0 (16 * n) in omega arith);
  lines = All-map fits (soak_line n) (range_with_len 0 (16 * n)) (λ k d lt. line_in_range n (get_or (range_with_len 0 (16 * n)) k d));
  plays_fit = omega arith;
  plays = λ k d lt. absurd (omega arith);
  kills = λ k d lt. absurd (omega arith);
  killed_once = tt;
}
