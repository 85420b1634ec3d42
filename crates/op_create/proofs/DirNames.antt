-- The name of a directory's entry.
use Rattle.std.proofs.Common.{◌≡◌, ◌+◌, ◌∙◌, ◌++◌, ◌&&◌, ℕ, suc, Bool, true, false, cond, List, [], ◌∷◌, length, drop, refl, ap, arith}
use Rattle.std.specs.Prelude.{leb}
use Rattle.std.specs.List.{list_all, prefix_len}
use Rattle.base_words.specs.Names.{is_character, is_part, is_tail, is_name}
use Rattle.plain_cat.specs.InForm.{is_dir_name}
use Rattle.plain_rules.specs.Answers.{dir_name}

pub and_left : (a b : Bool) → (a && b) ≡ true → a ≡ true
and_left true b e = refl
and_left false b e = absurd (cc)

pub and_right : (a b : Bool) → (a && b) ≡ true → b ≡ true
and_right true b e = e
and_right false b e = absurd (cc)

-- the characters end at a dot
stops_at_dot : (xs ys : List ℕ) → list_all is_character xs ≡ true → prefix_len is_character (xs ++ 46 ∷ ys) ≡ length xs
unfolding is_character
stops_at_dot [] ys all = refl
stops_at_dot (x ∷ xs) ys all =
    let here : is_character x ≡ true = and_left (is_character x) (list_all is_character xs) all in
    let more = stops_at_dot xs ys (and_right (is_character x) (list_all is_character xs) all) in
    ap (λ t. cond t (1 + prefix_len is_character (xs ++ 46 ∷ ys)) 0) here ∙ (let e : 1 + prefix_len is_character (xs ++ 46 ∷ ys) ≡ suc (length xs) = omega arith in e)

behind : (xs ys : List ℕ) → drop (length xs) (xs ++ ys) ≡ ys
behind [] ys = refl
behind (x ∷ xs) ys = behind xs ys

pub dir_name_is : (name : List ℕ) → is_dir_name name ≡ true → is_name (dir_name name) ≡ true
unfolding is_part is_name is_character
dir_name_is name h =
    let part : is_part name ≡ true = and_right (leb 1 (length name)) (is_part name) h in
    let short : leb (length name) 39 ≡ true = and_left (leb (length name) 39) (list_all is_character name) part in
    let all : list_all is_character name ≡ true = and_right (leb (length name) 39) (list_all is_character name) part in
    let stop = stops_at_dot name (68 ∷ 73 ∷ 82 ∷ []) all in
    ap (λ n. leb n 39 && is_tail (drop n (dir_name name))) stop
    ∙ ap (λ t. t && is_tail (drop (length name) (dir_name name))) short
    ∙ ap is_tail (behind name (46 ∷ 68 ∷ 73 ∷ 82 ∷ []))
