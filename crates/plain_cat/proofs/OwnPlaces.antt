-- Where the lines of each node stand.
use Rattle.std.proofs.Common.{◌≡◌, ◌==◌, ◌∙◌, ◌++◌, ℕ, zero, suc, Bool, true, false, cond, List, [], ◌∷◌, Option, Some, None, map, slice_get, get_or, length, refl, sym, ap}
use Rattle.std.proofs.lemmas.List.{map-append}
use Rattle.std.proofs.lemmas.Option.{slice_get-map}
use Rattle.std.specs.Option.{option_map}
use Rattle.plain_cat.specs.declared.script.Line.{Line}
use Rattle.plain_cat.specs.declared.script.LineCmd.{LineCmd}
use Rattle.plain_cat.specs.OwnLines.{lines_of, places_of, ArePlaces}

-- what a line adds to the places of a node, where so many lines stand before it
abbrev pub added : ℕ → ℕ → ℕ → List ℕ
added node n place = cond (node == n) (place ∷ []) []

pub places-append : (n : ℕ) (ls : List Line) (l : Line) → places_of n (ls ++ l ∷ []) ≡ places_of n ls ++ added l.node n (length ls)
places-append n [] l = refl
places-append n (x ∷ xs) l =
    let more : map suc (places_of n (xs ++ l ∷ [])) ≡ map suc (places_of n xs) ++ added l.node n (suc (length xs)) =
    ap (map suc) (places-append n xs l) ∙ map-append suc (places_of n xs) (added l.node n (length xs)) ∙ ap (λ ps. map suc (places_of n xs) ++ ps) (moved (l.node == n)) in
    elim (x.node == n) as (λ t. cond t (0 ∷ map suc (places_of n (xs ++ l ∷ []))) (map suc (places_of n (xs ++ l ∷ []))) ≡ cond t (0 ∷ map suc (places_of n xs)) (map suc (places_of n xs)) ++ added l.node n (suc (length xs))) [
      | true ↦ ap (λ ps. 0 ∷ ps) more
      | false ↦ more
    ] where
      moved : (t : Bool) → map suc (cond t (length xs ∷ []) []) ≡ cond t (suc (length xs) ∷ []) []
      moved true = refl
      moved false = refl

-- the command of the line at a place
abbrev pub cmd_at : List Line → Option ℕ → Option LineCmd
cmd_at ls None = None
cmd_at ls (Some p) = option_map (λ (l : Line). l.cmd) (slice_get ls p)

one_on : (l : Line) (ls : List Line) (o : Option ℕ) → cmd_at (l ∷ ls) (option_map suc o) ≡ cmd_at ls o
one_on l ls None = refl
one_on l ls (Some p) = refl

-- the command of a node's line is that of the line at its place
pub own_at : (n : ℕ) (ls : List Line) (i : ℕ) → slice_get (lines_of n ls) i ≡ cmd_at ls (slice_get (places_of n ls) i)
own_at n [] i = refl
own_at n (l ∷ ls) i = by_node (own_at n ls) (l.node == n) i where
  on : ((k : ℕ) → slice_get (lines_of n ls) k ≡ cmd_at ls (slice_get (places_of n ls) k)) → (k : ℕ) → slice_get (lines_of n ls) k ≡ cmd_at (l ∷ ls) (slice_get (map suc (places_of n ls)) k)
  on h k = h k ∙ sym (ap (cmd_at (l ∷ ls)) (slice_get-map suc (places_of n ls) k) ∙ one_on l ls (slice_get (places_of n ls) k))

  by_node : ((k : ℕ) → slice_get (lines_of n ls) k ≡ cmd_at ls (slice_get (places_of n ls) k)) → (t : Bool) (k : ℕ) → slice_get (cond t (l.cmd ∷ lines_of n ls) (lines_of n ls)) k ≡ cmd_at (l ∷ ls) (slice_get (cond t (0 ∷ map suc (places_of n ls)) (map suc (places_of n ls))) k)
  by_node h true zero = refl
  by_node h true (suc k) = on h k
  by_node h false k = on h k

pub no_places : ArePlaces [] []
unfolding ArePlaces
no_places n = refl

pub places_stay : (ps qs : List (List ℕ)) (ls ms : List Line) → ms ≡ ls → ((n : ℕ) → get_or qs n [] ≡ get_or ps n []) → ArePlaces ps ls → ArePlaces qs ms
unfolding ArePlaces
places_stay ps qs ls ms e same h n = same n ∙ h n ∙ ap (places_of n) (sym e)

pub places_grow : (ps qs : List (List ℕ)) (ls ms : List Line) (l : Line) (k : ℕ) → ms ≡ ls ++ l ∷ [] → k ≡ length ls → ((n : ℕ) → get_or qs n [] ≡ get_or ps n [] ++ added l.node n k) → ArePlaces ps ls → ArePlaces qs ms
unfolding ArePlaces
places_grow ps qs ls ms l k e at more h n =
    more n ∙ ap (λ xs. xs ++ added l.node n k) (h n) ∙ ap (λ i. places_of n ls ++ added l.node n i) at ∙ sym (places-append n ls l) ∙ ap (places_of n) (sym e)

-- where the places of each node are kept, they find its lines
pub no_line : (ps : List (List ℕ)) (ls : List Line) (n i : ℕ) → ArePlaces ps ls → slice_get (get_or ps n []) i ≡ None → slice_get (lines_of n ls) i ≡ None
unfolding ArePlaces
no_line ps ls n i h e = own_at n ls i ∙ ap (cmd_at ls) (ap (λ xs. slice_get xs i) (sym (h n)) ∙ e)

pub one_line : (ps : List (List ℕ)) (ls : List Line) (n i p : ℕ) → ArePlaces ps ls → slice_get (get_or ps n []) i ≡ Some p → slice_get (lines_of n ls) i ≡ option_map (λ (l : Line). l.cmd) (slice_get ls p)
unfolding ArePlaces
one_line ps ls n i p h e = own_at n ls i ∙ ap (cmd_at ls) (ap (λ xs. slice_get xs i) (sym (h n)) ∙ e)
