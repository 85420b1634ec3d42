-- The entries of a directory in order, and whether they pack.
use Rattle.std.specs.Prelude.{◌==◌, ◌&&◌, ◌||◌, ◌+◌, not, nat_lt, nat_le, ℕ, Bool, true, false, List, [], ◌∷◌, filter, is_some, if◌then◌else◌}
use Rattle.std.specs.Str.{bytes_eq}
use Rattle.base_words.specs.Packing.{over}
use Rattle.plain_cat.specs.declared.ids.Fid.{Fid}
use Rattle.plain_cat.specs.declared.entries.DirEnt.{DirEnt}
use Rattle.plain_rules.specs.Lookups.{highest, first_with}

-- by bytes, where a text comes before those that go on after it
abbrev pub lower : List ℕ → List ℕ → Bool
lower [] [] = false
lower [] (y ∷ ys) = true
lower (x ∷ xs) [] = false
lower (x ∷ xs) (y ∷ ys) = nat_lt x y || ((x == y) && lower xs ys)

-- by name, then by falling version
unfoldable pub before : DirEnt → DirEnt → Bool
before a b = lower a.name b.name || (bytes_eq a.name b.name && nat_lt b.ver a.ver)

-- the entries with one more, in its place in order
abbrev pub inserted : DirEnt → List DirEnt → List DirEnt
inserted e [] = e ∷ []
inserted e (x ∷ xs) = if before e x then e ∷ x ∷ xs else x ∷ inserted e xs

unfoldable pub is_entry : List ℕ → ℕ → DirEnt → Bool
is_entry name ver e = bytes_eq e.name name && (e.ver == ver)

-- the entries without the one of this name and version
abbrev pub without : List ℕ → ℕ → List DirEnt → List DirEnt
without name ver es = filter (λ e. not (is_entry name ver e)) es

abbrev pub is_nil : List DirEnt → Bool
is_nil [] = true
is_nil (e ∷ es) = false

-- whether greedy packing puts these entries into k blocks
unfoldable pub fits : ℕ → List DirEnt → Bool
fits k es = is_nil (over (λ (e : DirEnt). e.name) k es)

abbrev pub nowhere : Fid
nowhere = record { num = 0; seq = 0 }

abbrev pub entry : List ℕ → ℕ → Fid → DirEnt
entry name ver fid = record { name = name; ver = ver; fid = fid }

-- the version of a new entry, where 0 is one more than the highest
abbrev pub new_version : ℕ → List DirEnt → ℕ
new_version ver es = if ver == 0 then highest es + 1 else ver

-- no version comes after the highest
abbrev pub is_last_version : ℕ → List DirEnt → Bool
is_last_version ver es = (ver == 0) && nat_le 32767 (highest es)

-- the version is there already
abbrev pub is_taken : ℕ → List DirEnt → Bool
is_taken ver es = is_some (first_with ver es)
