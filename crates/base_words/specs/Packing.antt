-- How many bytes directory records take, and the greedy packing of entries into blocks. It looks at the entries'
-- names alone, so a function `name` gives the name of an entry, whatever an entry has besides.
use Rattle.std.specs.Prelude.{◌≡◌, ◌+◌, ◌%◌, leb, ℕ, zero, suc, List, [], ◌∷◌, Option, Some, None, length, if◌then◌else◌}
use Rattle.std.specs.Str.{bytes_eq}

-- the length of a name that a zero byte makes even
abbrev pub padded : List ℕ → ℕ
padded name = length name + length name % 2

-- The bytes that an entry takes in a block whose last record has the name `last`: a version and a file identifier in
-- the record of its own name, else a record of its own.
unfoldable pub cost : Option (List ℕ) → List ℕ → ℕ
cost None name = 14 + padded name
cost (Some last) name = if bytes_eq last name then 8 else 14 + padded name

module _ {A : Type 0} (name : A → List ℕ) where
  -- the bytes of entries in order, behind a record of the name `last`
  abbrev pub size : Option (List ℕ) → List A → ℕ
  size last [] = 0
  size last (e ∷ es) = cost last (name e) + size (Some (name e)) es

  -- the entries that still go into a block that has `used` bytes in use and a last record of the name `last`: as
  -- long as their bytes fit in 510
  abbrev pub filled : Option (List ℕ) → ℕ → List A → List A
  filled last used [] = []
  filled last used (e ∷ es) =
      if leb (used + cost last (name e)) 510 then e ∷ filled (Some (name e)) (used + cost last (name e)) es else []

  -- the entries from the first that does not
  abbrev pub unfilled : Option (List ℕ) → ℕ → List A → List A
  unfilled last used [] = []
  unfilled last used (e ∷ es) =
      if leb (used + cost last (name e)) 510 then unfilled (Some (name e)) (used + cost last (name e)) es else e ∷ es

  -- the first k blocks of the packing: each takes what fits, and the next goes on
  abbrev pub pack : ℕ → List A → List (List A)
  pack zero es = []
  pack (suc k) es = filled None 0 es ∷ pack k (unfilled None 0 es)

  -- the entries for which k blocks have no room
  abbrev pub over : ℕ → List A → List A
  over zero es = es
  over (suc k) es = over k (unfilled None 0 es)

  -- k blocks have room for all
  abbrev pub Fits : ℕ → List A → Type 0
  Fits k es = over k es ≡ []
