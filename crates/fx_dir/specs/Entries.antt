-- Entries of a directory: their order, and which of them are new.
use Rattle.std.specs.Prelude.{◌==◌, ◌&&◌, ◌||◌, not, ltb, Bool, true, false, ℕ, List, [], ◌∷◌, filter}
use Rattle.std.specs.List.{list_any, list_all}
use Rattle.std.specs.Str.{bytes_eq}
use Rattle.fx_dir.specs.declared.RawEnt.{RawEnt}

-- one name and version
unfoldable pub same : RawEnt → RawEnt → Bool
same a b = bytes_eq a.name b.name && (a.ver == b.ver)

-- one name and version, with two file identifiers
unfoldable pub clash : RawEnt → RawEnt → Bool
clash a b = same a b && not ((a.num == b.num) && (a.seq == b.seq))

-- by bytes, where a text comes before those that go on after it
abbrev pub lower : List ℕ → List ℕ → Bool
lower [] [] = false
lower [] (y ∷ ys) = true
lower (x ∷ xs) [] = false
lower (x ∷ xs) (y ∷ ys) = ltb x y || ((x == y) && lower xs ys)

-- by name, then by falling version
unfoldable pub before : RawEnt → RawEnt → Bool
before a b = lower a.name b.name || (bytes_eq a.name b.name && ltb b.ver a.ver)

-- each is before all that follow it
abbrev pub rises : List RawEnt → Bool
rises [] = true
rises (e ∷ es) = list_all (before e) es && rises es

-- one of this name and version is there
abbrev pub has : List RawEnt → RawEnt → Bool
has es e = list_any (same e) es

-- those of another name or version
abbrev pub without : RawEnt → List RawEnt → List RawEnt
without e es = filter (λ x. not (same e x)) es

-- those of fs whose name and version are not in es
abbrev pub fresh : List RawEnt → List RawEnt → List RawEnt
fresh es fs = filter (λ e. not (has es e)) fs

-- one of fs has the name and version of one of es, and another file identifier
abbrev pub any_clash : List RawEnt → List RawEnt → Bool
any_clash es fs = list_any (λ e. list_any (clash e) es) fs

-- the entry without the version limit and the flags of its record
abbrev pub plain : RawEnt → RawEnt
plain e = record e { limit = 0; flags = 0 }
