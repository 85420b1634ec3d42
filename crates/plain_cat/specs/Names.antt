-- Names that several layers speak of.
use Rattle.std.specs.Prelude.{List, codes, decimal, ◌++◌, ℕ}
use Rattle.plain_cat.specs.declared.ids.Fid.{Fid}

-- what a new header has for the name of its file: NAME.TYP;v
abbrev pub text_of : List ℕ → ℕ → List ℕ
text_of name ver = name ++ (codes ";" ++ decimal ver)

-- the main directory, which a script may call MFD
abbrev pub main_dir : Fid
main_dir = record { num = 4; seq = 4 }
