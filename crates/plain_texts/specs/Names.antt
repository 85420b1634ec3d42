-- How names, identifiers, owners and modes are written, in scripts and in reports.
use Rattle.std.specs.Prelude.{◌/◌, ◌%◌, ◌++◌, ℕ, false, List, codes, decimal}
use Rattle.std.specs.Fmt.{digits}
use Rattle.plain_cat.specs.declared.ids.Fid.{Fid}
use Rattle.plain_cat.specs.declared.ids.Uic.{Uic}
use Rattle.plain_cat.specs.declared.mode.Mode.{Mode}
use Rattle.plain_cat.specs.declared.mode.Mode.TheVariants.{NL, CR, CW, PR, PW, EX}

-- a number in octal digits
abbrev pub octal : ℕ → List ℕ
octal n = digits 8 false n

-- a file identifier: number, sequence, and the relative volume number, which is always 0
abbrev pub fid_text : Fid → List ℕ
fid_text f = codes "(" ++ (decimal f.num ++ (codes "," ++ (decimal f.seq ++ codes ",0)")))

-- an owner: group and member, in octal
abbrev pub uic_text : Uic → List ℕ
uic_text u = codes "[" ++ (octal (u.0 / 65536) ++ (codes "," ++ (octal (u.0 % 65536) ++ codes "]")))

abbrev pub mode_text : Mode → List ℕ
mode_text NL = codes "NL"
mode_text CR = codes "CR"
mode_text CW = codes "CW"
mode_text PR = codes "PR"
mode_text PW = codes "PW"
mode_text EX = codes "EX"
