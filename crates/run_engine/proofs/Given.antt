-- What is read and what is left, and of what it holds.
use Rattle.std.proofs.Common.{◌≡◌, ◌≤◌, ◌<◌, ◌+◌, IfSome, ℕ, List, [], Option, Some, None, length, replicate, refl, sym, ap, ◌∙◌, arith, inl, inr}
use Rattle.std.proofs.lemmas.List.{length-replicate}
use Rattle.base_words.specs.Faults.{Rose}
use Rattle.base_words.specs.Fields.{Block}
use Rattle.blk_drive.specs.Images.{HasSize}
use Rattle.blk_drive.specs.Telling.{IsTold}
use Rattle.plain_cat.specs.declared.script.Script.{Script}
use Rattle.core_state.specs.Images.{IsTorn}
use Rattle.run_engine.specs.Inputs.{OfScript, Leaves, OfImage}
use Rattle.run_engine.specs.Scripts.{SpellsWithin}
use Rattle.run_engine.specs.Texts.{IsTooLong, IsGood}

-- a text that spells a script is good
pub good : (bytes : List ℕ) (script : Script) → SpellsWithin script bytes → IsGood bytes
good bytes script h = record { within = h.within; script = script; spelt = h.spelt }

pub rose_later : (had before now : ℕ) → had ≤ before → Rose before now → Rose had now
rose_later had before now le rose = omega arith

-- ---- the bytes of a script

pub script_has : (left : Option (List ℕ)) (P Q : List ℕ → Type 0) → ((bytes : List ℕ) → P bytes → Q bytes) → OfScript left P → OfScript left Q
script_has left P Q f o = record { bytes = o.bytes; read = o.read; holds = f o.bytes o.holds }

-- what holds of all bytes
pub any_script : (left : Option (List ℕ)) (P : List ℕ → Type 0) → ((bytes : List ℕ) → P bytes) → OfScript left P
any_script None P f = record { bytes = []; read = tt; holds = f [] }
any_script (Some x) P f = record { bytes = x; read = refl; holds = f x }

longer : (n : ℕ) → (bytes : List ℕ) × (n < length bytes)
longer n =
    let bytes : List ℕ = replicate {A = ℕ} (n + 1) 0 in
    let e : length bytes ≡ n + 1 = length-replicate {A = ℕ} (n + 1) 0 in
    (bytes, omega (arith, e))

-- a script that is too long
pub too_long : (left : Option (List ℕ)) → IfSome left IsTooLong → OfScript left IsTooLong
too_long None h = let l = longer 1048576 in record { bytes = l.0; read = tt; holds = l.1 }
too_long (Some x) h = record { bytes = x; read = refl; holds = h }

-- ---- the blocks of an image

pub leaves_has : (told now : Option (List Block)) (P Q : List Block → Type 0) → ((new : List Block) → P new → Q new) → Leaves told now P → Leaves told now Q
leaves_has told now P Q f l = record { new = l.new; left = l.left; holds = f l.new l.holds }

pub image_has : (size : ℕ) (told now : Option (List Block)) (P Q : List Block → List Block → Type 0) → ((old new : List Block) → P old new → Q old new) → OfImage size told now P → OfImage size told now Q
image_has size told now P Q f o = record { old = o.old; count = o.count; read = o.read; then = leaves_has told now (P o.old) (Q o.old) (f o.old) o.then }

-- blocks that stay
pub stays : (told now : Option (List Block)) (bs : List Block) (P : List Block → Type 0) → IsTold told bs → now ≡ told → P bs → Leaves told now P
stays None now bs P read same h = record { new = bs; left = same; holds = h }
stays (Some x) now bs P read same h = record { new = bs; left = same ∙ ap Some (sym read); holds = h }

-- an image that stays
pub image_stays : (size : ℕ) (told now : Option (List Block)) (P : List Block → List Block → Type 0) → HasSize told size → now ≡ told → ((bs : List Block) → length bs ≡ size → P bs bs) → OfImage size told now P
image_stays size None now P has same f =
    let bs : List Block = replicate size [] in
    let count : length bs ≡ size = length-replicate size [] in
    record { old = bs; count = count; read = tt; then = stays None now bs (P bs) tt same (f bs count) }
image_stays size (Some bs) now P has same f = record { old = bs; count = has; read = refl; then = stays (Some bs) now bs (P bs) refl same (f bs has) }

-- what a write leaves that failed: the blocks from before it, or those that it would have left
pub torn_leaves : (told now : Option (List Block)) (first before after : List Block) (P : List Block → Type 0) → IsTorn told now before after
    → ((new : List Block) → IsTorn (Some first) (Some new) before after → P new) → Leaves told now P
torn_leaves told now first before after P (inl e) f = record { new = before; left = e; holds = f before (inl refl) }
torn_leaves told now first before after P (inr e) f = record { new = after; left = e; holds = f after (inr refl) }
